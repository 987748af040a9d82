-- With nothing begun: the exact fuel is that of the definition, and so is the path.
use Prim.Native.Nat.{ℕ, zero, suc, ◌≤◌, min}
use mathlib.Core.Path.{◌≡◌, refl, ap}
use mathlib.Core.List.{List, ◌∷◌}
use mathlib.Core.Bool.{false}
use native.Mathlib.Omega.{arith}
use lib.ListN.{length, take, replicate}
use Rattle.mir.specs.declared.Value.{Value}
use Rattle.mir.specs.Lookup.{Types}
use Rattle.fold.specs.Family.{Marks}
use Rattle.fold_climb.specs.Edges.{unmarked}
use Rattle.rewrite.specs.State.{AggStates}
use Rattle.rewrite.specs.Deep.{wanted_own, rebuild_deep}
use Rattle.rewrite_descent.specs.Descent.{deep_own}

-- where none is marked, all are clear
clear_all : (n : ℕ) → unmarked (replicate n false) ≡ n
unfolding unmarked
clear_all zero = refl
clear_all (suc n) = ap suc (clear_all n)

-- none is marked among the first
take_clear : (n m : ℕ) → n ≤ m → take n (replicate m false) ≡ replicate n false
take_clear zero m h = refl
take_clear (suc n) zero h = absurd (omega (arith, h))
take_clear (suc n) (suc m) h = ap (λ (l : Marks). false ∷ l) (take_clear n m (omega (arith, h)))

pub clear_path : (values next : ℕ) → values ≡ min next 256 → next ≤ 256 → take values (replicate 256 false) ≡ replicate next false
clear_path values next e h = let k : values ≡ next = omega (arith, e, h) in rw k (take_clear next 256 h)

-- with nothing begun
pub deep_top : (τ : Types) (S : AggStates) (n : ℕ) (xs : List Value) (path : Marks) → path ≡ replicate (length τ.recorded) false → deep_own τ S path n xs ≡ rebuild_deep τ S n (wanted_own τ xs)
unfolding rebuild_deep
deep_top τ S n xs path e = rw (e, clear_all (length τ.recorded)) refl
