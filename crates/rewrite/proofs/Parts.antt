-- Laws of the parts that are remembered and rebuilt.
use Prim.Native.Nat.{ℕ, zero, suc, ◌<◌}
use native.Mathlib.Omega.{arith}
use mathlib.Core.Path.{◌≡◌, refl, ap}
use mathlib.Core.List.{List, [], ◌∷◌}
use mathlib.Core.Option.{Option, none, some}
use lib.ListN.{length, get_or, get_elem?}
use Rattle.bytes_wire.specs.Value.{unit}
use Rattle.mir.specs.declared.Value.{Value}
use Rattle.mir.specs.Lookup.{on_some}
use Rattle.rewrite.specs.State.{cons_some, replaced}
use Rattle.rewrite.specs.Rebuild.{fitted}

-- a tuple is rebuilt with as many parts as its type has
pub length_fitted : (k : ℕ) (xs : List Value) → length (fitted k xs) ≡ k
unfolding fitted
length_fitted zero xs = refl
length_fitted (suc k) [] = ap suc (length_fitted k [])
length_fitted (suc k) (x ∷ xs) = ap suc (length_fitted k xs)

-- each of them a part or a Unit: "a tuple rebuilt at a longer type gets Unit parts, at a shorter one loses its last"
pub get_d_fitted : (k i : ℕ) (xs : List Value) → i < k → get_or (fitted k xs) i unit ≡ get_or xs i unit
unfolding fitted
get_d_fitted zero i xs h = absurd (omega arith)
get_d_fitted (suc k) zero [] h = refl
get_d_fitted (suc k) zero (x ∷ xs) h = refl
get_d_fitted (suc k) (suc i) [] h = get_d_fitted k i [] (omega arith)
get_d_fitted (suc k) (suc i) (x ∷ xs) h = get_d_fitted k i xs (omega arith)

-- where a part is replaced, the new value stands in its place
pub part_replaced : (xs : List Value) (k : ℕ) (y : Value) → on_some (replaced xs k y) (λ ys. get_elem? ys k) ≡ on_some (get_elem? xs k) (λ x. some y)
unfolding replaced cons_some on_some
part_replaced [] k y = refl
part_replaced (x ∷ xs) zero y = refl
part_replaced (x ∷ xs) (suc k) y = behind (replaced xs k y) (part_replaced xs k y)
  where
    behind : (o : Option (List Value)) → on_some o (λ ys. get_elem? ys k) ≡ on_some (get_elem? xs k) (λ x. some y) → on_some (cons_some x o) (λ ys. get_elem? ys (suc k)) ≡ on_some (get_elem? xs k) (λ x. some y)
    behind none e = e
    behind (some ys) e = e
