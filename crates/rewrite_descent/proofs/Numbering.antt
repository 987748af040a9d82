-- Parts under fresh numbers, one after another, and those that a rebuild keeps.
use Prim.Native.Nat.{ℕ, zero, suc, ◌<◌}
use mathlib.Core.Path.{◌≡◌, refl, ap}
use mathlib.Core.List.{List, [], ◌∷◌, ◌++◌}
use mathlib.Core.Option.{Option, none, some}
use native.Mathlib.Omega.{arith}
use lib.ListN.{length, get_or, set, take}
use Rattle.mir.specs.declared.ValueId.{ValueId}
use Rattle.mir.specs.declared.TypeId.{TypeId}
use Rattle.mir.specs.declared.Value.{Value}
use Rattle.mir.specs.MirType.{StructField, MirType, Felt, Bool, U32, Tuple, Struct, FixedArray, Pointer, Function, Unit, Error, Unknown}
use Rattle.rewrite.specs.Rebuild.{fitted, named, rebuild_at}
use Rattle.rewrite.specs.Deep.{kept_parts}
use Rattle.rewrite_build.specs.Written.{numbered_part, renumbered}

-- no parts
pub renumbered_nil : (ns : List ℕ) → renumbered ns [] ≡ []
unfolding renumbered
renumbered_nil [] = refl
renumbered_nil (n ∷ ns) = refl

-- the first parts
renumbered_take : (ns : List ℕ) (n : ℕ) (xs : List Value) → renumbered ns (take n xs) ≡ take n (renumbered ns xs)
unfolding renumbered
renumbered_take [] n xs = refl
renumbered_take (m ∷ ns) zero xs = refl
renumbered_take (m ∷ ns) (suc n) [] = refl
renumbered_take (m ∷ ns) (suc n) (x ∷ xs) = ap (λ (ys : List Value). numbered_part m x ∷ ys) (renumbered_take ns n xs)

-- one more part has its number
pub renumbered_next : (ns : List ℕ) (xs : List Value) (k n : ℕ) (z : Value) → k < length ns → k < length xs → renumbered (set ns k n) (take (suc k) xs) ≡ renumbered ns (take k xs) ++ (numbered_part n (get_or xs k z) ∷ [])
unfolding renumbered
renumbered_next [] xs k n z h l = absurd (omega arith)
renumbered_next (m ∷ ns) [] k n z h l = absurd (omega arith)
renumbered_next (m ∷ ns) (x ∷ xs) zero n z h l = ap (λ (ys : List Value). numbered_part n x ∷ ys) (renumbered_nil ns)
renumbered_next (m ∷ ns) (x ∷ xs) (suc k) n z h l = ap (λ (ys : List Value). numbered_part m x ∷ ys) (renumbered_next ns xs k n z (omega arith) (omega arith))

-- of as many parts as are wanted, or more, the first
fitted_take : (n : ℕ) (xs : List Value) → fitted n (take n xs) ≡ fitted n xs
unfolding fitted
fitted_take zero xs = refl
fitted_take (suc n) [] = refl
fitted_take (suc n) (x ∷ xs) = ap (λ (ys : List Value). x ∷ ys) (fitted_take n xs)

named_take : (fs : List StructField) (xs : List Value) → named fs (take (length fs) xs) ≡ named fs xs
unfolding named
named_take [] xs = refl
named_take (f ∷ fs) [] = refl
named_take (f ∷ fs) (x ∷ xs) = ap (λ ys. record { name = f.name; value = x } ∷ ys) (named_take fs xs)

-- a rebuild looks at no parts but those that it keeps
pub of_kept : (ns : List ℕ) (d : ValueId) (t : TypeId) (xs : List Value) (row : Option MirType) → rebuild_at d (renumbered ns xs) t row ≡ rebuild_at d (renumbered ns (kept_parts row xs)) t row
unfolding rebuild_at kept_parts
of_kept ns d t xs none = refl
of_kept ns d t xs (some Felt) = refl
of_kept ns d t xs (some Bool) = refl
of_kept ns d t xs (some U32) = refl
of_kept ns d t xs (some (Tuple ts)) = rw (renumbered_take ns (length ts) xs, fitted_take (length ts) (renumbered ns xs)) refl
of_kept ns d t xs (some (Struct n fs)) = rw (renumbered_take ns (length fs) xs, named_take fs (renumbered ns xs)) refl
of_kept ns d t xs (some (FixedArray e size)) = refl
of_kept ns d t xs (some (Pointer e)) = refl
of_kept ns d t xs (some (Function ps r)) = refl
of_kept ns d t xs (some Unit) = refl
of_kept ns d t xs (some Error) = refl
of_kept ns d t xs (some Unknown) = refl
