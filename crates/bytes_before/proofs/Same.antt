-- Names that stand before.
use Prim.Native.Nat.{ℕ, zero, suc, ◌+◌, ◌*◌}
use mathlib.Core.Path.{◌≡◌, refl, ap, ◌∙◌}
use mathlib.Core.List.{List}
use mathlib.Core.Bool.{Bool, true, false, ◌||◌}
use Rattle.std.specs.List.{list_any, range_with_len}
use native.Mathlib.Nat.{add-zero, zero-add}
use native.Mathlib.Omega.{arith}
use lib.Dec.{eqb}
use Rattle.bytes_wire.specs.Number.{at16}
use Rattle.mir.specs.declared.NameId.{NameId}
use Rattle.bytes_before.specs.Before.{has_name, names_at}

-- what holds of one of n + 1 numbers holds of the last or of one of the others
any_last : (t : ℕ → Bool) (a n : ℕ) → list_any t (range_with_len a (suc n)) ≡ (t (a + n) || list_any t (range_with_len a n))
any_last t a zero = rw add-zero
any_last t a (suc n) =
    let e : a + 1 + n ≡ a + suc n = omega arith in
    rw (any_last t (a + 1) n, e) (swap (t a) (t (a + suc n)) (list_any t (range_with_len (a + 1) n)))
  where
    swap : (x y z : Bool) → (x || (y || z)) ≡ (y || (x || z))
    swap true true z = refl
    swap true false z = refl
    swap false y z = refl

-- the name is one of the first k
pub any_name : (s : List ℕ) (from : ℕ) (x : NameId) (k : ℕ) → list_any (λ j. eqb x.0 (at16 s (from + 4 * j))) (range_with_len 0 k) ≡ has_name x (names_at s from k)
any_name s from x zero = refl
any_name s from x (suc k) =
    let t = λ (j : ℕ). eqb x.0 (at16 s (from + 4 * j)) in
    any_last t 0 k ∙ rw zero-add (ap (λ z. t k || z) (any_name s from x k))
