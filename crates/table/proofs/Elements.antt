-- Elements of lists, by their places.
use Prim.Native.Nat.{ℕ, zero, suc, ◌≤◌, ◌<◌}
use mathlib.Core.Path.{◌≡◌, refl}
use mathlib.Core.List.{List, [], ◌∷◌}
use mathlib.Core.Bool.{false}
use mathlib.Core.Option.{none, some}
use native.Mathlib.Omega.{arith}
use lib.ListN.{length, get_or, get_elem?, replicate}

-- an element that is there, and one that is not
pub some_at : {A : Type 0} (xs : List A) (k : ℕ) (d : A) → k < length xs → get_elem? xs k ≡ some (get_or xs k d)
some_at [] k d h = absurd (omega arith)
some_at (x ∷ xs) zero d h = refl
some_at (x ∷ xs) (suc k) d h = some_at xs k d (omega arith)

pub none_at : {A : Type 0} (xs : List A) (k : ℕ) → length xs ≤ k → get_elem? xs k ≡ none
none_at [] k h = refl
none_at (x ∷ xs) zero h = absurd (omega arith)
none_at (x ∷ xs) (suc k) h = none_at xs k (omega arith)

-- no flag of a clear table stands
pub clear_at : (n k : ℕ) → get_or (replicate n false) k false ≡ false
clear_at zero k = refl
clear_at (suc n) zero = refl
clear_at (suc n) (suc k) = clear_at n k
