-- Bytes that are one of several parts.
use Prim.Native.Nat.{ℕ, zero, suc, ◌+◌}
use mathlib.Core.Path.{◌≡◌, refl, ap}
use mathlib.Core.List.{List}
use mathlib.Core.Bool.{◌||◌}
use Rattle.std.specs.List.{list_any, range_with_len}
use native.Mathlib.Numerals.{add-one}
use lib.ListN.{get_or}
use Rattle.bytes_before.specs.Before.{same_bytes, part, among_parts}

-- x is one of k parts from part j on
pub any_part : (x s starts : List ℕ) (j k : ℕ) → list_any (λ i. same_bytes x (part s (get_or starts i 0) (get_or starts (i + 1) 0))) (range_with_len j k) ≡ among_parts x s starts j k
unfolding among_parts
any_part x s starts j zero = refl
any_part x s starts j (suc k) =
    rw add-one (ap (λ z. same_bytes x (part s (get_or starts j 0) (get_or starts (suc j) 0)) || z) (any_part x s starts (suc j) k))
