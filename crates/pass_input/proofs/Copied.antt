-- What stands in the output behind a copy.
use Prim.Native.Nat.{◌+◌, ◌≤◌}
use mathlib.Core.Path.{◌≡◌, ap, ◌∙◌}
use mathlib.Core.List.{List, [], append_assoc}
use Prim.Native.Nat.{ℕ}
use native.Mathlib.Omega.{arith}
use lib.ListN.{length, take, drop}
use lib.Seq.{sets, sets-eq, take-append_seam}

-- what was stored from the first place on stands there
pub take_sets : (bytes out : List ℕ) → length bytes ≤ length out → take (length bytes) (sets out 0 bytes) ≡ bytes
take_sets bytes out l = ap (take (length bytes)) (sets-eq bytes out 0 (omega arith) ∙ append_assoc [] bytes (drop (0 + length bytes) out)) ∙ take-append_seam bytes (drop (0 + length bytes) out)
