-- Lookups in the table of facts.
use Prim.Native.Nat.{ℕ, suc, ◌+◌, ◌*◌, ◌-◌}
use mathlib.Core.Path.{◌≡◌, ap, ◌∙◌, sym}
use mathlib.Core.List.{List}
use mathlib.Core.Option.{Option, none, some}
use native.Mathlib.Numerals.{add-one}
use Rattle.mir.specs.declared.TypeId.{TypeId}
use native.Mathlib.Omega.{arith}
use lib.ListN.{get_or, drop}
use lib.Seq.{get_or-drop}
use Rattle.bytes_index.specs.Table.{row_number}
use Rattle.bytes_index.specs.Code.{LastSlot}
use Rattle.bytes_index.specs.Recorded.{recorded_number, recorded_from}

-- a number of a section
pub in_section : (from k : ℕ) (facts : List ℕ) {r : ℕ} → r ≡ get_or facts (from + k) 0 → r ≡ get_or (drop from facts) k 0
in_section from k facts e = e ∙ sym (get_or-drop from facts k 0)

-- a number of a row, found at its place
pub in_row : (slot k at : ℕ) (facts : List ℕ) {r : ℕ} → r ≡ get_or facts at 0 → at ≡ 387 + 20 * slot + k → r ≡ row_number facts slot k
in_row slot k at facts e h = e ∙ ap (λ j. get_or facts j 0) h

-- the slot of a terminator
module _ (facts : List ℕ) (k : ℕ) {behind : ℕ} (e : behind ≡ get_or facts (354 + 1 + k) 0) where
  pub last_found : LastSlot facts k (behind - 1)
  last_found b s ks c h = omega (arith, in_section 354 (suc k) facts (e ∙ ap (λ j. get_or facts j 0) (omega arith)), c.next k h)

-- the number of a recorded type tells it
pub from_number : (o : Option TypeId) {k : ℕ} → k ≡ recorded_number o → recorded_from k ≡ o
from_number none e = rw e
from_number (some t) e = rw (e, add-one)
