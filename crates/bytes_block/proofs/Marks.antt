-- The marks of the values that are defined so far: they stay, and keep their length.
use Prim.Native.Nat.{ℕ, zero, suc, ◌<◌}
use mathlib.Core.Path.{◌≡◌, refl, ap, ◌∙◌, sym}
use mathlib.Core.List.{List, [], ◌∷◌}
use mathlib.Core.Bool.{Bool, true, false, true≢false}
use native.Mathlib.Omega.{arith}
use borrow.Author.Tests.{eqb-true, eq-eqb}
use lib.ListN.{length, get_or, length-set}
use lib.Seq.{get_or-set_same, get_or-set_other}
use lib.Dec.{eqb}
use Rattle.mir.specs.declared.ValueId.{ValueId}
use Rattle.mir.specs.Syntax.{Instruction}
use Rattle.mir.specs.Reads.{dests}
use Rattle.bytes_field.specs.Decode.{mark}
use Rattle.bytes_block.specs.Decode.{marks, block_marks}

-- a mark that is set stands in the list
in_list : (l : List Bool) (j : ℕ) → get_or l j false ≡ true → j < length l
in_list [] j e = absurd (true≢false (sym e))
in_list (x ∷ l) zero e = omega arith
in_list (x ∷ l) (suc j) e = omega (arith, in_list l j e)

-- a mark stays
pub mark_stays : (seen : List Bool) (d : ValueId) (v : ℕ) → get_or seen v false ≡ true → get_or (mark seen d) v false ≡ true
mark_stays seen d v h = go (eqb v d.0) refl
  where
    go : (b : Bool) → eqb v d.0 ≡ b → get_or (mark seen d) v false ≡ true
    go true e = let z : v ≡ d.0 = eqb-true v d.0 e in rw z (get_or-set_same seen d.0 true false (in_list seen d.0 (rw z at h)))
    go false e = get_or-set_other seen d.0 v true false (λ z. true≢false (sym (eq-eqb v v refl) ∙ ap (eqb v) z ∙ e)) ∙ h

pub marks_stay : (seen : List Bool) (ds : List ValueId) (v : ℕ) → get_or seen v false ≡ true → get_or (marks seen ds) v false ≡ true
marks_stay seen [] v h = h
marks_stay seen (d ∷ ds) v h = marks_stay (mark seen d) ds v (mark_stays seen d v h)

-- there are as many behind values, and behind a block
pub marks_length : (seen : List Bool) (ds : List ValueId) → length (marks seen ds) ≡ length seen
marks_length seen [] = refl
marks_length seen (d ∷ ds) = marks_length (mark seen d) ds ∙ length-set seen d.0 true

pub block_length : (seen : List Bool) (is : List Instruction) → length (block_marks seen is) ≡ length seen
block_length seen [] = refl
block_length seen (i ∷ is) = block_length (marks seen (dests i.kind)) is ∙ marks_length seen (dests i.kind)
