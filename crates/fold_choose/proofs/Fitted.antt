-- The blocks of a routine that has a byte form fit.
use Prim.Native.Nat.{ℕ, zero, suc, ◌+◌, ◌≤◌, ◌<◌}
use mathlib.Core.Path.{◌≡◌, ◌∙◌}
use mathlib.Core.List.{List, [], ◌∷◌}
use mathlib.Core.Bool.{Bool, false}
use native.Mathlib.Nat.{le_refl}
use native.Mathlib.Omega.{arith}
use lib.ListN.{length, get_or, length-replicate}
use Rattle.mir.specs.Syntax.{Block}
use Rattle.bytes_field.specs.declared.Bounds.{Bounds}
use Rattle.bytes_block.specs.Decode.{marks, block_marks}
use Rattle.bytes_block.specs.declared.Mosts.{Mosts}
use Rattle.bytes_block.proofs.Marks.{marks_length, block_length}
use Rattle.mir.specs.Routine.{Routine}
use Rattle.bytes_index.specs.Code.{no_block}
use Rattle.bytes_laws_whole.specs.WellFormed.{FitBlocks, WellFormed, bounds, unmarked}
use Rattle.fold_choose.specs.Chosen.{Fitting, fitting, Fits}

-- each block by its number
each_fits : (m : Mosts) (b : Bounds) (total : ℕ) (seen : List Bool) (ks : List Block) → FitBlocks m b total seen ks → b.next ≤ length seen → (k : ℕ) → k < length ks → Fitting m b (get_or ks k no_block)
each_fits m b total seen [] f l k h = absurd (omega arith)
each_fits m b total seen (x ∷ xs) f l zero h = fitting total seen l f.0
each_fits m b total seen (x ∷ xs) f l (suc k) h =
    each_fits m b (total + length x.instructions) (block_marks seen x.instructions) xs f.1 (rw (block_length seen x.instructions) l) k (omega arith)

pub routine_fits : (m : Mosts) (r : Routine) → WellFormed m r → m.block ≤ 128 → Fits (bounds m r) r.blocks
routine_fits m r w short =
    let long : length (marks (unmarked r) r.parameters) ≡ r.next = marks_length (unmarked r) r.parameters ∙ length-replicate {A = Bool} r.next false in
    record {
      mosts = m;
      short = short;
      each = each_fits m (bounds m r) 0 (marks (unmarked r) r.parameters) r.blocks w.blocks (rw long (le_refl r.next));
    }
