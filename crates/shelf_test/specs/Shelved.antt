-- What the shelf test looks at: an accepted routine with its table of facts, and the blocks of its rewriting in the output.
use Rattle.std.specs.Prelude.{ℕ, ◌+◌, ◌≤◌, ◌≡◌, List, ◌++◌, Bool, false, cond, length, get_or, drop, replicate}
use Rattle.bytes_wire.specs.Parse.{ok}
use Rattle.bytes_field.specs.Decode.{defineds_of}
use Rattle.bytes_field.specs.Encode.{each_bytes}
use Rattle.bytes_field.specs.declared.Bounds.{Bounds}
use Rattle.bytes_laws.specs.WellFormed.{Wide}
use Rattle.bytes_block.specs.Encode.{block_bytes}
use Rattle.bytes_block.specs.declared.Mosts.{Mosts}
use Rattle.mir.specs.Routine.{Routine}
use Rattle.bytes_laws_whole.specs.WellFormed.{FitBlocks}
use Rattle.rewrite.specs.Run.{Rewritten}
use Rattle.mir.specs.Lookup.{types_in}
use Rattle.bytes_index.specs.declared.code.Code.{Code}
use Rattle.shelf_marks.specs.Tests.{CodedIn}
use Rattle.shelf.specs.Reads.{with_debug}
use Rattle.shelf.specs.Lists.{among}
use Rattle.shelf.specs.Reason.{types_agree, in_order, kept_apart}

-- the bounds of the output
abbrev pub output_bounds : Bounds → ℕ → Bounds
output_bounds b next = record { types = b.types; next = next; blocks = b.blocks; list = b.list; projections = b.projections }

-- an accepted routine with its table of facts; its parameters stand 6 bytes behind its type table
pub record Input (code : Code) (x : Routine) : Type 0 where
  pub coded : CodedIn code (types_in x) x.blocks
  pub used : ℕ
  pub given :
      defineds_of code.bounds.list code.bounds.next (replicate code.bounds.next false) (drop (get_or code.facts.now code.bounds.types 0 + 6) code.bytes.now)
      ≡ ok x.parameters used

-- the lowest of the reasons 1, 2 and 3, which do not ask for the output; else 0
unfoldable pub input_reason : Routine → ℕ
input_reason x = cond (types_agree with_debug x) (cond (in_order with_debug x) (cond (kept_apart x) 0 3) 2) 1

-- and the blocks of its rewriting
pub record Shelved (code : Code) (out : List ℕ) (at next : ℕ) (dropped : List Bool) (x : Routine) (w : Rewritten) : Type 0 where
  pub input : Input code x
  pub rest : List ℕ
  pub written : drop at out ≡ each_bytes block_bytes w.blocks ++ rest
  pub as_many : length w.blocks ≡ code.bounds.blocks
  pub mosts : Mosts
  pub total : ℕ
  pub seen : List Bool
  pub fits : FitBlocks mosts (output_bounds code.bounds next) total seen w.blocks
  pub counted : mosts.block ≤ 65535
  pub wide : Wide (output_bounds code.bounds next)
  pub marked : (v : ℕ) → get_or dropped v false ≡ among v w.dropped
