-- What the table of facts holds of a routine.
use Rattle.std.specs.Prelude.{ℕ, ◌≤◌, ◌<◌, ◌≡◌, List, length, get_or, drop, Result, Ok, Err}
use Rattle.bytes_wire.specs.Parse.{ok, map_parse, and_then, later}
use Rattle.bytes_wire.specs.WellFormed.{Bytes}
use Rattle.bytes_wire.specs.declared.Refusal.{Refusal}
use Rattle.mir.specs.declared.BlockId.{BlockId}
use Rattle.bytes_field.specs.Walk.{unit}
use Rattle.bytes_field.specs.declared.Bounds.{Bounds}
use Rattle.table.specs.Number.{numbers_below}
use Rattle.bytes_index.specs.Table.{facts_size, recorded_in, blocks_in}
use Rattle.bytes_index.specs.Code.{CodeIn}
use Rattle.bytes_block.specs.Rows.{Kept, Tabular}
use Rattle.mir.specs.MirType.{MirType}
use Rattle.bytes_types.specs.Index.{TypesAt}
use Rattle.mir.specs.Routine.{Routine}
use Rattle.bytes_sections.specs.Decode.{mosts, bounds_of, body_of, ended, whole_of}
use Rattle.bytes_sections.specs.declared.Sizes.{Sizes}
use Rattle.bytes_sections.specs.Index.{RecordedAt, BlocksAt, as_checked}

-- the routine r, decoded from s, whose numbers stay below b
pub record FactsOf (s facts : List ℕ) (b : Bounds) (r : Routine) : Type 0 where
  pub bounded : b ≡ bounds_of mosts (length r.types) r.next (length r.blocks)
  pub short : length s < numbers_below
  pub types : TypesAt 16 s facts r.types
  pub first : get_or facts 0 0 ≡ 2
  pub recorded : RecordedAt (recorded_in facts) r.recorded
  pub long : facts_size ≤ length facts
  pub blocks : BlocksAt mosts b s (blocks_in facts) r.blocks
  pub code : CodeIn b s facts r.blocks

-- the sizes that the bounds and the entry block are
abbrev pub sizes_from : Bounds → BlockId → Sizes
sizes_from b entry = record { next = b.next; blocks = b.blocks; entry = entry }

-- what the table holds of what stands behind the sizes
pub record BodyIn (b : Bounds) (s before facts : List ℕ) (r : Routine) : Type 0 where
  pub next : r.next ≡ b.next
  pub many : length r.blocks ≡ b.blocks
  pub kept : Kept 65 before facts
  pub recorded : RecordedAt (recorded_in facts) r.recorded
  pub blocks : Tabular b s → BlocksAt mosts b s (blocks_in facts) r.blocks
  pub code : Tabular b s → CodeIn b s facts r.blocks

-- reading that, from place `at` on; the entry block and the types ts stand before it
pub record BodyRead (b : Bounds) (at : ℕ) (s : List ℕ) (answer : Result Bounds Refusal) (before facts : List ℕ) : Type 0 where
  pub bounds : (b' : Bounds) → answer ≡ Ok b' → b ≡ b'
  pub answers : (entry : BlockId) (ts : List MirType)
      → b ≡ bounds_of mosts (length ts) b.next b.blocks
      → as_checked (length s) answer ≡ later at (map_parse unit (and_then (drop at s) (body_of mosts ts (sizes_from b entry) (drop at s)) (λ r t. ended r t)))
  pub found : (entry : BlockId) (ts : List MirType) (b' : Bounds) (r : Routine) (n : ℕ)
      → b ≡ bounds_of mosts (length ts) b.next b.blocks
      → answer ≡ Ok b'
      → body_of mosts ts (sizes_from b entry) (drop at s) ≡ ok r n
      → BodyIn b s before facts r

-- A table that is left free: no definition says which numbers stand in it, and nobody may read them. What holds of it: it is as long as it was
abbrev pub LeftFree : List ℕ → List ℕ → Type 0
LeftFree before facts = length facts ≡ length before

-- reading a whole routine: the decoder's answer, and the facts of an accepted one; after a refusal the table is left free
pub record RoutineRead (s : List ℕ) (answer : Result Bounds Refusal) (before facts : List ℕ) : Type 0 where
  pub answers : as_checked (length s) answer ≡ map_parse unit (whole_of mosts s)
  pub found : (b : Bounds) (r : Routine) (n : ℕ) → Bytes s → answer ≡ Ok b → whole_of mosts s ≡ ok r n → FactsOf s facts b r
  pub refused : (e : Refusal) → answer ≡ Err e → LeftFree before facts
