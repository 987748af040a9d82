-- What the writer of the head is told of a routine, and what it answers.
use Rattle.std.specs.Prelude.{ℕ, ◌+◌, ◌≤◌, ◌<◌, ◌≡◌, List, length, get_or, Option, Some, None}
use Rattle.mir.specs.declared.TypeId.{TypeId}
use Rattle.bytes_index.specs.declared.code.Code.{Code}
use Rattle.bytes_index.specs.Table.{recorded_in}
use Rattle.bytes_types.specs.Encode.{types_bytes}
use Rattle.mir.specs.Routine.{Routine}
use Rattle.bytes_sections.specs.Encode.{encode}
use Rattle.bytes_emit.specs.Written.{Writes}
use Rattle.rewrite_head.specs.Head.{Tabled}

-- the routine that is read, with its table of facts, the types of its `many` fresh numbers, and how many bytes are to follow
pub record Opens (code : Code) (fresh : List ℕ) (many size : ℕ) : Type 0 where
  pub routine : Routine
  pub types : List TypeId
  pub reads : encode routine ≡ code.bytes.now
  pub behind : get_or code.facts.now code.bounds.types 0 ≡ length (types_bytes routine.types)
  pub next : routine.next ≡ code.bounds.next
  pub tabled : Tabled (recorded_in code.facts.now) fresh code.bounds.next many routine.recorded types
  pub few : code.bounds.next + many < 65536
  pub short : length code.bytes.now < 65536
  pub low : size ≤ 4643092480

-- with no room for all nothing is written; else the head is
pub record Opening (head : List ℕ) (size : ℕ) (out out' : List ℕ) (r : Option ℕ) : Type 0 where
  pub long : r ≡ None → (length out < length head + size) × (out' ≡ out)
  pub fits : (to : ℕ) → r ≡ Some to → (to ≤ 204800) × ((length head + size ≤ length out) × Writes head out out' 0 to)
