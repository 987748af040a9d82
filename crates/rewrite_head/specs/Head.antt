-- Everything before the blocks of a rewritten routine.
use Rattle.std.specs.Prelude.{ℕ, ◌+◌, ◌*◌, ◌≤◌, ◌<◌, ◌≡◌, List, ◌++◌, map, length, get_or}
use Rattle.std.proofs.Math.Option.{Option, some}
use Rattle.std.proofs.Math.Seq.{slice}
use Rattle.bytes_wire.specs.Number.{to_bytes}
use Rattle.mir.specs.declared.TypeId.{TypeId}
use Rattle.bytes_field.specs.Encode.{value_id_bytes, block_id_bytes, list_bytes}
use Rattle.bytes_types.specs.Encode.{types_bytes}
use Rattle.mir.specs.Routine.{Routine}
use Rattle.bytes_sections.specs.Encode.{encode, recorded_bytes}
use Rattle.bytes_sections.specs.Index.{RecordedAt}
use Rattle.bytes_emit.specs.Written.{Writes}
use Rattle.rewrite_progress.specs.Effect.{type_numbers}
use Rattle.rewrite_head.specs.declared.recorded.RecordedTypes.{RecordedTypes}

-- the bytes of a routine before those of its blocks
unfoldable pub head_bytes : Routine → List ℕ
head_bytes r =
    types_bytes r.types
    ++ (to_bytes 2 r.next
    ++ (to_bytes 2 (length r.blocks)
    ++ (block_id_bytes r.entry
    ++ (list_bytes value_id_bytes r.parameters ++ recorded_bytes r.recorded))))

-- the recorded types of the values there were, then those of the fresh ones
abbrev pub with_fresh : List (Option TypeId) → List TypeId → List (Option TypeId)
with_fresh rs ts = rs ++ map some ts

-- a routine with fresh values behind its own
abbrev pub widened : Routine → List TypeId → Routine
widened r ts =
    record {
      types = r.types;
      next = r.next + length ts;
      entry = r.entry;
      parameters = r.parameters;
      recorded = with_fresh r.recorded ts;
      blocks = r.blocks;
    }

-- what the code keeps of recorded types: a table by value, and one of the fresh values by number; each may go on behind them
pub record Tabled (recorded fresh : List ℕ) (next many : ℕ) (rs : List (Option TypeId)) (ts : List TypeId) : Type 0 where
  pub old : length rs ≡ next
  pub new : length ts ≡ many
  pub known : RecordedAt recorded rs
  pub long : next ≤ length recorded
  pub taken : (k : ℕ) → k < many → get_or fresh k 0 ≡ get_or (type_numbers ts) k 0

-- how many values there are
abbrev pub all_values : RecordedTypes → ℕ
all_values values = values.next + values.many

-- the place behind the parameters, where the types end at `at`
abbrev pub front_end : List ℕ → ℕ → ℕ
front_end s at = at + 7 + 2 * get_or s (at + 6) 0

-- the types, another next value, then what stands up to the end of the parameters
abbrev pub front_bytes : List ℕ → ℕ → ℕ → List ℕ
front_bytes s at next = slice 0 at s ++ (to_bytes 2 next ++ slice (at + 2) (front_end s at) s)

-- P holds of the recorded types of all values, the fresh ones behind the others
abbrev pub OfRecorded : RecordedTypes → (List (Option TypeId) → Type 0) → Type 0
OfRecorded values P =
    (rs : List (Option TypeId)) (ts : List TypeId)
    → Tabled values.old.now values.fresh.now values.next values.many rs ts
    → P (with_fresh rs ts)

-- of the routine that s is, whose types end at `at`, the head with the fresh values is written
abbrev pub HeadPut : List ℕ → ℕ → RecordedTypes → List ℕ → List ℕ → ℕ → Type 0
HeadPut s at values out out' r =
    (x : Routine) (ts : List TypeId)
    → encode x ≡ s
    → length (types_bytes x.types) ≡ at
    → x.next ≡ values.next
    → Tabled values.old.now values.fresh.now values.next values.many x.recorded ts
    → Writes (head_bytes (widened x ts)) out out' 0 r

-- the places of the map's bits are below this
abbrev pub bits_below : ℕ
bits_below = 1048576

-- the most bytes of the recorded types, and how much longer than the input the head is at most
abbrev pub recorded_most : ℕ
recorded_most = 131072

abbrev pub head_most : ℕ
head_most = 139265
