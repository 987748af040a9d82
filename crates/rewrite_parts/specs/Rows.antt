-- How the code keeps the parts of tracked values: the places of values in the input, in rows of a table.
use Rattle.std.specs.Prelude.{ℕ, ◌+◌, ◌≤◌, ◌<◌, ◌≡◌, List, Bool, true, false, length, get_or, take, drop, Some, None, Option as Answered}
use Rattle.std.proofs.Math.Option.{Option, none, some}
use Rattle.bytes_wire.specs.Number.{at16}
use Rattle.mir.specs.Most.{most_values}
use Rattle.mir.specs.declared.Value.{Value}
use Rattle.mir.specs.declared.ValueId.{ValueId}
use Rattle.mir.specs.Syntax.{FieldInit}
use Rattle.bytes_operands.specs.Fields.{after, value_step}
pub use Rattle.bytes_operands.specs.Fields.{ValueAt, stands}
use Rattle.fold.specs.Family.{Marks}
use Rattle.rewrite.specs.State.{AggStates, insert_state}

-- the first place of a row, behind a number for each value
abbrev pub rows_from : ℕ
rows_from = most_values

-- the most parts of a value, and the numbers of its row then: how many parts, and their places
abbrev pub most_parts : ℕ
most_parts = 16

abbrev pub row_most : ℕ
row_most = 17

-- the numbers of the working table that are for the rows: one for each value, and a row for each of the 128 instructions
-- of a block
abbrev pub rows_size : ℕ
rows_size = 2432

-- the most bytes of an input: a place is one of the numbers below
abbrev pub most_bytes : ℕ
most_bytes = 65536

-- how much of the rows is used, at most, where one more row is written
abbrev pub used_below : ℕ
used_below = 60000

-- a place so low that no sum with the size of an instruction or of a table overflows
abbrev pub Addressable : ℕ → Type 0
Addressable place = place < 4611686018427387904

-- the places of the values xs stand in the table from `from` on
pub record RowAt (next : ℕ) (s rows : List ℕ) (from : ℕ) (xs : List Value) : Type 0 where
  pub each : (k : ℕ) → k < length xs → ValueAt next s (get_or rows (from + k) 0) (get_or xs k Value.Error)

-- what the tables say of one value: no mark where it is not tracked, else a mark and its row, which has the number of
-- its parts at `from` and their places behind it
pub data Entry (next : ℕ) (s rows : List ℕ) (from used : ℕ) : Bool → Option (List Value) → Type 0 where
  untracked : Entry next s rows from used false none
  row : (xs : List Value)
      → rows_from ≤ from
      → get_or rows from 0 ≡ length xs
      → RowAt next s rows (from + 1) xs
      → from + 1 + length xs ≤ used
      → length xs ≤ most_parts
      → Entry next s rows from used true (some xs)

-- the tables hold the states: `tracked` has a mark for each tracked value, `rows` says at its number where its row begins,
-- and has the rows behind these, up to `used`
pub record Rep (next : ℕ) (s : List ℕ) (tracked : Marks) (rows : List ℕ) (used : ℕ) (S : AggStates) : Type 0 where
  pub entries : (v : ℕ) → Entry next s rows (get_or rows v 0) used (get_or tracked v false) (S v)
  pub room : used ≤ length rows
  pub behind : rows_from ≤ used
  pub marks : length tracked ≡ most_values
  pub short : length s < most_bytes

-- there is room for one more row
abbrev pub Room : List ℕ → ℕ → Type 0
Room rows used = used + row_most ≤ length rows

-- the working table of a run: the rows, and behind them the types of the fresh numbers
abbrev pub rows_in : List ℕ → List ℕ
rows_in work = take rows_size work

abbrev pub fresh_in : List ℕ → List ℕ
fresh_in work = drop rows_size work

-- the place of thing k of those that stand one behind another from `at` on, each a value with `before` bytes before it
abbrev pub item_offset : List ℕ → ℕ → ℕ → ℕ → ℕ
item_offset s before at k = after (value_step s before 0) k at

-- the values xs stand so
pub record Values (next : ℕ) (s : List ℕ) (before at : ℕ) (xs : List Value) : Type 0 where
  pub each : (k : ℕ) → k < length xs → ValueAt next s (item_offset s before at k + before) (get_or xs k Value.Error)

-- past the end of a list of inits
abbrev pub no_init : FieldInit
no_init = record { name = record { 0 = 0 }; value = Value.Error }

-- the inits fs stand one behind another from `at` on, each a name and a value
pub record Inits (next : ℕ) (s : List ℕ) (at : ℕ) (fs : List FieldInit) : Type 0 where
  pub named : (k : ℕ) → k < length fs → at16 s (item_offset s 2 at k) ≡ (get_or fs k no_init).name.0
  pub each : (k : ℕ) → k < length fs → ValueAt next s (item_offset s 2 at k + 2) (get_or fs k no_init).value

-- there is a value, and it stands at a place
pub record There (next : ℕ) (s : List ℕ) (o : Option Value) (place : ℕ) : Type 0 where
  pub value : Value
  pub is : o ≡ some value
  pub stands : ValueAt next s place value

-- what is found of a name: where its value stands, if it is given
abbrev pub InitAt : ℕ → List ℕ → Option Value → Answered ℕ → Type 0
InitAt next s o None = o ≡ none
InitAt next s o (Some place) = There next s o place

-- the states where d is given these parts, if there are any
unfoldable pub given_parts : AggStates → ValueId → Option (List Value) → AggStates
given_parts S d none = S
given_parts S d (some xs) = insert_state S d xs
