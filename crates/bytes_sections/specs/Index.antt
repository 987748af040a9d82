-- What the reader of a routine answers, and where it finds the parts again.
use Rattle.std.specs.Prelude.{ℕ, ◌+◌, ◌<◌, ◌≡◌, List, Bool, length, get_or, drop, set, Result}
use Rattle.std.proofs.Math.Option.{Option, none}
use Rattle.bytes_wire.specs.Parse.{Parse, as_answer, ok, bad, map_parse, later, number_of_cause}
use Rattle.bytes_wire.specs.declared.Refusal.{Refusal}
use Rattle.mir.specs.declared.TypeId.{TypeId}
use Rattle.mir.specs.declared.ValueId.{ValueId}
use Rattle.bytes_field.specs.Decode.{defineds_of}
use Rattle.bytes_field.specs.Walk.{unit}
use Rattle.mir.specs.Syntax.{Block}
use Rattle.bytes_sections.specs.Decode.{mosts, has_recorded, recorded_type_of, recorded_of, blocks_of}
use Rattle.bytes_sections.specs.declared.Sizes.{Sizes}
use Rattle.bytes_field.specs.declared.Bounds.{Bounds}
use Rattle.bytes_block.specs.Decode.{marks}
use Rattle.bytes_index.specs.Table.{recorded_in, blocks_in}
use Rattle.bytes_index.specs.Code.{CodeIn}
pub use Rattle.bytes_index.specs.Code.{no_block}
pub use Rattle.bytes_index.specs.Recorded.{recorded_number, recorded_from}
pub use Rattle.bytes_block.specs.Places.{BlockAt, standing, BlocksAt}
use Rattle.bytes_block.specs.Rows.{Kept, Tabular}

-- value v's recorded type stands at place v
abbrev pub RecordedAt : List ℕ → List (Option TypeId) → Type 0
RecordedAt recorded rs = (v : ℕ) → v < length rs → v < length recorded → get_or recorded v 0 ≡ recorded_number (get_or rs v none)

-- reading the type of value v, where it has one
pub record RecordedOne (types : ℕ) (map : List ℕ) (v at : ℕ) (s : List ℕ) (answer : Parse (Unit {0})) (before facts : List ℕ) : Type 0 where
  pub answers : answer ≡ later at (map_parse unit (recorded_type_of types (has_recorded map v) (drop at s)))
  pub long : length facts ≡ length before
  pub number : (t : Option TypeId) (n : ℕ) → recorded_type_of types (has_recorded map v) (drop at s) ≡ ok t n → facts ≡ set before (65 + v) (recorded_number t)

-- reading all of them; what a refusal leaves in the table is left free, here and below
pub record RecordedRead (types : ℕ) (map : List ℕ) (next at : ℕ) (s : List ℕ) (answer : Parse (Unit {0})) (before facts : List ℕ) : Type 0 where
  pub answers : answer ≡ later at (map_parse unit (recorded_of types map 0 next (drop at s)))
  pub kept : (rs : List (Option TypeId)) (n : ℕ) → recorded_of types map 0 next (drop at s) ≡ ok rs n → Kept 65 before facts
  pub numbers : (rs : List (Option TypeId)) (n : ℕ) → recorded_of types map 0 next (drop at s) ≡ ok rs n → RecordedAt (recorded_in facts) rs

-- reading the parameters marks each as defined
pub record ParametersRead (b : Bounds) (s : List ℕ) (answer : Parse (Unit {0})) (seen marked : List Bool) : Type 0 where
  pub answers : answer ≡ map_parse unit (defineds_of b.list b.next seen s)
  pub marking : (ps : List ValueId) (n : ℕ) → defineds_of b.list b.next seen s ≡ ok ps n → marked ≡ marks seen ps

-- what reading blocks leaves in the table
pub record BlocksFilled (b : Bounds) (s before facts : List ℕ) (xs : List Block) : Type 0 where
  pub kept : Kept 321 before facts
  pub blocks : Tabular b s → BlocksAt mosts b s (blocks_in facts) xs
  pub code : Tabular b s → CodeIn b s facts xs

pub record BlocksRead (b : Bounds) (at : ℕ) (s : List ℕ) (seen : List Bool) (answer : Parse (Unit {0})) (before facts : List ℕ) : Type 0 where
  pub answers : answer ≡ later at (map_parse unit (blocks_of mosts b 0 seen b.blocks (drop at s)))
  pub filled : (xs : List Block) (n : ℕ) → blocks_of mosts b 0 seen b.blocks (drop at s) ≡ ok xs n → BlocksFilled b s before facts xs

-- what the code's answers say
abbrev pub as_sizes : Result Sizes Refusal → Parse Sizes
as_sizes r = as_answer (λ x. ok x 6) r

abbrev pub as_checked : ℕ → Result Bounds Refusal → Parse (Unit {0})
as_checked n r = as_answer (λ b. ok tt n) r

-- the number and the offset of document 01's table; 0 and 0 for what is accepted
pub record Verdict : Type 0 where
  pub number : ℕ
  pub offset : ℕ

-- what the code answered
abbrev pub answered : ℕ → ℕ → Verdict
answered number offset = record { number = number; offset = offset }

-- what document 01's table gives for an answer of the decoder
abbrev pub verdict : {A : Type 0} → Parse A → Verdict
verdict (ok a n) = record { number = 0; offset = 0 }
verdict (bad c o) = record { number = number_of_cause c; offset = o }
