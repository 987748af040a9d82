-- The values of a Return, as the readings of an instruction: how many there are, which, where they stand, and others put in their places.
use Rattle.std.specs.Prelude.{ℕ, ◌<◌, ◌≤◌, ◌≡◌, List, [], ◌∷◌, length, get_or}
use Rattle.bytes_wire.specs.WellFormed.{Bytes}
use Rattle.mir.specs.declared.Value.{Value}
use Rattle.mir.specs.Syntax.{Return}
use Rattle.bytes_field.specs.Encode.{terminator_bytes}
use Rattle.bytes_index.specs.declared.code.Code.{Code}
use Rattle.bytes_index.specs.Code.{TerminatorIn}
use Rattle.bytes_emit.specs.Written.{Writes}
use Rattle.rewrite_patch.specs.Reach.{most_readings}
use Rattle.rewrite_patch.specs.Chunks.{Chunk, stays, value_chunks, number_places, numbered, Replaces}

-- its bytes in order
abbrev pub return_chunks : List Value → List Chunk
return_chunks xs = stays (3 ∷ length xs ∷ []) ∷ value_chunks xs []

abbrev pub return_places : List Value → List ℕ
return_places xs = number_places 0 (return_chunks xs)

-- the Return of the values xs in a slot of an accepted routine
pub record Given (code : Code) (slot : ℕ) (xs : List Value) : Type 0 where
  pub bytes : Bytes code.bytes.now
  pub line : TerminatorIn code.bounds code.bytes.now code.facts.now slot (Return xs)
  pub listed : code.bounds.list ≤ 16

-- so many values it has, and that is at most so many
abbrev pub ReturnCounts : Code → ℕ → ℕ → Type 0
ReturnCounts code slot r = (xs : List Value) → Given code slot xs → (r ≡ length xs) × (r ≤ most_readings)

-- value j is this
abbrev pub ReturnReads : Code → ℕ → ℕ → Value → Type 0
ReturnReads code slot j x = (xs : List Value) → Given code slot xs → j < length xs → x ≡ get_or xs j Value.Error

-- there the number of value j stands if it is an operand
abbrev pub ReturnPlaces : Code → ℕ → ℕ → ℕ → Type 0
ReturnPlaces code slot j r = (xs : List Value) → Given code slot xs → j < length xs → r ≡ get_or (return_places xs) j 0

-- where the Return was written from `to` on, and the numbers replace operands, it stands there with them in their places
abbrev pub ReturnNumbersPut : Code → ℕ → ℕ → List ℕ → List ℕ → List ℕ → Type 0
ReturnNumbersPut code slot to nums before after =
    (xs : List Value) (out : List ℕ) (end : ℕ)
    → Given code slot xs
    → Replaces xs nums
    → Writes (terminator_bytes (Return xs)) out before to end
    → Writes (terminator_bytes (Return (numbered xs nums))) out after to end
