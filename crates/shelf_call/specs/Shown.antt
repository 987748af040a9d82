-- What is answered of an instruction by the recorded types, whatever the bytes are beside which they stand.
use Rattle.std.specs.Prelude.{ℕ, ◌≡◌, List, Bool}
use Rattle.bytes_wire.specs.Parse.{Parse, ok}
use Rattle.mir.specs.Syntax.{InstructionKind}
use Rattle.bytes_field.specs.declared.Bounds.{Bounds}
use Rattle.bytes_index.specs.declared.code.Typing.{Typing}
use Rattle.mir.specs.Lookup.{Types}
use Rattle.fold.specs.Tables.{Ground}
use Rattle.shelf.specs.Agrees.{agrees}

abbrev pub JudgedByAny : (Bounds → List Bool → List ℕ → Parse InstructionKind) → Typing → List ℕ → Bool → Type 0
JudgedByAny decode typing t r =
    (s types : List ℕ) (τ : Types) (seen : List Bool) (i : InstructionKind) (n : ℕ)
    → Ground typing.code.bounds s types typing.recorded.now τ
    → decode typing.code.bounds seen t ≡ ok i n
    → r ≡ agrees τ i
