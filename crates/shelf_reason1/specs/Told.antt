-- What is answered of instructions and terminators, by what their own fields decode to.
use Rattle.std.specs.Prelude.{ℕ, ◌+◌, ◌≡◌, List, map, Bool, false, get_or, drop, replicate}
use Rattle.bytes_wire.specs.Parse.{Parse, ok, bad}
use Rattle.bytes_wire.specs.declared.Cause.{Cause}
use Rattle.mir.specs.Syntax.{InstructionKind, Terminator}
use Rattle.mir.specs.Routine.{Routine}
use Rattle.bytes_field.specs.Decode.{kinds, terminators, defineds_of}
use Rattle.bytes_index.specs.Code.{TerminatorIn}
use Rattle.bytes_index.specs.declared.code.Code.{Code}
use Rattle.bytes_index.specs.declared.code.Typing.{Typing}
use Rattle.mir.specs.Lookup.{Types, types_in}
use Rattle.fold.specs.Tables.{CodeGround, TypingGround}
use Rattle.shelf.specs.Reads.{with_debug}
use Rattle.shelf.specs.Agrees.{agrees, end_agrees}
use Rattle.shelf.specs.Reason.{types_agree}
use Rattle.shelf_marks.specs.Tests.{CodedIn}

-- of an instruction of a kind, whose fields are t
abbrev pub OfKind : Typing → List ℕ → ℕ → Bool → Type 0
OfKind typing t kind r =
    (τ : Types) (seen : List Bool) (c : Bool) (i : InstructionKind) (n : ℕ)
    → TypingGround typing τ
    → get_or (map (λ f. f t) (kinds typing.code.bounds seen c)) kind (bad Cause.Undefined 0) ≡ ok i n
    → r ≡ agrees τ i

-- of the terminator that is decoded
abbrev pub OfEnd : Typing → Parse Terminator → Bool → Type 0
OfEnd typing d r = (τ : Types) (i : Terminator) (n : ℕ) → TypingGround typing τ → d ≡ ok i n → r ≡ end_agrees τ i

-- of a terminator of a kind, whose fields are t
abbrev pub OfEndKind : Typing → List ℕ → ℕ → Bool → Type 0
OfEndKind typing t kind r = OfEnd typing (get_or (map (λ f. f t) (terminators typing.code.bounds)) kind (bad Cause.Undefined 0)) r

-- of the terminator in a slot
abbrev pub EndAgrees : Code → ℕ → Bool → Type 0
EndAgrees code slot r =
    (τ : Types) (x : Terminator)
    → CodeGround code τ
    → TerminatorIn code.bounds code.bytes.now code.facts.now slot x
    → r ≡ end_agrees τ x

-- and of the routine: its parameters stand 6 bytes behind its type table
abbrev pub TypesAgree : Code → Bool → Type 0
TypesAgree code r =
    (x : Routine) (n : ℕ)
    → CodedIn code (types_in x) x.blocks
    → defineds_of code.bounds.list code.bounds.next (replicate code.bounds.next false) (drop (get_or code.facts.now code.bounds.types 0 + 6) code.bytes.now)
    ≡ ok x.parameters n
    → r ≡ types_agree with_debug x
