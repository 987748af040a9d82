-- What is answered of lists of an instruction: things that stand as Q says, against a type, or against a list of types.
use Rattle.std.specs.Prelude.{ℕ, ◌+◌, ◌*◌, ◌<◌, ◌≡◌, List, Bool, false, length, get_or}
use Rattle.std.specs.Prelude.{Option as Answered}
use Rattle.std.proofs.Math.Option.{Option, none, some}
use Rattle.bytes_wire.specs.Number.{at16}
use Rattle.mir.specs.declared.NameId.{NameId}
use Rattle.mir.specs.declared.TypeId.{TypeId}
use Rattle.mir.specs.declared.Value.{Value}
use Rattle.mir.specs.declared.ValueId.{ValueId}
use Rattle.mir.specs.MirType.{StructField}
use Rattle.mir.specs.Syntax.{FieldInit}
use Rattle.bytes_index.specs.declared.code.Typing.{Typing}
use Rattle.fold.specs.Tables.{Ground, TypingGround}
use Rattle.rewrite_parts.specs.Rows.{Inits, InitAt, ValueAt}
use Rattle.bytes_struct.specs.Fields.{first_name, Names, no_field}
use Rattle.mir.specs.Lookup.{is_some, Types, row_of, recorded_type}
use Rattle.mir.specs.Parts.{given, part_type}
use Rattle.shelf.specs.Agrees.{dests_fit}
use Rattle.shelf.specs.Fits.{fits, same_type, fields_fit}
use Rattle.shelf_rows.specs.Rows.{Is}
use Rattle.rewrite_parts.specs.declared.listed.Listed.{Listed}
use Rattle.shelf_field.specs.Fields.{IdAt, TypeAt}
use Rattle.shelf_list.specs.Lists.{IdsAt, TypesIn}

-- a test on the value that stands at a place, and whether the value whose number stands there has a recorded type, whatever the
-- bytes are beside which the recorded types stand
abbrev pub OfAnyValue : Typing → List ℕ → ℕ → (Types → Value → Bool) → Bool → Type 0
OfAnyValue typing t at f r =
    (s types : List ℕ) (τ : Types) (x : Value)
    → Ground typing.code.bounds s types typing.recorded.now τ
    → ValueAt typing.code.bounds.next t at x
    → r ≡ f τ x

abbrev pub IdTyped : Typing → List ℕ → ℕ → Bool → Type 0
IdTyped typing t at r =
    (s types : List ℕ) (τ : Types) (d : ValueId)
    → Ground typing.code.bounds s types typing.recorded.now τ
    → IdAt typing.code.bounds.next t at d
    → r ≡ is_some (recorded_type τ d)

-- a test on each of a list, likewise
abbrev pub OfEach : {A : Type 0} → Typing → Listed → (ℕ → List ℕ → ℕ → List A → Type 0) → (Types → List A → Bool) → Bool → Type 0
OfEach {A} typing list Q f r =
    (s types : List ℕ) (τ : Types) (xs : List A)
    → Ground typing.code.bounds s types typing.recorded.now τ
    → Q typing.code.bounds.next list.bytes.now list.at xs
    → length xs ≡ list.count
    → r ≡ f τ xs

-- against the type `number`
abbrev pub AgainstType : {A : Type 0} → Typing → Listed → (ℕ → List ℕ → ℕ → List A → Type 0) → Answered TypeId
    → (Types → Option TypeId → List A → Bool) → Bool → Type 0
AgainstType {A} typing list Q number f r =
    (τ : Types) (o : Option TypeId) (xs : List A)
    → TypingGround typing τ
    → Is number o
    → Q typing.code.bounds.next list.bytes.now list.at xs
    → length xs ≡ list.count
    → r ≡ f τ o xs

-- the value that stands at a place fits part i of it
abbrev pub PartFits : Typing → List ℕ → ℕ → Answered TypeId → ℕ → Bool → Type 0
PartFits typing t at number i r =
    (τ : Types) (o : Option TypeId) (x : Value)
    → TypingGround typing τ
    → Is number o
    → ValueAt typing.code.bounds.next t at x
    → r ≡ fits τ x (part_type (row_of τ o) i)

-- the value that stands at a place fits the type that stands at another, and the value whose number stands there has it
abbrev pub ArgumentFits : Typing → List ℕ → ℕ → ℕ → Bool → Type 0
ArgumentFits typing t at there r =
    (τ : Types) (x : Value) (y : TypeId)
    → TypingGround typing τ
    → ValueAt typing.code.bounds.next t at x
    → TypeAt typing.code.bounds.types t there y
    → r ≡ fits τ x (some y)

abbrev pub DestFits : Typing → List ℕ → ℕ → ℕ → Bool → Type 0
DestFits typing t at there r =
    (s types : List ℕ) (τ : Types) (d : ValueId) (y : TypeId)
    → Ground typing.code.bounds s types typing.recorded.now τ
    → IdAt typing.code.bounds.next t at d
    → TypeAt typing.code.bounds.types t there y
    → r ≡ same_type (recorded_type τ d) (some y)

-- against as many types, which stand from `there` on
abbrev pub AgainstTypes : {A : Type 0} → Typing → Listed → (ℕ → List ℕ → ℕ → List A → Type 0) → ℕ
    → (Types → List A → List TypeId → Bool) → Bool → Type 0
AgainstTypes {A} typing list Q there f r =
    (τ : Types) (xs : List A) (ts : List TypeId)
    → TypingGround typing τ
    → Q typing.code.bounds.next list.bytes.now list.at xs
    → length xs ≡ list.count
    → TypesIn typing.code.bounds.types list.bytes.now there ts
    → length ts ≡ list.count
    → r ≡ f τ xs ts

-- and so the values that a Call defines, by the routine's types alone
abbrev pub DestsFit : Typing → Listed → ℕ → Bool → Type 0
DestsFit typing list there r =
    (s types : List ℕ) (τ : Types) (ds : List ValueId) (ts : List TypeId)
    → Ground typing.code.bounds s types typing.recorded.now τ
    → IdsAt typing.code.bounds.next list.bytes.now list.at ds
    → length ds ≡ list.count
    → TypesIn typing.code.bounds.types list.bytes.now there ts
    → length ts ≡ list.count
    → r ≡ dests_fit τ ds ts

-- the value of a field is given, and fits a type
abbrev pub given_to : Types → Option Value → Option TypeId → Bool
given_to τ none o = false
given_to τ (some x) o = fits τ x o

abbrev pub GivenFits : Typing → List ℕ → Answered ℕ → Answered TypeId → Bool → Type 0
GivenFits typing t init number r =
    (τ : Types) (x : Option Value) (o : Option TypeId)
    → TypingGround typing τ
    → InitAt typing.code.bounds.next t x init
    → Is number o
    → r ≡ given_to τ x o

-- so it is of field i of the struct type `number`, whose row is `row`, by the inits
abbrev pub field_name : List ℕ → ℕ → NameId
field_name row i = record { 0 = at16 row (first_name + 4 * i) }

abbrev pub FieldFits : Typing → Listed → Answered TypeId → List ℕ → ℕ → Bool → Type 0
FieldFits typing list number row i r =
    (τ : Types) (o : Option TypeId) (fs : List FieldInit)
    → TypingGround typing τ
    → Is number o
    → Inits typing.code.bounds.next list.bytes.now list.at fs
    → length fs ≡ list.count
    → r ≡ given_to τ (given (field_name row i) fs) (part_type (row_of τ o) i)

-- each of as many fields of the struct type `number`, whose row is `row`, is given a value that fits by the inits
abbrev pub FieldsFit : Typing → Listed → Answered TypeId → List ℕ → Bool → Type 0
FieldsFit typing list number row r =
    (τ : Types) (o : Option TypeId) (fs : List FieldInit) (ss : List StructField)
    → TypingGround typing τ
    → Is number o
    → Inits typing.code.bounds.next list.bytes.now list.at fs
    → length fs ≡ list.count
    → Names row 4 ss
    → length ss ≡ list.count
    → ((k : ℕ) → k < length ss → part_type (row_of τ o) k ≡ some (get_or ss k no_field).part)
    → r ≡ fields_fit τ fs ss
