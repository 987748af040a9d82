-- What is decided of one instruction, in the words of `step`.
use Rattle.std.specs.Prelude.{ℕ, ◌+◌, ◌≤◌, ◌<◌, ◌≡◌, List, [], ◌∷◌, Bool, true, false, cond, length, get_or, drop, eqb, Some, None, Option as Answered}
use Rattle.std.proofs.Math.Option.{Option, none, some}
use Rattle.std.proofs.Math.ListN.{get_elem?}
use Rattle.bytes_wire.specs.Number.{at16}
use Rattle.mir.specs.declared.ValueId.{ValueId}
use Rattle.mir.specs.declared.TypeId.{TypeId}
use Rattle.mir.specs.declared.Value.{Value}
use Rattle.mir.specs.declared.NameId.{NameId}
use Rattle.mir.specs.Syntax.{FieldInit}
use Rattle.bytes_index.specs.declared.code.Code.{Code}
use Rattle.bytes_index.specs.Table.{place_in, end_in}
use Rattle.mir.specs.MirType.{StructField}
use Rattle.bytes_operands.specs.Fields.{fields_place}
use Rattle.mir.specs.Parts.{from_struct_fields, struct_parts}
use Rattle.mir.specs.Lookup.{Types, on_some}
use Rattle.fold.specs.Family.{Marks}
use Rattle.fold.specs.Tables.{CodeGround}
use Rattle.rewrite.specs.declared.Counts.{Counts}
use Rattle.rewrite.specs.State.{AggStates, state_of, replaced}
use Rattle.rewrite.specs.Piece.{Piece, left, tracked, assigned}
use Rattle.rewrite.specs.Step.{step_build, step_insert, step_assign, hand_on, extract_index}
use Rattle.rewrite.specs.Piece.{one_build, one_extract, one_insert, one_assign}
use Rattle.mir.specs.Most.{most_values}
use Rattle.rewrite_parts.specs.Rows.{most_parts, ValueAt, Rep, Room, Values, Inits, InitAt}
use Rattle.rewrite_parts.specs.declared.Parts.{Parts}
use Rattle.rewrite_parts.specs.declared.listed.Listed.{Listed}
use Rattle.bytes_struct.specs.Fields.{Names}
use Rattle.rewrite_arms.specs.declared.Counted.{Counted}
use Rattle.rewrite_arms.specs.declared.Action.{Action}
use Rattle.rewrite_arms.specs.declared.Used.{Used}
use Rattle.rewrite_arms.specs.declared.Plan.{Plan}
use Rattle.rewrite_arms.specs.declared.spot.Spot.{Spot}

-- what an instruction that is left out counts
abbrev pub counted_as : Counted → Counts
counted_as Counted.Build = one_build
counted_as Counted.Extract = one_extract
counted_as Counted.Insert = one_insert
counted_as Counted.Assign = one_assign

-- the piece is an Assign of the value that stands at a place of the input
pub data Assigned (next : ℕ) (s : List ℕ) (S : AggStates) (p : Piece) (d : ValueId) (place : ℕ) (t : TypeId) : Type 0 where
  assigned_from : (x : Value) → ValueAt next s place x → p ≡ assigned one_extract S d x t → Assigned next s S p d place t

-- what an action does is the piece: the instruction stays, is left out with its dest tracked, or becomes an Assign
abbrev pub Does : ℕ → List ℕ → AggStates → Piece → Piece → Action → Type 0
Does next s S stay p Action.Keep = p ≡ stay
Does next s S stay p (Action.Track d c) = p ≡ left (counted_as c) (d ∷ []) p.states
Does next s S stay p (Action.Assign d place t) = Assigned next s S p d place t

-- the tables hold the states behind the piece, and the action does it
pub record Decided (next : ℕ) (s : List ℕ) (tracked : Marks) (rows : List ℕ) (S : AggStates) (stay : Piece) (p : Piece) (r : Used Action) : Type 0 where
  pub rep : Rep next s tracked rows r.used p.states
  pub does : Does next s S stay p r.value

-- the spot of the instruction in a slot
pub record SpotAt (s facts : List ℕ) (slot : ℕ) (p : Spot) : Type 0 where
  pub fields : p.off ≡ place_in facts slot + fields_place (drop (place_in facts slot) s)
  pub ends : p.end ≡ end_in facts slot
  pub dest : p.dest.0 ≡ at16 s p.off

-- parts that are some tracked value's, and which, or none
pub data SourceOf (S : AggStates) (o : Option (List Value)) : Answered ValueId → Type 0 where
  found : (v : ValueId) (xs : List Value) → o ≡ some xs → S v.0 ≡ some xs → SourceOf S o (Some v)
  nothing : o ≡ none → SourceOf S o None

-- an operand is one of the `next` values there are
pub record Below (next : ℕ) (x : Value) : Type 0 where
  pub each : (v : ValueId) → x ≡ Value.Operand v → v.0 < next

-- a part that is taken: it hands its own parts on only where that is asked for
unfoldable pub step_taken : Bool → AggStates → Piece → ValueId → TypeId → Option Value → Piece
step_taken whole S stay d t none = stay
step_taken whole S stay d t (some x) = hand_on S d t x (cond whole (state_of S x) none)

-- what a plan goes by: the parts of the value whose row is shared
pub record Sharing (S : AggStates) (d : ValueId) (x : Piece) (v : ValueId) (c : Counted) : Type 0 where
  pub parts : List Value
  pub own : S v.0 ≡ some parts
  pub piece : x ≡ tracked (counted_as c) S d parts

-- the parts of the value that a part is replaced in, and the new part
pub record Replacing (next : ℕ) (s : List ℕ) (S : AggStates) (d : ValueId) (x : Piece) (v : ValueId) (k place : ℕ) : Type 0 where
  pub parts : List Value
  pub own : S v.0 ≡ some parts
  pub new : List Value
  pub part : Value
  pub stands : ValueAt next s place part
  pub changed : replaced parts k part ≡ some new
  pub piece : x ≡ tracked one_insert S d new

-- the values of the list of a build
pub record Listing (next : ℕ) (s : List ℕ) (S : AggStates) (p : Spot) (x : Piece) : Type 0 where
  pub parts : List Value
  pub stand : Values next s 0 (p.off + 3) parts
  pub many : length parts ≡ get_or s (p.off + 2) 0
  pub few : length parts ≤ most_parts
  pub piece : x ≡ tracked one_build S p.dest parts

-- the inits of a build of a struct, and the fields of its type
pub record Fielding (next : ℕ) (s facts : List ℕ) (S : AggStates) (stay : Piece) (p : Spot) (x : Piece) (t : TypeId) : Type 0 where
  pub inits : List FieldInit
  pub stand : Inits next s (p.off + 3) inits
  pub many : length inits ≡ get_or s (p.off + 2) 0
  pub fields : List StructField
  pub named : Names (drop (get_or facts t.0 0) s) 4 fields
  pub count : length fields ≡ get_or (drop (get_or facts t.0 0) s) 3 0
  pub few : length fields ≤ most_parts
  pub piece : x ≡ step_build S stay p.dest (from_struct_fields inits fields)

abbrev pub Goes : ℕ → List ℕ → List ℕ → AggStates → Piece → Spot → Piece → Plan → Type 0
Goes next s facts S stay p x Plan.Keep = x ≡ stay
Goes next s facts S stay p x (Plan.Share v c) = Sharing S p.dest x v c
Goes next s facts S stay p x (Plan.Assign place t) = Assigned next s S x p.dest place t
Goes next s facts S stay p x (Plan.Replace v k place) = Replacing next s S p.dest x v k place
Goes next s facts S stay p x Plan.Values = Listing next s S p x
Goes next s facts S stay p x (Plan.Fields t) = Fielding next s facts S stay p x t

-- the plan leads to the piece; the dest is one of the `next` values, unless the instruction stays
pub record Planned (next : ℕ) (s facts : List ℕ) (S : AggStates) (stay : Piece) (p : Spot) (x : Piece) (r : Plan) : Type 0 where
  pub goes : Goes next s facts S stay p x r
  pub dest : (r ≡ Plan.Keep → ⊥) → p.dest.0 < next

-- what is planned of a part that is taken
abbrev pub TakePlanned : Code → Answered ℕ → TypeId → Bool → Marks → Plan → Type 0
TakePlanned code found_at t whole marks r =
    (facts rows : List ℕ) (used : ℕ) (S : AggStates) (stay : Piece) (p : Spot) (o : Option Value)
    → Rep code.bounds.next code.bytes.now marks rows used S
    → p.dest.0 < code.bounds.next
    → InitAt code.bounds.next code.bytes.now o found_at
    → Planned code.bounds.next code.bytes.now facts S stay p (step_taken whole S stay p.dest t o) r

-- of an Assign
abbrev pub AssignPlanned : Value → Bool → Marks → Plan → Type 0
AssignPlanned x whole marks r =
    (next : ℕ) (s facts rows : List ℕ) (used : ℕ) (S : AggStates) (stay : Piece) (p : Spot)
    → Rep next s marks rows used S
    → p.dest.0 < next
    → Planned next s facts S stay p (step_assign S stay p.dest (cond whole (state_of S x) none)) r

-- of an insert of the value at a place
abbrev pub InsertPlanned : Value → ℕ → ℕ → Parts → Plan → Type 0
InsertPlanned x k place parts r =
    (next : ℕ) (s facts : List ℕ) (used : ℕ) (S : AggStates) (stay : Piece) (p : Spot) (y : Value)
    → Rep next s parts.tracked.now parts.rows.now used S
    → p.dest.0 < next
    → ValueAt next s place y
    → Planned next s facts S stay p (step_insert S stay p.dest (on_some (state_of S x) (λ xs. replaced xs k y))) r

-- of a build of a struct
abbrev pub StructPlanned : Code → Spot → TypeId → Plan → Type 0
StructPlanned code p named r =
    (τ : Types) (S : AggStates) (stay : Piece) (fs : List FieldInit)
    → CodeGround code τ
    → p.dest.0 < code.bounds.next
    → Inits code.bounds.next code.bytes.now (p.off + 3) fs
    → length fs ≡ get_or code.bytes.now (p.off + 2) 0
    → Planned code.bounds.next code.bytes.now code.facts.now S stay p (step_build S stay p.dest (struct_parts τ p.dest fs named)) r

-- the list of a build, behind the number of its parts
pub record ListedAt (code : Code) (p : Spot) (l : Listed) : Type 0 where
  pub bytes : l.bytes.now ≡ code.bytes.now
  pub place : l.at ≡ p.off + 3
  pub many : l.count ≡ get_or code.bytes.now (p.off + 2) 0

-- a build of a struct by its type
abbrev pub FieldsBuilt : Code → Spot → TypeId → Marks → List ℕ → ℕ → Marks → List ℕ → Used Action → Type 0
FieldsBuilt code p t marks rows used marks' rows' r =
    (next : ℕ) (S : AggStates) (stay : Piece) (x : Piece)
    → Rep next code.bytes.now marks rows used S
    → Room rows used
    → p.dest.0 < most_values
    → stay.states ≡ S
    → Fielding next code.bytes.now code.facts.now S stay p x t
    → Decided next code.bytes.now marks' rows' S stay x r

-- the part that a name stands for
abbrev pub FieldPart : Code → Parts → Value → NameId → Answered ℕ → Type 0
FieldPart code parts x name r =
    (τ : Types) (used : ℕ) (S : AggStates)
    → CodeGround code τ
    → Below code.bounds.next x
    → Rep code.bounds.next code.bytes.now parts.tracked.now parts.rows.now used S
    → InitAt code.bounds.next code.bytes.now (on_some (extract_index τ x name) (λ k. on_some (state_of S x) (λ xs. get_elem? xs k))) r

-- the numbers of the kinds that are rewritten, in the order of `InstructionKind`
abbrev pub assign_kind : ℕ
assign_kind = 0

abbrev pub call_kind : ℕ
call_kind = 3

abbrev pub load_kind : ℕ
load_kind = 5

abbrev pub store_kind : ℕ
store_kind = 6

abbrev pub make_tuple_kind : ℕ
make_tuple_kind = 10

abbrev pub extract_element_kind : ℕ
extract_element_kind = 11

abbrev pub make_struct_kind : ℕ
make_struct_kind = 12

abbrev pub extract_field_kind : ℕ
extract_field_kind = 13

abbrev pub insert_field_kind : ℕ
insert_field_kind = 14

abbrev pub insert_element_kind : ℕ
insert_element_kind = 15

abbrev pub make_array_kind : ℕ
make_array_kind = 16

-- whether a kind is looked at: under the settings for tuples and structs, and a build where it is taken apart
abbrev pub acts : Bool → Bool → Bool → ℕ → Bool
acts tuples structs fold k =
    cond (eqb k assign_kind) true
    (cond (eqb k load_kind) tuples
    (cond (eqb k make_tuple_kind) fold
    (cond (eqb k extract_element_kind) tuples
    (cond (eqb k make_struct_kind) fold
    (cond (eqb k extract_field_kind) structs
    (cond (eqb k insert_field_kind) structs
    (cond (eqb k insert_element_kind) tuples
    (cond (eqb k make_array_kind) fold
    false))))))))
