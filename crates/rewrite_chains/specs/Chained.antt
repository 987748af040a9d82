-- What the walks over a place's projections answer.
use Rattle.std.specs.Prelude.{ℕ, ◌<◌, ◌≡◌, List, [], Bool, false, length, take, Some, None, unwrap_or, is_some as is_answered, Option as Answered}
use Rattle.std.proofs.Math.Option.{Option, none, some}
use Rattle.bytes_wire.specs.Parse.{ok}
use Rattle.mir.specs.declared.Value.{Value}
use Rattle.mir.specs.declared.ValueId.{ValueId}
use Rattle.mir.specs.declared.TypeId.{TypeId}
use Rattle.mir.specs.declared.NameId.{NameId}
use Rattle.mir.specs.declared.Projection.{Projection}
use Rattle.mir.specs.declared.Projection.TheVariants.{Index, Field, Tuple}
use Rattle.mir.specs.Syntax.{Place, Instruction, InstructionKind}
use Rattle.bytes_field.specs.Decode.{instruction_of}
use Rattle.bytes_field.specs.declared.Bounds.{Bounds}
use Rattle.bytes_index.specs.declared.code.Code.{Code}
use Rattle.bytes_index.specs.declared.code.Typing.{Typing}
use Rattle.bytes_index.specs.Code.{InstructionIn}
use Rattle.bytes_operands.specs.Fields.{place_steps}
use Rattle.mir.specs.Lookup.{is_some, is_integer, Types, on_some, value_row}
use Rattle.mir.specs.Option.{as_option}
use Rattle.bytes_struct.specs.FindField.{find_field}
use Rattle.bytes_struct.specs.declared.FoundField.{FoundField}
use Rattle.fold.specs.declared.Edition.{Edition}
use Rattle.fold.specs.Family.{Marks}
use Rattle.fold.specs.Tables.{Known, CodeGround}
use Rattle.rewrite.specs.State.{AggStates, chain, first_integer, step_part, store_part, store_last, forward_store}
use Rattle.rewrite.specs.Step.{is_boolean, walkable}
use Rattle.mir.specs.Most.{most_values}
use Rattle.rewrite_parts.specs.Rows.{ValueAt, Rep, Room, InitAt}
use Rattle.rewrite_parts.specs.declared.Parts.{Parts}
use Rattle.rewrite_parts.specs.Here.{Here}
use Rattle.rewrite_chains.specs.declared.LastStep.{LastStep}

-- a field by its name in the recorded type of v
abbrev pub FoundInType : Typing → ValueId → NameId → Answered FoundField → Type 0
FoundInType typing v name r =
    (most : ℕ) (τ : Types)
    → Known most typing.code.bytes.now typing.code.facts.now typing.recorded.now τ
    → length τ.rows ≡ typing.code.bounds.types
    → v.0 < length τ.recorded
    → as_option r ≡ find_field (value_row τ v) name

-- the value where it is an operand
abbrev pub operand_in : Option Value → Option ValueId
operand_in none = none
operand_in (some (Value.Literal l)) = none
operand_in (some (Value.Operand v)) = some v
operand_in (some Value.Error) = none

-- where a walk comes to, if that is an operand
pub record LeadsTo (next : ℕ) (o : Option Value) (r : Answered ValueId) : Type 0 where
  pub told : as_option r ≡ operand_in o
  pub below : (v : ValueId) → as_option r ≡ some v → v.0 < next

-- what a walk looks at: the routine and the tables of tracked values
pub record Walking (code : Code) (parts : Parts) (τ : Types) (S : AggStates) : Type 0 where
  pub ground : CodeGround code τ
  pub used : ℕ
  pub rep : Rep code.bounds.next code.bytes.now parts.tracked.now parts.rows.now used S

-- an accepted instruction stands at the head of t, and ps are its projections
pub data StepsAt (b : Bounds) (t : List ℕ) (ps : List Projection) : Type 0 where
  steps_at : (i : Instruction) (n : ℕ) → instruction_of b [] false t ≡ ok i n → place_steps i.kind ≡ ps → StepsAt b t ps

-- so it is with the part of v that a projection names
abbrev pub OfStep : Code → Parts → ValueId → Projection → (Option Value → Type 0) → Type 0
OfStep code parts v p So =
    (τ : Types) (S : AggStates)
    → Walking code parts τ S
    → v.0 < code.bounds.next
    → So (step_part τ S (Value.Operand v) p)

-- a walk from `base` on, by the projections ps of the instruction t, of which there are enough, comes to `end`
abbrev pub OfSteps : Code → List ℕ → Parts → ValueId → Answered ValueId
    → (List Projection → Type 0)
    → (Types → AggStates → List Projection → Option Value)
    → Type 0
OfSteps code t parts base r Enough end =
    (τ : Types) (S : AggStates) (ps : List Projection)
    → Walking code parts τ S
    → StepsAt code.bounds t ps
    → base.0 < code.bounds.next
    → Enough ps
    → LeadsTo code.bounds.next (end τ S ps) r

-- an Index by an Integer literal
abbrev pub integer_step : Option Projection → Bool
integer_step none = false
integer_step (some (Index x)) = is_integer x
integer_step (some (Field n)) = false
integer_step (some (Tuple k)) = false

-- an Index by a Boolean literal
abbrev pub boolean_step : Option Projection → Bool
boolean_step none = false
boolean_step (some p) = is_boolean p

-- what all but the last projection lead to, where the first is an Integer literal
unfoldable pub held : Types → AggStates → ValueId → List Projection → ℕ → Option Value
held τ S v ps last = on_some (first_integer ps) (λ k. chain τ S (Value.Operand v) (take last ps))

-- sroa.rs 1489, `forward_projection_chain`: the part that a Load takes
unfoldable pub loaded_part : Types → AggStates → Place → Option Value
loaded_part τ S p =
    on_some (first_integer p.projections) (λ k.
    on_some (S p.base.0) (λ xs. chain τ S (Value.Operand p.base) p.projections))

-- the instruction is a Load or a Store with this place, and this is its kind's number
pub data OfPlace : InstructionKind → ℕ → Place → Type 0 where
  of_load : (d : ValueId) (p : Place) (y : TypeId) → OfPlace (InstructionKind.Load d p y) 5 p
  of_store : (p : Place) (x : Value) (y : TypeId) → OfPlace (InstructionKind.Store p x y) 6 p

-- no part is taken from a place, and none changed
pub record EndsNowhere (τ : Types) (S : AggStates) (p : Place) : Type 0 where
  pub load : loaded_part τ S p ≡ none
  pub store : (y : Value) → forward_store τ S p y ≡ none

-- the part that is taken or changed is that of the last step
pub record EndsIn (next : ℕ) (τ : Types) (S : AggStates) (p : Place) (l : LastStep) : Type 0 where
  pub below : l.holder.0 < next
  pub load : loaded_part τ S p ≡ step_part τ S (Value.Operand l.holder) l.step
  pub store : (y : Value) → forward_store τ S p y ≡ store_last τ S (Value.Operand l.holder) l.step y

abbrev pub Ends : ℕ → Types → AggStates → Place → Answered LastStep → Type 0
Ends next τ S p None = EndsNowhere τ S p
Ends next τ S p (Some l) = EndsIn next τ S p l

-- the Load or the Store in a slot: where its place ends
abbrev pub LastFound : Code → ℕ → Parts → ℕ → Answered LastStep → Type 0
LastFound code slot parts kind r =
    (τ : Types) (S : AggStates) (used : ℕ) (i : Instruction) (p : Place)
    → Here code.bounds code.bytes.now code.facts.now slot parts.tracked.now parts.rows.now used τ S i
    → OfPlace i.kind kind p
    → Ends code.bounds.next τ S p r

-- the Load or the Store in a slot: whether its place can be walked in an edition
abbrev pub PlaceWalks : Code → ℕ → ℕ → Edition → Bool → Type 0
PlaceWalks code slot kind edition r =
    (i : Instruction) (p : Place)
    → InstructionIn code.bounds code.bytes.now code.facts.now slot i
    → OfPlace i.kind kind p
    → r ≡ walkable edition p

-- the states behind a Store: those it is forwarded into, else as they were
unfoldable pub states_after : AggStates → Option AggStates → AggStates
states_after S none = S
states_after S (some S') = S'

-- a Store's answer: it tells whether it is forwarded, and the tables hold the states behind it
pub record Forwards (next : ℕ) (s : List ℕ) (S : AggStates) (o : Option AggStates)
    (tracked : Marks) (rows : List ℕ) (used : ℕ) (r : Answered ℕ) : Type 0 where
  pub is_told : is_answered r ≡ is_some o
  pub rep : Rep next s tracked rows (unwrap_or r used) (states_after S o)

-- the Load in a slot: the part that it takes
abbrev pub PartLoaded : Code → ℕ → Parts → Answered ℕ → Type 0
PartLoaded code slot parts r =
    (τ : Types) (S : AggStates) (used : ℕ) (i : Instruction) (d : ValueId) (p : Place) (y : TypeId)
    → Here code.bounds code.bytes.now code.facts.now slot parts.tracked.now parts.rows.now used τ S i
    → i.kind ≡ InstructionKind.Load d p y
    → InitAt code.bounds.next code.bytes.now (loaded_part τ S p) r

-- the Store in a slot: where its value stands
abbrev pub StoredAt : Code → ℕ → ℕ → Type 0
StoredAt code slot at =
    (i : Instruction) (p : Place) (x : Value) (y : TypeId)
    → InstructionIn code.bounds code.bytes.now code.facts.now slot i
    → i.kind ≡ InstructionKind.Store p x y
    → ValueAt code.bounds.next code.bytes.now at x

-- part k of v is the value at a place
abbrev pub PartStored : ValueId → ℕ → ℕ → Marks → List ℕ → ℕ → Marks → List ℕ → Answered ℕ → Type 0
PartStored v k place tracked rows used tracked' rows' r =
    (next : ℕ) (s : List ℕ) (S : AggStates) (y : Value)
    → Rep next s tracked rows used S
    → Room rows used
    → v.0 < most_values
    → ValueAt next s place y
    → Forwards next s S (store_part S v k y) tracked' rows' used r

-- the part of v that a projection names is the value at a place
abbrev pub LastStored : Code → ValueId → Projection → ℕ → Marks → List ℕ → ℕ → Marks → List ℕ → Answered ℕ → Type 0
LastStored code v p place tracked rows used tracked' rows' r =
    (τ : Types) (S : AggStates) (y : Value)
    → CodeGround code τ
    → Rep code.bounds.next code.bytes.now tracked rows used S
    → Room rows used
    → v.0 < code.bounds.next
    → ValueAt code.bounds.next code.bytes.now place y
    → Forwards code.bounds.next code.bytes.now S (store_last τ S (Value.Operand v) p y) tracked' rows' used r

-- the Store in a slot: whether it is forwarded, and the states behind it
abbrev pub StoreForwarded : Code → ℕ → Marks → List ℕ → ℕ → Marks → List ℕ → Answered ℕ → Type 0
StoreForwarded code slot tracked rows used tracked' rows' r =
    (τ : Types) (S : AggStates) (i : Instruction) (p : Place) (x : Value) (y : TypeId)
    → Here code.bounds code.bytes.now code.facts.now slot tracked rows used τ S i
    → Room rows used
    → i.kind ≡ InstructionKind.Store p x y
    → (is_answered r ≡ is_some (forward_store τ S p x))
    × Rep code.bounds.next code.bytes.now tracked' rows' (unwrap_or r used) (states_after S (forward_store τ S p x))
