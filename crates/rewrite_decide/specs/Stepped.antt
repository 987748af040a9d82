-- What is planned and decided of the instruction in a slot: what `step` makes of it.
use Rattle.std.specs.Prelude.{ℕ, ◌+◌, ◌-◌, ◌≤◌, ◌<◌, ◌≡◌, List, Bool, true, ⊤}
use Rattle.std.proofs.Math.Option.{some}
use Rattle.mir.specs.declared.Value.{Value}
use Rattle.mir.specs.declared.ValueId.{ValueId}
use Rattle.mir.specs.Syntax.{Instruction}
use Rattle.mir.specs.Reads.{kind_number}
use Rattle.bytes_wire.specs.Number.{at16}
use Rattle.bytes_index.specs.declared.code.Code.{Code}
use Rattle.bytes_operands.specs.Fields.{value_end}
use Rattle.fold.specs.declared.Edition.{Edition}
use Rattle.fold.specs.declared.Settings.{Settings}
use Rattle.mir.specs.Lookup.{Types}
use Rattle.fold.specs.Family.{Marks, build_dest}
use Rattle.rewrite.specs.State.{AggStates}
use Rattle.rewrite.specs.Piece.{Piece}
use Rattle.rewrite.specs.Stays.{stays}
use Rattle.rewrite.specs.Step.{step}
use Rattle.mir.specs.Most.{most_values}
use Rattle.rewrite_parts.specs.Rows.{ValueAt, Rep, Room}
use Rattle.rewrite_parts.specs.declared.Parts.{Parts}
use Rattle.rewrite_parts.specs.Here.{Here}
use Rattle.rewrite_arms.specs.Decided.{call_kind, store_kind, Decided, SpotAt, Listing, Planned}
use Rattle.rewrite_arms.specs.declared.Action.{Action}
use Rattle.rewrite_arms.specs.declared.Used.{Used}
use Rattle.rewrite_arms.specs.declared.Plan.{Plan}
use Rattle.rewrite_arms.specs.declared.spot.Spot.{Spot}
use Rattle.rewrite_decide.specs.declared.Source.{Source}

-- the source of the extract or the insert at a spot: the value behind the dest, the place behind that, the type that stands last
pub record SourceAt (code : Code) (p : Spot) (r : Source) : Type 0 where
  pub value : (y : Value) → ValueAt code.bounds.next code.bytes.now (p.off + 2) y → r.value ≡ y
  pub end : r.end ≡ value_end code.bytes.now (p.off + 2)
  pub near : r.end ≤ p.off + 7
  pub named : 2 ≤ p.end → r.named.0 ≡ at16 code.bytes.now (p.end - 2)

-- under which settings a kind is looked at; and a Load in an edition
abbrev pub always : Settings → Type 0
always σ = ⊤

abbrev pub of_tuples : Settings → Type 0
of_tuples σ = σ.tuples ≡ true

abbrev pub of_structs : Settings → Type 0
of_structs σ = σ.structs ≡ true

abbrev pub walked_in : Edition → Settings → Type 0
walked_in e σ = (σ.tuples ≡ true) × (σ.edition ≡ e)

-- the plan of an instruction of kind k, under settings where it is looked at
abbrev pub KindPlanned : ℕ → (Settings → Type 0) → Code → ℕ → Spot → Parts → Plan → Type 0
KindPlanned k on code slot p parts r =
    (σ : Settings) (τ : Types) (S : AggStates) (folds : ValueId → Bool) (m : ℕ) (i : Instruction) (used : ℕ)
    → Here code.bounds code.bytes.now code.facts.now slot parts.tracked.now parts.rows.now used τ S i
    → SpotAt code.bytes.now code.facts.now slot p
    → kind_number i.kind ≡ k
    → on σ
    → Planned code.bounds.next code.bytes.now code.facts.now S (stays σ τ S m i) p (step σ τ folds S m i) r

-- the plan of the instruction in a slot, which is no Call and no Store; `fold` says of a build whether it is folded
abbrev pub StepPlanned : Code → Settings → ℕ → Bool → Spot → Parts → Plan → Type 0
StepPlanned code σ slot fold p parts r =
    (τ : Types) (S : AggStates) (folds : ValueId → Bool) (m : ℕ) (i : Instruction) (used : ℕ)
    → Here code.bounds code.bytes.now code.facts.now slot parts.tracked.now parts.rows.now used τ S i
    → SpotAt code.bytes.now code.facts.now slot p
    → (kind_number i.kind ≡ call_kind → ⊥)
    → (kind_number i.kind ≡ store_kind → ⊥)
    → ((d : ValueId) → build_dest i.kind ≡ some d → fold ≡ folds d)
    → Planned code.bounds.next code.bytes.now code.facts.now S (stays σ τ S m i) p (step σ τ folds S m i) r

-- a build of a tuple or an array: the dest gets the values of its list
abbrev pub ValuesBuilt : Code → Spot → Marks → List ℕ → ℕ → Marks → List ℕ → Used Action → Type 0
ValuesBuilt code p tracked rows used tracked' rows' r =
    (next : ℕ) (S : AggStates) (stay x : Piece)
    → Rep next code.bytes.now tracked rows used S
    → Room rows used
    → p.dest.0 < most_values
    → Listing next code.bytes.now S p x
    → Decided next code.bytes.now tracked' rows' S stay x r

-- a plan that leads to the piece x is carried out: what it does is the piece
abbrev pub CarriedOut : Plan → Code → Spot → Marks → List ℕ → ℕ → Marks → List ℕ → Used Action → Type 0
CarriedOut plan code p tracked rows used tracked' rows' r =
    (next : ℕ) (S : AggStates) (stay x : Piece)
    → Planned next code.bytes.now code.facts.now S stay p x plan
    → Rep next code.bytes.now tracked rows used S
    → next ≤ most_values
    → Room rows used
    → stay.states ≡ S
    → Decided next code.bytes.now tracked' rows' S stay x r

-- what is decided of the instruction in a slot, which is no Call and no Store
abbrev pub StepDecided : Code → Settings → ℕ → Bool → Marks → List ℕ → ℕ → Marks → List ℕ → Used Action → Type 0
StepDecided code σ slot fold tracked rows used tracked' rows' r =
    (τ : Types) (S : AggStates) (folds : ValueId → Bool) (m : ℕ) (i : Instruction)
    → Here code.bounds code.bytes.now code.facts.now slot tracked rows used τ S i
    → Room rows used
    → (kind_number i.kind ≡ call_kind → ⊥)
    → (kind_number i.kind ≡ store_kind → ⊥)
    → ((d : ValueId) → build_dest i.kind ≡ some d → fold ≡ folds d)
    → Decided code.bounds.next code.bytes.now tracked' rows' S (stays σ τ S m i) (step σ τ folds S m i) r
