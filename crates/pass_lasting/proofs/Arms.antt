-- What each step makes of its instruction: it stays, is left out, or an Assign of a tracked value's part stands for it, at a type that fits.
use mathlib.Core.Path.{◌≡◌, refl, ◌∙◌}
use Prim.Native.Nat.{ℕ}
use mathlib.Core.Bool.{Bool, true, false, ◌&&◌}
use mathlib.Core.Option.{Option, none, some}
use mathlib.Core.List.{List, [], ◌∷◌}
use lib.Dec.{T}
use lib.ListN.{length, get_elem?}
use Rattle.mir.specs.declared.ValueId.{ValueId}
use Rattle.mir.specs.declared.TypeId.{TypeId}
use Rattle.mir.specs.declared.NameId.{NameId}
use Rattle.mir.specs.declared.Value.{Value}
use Rattle.mir.specs.MirType.{MirType}
use Rattle.mir.specs.declared.Projection.{Projection}
use Rattle.mir.specs.declared.Projection.TheVariants.{Field, Tuple}
use Rattle.mir.specs.Syntax.{Place, Meta, Instruction, InstructionKind}
use Rattle.mir.specs.Syntax.{Assign, UnaryOp, BinaryOp, Call, Cast, Load, Store, Debug, Nop, Phi}
use Rattle.mir.specs.Syntax.{MakeTuple, ExtractTupleElement, MakeStruct, ExtractStructField, InsertField, InsertTuple, MakeFixedArray, AssertEq, HeapAllocCells}
use Rattle.mir.specs.Reads.{dests}
use Rattle.mir.specs.Lookup.{Types, row_of, recorded_type, value_row, is_tuple, on_some}
use Rattle.mir.specs.Parts.{part_type, operand_row, is_pointer}
use Rattle.bytes_struct.specs.FindField.{field_type_of}
use Rattle.fold.specs.declared.Settings.{Settings}
use Rattle.rewrite.specs.State.{AggStates, state_of, step_index, step_part, chain, first_integer}
use Rattle.rewrite.specs.Piece.{Piece, tracked, one_extract}
use Rattle.rewrite.specs.Stays.{guarded, stays}
use Rattle.rewrite.specs.Step.{step_build, step_insert, hand_on, step_extract, extract_index, step_loaded, step_load, step_store, step_assign, step_kind, step}
use Rattle.shelf.specs.Lists.{every}
use Rattle.shelf.specs.Fits.{same_type, fits, step_type, place_type}
use Rattle.shelf.specs.Agrees.{index_fits, agrees}
use Rattle.machine_simulation.specs.Typing.{TypedStates, leads_to, typed}
use Rattle.machine_simulation.proofs.Tools.{both_l, both_r, both, none_some, cond_yes}
use Rattle.machine_simulation.proofs.Cases.{same_type→eq, same_row}
use Rattle.machine_simulation.proofs.Builds.{through, on_some_inv}
use Rattle.machine_simulation.proofs.Loads.{stepped, step_inv, no_pointer, own_fits, has_type_lem, load_type}
use Rattle.machine_simulation.proofs.TypedStates.{chain_fits}
use Rattle.machine_claim.proofs.Typed.{counted_typed}
use Rattle.pass_lasting.proofs.Vocabulary.{PartOf, Shown}

-- ---- parts of what is tracked

-- one step leads to a part of something tracked
step_of_part : (τ : Types) (S : AggStates) (x : Value) (p : Projection) (z : Value) → step_part τ S x p ≡ some z → PartOf S z
step_of_part τ S x p z e = elim (step_inv τ S x p z e) [ stepped v k xs q ix lk ge ↦ PartOf.part_of v.0 xs k z lk ge ]

-- so does a chain that has a step
chain_part : (τ : Types) (S : AggStates) (x : Value) (p : Projection) (ps : List Projection) (z : Value) → chain τ S x (p ∷ ps) ≡ some z → PartOf S z
unfolding chain
chain_part τ S x p [] z e = elim (on_some_inv (step_part τ S x p) (λ y. some y) z e) [ through y sp q ↦ step_of_part τ S x p z (sp ∙ q) ]
chain_part τ S x p (r ∷ ps) z e =
    elim (on_some_inv (step_part τ S x p) (λ y. chain τ S y (r ∷ ps)) z e) [ through y sp ch ↦ chain_part τ S y r ps z ch ]

-- a chain whose first projection is a number has a step
loaded_part : (τ : Types) (S : AggStates) (x : Value) (ps : List Projection) (k : ℕ) (z : Value) → first_integer ps ≡ some k
    → chain τ S x ps ≡ some z → PartOf S z
unfolding first_integer
loaded_part τ S x [] k z f e = absurd (none_some f)
loaded_part τ S x (p ∷ ps) k z f e = chain_part τ S x p ps z e

-- ---- their types

-- where a chain from a tracked value ends, the place's type fits
tracked_fits : (τ : Types) (S : AggStates) → TypedStates τ S → (v : ValueId) (xs : List Value) → S v.0 ≡ some xs → (ps : List Projection)
    (z : Value) (u : TypeId) → chain τ S (Value.Operand v) ps ≡ some z → place_type τ (recorded_type τ v) ps ≡ some u → T (fits τ z (some u))
tracked_fits τ S ts v xs lk ps z u ch pt =
    let ht = has_type_lem τ (recorded_type τ v) xs (ts v xs lk) in
    chain_fits τ S ts ps (Value.Operand v) z (recorded_type τ v) u (own_fits τ v ht.0 ht.1) ch pt

-- one step is a chain
one_chain : (τ : Types) (S : AggStates) (x : Value) (p : Projection) (z : Value) → step_part τ S x p ≡ some z → chain τ S x (p ∷ []) ≡ some z
unfolding chain on_some
one_chain τ S x p z e = rw e

-- and a place
one_place : (τ : Types) (v : ValueId) (p : Projection) (u : TypeId) → step_type (operand_row τ (Value.Operand v)) p ≡ some u
    → place_type τ (recorded_type τ v) (p ∷ []) ≡ some u
unfolding place_type operand_row value_row
one_place τ v p u e = e

-- the part that one step leads to fits the step's type
step_part_fits : (τ : Types) (S : AggStates) → TypedStates τ S → (x : Value) (p : Projection) (z : Value) (u : TypeId) → step_part τ S x p ≡ some z
    → step_type (operand_row τ x) p ≡ some u → T (fits τ z (some u))
step_part_fits τ S ts x p z u h st =
    elim (step_inv τ S x p z h) [
      | stepped v k xs q ix lk ge ↦
          tracked_fits τ S ts v xs lk (p ∷ []) z u (one_chain τ S (Value.Operand v) p z (rw q at h)) (one_place τ v p u (rw q at st))
    ]

-- an ExtractTupleElement takes the part of one step
element_step : (τ : Types) (S : AggStates) (x : Value) (k : ℕ) → step_part τ S x (Tuple k) ≡ on_some (state_of S x) (λ xs. get_elem? xs k)
unfolding step_part step_index state_of on_some
element_step τ S (Value.Literal l) k = refl
element_step τ S (Value.Operand v) k = refl
element_step τ S Value.Error k = refl

-- that step has the type of the part, of a tuple
element_type : (row : Option MirType) (k : ℕ) (u : TypeId) → T (is_tuple row && same_type (part_type row k) (some u)) → step_type row (Tuple k) ≡ some u
unfolding step_type
element_type row k u t =
    let a : Bool = is_tuple row in
    let b : Bool = same_type (part_type row k) (some u) in
    cond_yes a (part_type row k) none (both_l a b t) ∙ same_type→eq (part_type row k) (some u) (both_r a b t)

-- an ExtractStructField takes the part of one step
field_step : (τ : Types) (S : AggStates) (x : Value) (f : NameId)
    → step_part τ S x (Field f) ≡ on_some (extract_index τ x f) (λ k. on_some (state_of S x) (λ xs. get_elem? xs k))
unfolding step_part step_index state_of on_some extract_index
field_step τ S (Value.Literal l) f = refl
field_step τ S (Value.Operand v) f = refl
field_step τ S Value.Error f = refl

-- that step has the type of the field
field_step_type : (row : Option MirType) (f : NameId) (u : TypeId) → T (same_type (field_type_of row f) (some u)) → step_type row (Field f) ≡ some u
unfolding step_type
field_step_type row f u t = same_type→eq (field_type_of row f) (some u) t

-- an Assign agrees where its dest has the type that is named and its value fits it
assign_agrees : (τ : Types) (d : ValueId) (x : Value) (t : TypeId) → T (same_type (recorded_type τ d) (some t)) → T (fits τ x (some t))
    → T (agrees τ (Assign d x t))
unfolding agrees
assign_agrees τ d x t a b = both (same_type (recorded_type τ d) (some t)) (fits τ x (some t)) a b

-- ---- where types agree, they do of the Assign that stands for it

-- for an ExtractTupleElement
element_agrees : (τ : Types) (S : AggStates) (d : ValueId) (x : Value) (k : ℕ) (t : TypeId) (z : Value)
    → on_some (state_of S x) (λ xs. get_elem? xs k) ≡ some z → TypedStates τ S → T (typed τ (ExtractTupleElement d x k t)) → T (agrees τ (Assign d z t))
unfolding typed
element_agrees τ S d x k t z e ts ty =
    let a : Bool = same_type (recorded_type τ d) (some t) in
    let b : Bool = is_tuple (operand_row τ x) && same_type (part_type (operand_row τ x) k) (some t) in
    assign_agrees τ d z t (both_l a b ty)
    (step_part_fits τ S ts x (Tuple k) z t (element_step τ S x k ∙ e) (element_type (operand_row τ x) k t (both_r a b ty)))

-- for an ExtractStructField
field_agrees : (τ : Types) (S : AggStates) (d : ValueId) (x : Value) (f : NameId) (t : TypeId) (z : Value)
    → on_some (extract_index τ x f) (λ k. on_some (state_of S x) (λ xs. get_elem? xs k)) ≡ some z → TypedStates τ S
    → T (typed τ (ExtractStructField d x f t)) → T (agrees τ (Assign d z t))
unfolding typed
field_agrees τ S d x f t z e ts ty =
    let a : Bool = same_type (recorded_type τ d) (some t) in
    let b : Bool = same_type (field_type_of (operand_row τ x) f) (some t) in
    assign_agrees τ d z t (both_l a b ty)
    (step_part_fits τ S ts x (Field f) z t (field_step τ S x f ∙ e) (field_step_type (operand_row τ x) f t (both_r a b ty)))

-- for a Load, whose base is tracked and so is no Pointer
load_agrees : (τ : Types) (S : AggStates) (d : ValueId) (p : Place) (t : TypeId) (xs : List Value) (z : Value) → S p.base.0 ≡ some xs
    → chain τ S (Value.Operand p.base) p.projections ≡ some z → TypedStates τ S → T (typed τ (Load d p t)) → T (agrees τ (Assign d z t))
unfolding typed
load_agrees τ S d p t xs z lk ch ts ty =
    let a : Bool = same_type (recorded_type τ d) (some t) in
    let l : Bool = leads_to τ p t in
    let s : Bool = every (index_fits τ) p.projections in
    let np : is_pointer (value_row τ p.base) ≡ false =
    rw (same_row τ p.base (recorded_type τ p.base) refl) (no_pointer (row_of τ (recorded_type τ p.base)) (length xs) (ts p.base xs lk).sized) in
    let th : T (a && (l && s)) = load_type (is_pointer (value_row τ p.base)) a (l && s) np ty in
    assign_agrees τ d z t (both_l a (l && s) th)
    (tracked_fits τ S ts p.base xs lk p.projections z t ch
    (same_type→eq (place_type τ (recorded_type τ p.base) p.projections) (some t) (both_l l s (both_r a (l && s) th))))

-- ---- the arms

module _ (σ : Settings) (τ : Types) (S : AggStates) (n : ℕ) (i : Instruction) where
  -- a build
  shown_build : (d : ValueId) (o : Option (List Value)) → Shown σ τ S n i (step_build S (stays σ τ S n i) d o)
  unfolding step_build tracked
  shown_build d none = Shown.stays_so
  shown_build d (some xs) = Shown.left_out _ _ _

  -- an insert
  shown_insert : (d : ValueId) (o : Option (List Value)) → Shown σ τ S n i (step_insert S (stays σ τ S n i) d o)
  unfolding step_insert tracked
  shown_insert d none = Shown.stays_so
  shown_insert d (some xs) = Shown.left_out _ _ _

  -- an Assign
  shown_assign : (d : ValueId) (o : Option (List Value)) → Shown σ τ S n i (step_assign S (stays σ τ S n i) d o)
  unfolding step_assign tracked
  shown_assign d none = Shown.stays_so
  shown_assign d (some xs) = Shown.left_out _ _ _

  -- a Store
  shown_store : (o : Option AggStates) → Shown σ τ S n i (step_store S (stays σ τ S n i) o)
  unfolding step_store
  shown_store none = Shown.stays_so
  shown_store (some S') = Shown.left_out _ _ _

  -- an arm that a setting may turn off
  shown_guarded : (b : Bool) (p : Piece) → Shown σ τ S n i p → Shown σ τ S n i (guarded b (stays σ τ S n i) p)
  unfolding guarded
  shown_guarded true p h = h
  shown_guarded false p h = Shown.stays_so

  -- a part handed on or assigned
  shown_hand : (d : ValueId) (t : TypeId) (x : Value) (o : Option (List Value)) → dests i.kind ≡ d ∷ [] → PartOf S x
      → (TypedStates τ S → T (typed τ i.kind) → T (agrees τ (Assign d x t))) → Shown σ τ S n i (hand_on S d t x o)
  unfolding hand_on tracked
  shown_hand d t x none de pa h = Shown.assigned_so one_extract d x t de pa (λ ts ag. h ts (counted_typed false τ i.kind ag))
  shown_hand d t x (some xs) de pa h = Shown.left_out _ _ _

  -- an extract
  shown_extract : (d : ValueId) (t : TypeId) (o : Option Value) → dests i.kind ≡ d ∷ [] → ((x : Value) → o ≡ some x → PartOf S x)
      → ((x : Value) → o ≡ some x → TypedStates τ S → T (typed τ i.kind) → T (agrees τ (Assign d x t)))
      → Shown σ τ S n i (step_extract S (stays σ τ S n i) d t o)
  unfolding step_extract
  shown_extract d t none de pa h = Shown.stays_so
  shown_extract d t (some x) de pa h = shown_hand d t x (state_of S x) de (pa x refl) (h x refl)

  -- a Load whose chain was walked
  shown_loaded : (d : ValueId) (t : TypeId) (o : Option Value) → dests i.kind ≡ d ∷ [] → ((x : Value) → o ≡ some x → PartOf S x)
      → ((x : Value) → o ≡ some x → TypedStates τ S → T (typed τ i.kind) → T (agrees τ (Assign d x t)))
      → Shown σ τ S n i (step_loaded τ S (stays σ τ S n i) d t o)
  unfolding step_loaded
  shown_loaded d t none de pa h = Shown.stays_so
  shown_loaded d t (some x) de pa h = shown_hand d t x _ de (pa x refl) (h x refl)

  -- a Load
  shown_load : (d : ValueId) (p : Place) (t : TypeId) (o : Option ℕ) → i.kind ≡ Load d p t → dests i.kind ≡ d ∷ [] → first_integer p.projections ≡ o
      → Shown σ τ S n i (step_load τ S (stays σ τ S n i) d p t o)
  unfolding step_load
  shown_load d p t none q de e = Shown.stays_so
  shown_load d p t (some k) q de e =
      shown_loaded d t _ de
      (λ x h. elim (on_some_inv (S p.base.0) (λ xs. chain τ S (Value.Operand p.base) p.projections) x h)
      [ through xs lk ch ↦ loaded_part τ S (Value.Operand p.base) p.projections k x e ch ])
      (λ x h ts ty. elim (on_some_inv (S p.base.0) (λ xs. chain τ S (Value.Operand p.base) p.projections) x h)
      [ through xs lk ch ↦ load_agrees τ S d p t xs x lk ch ts (rw q at ty) ])

module _ (σ : Settings) (τ : Types) (φ : ValueId → Bool) (S : AggStates) (n : ℕ) where
  -- every kind
  shown_kind : (a : Meta) (k : InstructionKind) → let i : Instruction = record { meta = a; kind = k } in Shown σ τ S n i (step_kind σ τ φ S n i k)
  unfolding step_kind
  shown_kind a (Assign d x t) = shown_assign σ τ S n _ d _
  shown_kind a (UnaryOp op d x) = Shown.stays_so
  shown_kind a (BinaryOp op d x y) = Shown.stays_so
  shown_kind a (Call ds f xs ps rs) = Shown.stays_so
  shown_kind a (Cast d x t u) = Shown.stays_so
  shown_kind a (Load d p t) = shown_guarded σ τ S n _ _ _ (shown_load σ τ S n _ d p t (first_integer p.projections) refl refl refl)
  shown_kind a (Store p x t) = shown_guarded σ τ S n _ _ _ (shown_store σ τ S n _ _)
  shown_kind a (Debug m xs) = Shown.stays_so
  shown_kind a Nop = Shown.stays_so
  shown_kind a (Phi d t ss) = Shown.stays_so
  shown_kind a (MakeTuple d xs) = shown_build σ τ S n _ d _
  shown_kind a (ExtractTupleElement d x k t) =
      shown_guarded σ τ S n _ _ _ (shown_extract σ τ S n _ d t (on_some (state_of S x) (λ xs. get_elem? xs k)) refl
      (λ z h. step_of_part τ S x (Tuple k) z (element_step τ S x k ∙ h)) (element_agrees τ S d x k t))
  shown_kind a (MakeStruct d fs t) = shown_build σ τ S n _ d _
  shown_kind a (ExtractStructField d x f t) =
      shown_guarded σ τ S n _ _ _
      (shown_extract σ τ S n _ d t (on_some (extract_index τ x f) (λ k. on_some (state_of S x) (λ xs. get_elem? xs k))) refl
      (λ z h. step_of_part τ S x (Field f) z (field_step τ S x f ∙ h)) (field_agrees τ S d x f t))
  shown_kind a (InsertField d x f y t) = shown_guarded σ τ S n _ _ _ (shown_insert σ τ S n _ d _)
  shown_kind a (InsertTuple d x k y t) = shown_guarded σ τ S n _ _ _ (shown_insert σ τ S n _ d _)
  shown_kind a (MakeFixedArray d xs t c) = shown_build σ τ S n _ d _
  shown_kind a (AssertEq x y) = Shown.stays_so
  shown_kind a (HeapAllocCells d x) = Shown.stays_so

-- what each step makes of its instruction
pub shown : (σ : Settings) (τ : Types) (φ : ValueId → Bool) (S : AggStates) (n : ℕ) (i : Instruction) → Shown σ τ S n i (step σ τ φ S n i)
unfolding step
shown σ τ φ S n i = shown_kind σ τ φ S n i.meta i.kind
