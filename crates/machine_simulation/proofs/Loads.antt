-- A Load through a chain of tracked values.
use mathlib.Core.Path.{◌≡◌, refl, ap, sym, ◌∙◌}
use Prim.Native.Nat.{ℕ}
use mathlib.Core.Bool.{Bool, true, false, cond, ◌&&◌, ◌||◌}
use mathlib.Core.Option.{Option, none, some}
use mathlib.Core.List.{List, [], ◌∷◌}
use lib.Dec.{T, eqb_refl, ltb}
use lib.ListN.{length, get_elem?}
use Rattle.mir.specs.declared.ValueId.{ValueId}
use Rattle.mir.specs.declared.TypeId.{TypeId}
use Rattle.mir.specs.declared.Literal.{Literal}
use Rattle.mir.specs.declared.Value.{Value}
use Rattle.mir.specs.MirType.{MirType}
use Rattle.mir.specs.declared.Projection.{Projection}
use Rattle.mir.specs.declared.Projection.TheVariants.{Index, Field, Tuple}
use Rattle.mir.specs.Syntax.{Meta, Place, Instruction, Terminator, Load}
use Rattle.mir.specs.Reads.{operand, operands, indices}
use Rattle.mir.specs.Lookup.{Types, row_of, recorded_type, value_row, shape, is_tuple, is_array, struct_fields_of, as_const_integer, on_some}
use Rattle.bytes_struct.specs.FindField.{find_from, find_field, field_type_of}
use Rattle.bytes_struct.proofs.Laws.{index_type}
use Rattle.mir.specs.MirType as Y
use Rattle.rewrite.specs.State.{AggStates, state_of, step_index, step_part, chain, first_integer}
use Rattle.rewrite.specs.Rebuild.{aggregate_type}
use Rattle.rewrite.specs.Stays.{stays}
use Rattle.rewrite.specs.Step.{hand_on, step_loaded, step_load, step_kind, walkable}
use Rattle.machine.specs.Values.{Val, Vals, aggregate, nth, part_of}
use Rattle.machine.specs.Records.{Env, goes, Step, index, field, tuple}
use Rattle.mir.specs.Parts.{part_type, part_count, is_pointer}
use Rattle.machine.specs.Places.{part_row, step_position, walked}
use Rattle.machine.specs.Evaluate.{eval, indexed, eval_step, cons_step, eval_steps}
use Rattle.machine.specs.Exec.{need, choose, exec}
use Rattle.shelf.specs.Lists.{every}
use Rattle.shelf.specs.Fits.{same_type, fits, step_type, place_type, literal_kind}
use Rattle.shelf.specs.Agrees.{is_index, index_fits}
use Rattle.machine_simulation.specs.Typing.{Whole, leads_to, typed}
use Rattle.machine_simulation.proofs.Tools.{both_l, both_r, both, none_some, is_none, is_some, opt}
use Rattle.machine_simulation.proofs.Frame.{changed_base, cond_some}
use Rattle.machine_simulation.proofs.Invariant.{Ctx, Tracked, Tracks}
use Rattle.machine_simulation.proofs.Generic.{Good, does, Sim, SimP, reads_low}
use Rattle.machine_simulation.proofs.Cases.{is_typed, same_type→eq, fits_type, same_row, operand_eval, at}
use Rattle.machine_simulation.proofs.Builds.{through, on_some_inv}
use Rattle.machine_simulation.proofs.Takes.{nth_eval, operand_at, Took, takes, sim_guarded, taken}
use Rattle.machine_simulation.proofs.Stays.{sim_stays}

-- ---- one step

-- the part that a step leads to in the pass is the machine's, and its type is the step's
pub data Steps {A : Type 0} (κ : Ctx A) (E : Env A) (row : Option MirType) (p : Projection) (k : ℕ) (q : TypeId) : Type 0 where
  steps : (s : Step A) → eval_step κ.mean E p ≡ some s → step_position κ.mean row s ≡ some k → part_type row k ≡ some q → Steps κ E row p k q

-- an array's parts have one type
pub array_part : (row : Option MirType) → T (is_array row) → (j k : ℕ) → part_type row j ≡ part_type row k
unfolding is_array shape part_type
array_part (some (Y.FixedArray t size)) a j k = refl
array_part none a j k = elim a [ ]
array_part (some Y.Felt) a j k = elim a [ ]
array_part (some Y.Bool) a j k = elim a [ ]
array_part (some Y.U32) a j k = elim a [ ]
array_part (some (Y.Tuple _)) a j k = elim a [ ]
array_part (some (Y.Struct _ _)) a j k = elim a [ ]
array_part (some (Y.Pointer _)) a j k = elim a [ ]
array_part (some (Y.Function _ _)) a j k = elim a [ ]
array_part (some Y.Unit) a j k = elim a [ ]
array_part (some Y.Error) a j k = elim a [ ]
array_part (some Y.Unknown) a j k = elim a [ ]

-- a test that found something has passed
pub cond_true : {B : Type 0} (b : Bool) (o : Option B) (x : B) → cond b o none ≡ some x → T b
cond_true true o x e = tt
cond_true false o x e = absurd (none_some e)

-- an operand is no literal
no_operand : (v : ValueId) (k : ℕ) → as_const_integer (Value.Operand v) ≡ some k → ⊥
unfolding as_const_integer
no_operand v k e = none_some e

-- nor is Error
no_error : (k : ℕ) → as_const_integer Value.Error ≡ some k → ⊥
unfolding as_const_integer
no_error k e = none_some e

-- an Integer literal as Index: by the meaning's law. Reason 0 has no other literal there
index_steps : {A : Type 0} (κ : Ctx A) (E : Env A) (row : Option MirType) (x : Value) (k : ℕ) (q : TypeId) → T (is_index κ.types x) → as_const_integer x ≡ some k
    → step_type row (Index x) ≡ some q → Steps κ E row (Index x) k q
unfolding step_type eval_step eval indexed step_position is_index literal_kind as_const_integer
index_steps κ E row (Value.Literal (Literal.Integer j)) k q i e ty =
    steps (index (κ.mean.literal (Literal.Integer j) none)) refl (κ.mean.literal_position j ∙ e)
    (array_part row (cond_true (is_array row) (part_type row 0) q ty) k 0 ∙ cond_some (is_array row) (part_type row 0) q ty)
index_steps κ E row (Value.Literal (Literal.Boolean b)) k q i e ty = absurd i
index_steps κ E row (Value.Literal Literal.Unit) k q i e ty = absurd i
index_steps κ E row (Value.Operand v) k q i e ty = absurd (no_operand v k e)
index_steps κ E row Value.Error k q i e ty = absurd (no_error k e)

-- each kind of step
pub one_step : {A : Type 0} (κ : Ctx A) (E : Env A) (v : ValueId) (p : Projection) (k : ℕ) (q : TypeId) → T (index_fits κ.types p)
    → step_index κ.types v p ≡ some k → step_type (value_row κ.types v) p ≡ some q → Steps κ E (value_row κ.types v) p k q
unfolding step_index step_type eval_step step_position index_fits
one_step κ E v (Index x) k q i e ty = index_steps κ E (value_row κ.types v) x k q i e ty
one_step κ E v (Field n) k q i e ty =
    steps (field n) refl e (sym (index_type (value_row κ.types v) n k e) ∙ ty)
one_step κ E v (Tuple j) k q i e ty =
    let z : j ≡ k = cc in
    steps (tuple j) refl e (rw (← z) (cond_some (is_tuple (value_row κ.types v)) (part_type (value_row κ.types v) j) q ty))

-- ---- a chain

-- where a chain leads in the machine: the same value, at the place's type
pub data Chained {A : Type 0} (κ : Ctx A) (E : Env A) (row : Option MirType) (y : Val A) (ps : List Projection) (x : Value) (u : TypeId) : Type 0 where
  chained : (ss : List (Step A)) (z : Val A) → eval_steps κ.mean E ps ≡ some ss → walked κ.mean κ.types row y ss ≡ some z
      → eval κ.mean E (row_of κ.types (some u)) x ≡ some z
      → T (fits κ.types x (some u)) → T (every (λ v. ltb v.0 κ.m) (operand x [])) → Chained κ E row y ps x u

-- one step from a tracked value
pub data Stepped (τ : Types) (S : AggStates) (x : Value) (p : Projection) (z : Value) : Type 0 where
  stepped : (v : ValueId) (k : ℕ) (xs : List Value) → x ≡ Value.Operand v → step_index τ v p ≡ some k → S v.0 ≡ some xs → get_elem? xs k ≡ some z
      → Stepped τ S x p z

-- a step that found a part started at a tracked operand
pub step_inv : (τ : Types) (S : AggStates) (x : Value) (p : Projection) (z : Value) → step_part τ S x p ≡ some z → Stepped τ S x p z
unfolding step_part
step_inv τ S (Value.Literal l) p z e = absurd (none_some e)
step_inv τ S (Value.Operand v) p z e =
    elim (on_some_inv (step_index τ v p) (λ k. on_some (S v.0) (λ xs. get_elem? xs k)) z e)
    [ through k a e' ↦ elim (on_some_inv (S v.0) (λ xs. get_elem? xs k) z e') [ through xs b c ↦ stepped v k xs refl a b c ] ]
step_inv τ S Value.Error p z e = absurd (none_some e)

-- the machine's walk, one step
walked_cons : {A : Type 0} (κ : Ctx A) (row : Option MirType) (vs : Vals A) (s : Step A) (ss : List (Step A)) (k : ℕ) (y : Val A) (q : TypeId)
    → step_position κ.mean row s ≡ some k → nth vs k ≡ some y → part_type row k ≡ some q
    → walked κ.mean κ.types row (aggregate vs) (s ∷ ss) ≡ walked κ.mean κ.types (row_of κ.types (some q)) y ss
unfolding walked on_some part_of part_row
walked_cons κ row vs s ss k y q a b c = rw a (rw b (rw c))

-- the steps, one more
eval_steps_cons : {A : Type 0} (κ : Ctx A) (E : Env A) (p : Projection) (ps : List Projection) (s : Step A) (ss : List (Step A))
    → eval_step κ.mean E p ≡ some s → eval_steps κ.mean E ps ≡ some ss → eval_steps κ.mean E (p ∷ ps) ≡ some (s ∷ ss)
unfolding eval_steps cons_step
eval_steps_cons κ E p ps s ss a b = rw (a, b)

-- what has no type has no part of a type
no_step : (p : Projection) → step_type none p ≡ none
unfolding step_type field_type_of is_array is_tuple shape struct_fields_of find_from find_field
no_step (Index x) = refl
no_step (Field n) = refl
no_step (Tuple k) = refl

-- from no type no place has one
pub nowhere : (τ : Types) (ps : List Projection) → place_type τ none ps ≡ none
unfolding place_type row_of
nowhere τ [] = refl
nowhere τ (p ∷ ps) = ap (λ t. place_type τ t ps) (no_step p) ∙ nowhere τ ps

-- so none is found
pub no_place : (τ : Types) (ps : List Projection) (u : TypeId) → place_type τ none ps ≡ some u → ⊥
no_place τ ps u e = none_some (sym (nowhere τ ps) ∙ e)

-- an operand that is read was written
operand_value : {A : Type 0} (κ : Ctx A) (E : Env A) (v : ValueId) (row : Option MirType) (y : Val A)
    → eval κ.mean E row (Value.Operand v) ≡ some y → E v.0 ≡ some y
unfolding eval
operand_value κ E v row y h = h

-- one step of a chain
chain_step : {A : Type 0} (κ : Ctx A) (S : AggStates) (E : Env A) (is : List Instruction) → Tracks κ S E is
    → (p : Projection) (ps : List Projection) (v : ValueId) (k : ℕ) (xs : List Value) (z x' : Value) (u q : TypeId) (y : Val A) → E v.0 ≡ some y
    → T (index_fits κ.types p) → step_index κ.types v p ≡ some k → S v.0 ≡ some xs → get_elem? xs k ≡ some z → step_type (value_row κ.types v) p ≡ some q
    → ((y' : Val A) → eval κ.mean E (row_of κ.types (some q)) z ≡ some y' → T (fits κ.types z (some q)) → T (every (λ a. ltb a.0 κ.m) (operand z [])) → Chained κ E (row_of κ.types (some q)) y' ps x' u)
    → Chained κ E (value_row κ.types v) y (p ∷ ps) x' u
unfolding part_row value_row
chain_step κ S E is tk p ps v k xs z x' u q y ey fi ix lk ge ty ih =
    let τ : Types = κ.types in
    let h = tk v.0 xs lk in
    let ye : y ≡ aggregate h.vals = same_value h.vals h.whole in
    let r = nth_eval κ E (part_row τ (value_row τ v)) xs h.vals k z h.each ge in
    elim (one_step κ E v p k q fi ix ty) [
      | steps s es ep pt ↦
          elim (ih r.0 (rw pt at r.2) (rw pt at (h.shape.each k z ge)) (operand_at (λ a. ltb a.0 κ.m) xs k z h.parts.low ge)) [
            | chained ss o c1 c2 c3 c4 c5 ↦
                rw ye (chained (s ∷ ss) o (eval_steps_cons κ E p ps s ss es c1) (walked_cons κ (value_row τ v) h.vals s ss k r.0 q ep r.1 pt ∙ c2) c3 c4 c5)
          ]
    ]
  where
    same_value : (vs : Vals _) → E v.0 ≡ some (aggregate vs) → y ≡ aggregate vs
    same_value vs z = cc

-- a chain through tracked values leads where the machine's walk does
pub chain_eval : {A : Type 0} (κ : Ctx A) (S : AggStates) (E : Env A) (is : List Instruction) → Tracks κ S E is
    → (ps : List Projection) (x x' : Value) (ty : Option TypeId) (u : TypeId) (y : Val A) → eval κ.mean E (row_of κ.types ty) x ≡ some y
    → T (fits κ.types x ty) → T (every (λ v. ltb v.0 κ.m) (operand x [])) → chain κ.types S x ps ≡ some x'
    → place_type κ.types ty ps ≡ some u → T (every (index_fits κ.types) ps) → Chained κ E (row_of κ.types ty) y ps x' u
unfolding chain eval_steps walked place_type
chain_eval κ S E is tk [] x x' ty u y ev fi lo e pt ix = let q : x ≡ x' = cc in rw pt (chained [] y refl refl (rw (← q) (rw pt at ev)) (rw (← q) (rw pt at fi)) (rw (← q) lo))
chain_eval κ S E is tk (p ∷ ps) x x' ty u y ev fi lo e pt fs =
    let τ : Types = κ.types in
    elim (on_some_inv (step_part τ S x p) (λ z. chain τ S z ps) x' e) [
      | through z sp ch ↦ elim (step_inv τ S x p z sp) [
        | stepped v k xs q ix lk ge ↦
            let te : recorded_type τ v ≡ ty = fits_type τ v ty (rw q at fi) in
            let re : value_row τ v ≡ row_of τ ty = same_row τ v ty te in
            elim (opt (step_type (row_of τ ty) p)) [
              | is_none n ↦ absurd (no_place τ ps u (rw n at pt))
              | is_some o so ↦
                  rw (← re) (chain_step κ S E is tk p ps v k xs z x' u o y (operand_value κ E v (row_of τ ty) y (rw q at ev)) (both_l (index_fits τ p) (every (index_fits τ) ps) fs) ix lk ge (rw re so)
                  (λ y' ey fz lz. chain_eval κ S E is tk ps z x' (some o) u y' ey fz lz ch (rw so at pt) (both_r (index_fits τ p) (every (index_fits τ) ps) fs)))
            ]
      ]
    ]

-- ---- the Load

-- a tracked value is no pointer
pub no_pointer : (row : Option MirType) (n : ℕ) → part_count row ≡ some n → is_pointer row ≡ false
unfolding part_count is_pointer
no_pointer none n h = refl
no_pointer (some Y.Felt) n h = refl
no_pointer (some Y.Bool) n h = refl
no_pointer (some Y.U32) n h = refl
no_pointer (some (Y.Tuple ts)) n h = refl
no_pointer (some (Y.Struct a fs)) n h = refl
no_pointer (some (Y.FixedArray t size)) n h = refl
no_pointer (some (Y.Pointer t)) n h = absurd (none_some h)
no_pointer (some (Y.Function ps r)) n h = refl
no_pointer (some Y.Unit) n h = refl
no_pointer (some Y.Error) n h = refl
no_pointer (some Y.Unknown) n h = refl

-- so a Load or Store on it is no outside event
pub tracked_no_pointer : {A : Type 0} (κ : Ctx A) (E : Env A) (is : List Instruction) (v : ValueId) (xs : List Value) → Tracked κ E is v.0 xs
    → is_pointer (value_row κ.types v) ≡ false
unfolding value_row
tracked_no_pointer κ E is v xs z = no_pointer (row_of κ.types (recorded_type κ.types v)) (length xs) z.shape.sized

-- what a Load from an aggregate does
load_does : {A : Type 0} (κ : Ctx A) (m : Meta) (d : ValueId) (p : Place) (u : TypeId) (E : Env A) (w : List (Val A)) (b z : Val A)
    (ss : List (Step A)) → E p.base.0 ≡ some b → eval_steps κ.mean E p.projections ≡ some ss
    → is_pointer (value_row κ.types p.base) ≡ false → walked κ.mean κ.types (value_row κ.types p.base) b ss ≡ some z
    → does κ (at m (Load d p u)) E w ≡ goes ((d, z) ∷ []) w []
unfolding exec need choose
load_does κ m d p u E w b z ss e1 e2 e3 e4 = rw e1 (rw e2 (rw e3 (rw e4)))

-- an operand fits its own type
pub own_fits : (τ : Types) (v : ValueId) (t : TypeId) → recorded_type τ v ≡ some t → T (fits τ (Value.Operand v) (recorded_type τ v))
unfolding fits same_type
own_fits τ v t e = rw e (eqb_refl t.0)

-- what has parts has a type
pub has_type_lem : (τ : Types) (t : Option TypeId) (xs : List Value) → Whole τ t xs → (u : TypeId) × (t ≡ some u)
unfolding row_of part_count
has_type_lem τ none xs h = absurd (none_some h.sized)
has_type_lem τ (some t) xs h = (t, refl)

-- the place's type, of a base that is no pointer
pub load_type : (p : Bool) (a b : Bool) → p ≡ false → T (p || (a && b)) → T (a && b)
load_type p a b e t = rw e at t

-- the value that stands for what is loaded
load_took : {A : Type 0} (κ : Ctx A) (m : Meta) (d : ValueId) (p : Place) (u : TypeId) (is : List Instruction) (t : Terminator) (S : AggStates)
    (x : Value) (xs : List Value) (E : Env A)
    → Tracks κ S E (at m (Load d p u) ∷ is) → Good κ (at m (Load d p u) ∷ is) t → S p.base.0 ≡ some xs
    → chain κ.types S (Value.Operand p.base) p.projections ≡ some x → Took κ E (at m (Load d p u)) d u x
unfolding typed
load_took κ m d p u is t S x xs E tk g lk ch =
    let τ : Types = κ.types in
    let i : Instruction = at m (Load d p u) in
    let z = tk p.base.0 xs lk in
    let np = tracked_no_pointer κ E (i ∷ is) p.base xs z in
    let ht = has_type_lem τ (recorded_type τ p.base) xs z.shape in
    let to : Bool = leads_to τ p u && every (index_fits τ) p.projections in
    let ty = load_type (is_pointer (value_row τ p.base)) (same_type (recorded_type τ d) (some u)) to np (is_typed κ i is t g) in
    let pl : T to = both_r (same_type (recorded_type τ d) (some u)) to ty in
    let pt : place_type τ (recorded_type τ p.base) p.projections ≡ some u = same_type→eq _ _ (both_l (leads_to τ p u) (every (index_fits τ) p.projections) pl) in
    let lb : T (ltb p.base.0 κ.m) = both_l (ltb p.base.0 κ.m) (every (λ v. ltb v.0 κ.m) (operands (indices p.projections))) (reads_low κ i is t g) in
    elim (chain_eval κ S E (i ∷ is) tk p.projections (Value.Operand p.base) x (recorded_type τ p.base) u (aggregate z.vals) (operand_eval κ E p.base _ _ z.whole)
    (own_fits τ p.base ht.0 ht.1) (both (ltb p.base.0 κ.m) true lb tt) ch pt (both_r (leads_to τ p u) (every (index_fits τ) p.projections) pl)) [
      | chained ss o c1 c2 c3 c4 c5 ↦
          takes o c5 c4 c3 (λ w. load_does κ m d p u E w (aggregate z.vals) o ss z.whole c1 np (rw (same_row τ p.base (recorded_type τ p.base) refl) c2))
    ]

-- the dest's type: the base is tracked, so the tests of an aggregate base were made. A Load that is handed on needs it; the
-- tracked base is known only while the run is, so it is asked for there
loaded_as : {A : Type 0} (κ : Ctx A) (φ : ValueId → Bool) (m : Meta) (d : ValueId) (p : Place) (u : TypeId) (is : List Instruction) (t : Terminator)
    (S : AggStates) (n : ℕ) (x : Value) (xs : List Value) → Sim κ φ is t
    → S p.base.0 ≡ some xs → chain κ.types S (Value.Operand p.base) p.projections ≡ some x
    → SimP κ φ (at m (Load d p u)) is t S n (hand_on S d u x (on_some (aggregate_type κ.types u) (λ a. state_of S x)))
unfolding changed_base typed
loaded_as κ φ m d p u is t S n x xs sim lk ch E F w rec le tk ag g ok f =
    let τ : Types = κ.types in
    let i : Instruction = at m (Load d p u) in
    let np = tracked_no_pointer κ E (i ∷ is) p.base xs (tk p.base.0 xs lk) in
    let to : Bool = leads_to τ p u && every (index_fits τ) p.projections in
    let ty = load_type (is_pointer (value_row τ p.base)) (same_type (recorded_type τ d) (some u)) to np (is_typed κ i is t g) in
    taken κ φ i is t S n d u x sim (λ v. tt) refl (λ g'. both_l (same_type (recorded_type τ d) (some u)) to ty)
    (λ E' tk' g'. load_took κ m d p u is t S x xs E' tk' g' lk ch)
    (on_some (aggregate_type τ u) (λ a. state_of S x)) (λ ys h. elim (on_some_inv (aggregate_type τ u) (λ a. state_of S x) ys h) [ through a e1 e2 ↦ e2 ]) E F w rec le tk ag g ok f

-- a Load whose chain was looked for
loaded_go : {A : Type 0} (κ : Ctx A) (φ : ValueId → Bool) (m : Meta) (d : ValueId) (p : Place) (u : TypeId) (is : List Instruction) (t : Terminator)
    (S : AggStates) (n : ℕ) → Sim κ φ is t
    → (o : Option Value) → on_some (S p.base.0) (λ xs. chain κ.types S (Value.Operand p.base) p.projections) ≡ o
    → SimP κ φ (at m (Load d p u)) is t S n (step_loaded κ.types S (stays κ.set κ.types S n (at m (Load d p u))) d u o)
unfolding step_loaded changed_base typed
loaded_go κ φ m d p u is t S n sim none e = sim_stays κ φ (at m (Load d p u)) is t S n sim
loaded_go κ φ m d p u is t S n sim (some x) e =
    let τ : Types = κ.types in
    let i : Instruction = at m (Load d p u) in
    elim (on_some_inv (S p.base.0) (λ xs. chain τ S (Value.Operand p.base) p.projections) x e) [
      | through xs lk ch ↦
          loaded_as κ φ m d p u is t S n x xs sim lk ch
    ]

-- a Load whose first projection was looked at
load_go : {A : Type 0} (κ : Ctx A) (φ : ValueId → Bool) (m : Meta) (d : ValueId) (p : Place) (u : TypeId) (is : List Instruction) (t : Terminator)
    (S : AggStates) (n : ℕ) → Sim κ φ is t
    → (o : Option ℕ) → SimP κ φ (at m (Load d p u)) is t S n (step_load κ.types S (stays κ.set κ.types S n (at m (Load d p u))) d p u o)
unfolding step_load
load_go κ φ m d p u is t S n sim none = sim_stays κ φ (at m (Load d p u)) is t S n sim
load_go κ φ m d p u is t S n sim (some k) = loaded_go κ φ m d p u is t S n sim (on_some (S p.base.0) (λ xs. chain κ.types S (Value.Operand p.base) p.projections)) refl

-- a Load
pub sim_load : {A : Type 0} (κ : Ctx A) (φ : ValueId → Bool) (m : Meta) (d : ValueId) (p : Place) (u : TypeId) (is : List Instruction)
    (t : Terminator) (S : AggStates) (n : ℕ) → Sim κ φ is t
    → SimP κ φ (at m (Load d p u)) is t S n (step_kind κ.set κ.types φ S n (at m (Load d p u)) (Load d p u))
unfolding step_kind
sim_load κ φ m d p u is t S n sim =
    sim_guarded κ φ (at m (Load d p u)) is t S n (κ.set.tuples && walkable κ.set.edition p) _ sim (load_go κ φ m d p u is t S n sim (first_integer p.projections))
