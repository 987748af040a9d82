-- Stores: one that stays, and one that changes the parts of a tracked value.
use mathlib.Core.Path.{◌≡◌, refl, ◌∙◌}
use Prim.Native.Nat.{ℕ, zero, suc, ◌+◌}
use mathlib.Core.Bool.{Bool, false, not, ◌&&◌, ◌||◌}
use mathlib.Core.Option.{Option, none, some}
use mathlib.Core.List.{List, [], ◌∷◌, ◌++◌}
use lib.Dec.{T, T_not, ltb}
use lib.ListN.{get_elem?}
use Rattle.mir.specs.declared.ValueId.{ValueId}
use Rattle.mir.specs.declared.TypeId.{TypeId}
use Rattle.mir.specs.declared.Value.{Value}
use Rattle.mir.specs.MirType.{MirType}
use Rattle.mir.specs.declared.Projection.{Projection}
use Rattle.mir.specs.declared.Projection.TheVariants.{Index, Field, Tuple}
use Rattle.mir.specs.Syntax.{Meta, Place, Instruction, Terminator, Store}
use Rattle.mir.specs.Reads.{operand, operands, indices}
use Rattle.mir.specs.Lookup.{Types, row_of, recorded_type, value_row, is_array, is_aggregate, on_some}
use Rattle.mir.specs.declared.Literal.{Literal}
use Rattle.rewrite.specs.State.{AggStates, insert_state, state_of, first_integer, store_part, store_from, forward_store, store_deeper}
use Rattle.rewrite.specs.State as St
use Rattle.rewrite.specs.Piece.{one_insert, left}
use Rattle.rewrite.specs.Stays.{stays}
use Rattle.rewrite.specs.Step.{step_store, step_kind, walkable}
use Rattle.machine.specs.Values.{Val, Vals, ends, then, nth, put, part_of, as_aggregate, with_part}
use Rattle.mir.specs.Parts.{part_type, is_pointer}
use Rattle.machine.specs.Places.{part_row, step_position, changed}
use Rattle.machine.specs.Evaluate.{eval, indexed, eval_step, cons_step, eval_steps}
use Rattle.machine.specs.Exec.{need, choose, exec}
use Rattle.shelf.specs.Lists.{every, among}
use Rattle.shelf.specs.Fits.{same_type, fits, step_type, place_type}
use Rattle.machine_simulation.specs.Typing.{typed}
use Rattle.shelf.specs.Reads.{defined_in, is_deep, shallow}
use Rattle.machine_simulation.proofs.Tools.{both_l, both_r, none_some, every_r}
use Rattle.machine_simulation.proofs.Frame.{cond_some}
use Rattle.machine_simulation.proofs.Invariant.{Ctx, once_later}
use Rattle.machine_simulation.proofs.Generic.{Good, ok_later, walks, Sim, SimP, reads_low}
use Rattle.machine_simulation.proofs.Cases.{more, base_other, reads_calm, parts_free, is_typed, left_go, same_type→eq, at}
use Rattle.machine_simulation.proofs.Builds.{through, on_some_inv}
use Rattle.machine_simulation.proofs.Takes.{is_val, cons_val_inv, sim_guarded}
use Rattle.machine_simulation.proofs.Loads.{tracked_no_pointer, array_part, cond_true}
use Rattle.machine_simulation.proofs.Puts.{NewPart, parts_replaced, whole_replaced, PutsIn, put_makes}
use Rattle.machine_simulation.proofs.Stays.{sim_stays}

-- ---- a Store of one projection into a tracked value

-- a part that is replaced was there
put_nth : {A : Type 0} (vs : Vals A) (k : ℕ) (z : Val A) (zs : Vals A) → put vs k z ≡ some zs → (p : Val A) × (nth vs k ≡ some p)
unfolding put nth
put_nth ends k z zs h = absurd (none_some h)
put_nth (then v vs) zero z zs h = (v, refl)
put_nth (then v vs) (suc k) z zs h = elim (cons_val_inv (some v) (put vs k z) zs h) [ is_val a us f r b ↦ put_nth vs k z us r ]

-- the step, and the part it names
abbrev number_step : ℕ → Projection
number_step k = Index (Value.Literal (Literal.Integer k))

-- an Integer literal names the part of its number
integer_position : {A : Type 0} (κ : Ctx A) (k : ℕ) → κ.mean.position (κ.mean.literal (Literal.Integer k) none) ≡ some k
integer_position κ k = κ.mean.literal_position k

-- what a Store of one projection does
store_puts : {A : Type 0} (κ : Ctx A) (m : Meta) (b : ValueId) (k : ℕ) (y : Value) (u : TypeId) → is_pointer (value_row κ.types b) ≡ false
    → part_type (value_row κ.types b) k ≡ some u
    → PutsIn κ (at m (Store (record { base = b; projections = number_step k ∷ [] }) y u)) b b k (part_row κ.types (value_row κ.types b) k) y
unfolding PutsIn exec need eval eval_steps eval_step cons_step indexed choose changed on_some step_position part_of with_part as_aggregate part_row
store_puts κ m b k y u np pt E w vs a =
    rw pt (λ e. rw a (rw e), λ z zs e h. let q = put_nth vs k z zs h in rw a (rw e (rw np (rw (integer_position κ k) (rw q.1 (rw h))))))

-- the stored value may become a part
new_part : {A : Type 0} (κ : Ctx A) (m : Meta) (p : Place) (y : Value) (u : TypeId) (is : List Instruction) (t : Terminator)
    → Good κ (at m (Store p y u) ∷ is) t → NewPart κ (at m (Store p y u) ∷ is) y
new_part κ m p y u is t g =
    let i : Instruction = at m (Store p y u) in
    let cq : ValueId → Bool = λ v. not (among v.0 (defined_in (i ∷ is))) in
    let lq : ValueId → Bool = λ v. ltb v.0 κ.m in
    let is' = operands (indices p.projections) in
    record {
      calm = every_r cq is' (operand y []) (both_r (cq p.base) (every cq (is' ++ operand y [])) (reads_calm κ i is t g));
      free = parts_free κ i is t g;
      low = every_r lq is' (operand y []) (both_r (lq p.base) (every lq (is' ++ operand y [])) (reads_low κ i is t g));
    }

-- the place's type, of a base that is no pointer
pub store_type : (a c d e : Bool) → c ≡ false → T (a && (c || (d && e))) → T e
store_type a c d e z t = both_r d e (rw z at (both_r a (c || (d && e)) t))

-- an Index walks arrays
pub array_step : (row : Option MirType) (k : ℕ) (u : TypeId) → step_type row (number_step k) ≡ some u → part_type row k ≡ some u
unfolding step_type
array_step row k u e = array_part row (cond_true (is_array row) (part_type row 0) u e) k 0 ∙ cond_some (is_array row) (part_type row 0) u e

-- the one projection is an Integer literal, so its base is an array
stored_at : {A : Type 0} (κ : Ctx A) (φ : ValueId → Bool) (m : Meta) (b : ValueId) (k : ℕ) (y : Value) (u : TypeId) (is : List Instruction)
    (t : Terminator) (S : AggStates) (n : ℕ) (xs ys : List Value) → Sim κ φ is t → S b.0 ≡ some xs → St.replaced xs k y ≡ some ys
    → SimP κ φ (at m (Store (record { base = b; projections = number_step k ∷ [] }) y u)) is t S n (left one_insert [] (insert_state S b ys))
unfolding left typed place_type value_row
stored_at κ φ m b k y u is t S n xs ys sim lk h E F w rec le tk ag g ok fn =
    let τ : Types = κ.types in
    let p : Place = record { base = b; projections = number_step k ∷ [] } in
    let i : Instruction = at m (Store p y u) in
    let z = tk b.0 xs lk in
    let np = tracked_no_pointer κ E (i ∷ is) b xs z in
    let ty : T (same_type (step_type (row_of τ (recorded_type τ b)) (number_step k)) (some u)) =
    store_type (fits τ y (some u)) (is_pointer (value_row τ b)) (is_aggregate (value_row τ b)) (same_type (step_type (row_of τ (recorded_type τ b)) (number_step k)) (some u)) np (is_typed κ i is t g) in
    let fy : T (fits τ y (some u)) = both_l (fits τ y (some u)) _ (is_typed κ i is t g) in
    let pt : part_type (row_of τ (recorded_type τ b)) k ≡ some u = array_step (row_of τ (recorded_type τ b)) k u (same_type→eq _ _ ty) in
    left_go κ φ i is t S (n + 0) b ys E F w rec sim (more κ.m n le) tk ag g (ok_later κ n (left one_insert [] (insert_state S b ys)) (walks κ φ (insert_state S b ys) (n + 0) is t) ok)
    (parts_replaced κ (i ∷ is) xs k y ys z.parts (new_part κ m p y u is t g) h)
    (whole_replaced τ (recorded_type τ b) xs k y ys z.shape (rw pt fy) h) z.gone (once_later i is b.0 z.once)
    (λ v nn. base_other τ v b nn)
    (put_makes κ i (i ∷ is) b b k y E w xs ys (store_puts κ m b k y u np pt) z refl h (eval κ.mean E (part_row τ (value_row τ b) k) y) refl) fn

-- which Stores are forwarded
pub first_number : (q : Projection) (ps : List Projection) (k : ℕ) → first_integer (q ∷ ps) ≡ some k → q ≡ number_step k
unfolding first_integer
first_number (Index (Value.Literal (Literal.Integer j))) ps k e = let z : j ≡ k = cc in rw z
first_number (Index (Value.Literal (Literal.Boolean b))) ps k e = absurd (none_some e)
first_number (Index (Value.Literal Literal.Unit)) ps k e = absurd (none_some e)
first_number (Index (Value.Operand v)) ps k e = absurd (none_some e)
first_number (Index Value.Error) ps k e = absurd (none_some e)
first_number (Field n) ps k e = absurd (none_some e)
first_number (Tuple j) ps k e = absurd (none_some e)

-- the base of a deep Store is not dropped
deep_base : {A : Type 0} (κ : Ctx A) (m : Meta) (b : ValueId) (q r : Projection) (ps : List Projection) (y : Value) (u : TypeId)
    (is : List Instruction) (t : Terminator) → Good κ (at m (Store (record { base = b; projections = q ∷ r ∷ ps }) y u) ∷ is) t
    → T (not (κ.dr b.0))
unfolding shallow is_deep
deep_base κ m b q r ps y u is t g = both_l (not (κ.dr b.0)) (every (λ j. shallow κ.dr j.kind) is) g.deeps

-- one projection: the part is replaced
pub data Forwarded (S : AggStates) (b : ValueId) (q : Projection) (y : Value) (S' : AggStates) : Type 0 where
  forwarded : (k : ℕ) (xs ys : List Value) → q ≡ number_step k → S b.0 ≡ some xs → St.replaced xs k y ≡ some ys → insert_state S b ys ≡ S'
      → Forwarded S b q y S'

-- one projection
one_forward : (τ : Types) (S S' : AggStates) (b : ValueId) (q : Projection) (y : Value)
    → forward_store τ S (record { base = b; projections = q ∷ [] }) y ≡ some S' → Forwarded S b q y S'
unfolding forward_store store_from store_part
one_forward τ S S' b q y e =
    elim (on_some_inv (first_integer (q ∷ [])) (λ k. on_some (S b.0) (λ xs. on_some (St.replaced xs k y) (λ ys. some (insert_state S b ys)))) S' e) [
      | through k e1 e2 ↦ elim (on_some_inv (S b.0) (λ xs. on_some (St.replaced xs k y) (λ ys. some (insert_state S b ys))) S' e2) [
        | through xs e3 e4 ↦ elim (on_some_inv (St.replaced xs k y) (λ ys. some (insert_state S b ys)) S' e4)
            [ through ys e5 e6 ↦ forwarded k xs ys (first_number q [] k e1) e3 e5 (state_is ys e6) ]
      ]
    ]
  where
    state_is : (ys : List Value) → some (insert_state S b ys) ≡ some S' → insert_state S b ys ≡ S'
    state_is ys z = cc

-- more: the base is tracked
deep_forward : (τ : Types) (S S' : AggStates) (b : ValueId) (q r : Projection) (ps : List Projection) (y : Value)
    → forward_store τ S (record { base = b; projections = q ∷ r ∷ ps }) y ≡ some S' → (xs : List Value) × (S b.0 ≡ some xs)
unfolding forward_store store_from
deep_forward τ S S' b q r ps y e =
    elim (on_some_inv (first_integer (q ∷ r ∷ ps)) (λ k. on_some (S b.0) (λ xs. on_some (get_elem? xs k) (λ x. store_deeper τ S x (r ∷ ps) y))) S' e) [
      | through k e1 e2 ↦ elim (on_some_inv (S b.0) (λ xs. on_some (get_elem? xs k) (λ x. store_deeper τ S x (r ∷ ps) y)) S' e2) [ through xs e3 e4 ↦ (xs, e3) ]
    ]

-- no projection: not forwarded
no_forward : (τ : Types) (S S' : AggStates) (b : ValueId) (y : Value) → forward_store τ S (record { base = b; projections = [] }) y ≡ some S' → ⊥
unfolding forward_store first_integer on_some
no_forward τ S S' b y e = none_some e

-- a Store that is forwarded
forward_go : {A : Type 0} (κ : Ctx A) (φ : ValueId → Bool) (m : Meta) (b : ValueId) (ps : List Projection) (y : Value) (u : TypeId)
    (is : List Instruction) (t : Terminator) (S S' : AggStates) (n : ℕ) → Sim κ φ is t
    → forward_store κ.types S (record { base = b; projections = ps }) y ≡ some S'
    → SimP κ φ (at m (Store (record { base = b; projections = ps }) y u)) is t S n (left one_insert [] S')
forward_go κ φ m b [] y u is t S S' n sim e = absurd (no_forward κ.types S S' b y e)
forward_go κ φ m b (q ∷ []) y u is t S S' n sim e =
    elim (one_forward κ.types S S' b q y e) [ forwarded k xs ys eq lk h es ↦ rw eq (rw (← es) (stored_at κ φ m b k y u is t S n xs ys sim lk h)) ]
forward_go κ φ m b (q ∷ r ∷ ps) y u is t S S' n sim e = λ E F w rec le tk ag g ok fn.
    let z = deep_forward κ.types S S' b q r ps y e in
    absurd (T_not (κ.dr b.0) (deep_base κ m b q r ps y u is t g) (tk b.0 z.0 z.1).gone)

-- a Store: forwarded, or it stays
store_go : {A : Type 0} (κ : Ctx A) (φ : ValueId → Bool) (m : Meta) (p : Place) (x : Value) (u : TypeId) (is : List Instruction) (t : Terminator)
    (S : AggStates) (n : ℕ) → Sim κ φ is t
    → (o : Option AggStates) → forward_store κ.types S p x ≡ o
    → SimP κ φ (at m (Store p x u)) is t S n (step_store S (stays κ.set κ.types S n (at m (Store p x u))) o)
unfolding step_store
store_go κ φ m p x u is t S n sim none e = sim_stays κ φ (at m (Store p x u)) is t S n sim
store_go κ φ m p x u is t S n sim (some S') e = forward_go κ φ m p.base p.projections x u is t S S' n sim e

-- a Store
pub sim_store : {A : Type 0} (κ : Ctx A) (φ : ValueId → Bool) (m : Meta) (p : Place) (x : Value) (u : TypeId) (is : List Instruction) (t : Terminator)
    (S : AggStates) (n : ℕ) → Sim κ φ is t
    → SimP κ φ (at m (Store p x u)) is t S n (step_kind κ.set κ.types φ S n (at m (Store p x u)) (Store p x u))
unfolding step_kind
sim_store κ φ m p x u is t S n sim =
    sim_guarded κ φ (at m (Store p x u)) is t S n (κ.set.tuples && walkable κ.set.edition p) _ sim (store_go κ φ m p x u is t S n sim (forward_store κ.types S p x) refl)
