-- A part taken out of a tracked value, by an extract.
use mathlib.Core.Path.{◌≡◌, refl, sym, ◌∙◌}
use Prim.Native.Nat.{ℕ, zero, suc}
use mathlib.Core.Bool.{Bool, true, false, not}
use mathlib.Core.Option.{Option, none, some}
use mathlib.Core.List.{List, [], ◌∷◌}
use lib.Dec.{T, ltb}
use lib.ListN.{get_elem?}
use Rattle.mir.specs.declared.ValueId.{ValueId}
use Rattle.mir.specs.declared.TypeId.{TypeId}
use Rattle.mir.specs.declared.Value.{Value}
use Rattle.mir.specs.MirType.{MirType}
use Rattle.mir.specs.Syntax.{Meta, Instruction, Terminator, Assign, ExtractTupleElement, ExtractStructField, plain}
use Rattle.mir.specs.Reads.{operand, operands, dests}
use Rattle.mir.specs.Lookup.{Types, row_of, recorded_type, value_row, on_some}
use Rattle.bytes_struct.specs.FindField.{field_index, field_type_of}
use Rattle.bytes_struct.proofs.Laws.{index_type}
use Rattle.mir.specs.declared.NameId.{NameId}
use Rattle.rewrite.specs.State.{AggStates, state_of}
use Rattle.rewrite.specs.Piece.{Piece, one_extract, assigned}
use Rattle.rewrite.specs.Stays.{guarded, stays}
use Rattle.rewrite.specs.Step.{hand_on, step_extract, extract_index, step_kind}
use Rattle.machine.specs.Values.{Val, Vals, aggregate, then, cons_val, nth, part_of}
use Rattle.machine.specs.Records.{Env, goes}
use Rattle.mir.specs.Parts.{part_type, operand_row}
use Rattle.machine.specs.Places.{part_row}
use Rattle.machine.specs.Evaluate.{eval, eval_all}
use Rattle.machine.specs.Exec.{need, extracted, exec}
use Rattle.shelf.specs.Lists.{every, among}
use Rattle.shelf.specs.Fits.{same_type, fits}
use Rattle.machine_simulation.specs.Typing.{typed}
use Rattle.machine_simulation.proofs.Tools.{both_l, both_r, none_some}
use Rattle.machine_simulation.proofs.Frame.{changes, changed_base, test_head, test_rest}
use Rattle.machine_simulation.proofs.Invariant.{Ctx, Tracked, Tracks}
use Rattle.machine_simulation.proofs.Generic.{Good, does, Sim, SimP}
use Rattle.machine_simulation.proofs.Cases.{replaced, is_typed, seen, see, same_type→eq, handed_on, at}
use Rattle.machine_simulation.proofs.Builds.{through, on_some_inv, assign_does}
use Rattle.machine_simulation.proofs.Stays.{sim_stays}

-- ---- parts of a list of values, and of the aggregate that they are

-- data, not a record: its fields are then variables where it is matched, which no rewriting sees through
pub data ConsVal {A : Type 0} (a : Option (Val A)) (b : Option (Vals A)) (zs : Vals A) : Type 0 where
  is_val : (x : Val A) (xs : Vals A) → a ≡ some x → b ≡ some xs → zs ≡ then x xs → ConsVal a b zs

-- both are there
pub cons_val_inv : {A : Type 0} (a : Option (Val A)) (b : Option (Vals A)) (zs : Vals A) → cons_val a b ≡ some zs → ConsVal a b zs
unfolding cons_val
cons_val_inv none b zs e = absurd (none_some e)
cons_val_inv (some x) none zs e = absurd (none_some e)
cons_val_inv (some x) (some xs) zs e = is_val x xs refl refl cc

-- part k of the values, at its row, is part k of the aggregate
pub nth_eval : {A : Type 0} (κ : Ctx A) (E : Env A) (rows : ℕ → Option MirType) (xs : List Value) (vs : Vals A) (k : ℕ) (x : Value)
    → eval_all κ.mean E rows xs ≡ some vs → get_elem? xs k ≡ some x
    → (y : Val A) × (nth vs k ≡ some y) × (eval κ.mean E (rows k) x ≡ some y)
unfolding eval_all nth
nth_eval κ E rows [] vs k x e h = absurd (none_some h)
nth_eval κ E rows (z ∷ xs) vs zero x e h =
    elim (cons_val_inv (eval κ.mean E (rows zero) z) (eval_all κ.mean E (λ k. rows (suc k)) xs) vs e) [ is_val y ys f r b ↦ let q : z ≡ x = cc in (y, rw b, rw (← q) f) ]
nth_eval κ E rows (z ∷ xs) vs (suc k) x e h =
    elim (cons_val_inv (eval κ.mean E (rows zero) z) (eval_all κ.mean E (λ k. rows (suc k)) xs) vs e)
    [ is_val y ys f r b ↦ let q = nth_eval κ E (λ k. rows (suc k)) xs ys k x r h in (q.0, rw b q.1, q.2) ]

-- a test on the operands of a list holds of each value
pub operand_at : (p : ValueId → Bool) (xs : List Value) (k : ℕ) (x : Value) → T (every p (operands xs)) → get_elem? xs k ≡ some x → T (every p (operand x []))
operand_at p [] k x t h = absurd (none_some h)
operand_at p (z ∷ xs) zero x t h = let q : z ≡ x = cc in rw (← q) (test_head p z (operands xs) t)
operand_at p (z ∷ xs) (suc k) x t h = operand_at p xs k x (test_rest p z (operands xs) t) h

-- ---- a part that is taken

-- the value x stands for the part that the instruction writes to d, at the type u
pub data Took {A : Type 0} (κ : Ctx A) (E : Env A) (i : Instruction) (d : ValueId) (u : TypeId) (x : Value) : Type 0 where
  takes : (y : Val A) → T (every (λ v. ltb v.0 κ.m) (operand x [])) → T (fits κ.types x (some u))
      → eval κ.mean E (row_of κ.types (some u)) x ≡ some y
      → ((w : List (Val A)) → does κ i E w ≡ goes ((d, y) ∷ []) w []) → Took κ E i d u x

-- an arm that a setting turns off
pub sim_guarded : {A : Type 0} (κ : Ctx A) (φ : ValueId → Bool) (i : Instruction) (is : List Instruction) (t : Terminator) (S : AggStates) (n : ℕ)
    (b : Bool) (p : Piece) → Sim κ φ is t → SimP κ φ i is t S n p → SimP κ φ i is t S n (guarded b (stays κ.set κ.types S n i) p)
unfolding guarded
sim_guarded κ φ i is t S n true p sim h = h
sim_guarded κ φ i is t S n false p sim h = sim_stays κ φ i is t S n sim

-- a part that is taken: assigned, or its parts are handed on
pub taken : {A : Type 0} (κ : Ctx A) (φ : ValueId → Bool) (i : Instruction) (is : List Instruction) (t : Terminator) (S : AggStates) (n : ℕ)
    (d : ValueId) (u : TypeId) (x : Value) → Sim κ φ is t
    → ((v : ℕ) → T (not (among v (changes κ.types i.kind)))) → dests i.kind ≡ d ∷ []
    → (Good κ (i ∷ is) t → T (same_type (recorded_type κ.types d) (some u)))
    → ((E : Env A) → Tracks κ S E (i ∷ is) → Good κ (i ∷ is) t → Took κ E i d u x)
    → (o : Option (List Value)) → ((xs : List Value) → o ≡ some xs → state_of S x ≡ some xs)
    → SimP κ φ i is t S n (hand_on S d u x o)
unfolding hand_on assigned
taken κ φ i is t S n d u x sim nb de td tk none lk =
    replaced κ φ i (plain (Assign d x u)) is t S n one_extract true sim
    (λ E w tr g. elim (tk E tr g) [ takes y lo fi ev ds ↦ ds w ∙ sym (assign_does κ i.meta d x u E w y ev) ])
    (λ E tr g. elim (tk E tr g) [ takes y lo fi ev ds ↦ lo ])
    (λ g. tt) (λ E tr ud v xs h. nb v)
taken κ φ i is t S n d u x sim nb de td tk (some xs) lk =
    handed_on κ φ i is t S n one_extract d u x xs sim nb de (lk xs refl) td
    (λ E tr g. elim (tk E tr g) [ takes y lo fi ev ds ↦ fi ])
    (λ E w tr g z h. elim (tk E tr g) [ takes y lo fi ev ds ↦ let q : y ≡ z = cc in rw (← q) (ds w) ])

-- ---- extracts

-- what an ExtractTupleElement does
extract_does : {A : Type 0} (κ : Ctx A) (m : Meta) (d v : ValueId) (k : ℕ) (u : TypeId) (E : Env A) (w : List (Val A)) (vs : Vals A) (y : Val A)
    → E v.0 ≡ some (aggregate vs) → nth vs k ≡ some y
    → does κ (at m (ExtractTupleElement d (Value.Operand v) k u)) E w ≡ goes ((d, y) ∷ []) w []
unfolding exec need eval extracted part_of
extract_does κ m d v k u E w vs y a b = rw a (rw b)

-- what an ExtractStructField does
field_does : {A : Type 0} (κ : Ctx A) (m : Meta) (d v : ValueId) (f : NameId) (k : ℕ) (u : TypeId) (E : Env A) (w : List (Val A)) (vs : Vals A)
    (y : Val A) → E v.0 ≡ some (aggregate vs)
    → field_index (value_row κ.types v) f ≡ some k → nth vs k ≡ some y
    → does κ (at m (ExtractStructField d (Value.Operand v) f u)) E w ≡ goes ((d, y) ∷ []) w []
unfolding exec need eval extracted part_of operand_row
field_does κ m d v f k u E w vs y a c b = rw a (rw c (rw b))

-- the part at k of a tracked value, whose type is u
pub part_took : {A : Type 0} (κ : Ctx A) (E : Env A) (i : Instruction) (js : List Instruction) (d v : ValueId) (u : TypeId) (k : ℕ) (xs : List Value)
    (x : Value) → Tracked κ E js v.0 xs → get_elem? xs k ≡ some x
    → part_type (value_row κ.types v) k ≡ some u
    → ((vs : Vals A) (y : Val A) → E v.0 ≡ some (aggregate vs) → nth vs k ≡ some y → (w : List (Val A)) → does κ i E w ≡ goes ((d, y) ∷ []) w [])
    → Took κ E i d u x
unfolding part_row value_row
part_took κ E i js d v u k xs x z h e ds =
    let q = nth_eval κ E (part_row κ.types (value_row κ.types v)) xs z.vals k x z.each h in
    takes q.0 (operand_at (λ a. ltb a.0 κ.m) xs k x z.parts.low h) (rw e at (z.shape.each k x h)) (rw e at q.2) (λ w. ds z.vals q.0 z.whole q.1 w)

-- the part's type, where a tuple's index or a field's name is looked for
pub tuple_type : (τ : Types) (v : ValueId) (k : ℕ) (u : TypeId) → T (same_type (part_type (operand_row τ (Value.Operand v)) k) (some u))
    → part_type (value_row τ v) k ≡ some u
unfolding operand_row
tuple_type τ v k u t = same_type→eq (part_type (value_row τ v) k) (some u) t

-- a field's type
pub field_type_lem : (τ : Types) (v : ValueId) (f : NameId) (k : ℕ) (u : TypeId) → field_index (value_row τ v) f ≡ some k
    → T (same_type (field_type_of (operand_row τ (Value.Operand v)) f) (some u)) → part_type (value_row τ v) k ≡ some u
unfolding operand_row
field_type_lem τ v f k u e t = sym (index_type (value_row τ v) f k e) ∙ same_type→eq _ (some u) t

-- the pass's position is the machine's
pub index_of : (τ : Types) (v : ValueId) (f : NameId) (k : ℕ) → extract_index τ (Value.Operand v) f ≡ some k → field_index (value_row τ v) f ≡ some k
unfolding extract_index
index_of τ v f k e = e

-- an extract: kept, or its part is taken
extract_go : {A : Type 0} (κ : Ctx A) (φ : ValueId → Bool) (i : Instruction) (is : List Instruction) (t : Terminator) (S : AggStates) (n : ℕ)
    (d : ValueId) (u : TypeId) → Sim κ φ is t
    → ((v : ℕ) → T (not (among v (changes κ.types i.kind)))) → dests i.kind ≡ d ∷ []
    → (Good κ (i ∷ is) t → T (same_type (recorded_type κ.types d) (some u)))
    → (o : Option Value) → ((x : Value) → o ≡ some x → (E : Env A) → Tracks κ S E (i ∷ is) → Good κ (i ∷ is) t → Took κ E i d u x)
    → SimP κ φ i is t S n (step_extract S (stays κ.set κ.types S n i) d u o)
unfolding step_extract
extract_go κ φ i is t S n d u sim nb de td none tk = sim_stays κ φ i is t S n sim
extract_go κ φ i is t S n d u sim nb de td (some x) tk = taken κ φ i is t S n d u x sim nb de td (tk x refl) (state_of S x) (λ xs h. h)

-- an ExtractTupleElement
pub sim_extract_tuple_element : {A : Type 0} (κ : Ctx A) (φ : ValueId → Bool) (m : Meta) (d : ValueId) (z : Value) (k : ℕ) (u : TypeId)
    (is : List Instruction) (t : Terminator) (S : AggStates) (n : ℕ) → Sim κ φ is t
    → SimP κ φ (at m (ExtractTupleElement d z k u)) is t S n (step_kind κ.set κ.types φ S n (at m (ExtractTupleElement d z k u)) (ExtractTupleElement d z k u))
unfolding step_kind changed_base typed
sim_extract_tuple_element κ φ m d z k u is t S n sim =
    let i : Instruction = at m (ExtractTupleElement d z k u) in
    let τ : Types = κ.types in
    sim_guarded κ φ i is t S n κ.set.tuples _ sim
    (extract_go κ φ i is t S n d u sim (λ v. tt) refl (λ g. let ty = is_typed κ i is t g in search (both_l)) (on_some (state_of S z) (λ xs. get_elem? xs k))
    (λ x h E tk g. elim (on_some_inv (state_of S z) (λ xs. get_elem? xs k) x h) [
      | through xs a b ↦ elim (see κ S E (i ∷ is) tk z xs a) [
        | seen v q y ↦
            let ty = is_typed κ i is t g in
            let tz : T (same_type (part_type (operand_row τ z) k) (some u)) = search (both_l, both_r) in
            part_took κ E i (i ∷ is) d v u k xs x y b (tuple_type τ v k u (rw q at tz)) (λ vs p e e' w. rw q (extract_does κ m d v k u E w vs p e e'))
      ]
    ]))

-- an ExtractStructField
pub sim_extract_struct_field : {A : Type 0} (κ : Ctx A) (φ : ValueId → Bool) (m : Meta) (d : ValueId) (z : Value) (f : NameId) (u : TypeId)
    (is : List Instruction) (t : Terminator) (S : AggStates) (n : ℕ) → Sim κ φ is t
    → SimP κ φ (at m (ExtractStructField d z f u)) is t S n (step_kind κ.set κ.types φ S n (at m (ExtractStructField d z f u)) (ExtractStructField d z f u))
unfolding step_kind changed_base typed
sim_extract_struct_field κ φ m d z f u is t S n sim =
    let i : Instruction = at m (ExtractStructField d z f u) in
    let τ : Types = κ.types in
    sim_guarded κ φ i is t S n κ.set.structs _ sim
    (extract_go κ φ i is t S n d u sim (λ v. tt) refl (λ g. let ty = is_typed κ i is t g in search (both_l)) (on_some (extract_index τ z f) (λ k. on_some (state_of S z) (λ xs. get_elem? xs k)))
    (λ x h E tk g. elim (on_some_inv (extract_index τ z f) (λ k. on_some (state_of S z) (λ xs. get_elem? xs k)) x h) [
      | through k c h' ↦ elim (on_some_inv (state_of S z) (λ xs. get_elem? xs k) x h') [
        | through xs a b ↦ elim (see κ S E (i ∷ is) tk z xs a) [
          | seen v q y ↦
              let ty = is_typed κ i is t g in
              let tz : T (same_type (field_type_of (operand_row τ z) f) (some u)) = search (both_l, both_r) in
              let ix : field_index (value_row τ v) f ≡ some k = index_of τ v f k (rw q at c) in
              part_took κ E i (i ∷ is) d v u k xs x y b (field_type_lem τ v f k u ix (rw q at tz)) (λ vs p e e' w. rw q (field_does κ m d v f k u E w vs p e ix e'))
        ]
      ]
    ]))
