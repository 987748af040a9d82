-- A part put into a tracked value: by an insert, or by a Store of one projection.
use mathlib.Core.Path.{◌≡◌, refl, sym, ap, ◌∙◌}
use Prim.Native.Nat.{ℕ, zero, suc}
use mathlib.Core.Bool.{Bool, not}
use mathlib.Core.Option.{Option, none, some}
use mathlib.Core.List.{List, [], ◌∷◌}
use lib.Dec.{T, ltb}
use lib.ListN.{length, get_elem?}
use Rattle.mir.specs.declared.ValueId.{ValueId}
use Rattle.mir.specs.declared.TypeId.{TypeId}
use Rattle.mir.specs.declared.Value.{Value}
use Rattle.mir.specs.MirType.{MirType}
use Rattle.mir.specs.Syntax.{Meta, Instruction, Terminator, InsertField, InsertTuple}
use Rattle.mir.specs.Reads.{operand, operands, dests}
use Rattle.mir.specs.Lookup.{Types, row_of, recorded_type, value_row, on_some}
use Rattle.bytes_struct.specs.FindField.{field_index, field_type_of}
use Rattle.bytes_struct.proofs.Laws.{index_type}
use Rattle.mir.specs.declared.NameId.{NameId}
use Rattle.rewrite.specs.State.{AggStates, state_of, cons_some}
use Rattle.rewrite.specs.State as St
use Rattle.rewrite.specs.Piece.{one_insert}
use Rattle.rewrite.specs.Stays.{stays}
use Rattle.rewrite.specs.Step.{step_insert, step_kind}
use Rattle.machine.specs.Values.{Val, Vals, aggregate, then, cons_val, put, as_aggregate, with_part}
use Rattle.machine.specs.Records.{Env, goes, stops, unwritten}
use Rattle.mir.specs.Parts.{part_type}
use Rattle.machine.specs.Places.{part_row}
use Rattle.machine.specs.Evaluate.{eval, eval_all}
use Rattle.machine.specs.Exec.{need, inserted, exec}
use Rattle.shelf.specs.Lists.{every, among}
use Rattle.shelf.specs.Fits.{same_type, fits}
use Rattle.machine_simulation.specs.Typing.{Whole, typed}
use Rattle.shelf.specs.Reads.{defined_in}
use Rattle.machine_simulation.proofs.Tools.{both_l, both_r, none_some}
use Rattle.machine_simulation.proofs.Frame.{changes, changed_base, test_head, test_rest, test_cons}
use Rattle.machine_simulation.proofs.Invariant.{Ctx, Parts, Tracked}
use Rattle.machine_simulation.proofs.Generic.{Good, does, Sim, SimP, reads_low}
use Rattle.machine_simulation.proofs.Cases.{reads_calm, parts_free, is_typed, Makes, made, stuck, left_out, seen, see, same_type→eq, fits_type, same_row, at}
use Rattle.machine_simulation.proofs.Builds.{through, on_some_inv}
use Rattle.machine_simulation.proofs.Takes.{is_val, cons_val_inv, sim_guarded}
use Rattle.machine_simulation.proofs.Stays.{sim_stays}

-- ---- a part replaced in a list

-- a part in front of others
pub data ConsSome (x : Value) (o : Option (List Value)) (zs : List Value) : Type 0 where
  is_some_cons : (ys : List Value) → o ≡ some ys → zs ≡ x ∷ ys → ConsSome x o zs

-- the others are there
cons_some_inv : (x : Value) (o : Option (List Value)) (zs : List Value) → cons_some x o ≡ some zs → ConsSome x o zs
unfolding cons_some
cons_some_inv x none zs e = absurd (none_some e)
cons_some_inv x (some ys) zs e = is_some_cons ys refl cc

-- a part replaced in the list is that part replaced in the aggregate
pub put_eval : {A : Type 0} (κ : Ctx A) (E : Env A) (rows : ℕ → Option MirType) (xs : List Value) (vs : Vals A) (k : ℕ) (y : Value) (v : Val A)
    (ys : List Value) → eval_all κ.mean E rows xs ≡ some vs → eval κ.mean E (rows k) y ≡ some v → St.replaced xs k y ≡ some ys
    → (zs : Vals A) × (put vs k v ≡ some zs) × (eval_all κ.mean E rows ys ≡ some zs)
unfolding eval_all put St.replaced cons_val
put_eval κ E rows [] vs k y v ys e ev h = absurd (none_some h)
put_eval κ E rows (u ∷ xs) vs zero y v ys e ev h =
    elim (cons_val_inv (eval κ.mean E (rows zero) u) (eval_all κ.mean E (λ k. rows (suc k)) xs) vs e)
    [ is_val a as' f r b ↦ let q : ys ≡ y ∷ xs = cc in (then v as', rw b, rw q (rw (ev, r))) ]
put_eval κ E rows (u ∷ xs) vs (suc k) y v ys e ev h =
    elim (cons_val_inv (eval κ.mean E (rows zero) u) (eval_all κ.mean E (λ k. rows (suc k)) xs) vs e) [
      | is_val a as' f r b ↦ elim (cons_some_inv u (St.replaced xs k y) ys h)
          [ is_some_cons us p q ↦ let z = put_eval κ E (λ k. rows (suc k)) xs as' k y v us r ev p in (then a z.0, rw b (rw z.1), rw q (rw (f, z.2))) ]
    ]

-- the count stays
length_replaced : (xs : List Value) (k : ℕ) (y : Value) (ys : List Value) → St.replaced xs k y ≡ some ys → length xs ≡ length ys
unfolding St.replaced
length_replaced [] k y ys h = absurd (none_some h)
length_replaced (x ∷ xs) zero y ys h = let q : ys ≡ y ∷ xs = cc in rw q
length_replaced (x ∷ xs) (suc k) y ys h = elim (cons_some_inv x (St.replaced xs k y) ys h) [ is_some_cons us p q ↦ rw q (ap suc (length_replaced xs k y us p)) ]

-- every other part stays
each_replaced : (P : ℕ → Value → Type 0) (xs : List Value) (k : ℕ) (y : Value) (ys : List Value)
    → ((j : ℕ) (x : Value) → get_elem? xs j ≡ some x → P j x) → P k y → St.replaced xs k y ≡ some ys
    → (j : ℕ) (x : Value) → get_elem? ys j ≡ some x → P j x
unfolding St.replaced
each_replaced P [] k y ys h p e j x g = absurd (none_some e)
each_replaced P (z ∷ xs) zero y ys h p e zero x g = let q : ys ≡ y ∷ xs = cc in let r : y ≡ x = first (rw q at g) in rw (← r) p
  where
    first : get_elem? (y ∷ xs) zero ≡ some x → y ≡ x
    first z = cc
each_replaced P (z ∷ xs) zero y ys h p e (suc j) x g = let q : ys ≡ y ∷ xs = cc in h (suc j) x (rw q at g)
each_replaced P (z ∷ xs) (suc k) y ys h p e zero x g = elim (cons_some_inv z (St.replaced xs k y) ys e) [ is_some_cons us a b ↦ h zero x (rw b at g) ]
each_replaced P (z ∷ xs) (suc k) y ys h p e (suc j) x g =
    elim (cons_some_inv z (St.replaced xs k y) ys e) [ is_some_cons us a b ↦ each_replaced (λ j x. P (suc j) x) xs k y us (λ j x. h (suc j) x) p a j x (rw b at g) ]

-- (T) stays where the new part fits
pub whole_replaced : (τ : Types) (t : Option TypeId) (xs : List Value) (k : ℕ) (y : Value) (ys : List Value) → Whole τ t xs
    → T (fits τ y (part_type (row_of τ t) k)) → St.replaced xs k y ≡ some ys → Whole τ t ys
whole_replaced τ t xs k y ys s f e =
    record {
      sized = s.sized ∙ ap {B = Option ℕ} some (length_replaced xs k y ys e);
      each = each_replaced (λ j x. T (fits τ x (part_type (row_of τ t) j))) xs k y ys s.each f e;
    }

-- a test on the operands stays, where the new part passes it
pub test_replaced : (p : ValueId → Bool) (xs : List Value) (k : ℕ) (y : Value) (ys : List Value) → T (every p (operands xs)) → T (every p (operand y []))
    → St.replaced xs k y ≡ some ys → T (every p (operands ys))
unfolding St.replaced
test_replaced p [] k y ys s t h = absurd (none_some h)
test_replaced p (x ∷ xs) zero y ys s t h = let q : ys ≡ y ∷ xs = cc in rw q (test_cons p y (operands xs) t (test_rest p x (operands xs) s))
test_replaced p (x ∷ xs) (suc k) y ys s t h =
    elim (cons_some_inv x (St.replaced xs k y) ys h)
    [ is_some_cons us a b ↦ rw b (test_cons p x (operands us) (test_head p x (operands xs) s) (test_replaced p xs k y us (test_rest p x (operands xs) s) t a)) ]

-- a value that may become a part
pub record NewPart {A : Type 0} (κ : Ctx A) (is : List Instruction) (y : Value) : Type 0 where
  pub calm : T (every (λ v. not (among v.0 (defined_in is))) (operand y []))
  pub free : T (every (λ v. not (κ.sb v.0)) (operand y []))
  pub low : T (every (λ v. ltb v.0 κ.m) (operand y []))

-- so the tests of tracked parts stay
pub parts_replaced : {A : Type 0} (κ : Ctx A) (is : List Instruction) (xs : List Value) (k : ℕ) (y : Value) (ys : List Value) → Parts κ is xs
    → NewPart κ is y → St.replaced xs k y ≡ some ys → Parts κ is ys
parts_replaced κ is xs k y ys p q e =
    record {
      calm = test_replaced (λ v. not (among v.0 (defined_in is))) xs k y ys p.calm q.calm e;
      free = test_replaced (λ v. not (κ.sb v.0)) xs k y ys p.free q.free e;
      low = test_replaced (λ v. ltb v.0 κ.m) xs k y ys p.low q.low e;
    }

-- ---- the machine's side

-- the instruction writes to d the aggregate in v with part k replaced by y, which stands at the row
unfoldable pub PutsIn : {A : Type 0} → Ctx A → Instruction → ValueId → ValueId → ℕ → Option MirType → Value → Type 0
PutsIn {A} κ i d v k row y = (E : Env A) (w : List (Val A)) (vs : Vals A) → E v.0 ≡ some (aggregate vs)
    → ((eval κ.mean E row y ≡ none → does κ i E w ≡ stops unwritten [])
    × ((z : Val A) (zs : Vals A) → eval κ.mean E row y ≡ some z → put vs k z ≡ some zs → does κ i E w ≡ goes ((d, aggregate zs) ∷ []) w []))

-- the aggregate that is made has the new list's values
pub put_makes : {A : Type 0} (κ : Ctx A) (i : Instruction) (js : List Instruction) (d v : ValueId) (k : ℕ) (y : Value) (E : Env A) (w : List (Val A))
    (xs ys : List Value) → PutsIn κ i d v k (part_row κ.types (value_row κ.types d) k) y
    → Tracked κ E js v.0 xs → recorded_type κ.types v ≡ recorded_type κ.types d → St.replaced xs k y ≡ some ys
    → (o : Option (Val A)) → eval κ.mean E (part_row κ.types (value_row κ.types d) k) y ≡ o → Makes κ E i w d ys
unfolding PutsIn value_row
put_makes κ i js d v k y E w xs ys pts z te h none e = stuck unwritten (λ q. q) ((pts E w z.vals z.whole).0 e)
put_makes κ i js d v k y E w xs ys pts z te h (some o) e =
    let q = put_eval κ E (part_row κ.types (value_row κ.types d)) xs z.vals k y o ys (rw te at z.each) e h in
    made q.0 ((pts E w z.vals z.whole).1 o q.0 e q.1) q.2 (rw te at z.small)

-- ---- inserts

-- what an InsertTuple does
tuple_puts : {A : Type 0} (κ : Ctx A) (m : Meta) (d v : ValueId) (k : ℕ) (y : Value) (u : TypeId) → recorded_type κ.types d ≡ some u
    → PutsIn κ (at m (InsertTuple d (Value.Operand v) k y u)) d v k (part_row κ.types (value_row κ.types d) k) y
unfolding PutsIn exec need eval inserted with_part as_aggregate
tuple_puts κ m d v k y u te E w vs a = rw (same_row κ.types d (some u) te) (λ e. rw a (rw e), λ z zs e h. rw a (rw e (rw h)))

-- what an InsertField does
field_puts : {A : Type 0} (κ : Ctx A) (m : Meta) (d v : ValueId) (f : NameId) (k : ℕ) (y : Value) (u : TypeId) → recorded_type κ.types d ≡ some u
    → field_index (row_of κ.types (some u)) f ≡ some k
    → PutsIn κ (at m (InsertField d (Value.Operand v) f y u)) d v k (part_row κ.types (value_row κ.types d) k) y
unfolding PutsIn exec need eval inserted with_part as_aggregate part_row
field_puts κ m d v f k y u te ix E w vs a =
    let ty = index_type (row_of κ.types (some u)) f k ix in
    rw (same_row κ.types d (some u) te) (λ e. rw (ix, ty) (rw a (rw e)), λ z zs e h. rw (ix, ty) (rw a (rw e (rw h))))

-- an insert: kept, or left out with its parts tracked
inserted_go : {A : Type 0} (κ : Ctx A) (φ : ValueId → Bool) (i : Instruction) (is : List Instruction) (t : Terminator) (S : AggStates) (n : ℕ)
    (d : ValueId) (x : Value) (y : Value) (u : TypeId) → Sim κ φ is t
    → ((v : ℕ) → T (not (among v (changes κ.types i.kind)))) → dests i.kind ≡ d ∷ []
    → (Good κ (i ∷ is) t → NewPart κ (i ∷ is) y) → (Good κ (i ∷ is) t → T (same_type (recorded_type κ.types d) (some u)))
    → (Good κ (i ∷ is) t → T (fits κ.types x (some u)))
    → (o : Option (List Value))
    → ((ys : List Value) → o ≡ some ys → (xs : List Value) × (k : ℕ) × (state_of S x ≡ some xs) × (St.replaced xs k y ≡ some ys)
    × ((v : ValueId) → x ≡ Value.Operand v → recorded_type κ.types d ≡ some u → PutsIn κ i d v k (part_row κ.types (value_row κ.types d) k) y)
    × (Good κ (i ∷ is) t → T (fits κ.types y (part_type (row_of κ.types (some u)) k))))
    → SimP κ φ i is t S n (step_insert S (stays κ.set κ.types S n i) d o)
unfolding step_insert
inserted_go κ φ i is t S n d x y u sim nb de np td tx none h = sim_stays κ φ i is t S n sim
inserted_go κ φ i is t S n d x y u sim nb de np td tx (some ys) h =
    let q = h ys refl in
    let τ : Types = κ.types in
    left_out κ φ i is t S n one_insert d ys sim nb de
    (λ E tk g. elim (see κ S E (i ∷ is) tk x q.0 q.2) [ seen v e z ↦ parts_replaced κ (i ∷ is) q.0 q.1 y ys z.parts (np g) q.3 ])
    (λ E tk g. elim (see κ S E (i ∷ is) tk x q.0 q.2) [
      | seen v e z ↦ rw (same_type→eq _ _ (td g)) (whole_replaced τ (some u) q.0 q.1 y ys (rw (fits_type τ v (some u) (rw e at (tx g))) at z.shape) (q.5 g) q.3)
    ])
    (λ E w tk g. elim (see κ S E (i ∷ is) tk x q.0 q.2) [
      | seen v e z ↦
          put_makes κ i (i ∷ is) d v q.1 y E w q.0 ys (q.4 v e (same_type→eq _ _ (td g))) z (fits_type τ v (some u) (rw e at (tx g)) ∙ sym (same_type→eq _ _ (td g))) q.3 (eval κ.mean E (part_row τ (value_row τ d) q.1) y) refl
    ])

-- an InsertTuple
pub sim_insert_tuple : {A : Type 0} (κ : Ctx A) (φ : ValueId → Bool) (m : Meta) (d : ValueId) (x : Value) (k : ℕ) (y : Value) (u : TypeId)
    (is : List Instruction) (t : Terminator) (S : AggStates) (n : ℕ) → Sim κ φ is t
    → SimP κ φ (at m (InsertTuple d x k y u)) is t S n (step_kind κ.set κ.types φ S n (at m (InsertTuple d x k y u)) (InsertTuple d x k y u))
unfolding step_kind changed_base typed
sim_insert_tuple κ φ m d x k y u is t S n sim =
    let i : Instruction = at m (InsertTuple d x k y u) in
    let τ : Types = κ.types in
    sim_guarded κ φ i is t S n κ.set.tuples _ sim
    (inserted_go κ φ i is t S n d x y u sim (λ v. tt) refl
    (λ g. record {
      calm = test_rest (λ v. not (among v.0 (defined_in (i ∷ is)))) x (operand y []) (reads_calm κ i is t g);
      free = parts_free κ i is t g;
      low = test_rest (λ v. ltb v.0 κ.m) x (operand y []) (reads_low κ i is t g);
    })
    (λ g. let ty = is_typed κ i is t g in search (both_l)) (λ g. let ty = is_typed κ i is t g in search (both_l, both_r)) (on_some (state_of S x) (λ xs. St.replaced xs k y))
    (λ ys h. elim (on_some_inv (state_of S x) (λ xs. St.replaced xs k y) ys h) [
      | through xs a b ↦ (xs, k, a, b, λ v e te. rw e (tuple_puts κ m d v k y u te), λ g. let ty = is_typed κ i is t g in search (both_l, both_r))
    ]))

-- a field's type is its part's
pub field_fits : (τ : Types) (row : Option MirType) (f : NameId) (k : ℕ) (y : Value) → field_index row f ≡ some k → T (fits τ y (field_type_of row f))
    → T (fits τ y (part_type row k))
field_fits τ row f k y e t = rw (index_type row f k e) at t

-- an InsertField
pub sim_insert_field : {A : Type 0} (κ : Ctx A) (φ : ValueId → Bool) (m : Meta) (d : ValueId) (x : Value) (f : NameId) (y : Value) (u : TypeId)
    (is : List Instruction) (t : Terminator) (S : AggStates) (n : ℕ) → Sim κ φ is t
    → SimP κ φ (at m (InsertField d x f y u)) is t S n (step_kind κ.set κ.types φ S n (at m (InsertField d x f y u)) (InsertField d x f y u))
unfolding step_kind changed_base typed
sim_insert_field κ φ m d x f y u is t S n sim =
    let i : Instruction = at m (InsertField d x f y u) in
    let τ : Types = κ.types in
    sim_guarded κ φ i is t S n κ.set.structs _ sim
    (inserted_go κ φ i is t S n d x y u sim (λ v. tt) refl
    (λ g. record {
      calm = test_rest (λ v. not (among v.0 (defined_in (i ∷ is)))) x (operand y []) (reads_calm κ i is t g);
      free = parts_free κ i is t g;
      low = test_rest (λ v. ltb v.0 κ.m) x (operand y []) (reads_low κ i is t g);
    })
    (λ g. let ty = is_typed κ i is t g in search (both_l)) (λ g. let ty = is_typed κ i is t g in search (both_l, both_r)) (on_some (field_index (row_of τ (some u)) f) (λ k. on_some (state_of S x) (λ xs. St.replaced xs k y)))
    (λ ys h. elim (on_some_inv (field_index (row_of τ (some u)) f) (λ k. on_some (state_of S x) (λ xs. St.replaced xs k y)) ys h) [
      | through k c h' ↦ elim (on_some_inv (state_of S x) (λ xs. St.replaced xs k y) ys h') [
        | through xs a b ↦ (
          xs,
          k,
          a,
          b,
          λ v e te. rw e (field_puts κ m d v f k y u te c),
          λ g. let ty = is_typed κ i is t g in
              let tf : T (fits τ y (field_type_of (row_of τ (some u)) f)) = search (both_l, both_r) in field_fits τ (row_of τ (some u)) f k y c tf,
        )
      ]
    ]))
