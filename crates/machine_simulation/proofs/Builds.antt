-- Builds that are folded, and Assigns of tracked values.
use mathlib.Core.Path.{◌≡◌, refl, ap, ◌∙◌}
use Prim.Native.Nat.{ℕ, zero, suc}
use mathlib.Core.Bool.{Bool, true, false, not}
use mathlib.Core.Option.{Option, none, some}
use mathlib.Core.List.{List, [], ◌∷◌}
use lib.Dec.{T, eqb→eq, ltb}
use lib.ListN.{length, get_elem?}
use Rattle.mir.specs.declared.ValueId.{ValueId}
use Rattle.mir.specs.declared.TypeId.{TypeId}
use Rattle.mir.specs.declared.Value.{Value}
use Rattle.mir.specs.MirType.{MirType, StructField}
use Rattle.mir.specs.Syntax.{Meta, Instruction, Terminator, Assign, MakeTuple, MakeStruct, MakeFixedArray, FieldInit}
use Rattle.mir.specs.Reads.{operands, dests, init_values}
use Rattle.mir.specs.Lookup.{Types, row_of, recorded_type, value_row, shape, is_struct, struct_fields_of, on_some}
use Rattle.mir.specs.MirType as Y
use Rattle.mir.specs.Parts.{given, or_else, struct_row, field_type, part_type, part_count, counts, from_struct_fields, struct_parts}
use Rattle.rewrite.specs.State.{AggStates, state_of}
use Rattle.rewrite.specs.Rebuild.{aggregate_type}
use Rattle.rewrite.specs.Piece.{one_build, one_assign}
use Rattle.rewrite.specs.Stays.{stays}
use Rattle.rewrite.specs.Step.{step_build, folded_parts, step_assign, step_kind}
use Rattle.machine.specs.Values.{Val, Vals}
use Rattle.machine.specs.Records.{Env, goes, unwritten, too_large}
use Rattle.machine.specs.Places.{part_row}
use Rattle.machine.specs.Evaluate.{eval, eval_all}
use Rattle.machine.specs.Exec.{need, choose, built, exec}
use Rattle.shelf.specs.Lists.{every, among}
use Rattle.shelf.specs.Fits.{same_type, fits, all_fit, parts_fit, given_fits, fields_fit}
use Rattle.machine_simulation.specs.Typing.{Whole, typed}
use Rattle.shelf.specs.Reads.{defined_in}
use Rattle.machine_simulation.proofs.Tools.{both_l, both_r, none_some, all→every, every→all}
use Rattle.machine_simulation.proofs.Frame.{is_part, cons_part_inv, cond_some, parts_in, changes, changed_base}
use Rattle.machine_simulation.proofs.Invariant.{Ctx, Parts}
use Rattle.machine_simulation.proofs.Generic.{Good, does, Sim, SimP, reads_low}
use Rattle.machine_simulation.proofs.Cases.{reads_calm, parts_free, is_typed, Makes, made, stuck, left_out, same_type→eq, same_row, handed_on, at}
use Rattle.machine_simulation.proofs.Stays.{sim_stays}

-- ---- typing

-- a passed count is the count
pub counts→eq : (o : Option ℕ) (k : ℕ) → T (counts o k) → o ≡ some k
unfolding counts
counts→eq (some n) k t = ap {B = Option ℕ} some (eqb→eq n k t)
counts→eq none k t = elim t [ ]

-- values that fit, one by one
fit_each : (τ : Types) (ts : ℕ → Option TypeId) (xs : List Value) → T (all_fit τ ts xs) → (k : ℕ) (x : Value) → get_elem? xs k ≡ some x → T (fits τ x (ts k))
unfolding all_fit
fit_each τ ts [] t k x h = absurd (none_some h)
fit_each τ ts (y ∷ xs) t zero x h = let e : y ≡ x = cc in rw (← e) (both_l (fits τ y (ts zero)) (all_fit τ (λ k. ts (suc k)) xs) t)
fit_each τ ts (y ∷ xs) t (suc k) x h = fit_each τ (λ k. ts (suc k)) xs (both_r (fits τ y (ts zero)) (all_fit τ (λ k. ts (suc k)) xs) t) k x h

-- (T) of a build whose parts fit
pub whole_fit : (τ : Types) (t : Option TypeId) (xs : List Value) → T (parts_fit τ t xs) → Whole τ t xs
unfolding parts_fit
whole_fit τ t xs f =
    record {
      sized = counts→eq (part_count (row_of τ t)) (length xs) (both_l (counts (part_count (row_of τ t)) (length xs)) (all_fit τ (part_type (row_of τ t)) xs) f);
      each = fit_each τ (part_type (row_of τ t)) xs (both_r (counts (part_count (row_of τ t)) (length xs)) (all_fit τ (part_type (row_of τ t)) xs) f);
    }

-- ---- a build

-- a build: kept, or left out with its parts tracked
sim_build : {A : Type 0} (κ : Ctx A) (φ : ValueId → Bool) (i : Instruction) (is : List Instruction) (t : Terminator) (S : AggStates) (n : ℕ)
    (d : ValueId) → Sim κ φ is t
    → ((v : ℕ) → T (not (among v (changes κ.types i.kind)))) → dests i.kind ≡ d ∷ [] → (o : Option (List Value))
    → ((xs : List Value) → o ≡ some xs → Good κ (i ∷ is) t → Parts κ (i ∷ is) xs)
    → ((xs : List Value) → o ≡ some xs → Good κ (i ∷ is) t → Whole κ.types (recorded_type κ.types d) xs)
    → ((xs : List Value) → o ≡ some xs → Good κ (i ∷ is) t → (E : Env A) (w : List (Val A)) → Makes κ E i w d xs)
    → SimP κ φ i is t S n (step_build S (stays κ.set κ.types S n i) d o)
unfolding step_build
sim_build κ φ i is t S n d sim nb de none pa sh mk = sim_stays κ φ i is t S n sim
sim_build κ φ i is t S n d sim nb de (some xs) pa sh mk =
    left_out κ φ i is t S n one_build d xs sim nb de (λ E tk g. pa xs refl g) (λ E tk g. sh xs refl g) (λ E w tk g. mk xs refl g E w)

-- parts that are tracked are the build's
pub folded_inv : (b : Bool) (o : Option (List Value)) (xs : List Value) → folded_parts b o ≡ some xs → o ≡ some xs
unfolding folded_parts
folded_inv true o xs e = e
folded_inv false o xs e = absurd (none_some e)

-- a build makes the aggregate of its parts
built_makes : {A : Type 0} (κ : Ctx A) (i : Instruction) (E : Env A) (w : List (Val A)) (d : ValueId) (xs : List Value)
    → does κ i E w ≡ built κ.mean κ.types d (eval_all κ.mean E (part_row κ.types (value_row κ.types d)) xs) w
    → (o : Option (Vals A)) → eval_all κ.mean E (part_row κ.types (value_row κ.types d)) xs ≡ o → Makes κ E i w d xs
unfolding built need choose
built_makes κ i E w d xs h none e = stuck unwritten (λ z. z) (h ∙ rw e)
built_makes κ i E w d xs h (some ys) e = by (κ.mean.large κ.types.rows (recorded_type κ.types d)) refl
  where
    by : (b : Bool) → κ.mean.large κ.types.rows (recorded_type κ.types d) ≡ b → Makes κ E i w d xs
    by true l = stuck too_large (λ z. z) (h ∙ rw e (rw l))
    by false l = made ys (h ∙ rw e (rw l)) e l

-- a tuple's or an array's build: its parts as they are given
sim_list : {A : Type 0} (κ : Ctx A) (φ : ValueId → Bool) (i : Instruction) (is : List Instruction) (t : Terminator) (S : AggStates) (n : ℕ)
    (d : ValueId) (xs : List Value) → Sim κ φ is t
    → ((v : ℕ) → T (not (among v (changes κ.types i.kind)))) → dests i.kind ≡ d ∷ []
    → (Good κ (i ∷ is) t → Parts κ (i ∷ is) xs) → (Good κ (i ∷ is) t → T (parts_fit κ.types (recorded_type κ.types d) xs))
    → ((E : Env A) (w : List (Val A)) → does κ i E w ≡ built κ.mean κ.types d (eval_all κ.mean E (part_row κ.types (value_row κ.types d)) xs) w)
    → SimP κ φ i is t S n (step_build S (stays κ.set κ.types S n i) d (folded_parts (φ d) (some xs)))
sim_list κ φ i is t S n d xs sim nb de pa fi ex =
    sim_build κ φ i is t S n d sim nb de (folded_parts (φ d) (some xs))
    (λ ys h g. let e : xs ≡ ys = same ys (folded_inv (φ d) (some xs) ys h) in rw (← e) (pa g))
    (λ ys h g. let e : xs ≡ ys = same ys (folded_inv (φ d) (some xs) ys h) in rw (← e) (whole_fit κ.types (recorded_type κ.types d) xs (fi g)))
    (λ ys h g E w. let e : xs ≡ ys = same ys (folded_inv (φ d) (some xs) ys h) in rw (← e) (built_makes κ i E w d xs (ex E w) (eval_all κ.mean E (part_row κ.types (value_row κ.types d)) xs) refl))
  where
    same : (ys : List Value) → some xs ≡ some ys → xs ≡ ys
    same ys z = cc

-- a tuple's build
pub sim_make_tuple : {A : Type 0} (κ : Ctx A) (φ : ValueId → Bool) (m : Meta) (d : ValueId) (xs : List Value) (is : List Instruction) (t : Terminator)
    (S : AggStates) (n : ℕ) → Sim κ φ is t
    → SimP κ φ (at m (MakeTuple d xs)) is t S n (step_kind κ.set κ.types φ S n (at m (MakeTuple d xs)) (MakeTuple d xs))
unfolding step_kind changed_base typed exec
sim_make_tuple κ φ m d xs is t S n sim =
    let i : Instruction = at m (MakeTuple d xs) in
    sim_list κ φ i is t S n d xs sim (λ v. tt) refl
    (λ g. record { calm = reads_calm κ i is t g; free = parts_free κ i is t g; low = reads_low κ i is t g })
    (λ g. let ty = is_typed κ i is t g in search (both_l, both_r)) (λ E w. refl)

-- an array's build
pub sim_make_fixed_array : {A : Type 0} (κ : Ctx A) (φ : ValueId → Bool) (m : Meta) (d : ValueId) (xs : List Value) (u : TypeId) (c : Bool)
    (is : List Instruction) (t : Terminator) (S : AggStates) (n : ℕ) → Sim κ φ is t
    → SimP κ φ (at m (MakeFixedArray d xs u c)) is t S n (step_kind κ.set κ.types φ S n (at m (MakeFixedArray d xs u c)) (MakeFixedArray d xs u c))
unfolding step_kind changed_base typed exec
sim_make_fixed_array κ φ m d xs u c is t S n sim =
    let i : Instruction = at m (MakeFixedArray d xs u c) in
    sim_list κ φ i is t S n d xs sim (λ v. tt) refl
    (λ g. record { calm = reads_calm κ i is t g; free = parts_free κ i is t g; low = reads_low κ i is t g })
    (λ g. let ty = is_typed κ i is t g in search (both_l, both_r)) (λ E w. refl)

-- ---- a struct's build: its parts in the order of its recorded type

-- a struct's parts are its fields
struct_count : (row : Option MirType) → T (is_struct row) → part_count row ≡ some (length (struct_fields_of row))
unfolding is_struct shape part_count struct_fields_of
struct_count (some (Y.Struct n fs)) t = refl
struct_count none t = elim t [ ]
struct_count (some Y.Felt) t = elim t [ ]
struct_count (some Y.Bool) t = elim t [ ]
struct_count (some Y.U32) t = elim t [ ]
struct_count (some (Y.Tuple _)) t = elim t [ ]
struct_count (some (Y.FixedArray _ _)) t = elim t [ ]
struct_count (some (Y.Pointer _)) t = elim t [ ]
struct_count (some (Y.Function _ _)) t = elim t [ ]
struct_count (some Y.Unit) t = elim t [ ]
struct_count (some Y.Error) t = elim t [ ]
struct_count (some Y.Unknown) t = elim t [ ]

-- and have their types
struct_part_lem : (row : Option MirType) → T (is_struct row) → (k : ℕ) → part_type row k ≡ field_type (get_elem? (struct_fields_of row) k)
unfolding is_struct shape part_type struct_fields_of
struct_part_lem (some (Y.Struct n fs)) t k = refl
struct_part_lem none t k = elim t [ ]
struct_part_lem (some Y.Felt) t k = elim t [ ]
struct_part_lem (some Y.Bool) t k = elim t [ ]
struct_part_lem (some Y.U32) t k = elim t [ ]
struct_part_lem (some (Y.Tuple _)) t k = elim t [ ]
struct_part_lem (some (Y.FixedArray _ _)) t k = elim t [ ]
struct_part_lem (some (Y.Pointer _)) t k = elim t [ ]
struct_part_lem (some (Y.Function _ _)) t k = elim t [ ]
struct_part_lem (some Y.Unit) t k = elim t [ ]
struct_part_lem (some Y.Error) t k = elim t [ ]
struct_part_lem (some Y.Unknown) t k = elim t [ ]

-- as many parts as fields
fields_length : (fs : List FieldInit) (ss : List StructField) (xs : List Value) → from_struct_fields fs ss ≡ some xs → length ss ≡ length xs
unfolding from_struct_fields
fields_length fs [] xs e = let q : [] ≡ xs = cc in rw (← q)
fields_length fs (s ∷ ss) xs e =
    elim (cons_part_inv (given s.name fs) (from_struct_fields fs ss) xs e) [ is_part y ys a b c ↦ rw c (ap suc (fields_length fs ss ys b)) ]

-- each given value fits its field
fields_each : (τ : Types) (fs : List FieldInit) (ss : List StructField) (xs : List Value) → T (fields_fit τ fs ss) → from_struct_fields fs ss ≡ some xs
    → (k : ℕ) (x : Value) → get_elem? xs k ≡ some x → T (fits τ x (field_type (get_elem? ss k)))
unfolding from_struct_fields fields_fit field_type given_fits
fields_each τ fs [] xs f e k x h = let q : [] ≡ xs = cc in absurd (none_some (rw (← q) at h))
fields_each τ fs (s ∷ ss) xs f e zero x h =
    elim (cons_part_inv (given s.name fs) (from_struct_fields fs ss) xs e) [
      | is_part y ys a b c ↦ let q : y ≡ x = first y ys (rw c at h) in
          rw (← q) (rw a at (both_l (given_fits τ (given s.name fs) s.part) (fields_fit τ fs ss) f))
    ]
  where
    first : (y : Value) (ys : List Value) → get_elem? (y ∷ ys) zero ≡ some x → y ≡ x
    first y ys z = cc
fields_each τ fs (s ∷ ss) xs f e (suc k) x h =
    elim (cons_part_inv (given s.name fs) (from_struct_fields fs ss) xs e)
    [ is_part y ys a b c ↦ fields_each τ fs ss ys (both_r (given_fits τ (given s.name fs) s.part) (fields_fit τ fs ss) f) b k x (rw c at h) ]

-- either of two equal
or_else_same : {B : Type 0} (o : Option B) → or_else o o ≡ o
unfolding or_else
or_else_same none = refl
or_else_same (some b) = refl

-- a struct's row is the named one, where that is recorded
struct_row_lem : (τ : Types) (d : ValueId) (u : TypeId) → recorded_type τ d ≡ some u → struct_row τ d u ≡ row_of τ (some u)
unfolding struct_row
struct_row_lem τ d u e = rw (same_row τ d (some u) e) (or_else_same (row_of τ (some u)))

-- a struct's parts by the named type's fields
given_fields : (τ : Types) (d : ValueId) (fs : List FieldInit) (u : TypeId) (xs : List Value) → recorded_type τ d ≡ some u
    → struct_parts τ d fs u ≡ some xs → from_struct_fields fs (struct_fields_of (row_of τ (some u))) ≡ some xs
unfolding struct_parts
given_fields τ d fs u xs e h = rw (struct_row_lem τ d u e) at (cond_some (is_struct (struct_row τ d u)) (from_struct_fields fs (struct_fields_of (struct_row τ d u))) xs h)

-- (T) of a struct's build
pub struct_whole : (τ : Types) (d : ValueId) (fs : List FieldInit) (u : TypeId) (xs : List Value) → recorded_type τ d ≡ some u
    → T (is_struct (row_of τ (some u))) → T (fields_fit τ fs (struct_fields_of (row_of τ (some u))))
    → struct_parts τ d fs u ≡ some xs → Whole τ (recorded_type τ d) xs
struct_whole τ d fs u xs e s f h =
    rw e (record {
      sized = struct_count (row_of τ (some u)) s ∙ ap {B = Option ℕ} some (fields_length fs (struct_fields_of (row_of τ (some u))) xs (given_fields τ d fs u xs e h));
      each = λ k x g. rw (struct_part_lem (row_of τ (some u)) s k) (fields_each τ fs (struct_fields_of (row_of τ (some u))) xs f (given_fields τ d fs u xs e h) k x g);
    })

-- what a struct's build does, by its parts
struct_does : {A : Type 0} (κ : Ctx A) (m : Meta) (d : ValueId) (fs : List FieldInit) (u : TypeId) (xs : List Value) (E : Env A) (w : List (Val A))
    → recorded_type κ.types d ≡ some u → struct_parts κ.types d fs u ≡ some xs
    → does κ (at m (MakeStruct d fs u)) E w ≡ built κ.mean κ.types d (eval_all κ.mean E (part_row κ.types (value_row κ.types d)) xs) w
unfolding exec need
struct_does κ m d fs u xs E w e h = rw h (rw (struct_row_lem κ.types d u e, same_row κ.types d (some u) e))

-- a test on the values given holds of the parts
pub parts_given : (p : ValueId → Bool) (τ : Types) (d : ValueId) (fs : List FieldInit) (u : TypeId) (xs : List Value)
    → T (every p (operands (init_values fs))) → struct_parts τ d fs u ≡ some xs → T (every p (operands xs))
parts_given p τ d fs u xs t h = all→every p (operands xs) (parts_in (λ v. T (p v)) τ d fs u xs (every→all p (operands (init_values fs)) t) h)

-- a struct's build
pub sim_make_struct : {A : Type 0} (κ : Ctx A) (φ : ValueId → Bool) (m : Meta) (d : ValueId) (fs : List FieldInit) (u : TypeId) (is : List Instruction)
    (t : Terminator) (S : AggStates) (n : ℕ) → Sim κ φ is t
    → SimP κ φ (at m (MakeStruct d fs u)) is t S n (step_kind κ.set κ.types φ S n (at m (MakeStruct d fs u)) (MakeStruct d fs u))
unfolding step_kind changed_base typed
sim_make_struct κ φ m d fs u is t S n sim =
    let i : Instruction = at m (MakeStruct d fs u) in
    let τ : Types = κ.types in
    sim_build κ φ i is t S n d sim (λ v. tt) refl (folded_parts (φ d) (struct_parts τ d fs u))
    (λ xs h g. let e = folded_inv (φ d) (struct_parts τ d fs u) xs h in record {
      calm = parts_given (λ v. not (among v.0 (defined_in (i ∷ is)))) τ d fs u xs (reads_calm κ i is t g) e;
      free = parts_given (λ v. not (κ.sb v.0)) τ d fs u xs (parts_free κ i is t g) e;
      low = parts_given (λ v. ltb v.0 κ.m) τ d fs u xs (reads_low κ i is t g) e;
    })
    (λ xs h g. let ty = is_typed κ i is t g in
    let t1 : T (same_type (recorded_type τ d) (some u)) = search (both_l) in
    let t2 : T (is_struct (row_of τ (some u))) = search (both_l, both_r) in
    let t3 : T (fields_fit τ fs (struct_fields_of (row_of τ (some u)))) = search (both_l, both_r) in
    struct_whole τ d fs u xs (same_type→eq _ _ t1) t2 t3 (folded_inv (φ d) (struct_parts τ d fs u) xs h))
    (λ xs h g E w. let ty = is_typed κ i is t g in
    let t1 : T (same_type (recorded_type τ d) (some u)) = search (both_l) in
    built_makes κ i E w d xs (struct_does κ m d fs u xs E w (same_type→eq _ _ t1) (folded_inv (φ d) (struct_parts τ d fs u) xs h)) (eval_all κ.mean E (part_row τ (value_row τ d)) xs) refl)

-- ---- an Assign

-- a lookup behind another that found something
pub data OnSome {A B : Type 0} (o : Option A) (f : A → Option B) (b : B) : Type 0 where
  through : (a : A) → o ≡ some a → f a ≡ some b → OnSome o f b

-- both found something
pub on_some_inv : {A B : Type 0} (o : Option A) (f : A → Option B) (b : B) → on_some o f ≡ some b → OnSome o f b
unfolding on_some
on_some_inv none f b e = absurd (none_some e)
on_some_inv (some a) f b e = through a refl e

-- what an Assign does with a value that is there
pub assign_does : {A : Type 0} (κ : Ctx A) (m : Meta) (d : ValueId) (x : Value) (u : TypeId) (E : Env A) (w : List (Val A)) (y : Val A)
    → eval κ.mean E (row_of κ.types (some u)) x ≡ some y → does κ (at m (Assign d x u)) E w ≡ goes ((d, y) ∷ []) w []
unfolding exec need
assign_does κ m d x u E w y e = rw e

-- an Assign: kept, or the source's parts are handed on
assign_go : {A : Type 0} (κ : Ctx A) (φ : ValueId → Bool) (m : Meta) (d : ValueId) (x : Value) (u : TypeId) (is : List Instruction) (t : Terminator)
    (S : AggStates) (n : ℕ) → Sim κ φ is t
    → (o : Option (List Value)) → on_some (aggregate_type κ.types u) (λ v. state_of S x) ≡ o
    → SimP κ φ (at m (Assign d x u)) is t S n (step_assign S (stays κ.set κ.types S n (at m (Assign d x u))) d o)
unfolding step_assign changed_base typed
assign_go κ φ m d x u is t S n sim none e = sim_stays κ φ (at m (Assign d x u)) is t S n sim
assign_go κ φ m d x u is t S n sim (some xs) e =
    let i : Instruction = at m (Assign d x u) in
    elim (on_some_inv (aggregate_type κ.types u) (λ v. state_of S x) xs e) [
      | through a e1 e2 ↦ handed_on κ φ i is t S n one_assign d u x xs sim (λ v. tt) refl e2
          (λ g. both_l (same_type (recorded_type κ.types d) (some u)) (fits κ.types x (some u)) (is_typed κ i is t g))
          (λ E tk g. both_r (same_type (recorded_type κ.types d) (some u)) (fits κ.types x (some u)) (is_typed κ i is t g))
          (λ E w tk g y h. assign_does κ m d x u E w y h)
    ]

-- an Assign
pub sim_assign : {A : Type 0} (κ : Ctx A) (φ : ValueId → Bool) (m : Meta) (d : ValueId) (x : Value) (u : TypeId) (is : List Instruction)
    (t : Terminator) (S : AggStates) (n : ℕ) → Sim κ φ is t
    → SimP κ φ (at m (Assign d x u)) is t S n (step_kind κ.set κ.types φ S n (at m (Assign d x u)) (Assign d x u))
unfolding step_kind
sim_assign κ φ m d x u is t S n sim = assign_go κ φ m d x u is t S n sim (on_some (aggregate_type κ.types u) (λ v. state_of S x)) refl
