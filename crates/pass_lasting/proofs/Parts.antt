-- What holds of all parts and of what the instructions read goes on to hold of all parts: a walk makes parts of nothing else.
use mathlib.Core.Path.{◌≡◌, refl, sym, ◌∙◌}
use Prim.Native.Nat.{ℕ}
use mathlib.Core.Bool.{Bool, true, false, ◌&&◌}
use mathlib.Core.Option.{Option, none, some}
use mathlib.Core.List.{List, [], ◌∷◌}
use lib.Dec.{T, eqb}
use lib.ListN.{get_elem?}
use Rattle.mir.specs.declared.ValueId.{ValueId}
use Rattle.mir.specs.declared.TypeId.{TypeId}
use Rattle.mir.specs.declared.Value.{Value}
use Rattle.mir.specs.declared.Projection.{Projection}
use Rattle.mir.specs.Syntax.{Meta, Place, Instruction, InstructionKind}
use Rattle.mir.specs.Syntax.{Assign, UnaryOp, BinaryOp, Call, Cast, Load, Store, Debug, Nop, Phi}
use Rattle.mir.specs.Syntax.{MakeTuple, ExtractTupleElement, MakeStruct, ExtractStructField, InsertField, InsertTuple, MakeFixedArray, AssertEq, HeapAllocCells}
use Rattle.mir.specs.Reads.{operand, operands, place_reads}
use Rattle.mir.specs.Lookup.{Types, row_of, on_some}
use Rattle.mir.specs.Parts.{struct_parts}
use Rattle.bytes_struct.specs.FindField.{field_index}
use Rattle.fold.specs.declared.Settings.{Settings}
use Rattle.rewrite.specs.State.{AggStates, no_states, insert_state, state_of, cons_some, step_index, step_part, chain, first_integer}
use Rattle.rewrite.specs.State.{store_part, store_last, store_deeper, store_from, forward_store}
use Rattle.rewrite.specs.State as St
use Rattle.rewrite.specs.Rebuild.{aggregate_type}
use Rattle.rewrite.specs.Piece.{Piece, left, tracked, assigned}
use Rattle.rewrite.specs.Stays.{guarded}
use Rattle.rewrite.specs.Step.{step_build, folded_parts, step_insert, hand_on, step_extract, extract_index, step_loaded, step_load, step_store}
use Rattle.rewrite.specs.Step.{step_assign, step_kind, step, walkable}
use Rattle.rewrite.proofs.StaysStates.{stays_states}
use Rattle.shelf.specs.Lists.{every}
use Rattle.shelf.specs.Reads.{counted_reads}
use Rattle.shelf.proofs.Both.{every_imp}
use Rattle.shelf.proofs.Flag.{reads_aside}
use Rattle.machine_simulation.proofs.Tools.{none_some, split, passes, fails, cond_yes, change_other, every_r}
use Rattle.machine_simulation.proofs.Frame.{test_rest}
use Rattle.machine_simulation.proofs.Builds.{through, on_some_inv, folded_inv, parts_given}
use Rattle.machine_simulation.proofs.Puts.{test_replaced}
use Rattle.pass_lasting.proofs.Vocabulary.{AllParts}

-- the values read numbers that pass
abbrev Pass : (ℕ → Bool) → List Value → Type 0
Pass q xs = T (every (λ u. q u.0) (operands xs))

-- ---- tests over all parts

-- a test that passes wherever another does
pub parts_weaken : (q p : ℕ → Bool) → ((v : ℕ) → T (q v) → T (p v)) → (S : AggStates) → AllParts q S → AllParts p S
parts_weaken q p f S h v xs e = every_imp (λ u. q u.0) (λ u. p u.0) (λ u t. f u.0 t) (operands xs) (h v xs e)

-- nothing is tracked where a block begins
pub none_parts : (q : ℕ → Bool) → AllParts q no_states
unfolding no_states
none_parts q v xs e = absurd (none_some e)

-- an entry more
insert_parts : (q : ℕ → Bool) (S : AggStates) (d : ValueId) (xs : List Value) → AllParts q S → Pass q xs → AllParts q (insert_state S d xs)
unfolding insert_state
insert_parts q S d xs h new v ys e =
    elim (split (eqb v d.0)) [
      | passes y ↦ let p : xs ≡ ys = got (sym (cond_yes (eqb v d.0) (some xs) (S v) y) ∙ e) in rw (← p) new
      | fails n ↦ h v ys (sym (change_other S d.0 xs v n) ∙ e)
    ]
  where
    got : some xs ≡ some ys → xs ≡ ys
    got z = cc

-- the parts of a tracked value
state_passes : (q : ℕ → Bool) (S : AggStates) → AllParts q S → (x : Value) (xs : List Value) → state_of S x ≡ some xs → Pass q xs
unfolding state_of
state_passes q S h (Value.Literal l) xs e = absurd (none_some e)
state_passes q S h (Value.Operand v) xs e = h v.0 xs e
state_passes q S h Value.Error xs e = absurd (none_some e)

-- the same behind another lookup
found_passes : {A : Type 0} (q : ℕ → Bool) (S : AggStates) → AllParts q S → (x : Value) (o : Option A) (xs : List Value)
    → on_some o (λ u. state_of S x) ≡ some xs → Pass q xs
found_passes q S h x o xs e = elim (on_some_inv o (λ u. state_of S x) xs e) [ through a e1 e2 ↦ state_passes q S h x xs e2 ]

-- ---- a part replaced

-- a tracked value's parts with one replaced
put_passes : (q : ℕ → Bool) (S : AggStates) → AllParts q S → (x : Value) (k : ℕ) (y : Value) (ys : List Value) → Pass q (y ∷ [])
    → on_some (state_of S x) (λ xs. St.replaced xs k y) ≡ some ys → Pass q ys
put_passes q S h x k y ys t e =
    elim (on_some_inv (state_of S x) (λ xs. St.replaced xs k y) ys e)
    [ through xs a b ↦ test_replaced (λ u. q u.0) xs k y ys (state_passes q S h x xs a) t b ]

-- a part of a tracked value replaced by a Store
part_stored : (q : ℕ → Bool) (S S' : AggStates) → AllParts q S → (v : ValueId) (k : ℕ) (y : Value) → Pass q (y ∷ [])
    → store_part S v k y ≡ some S' → AllParts q S'
unfolding store_part
part_stored q S S' h v k y t e =
    elim (on_some_inv (S v.0) (λ xs. on_some (St.replaced xs k y) (λ ys. some (insert_state S v ys))) S' e) [
      | through xs lk e1 ↦ elim (on_some_inv (St.replaced xs k y) (λ ys. some (insert_state S v ys)) S' e1)
          [ through ys r e2 ↦ rw (← (state_is ys e2)) (insert_parts q S v ys h (test_replaced (λ u. q u.0) xs k y ys (h v.0 xs lk) t r)) ]
    ]
  where
    state_is : (ys : List Value) → some (insert_state S v ys) ≡ some S' → insert_state S v ys ≡ S'
    state_is ys z = cc

-- at the last step of a deeper Store
last_stored : (q : ℕ → Bool) (τ : Types) (S S' : AggStates) → AllParts q S → (x : Value) (p : Projection) (y : Value) → Pass q (y ∷ [])
    → store_last τ S x p y ≡ some S' → AllParts q S'
unfolding store_last
last_stored q τ S S' h (Value.Literal l) p y t e = absurd (none_some e)
last_stored q τ S S' h (Value.Operand v) p y t e =
    elim (on_some_inv (step_index τ v p) (λ k. store_part S v k y) S' e) [ through k ix e1 ↦ part_stored q S S' h v k y t e1 ]
last_stored q τ S S' h Value.Error p y t e = absurd (none_some e)

-- a deeper Store
deeper_stored : (q : ℕ → Bool) (τ : Types) (S S' : AggStates) → AllParts q S → (ps : List Projection) (x y : Value) → Pass q (y ∷ [])
    → store_deeper τ S x ps y ≡ some S' → AllParts q S'
unfolding store_deeper
deeper_stored q τ S S' h [] x y t e = absurd (none_some e)
deeper_stored q τ S S' h (p ∷ []) x y t e = last_stored q τ S S' h x p y t e
deeper_stored q τ S S' h (p ∷ r ∷ ps) x y t e =
    elim (on_some_inv (step_part τ S x p) (λ z. store_deeper τ S z (r ∷ ps) y) S' e)
    [ through z sp e1 ↦ deeper_stored q τ S S' h (r ∷ ps) z y t e1 ]

-- by one projection or more
from_stored : (q : ℕ → Bool) (τ : Types) (S S' : AggStates) → AllParts q S → (b : ValueId) (ps : List Projection) (y : Value) (k : ℕ)
    → Pass q (y ∷ []) → store_from τ S b ps y k ≡ some S' → AllParts q S'
unfolding store_from
from_stored q τ S S' h b [] y k t e = absurd (none_some e)
from_stored q τ S S' h b (p ∷ []) y k t e = part_stored q S S' h b k y t e
from_stored q τ S S' h b (p ∷ r ∷ ps) y k t e =
    elim (on_some_inv (S b.0) (λ xs. on_some (get_elem? xs k) (λ x. store_deeper τ S x (r ∷ ps) y)) S' e) [
      | through xs lk e1 ↦ elim (on_some_inv (get_elem? xs k) (λ x. store_deeper τ S x (r ∷ ps) y) S' e1)
          [ through x ge e2 ↦ deeper_stored q τ S S' h (r ∷ ps) x y t e2 ]
    ]

-- a Store that is forwarded
forward_parts : (q : ℕ → Bool) (τ : Types) (S S' : AggStates) → AllParts q S → (p : Place) (y : Value) → Pass q (y ∷ [])
    → forward_store τ S p y ≡ some S' → AllParts q S'
unfolding forward_store
forward_parts q τ S S' h p y t e =
    elim (on_some_inv (first_integer p.projections) (λ k. store_from τ S p.base p.projections y k) S' e)
    [ through k ef e1 ↦ from_stored q τ S S' h p.base p.projections y k t e1 ]

-- ---- the pieces

-- kept or left out with an entry more
piece_parts : (q : ℕ → Bool) (S : AggStates) → AllParts q S → (d : ValueId) (o : Option (List Value)) (f : Option (List Value) → Piece)
    → ((f none).states ≡ S) → ((xs : List Value) → (f (some xs)).states ≡ insert_state S d xs)
    → ((xs : List Value) → o ≡ some xs → Pass q xs) → AllParts q (f o).states
piece_parts q S h d none f en es t = rw en h
piece_parts q S h d (some xs) f en es t = rw (es xs) (insert_parts q S d xs h (t xs refl))

-- a build
build_parts : (q : ℕ → Bool) (S : AggStates) → AllParts q S → (stay : Piece) → stay.states ≡ S → (d : ValueId) (b : Bool) (o : Option (List Value))
    → ((xs : List Value) → o ≡ some xs → Pass q xs) → AllParts q (step_build S stay d (folded_parts b o)).states
unfolding step_build tracked left
build_parts q S h stay es d b o t =
    piece_parts q S h d (folded_parts b o) (λ z. step_build S stay d z) es (λ xs. refl) (λ xs e. t xs (folded_inv b o xs e))

-- a build of the values as they are given
list_parts : (q : ℕ → Bool) (S : AggStates) → AllParts q S → (stay : Piece) → stay.states ≡ S → (d : ValueId) (b : Bool) (xs : List Value)
    → Pass q xs → AllParts q (step_build S stay d (folded_parts b (some xs))).states
list_parts q S h stay es d b xs t = build_parts q S h stay es d b (some xs) (λ ys e. let z : xs ≡ ys = same ys e in rw (← z) t)
  where
    same : (ys : List Value) → some xs ≡ some ys → xs ≡ ys
    same ys z = cc

-- an insert
insert_piece : (q : ℕ → Bool) (S : AggStates) → AllParts q S → (stay : Piece) → stay.states ≡ S → (d : ValueId) (o : Option (List Value))
    → ((xs : List Value) → o ≡ some xs → Pass q xs) → AllParts q (step_insert S stay d o).states
unfolding step_insert tracked left
insert_piece q S h stay es d o t = piece_parts q S h d o (λ z. step_insert S stay d z) es (λ xs. refl) t

-- an Assign
assign_parts : (q : ℕ → Bool) (S : AggStates) → AllParts q S → (stay : Piece) → stay.states ≡ S → (d : ValueId) (o : Option (List Value))
    → ((xs : List Value) → o ≡ some xs → Pass q xs) → AllParts q (step_assign S stay d o).states
unfolding step_assign tracked left
assign_parts q S h stay es d o t = piece_parts q S h d o (λ z. step_assign S stay d z) es (λ xs. refl) t

-- a part handed on or assigned
hand_parts : (q : ℕ → Bool) (S : AggStates) → AllParts q S → (d : ValueId) (u : TypeId) (x : Value) (o : Option (List Value))
    → ((xs : List Value) → o ≡ some xs → Pass q xs) → AllParts q (hand_on S d u x o).states
unfolding hand_on assigned tracked left
hand_parts q S h d u x o t = piece_parts q S h d o (λ z. hand_on S d u x z) refl (λ xs. refl) t

-- an extract
extract_parts : (q : ℕ → Bool) (S : AggStates) → AllParts q S → (stay : Piece) → stay.states ≡ S → (d : ValueId) (u : TypeId) (o : Option Value)
    → AllParts q (step_extract S stay d u o).states
unfolding step_extract
extract_parts q S h stay es d u none = rw es h
extract_parts q S h stay es d u (some x) = hand_parts q S h d u x (state_of S x) (λ xs e. state_passes q S h x xs e)

-- a Load with what its chain leads to
loaded_parts : (q : ℕ → Bool) (τ : Types) (S : AggStates) → AllParts q S → (stay : Piece) → stay.states ≡ S → (d : ValueId) (u : TypeId)
    (o : Option Value) → AllParts q (step_loaded τ S stay d u o).states
unfolding step_loaded
loaded_parts q τ S h stay es d u none = rw es h
loaded_parts q τ S h stay es d u (some x) =
    hand_parts q S h d u x (on_some (aggregate_type τ u) (λ c. state_of S x)) (λ xs e. found_passes q S h x (aggregate_type τ u) xs e)

-- a Load
load_parts : (q : ℕ → Bool) (τ : Types) (S : AggStates) → AllParts q S → (stay : Piece) → stay.states ≡ S → (d : ValueId) (p : Place) (u : TypeId)
    (o : Option ℕ) → AllParts q (step_load τ S stay d p u o).states
unfolding step_load
load_parts q τ S h stay es d p u none = rw es h
load_parts q τ S h stay es d p u (some k) =
    loaded_parts q τ S h stay es d u (on_some (S p.base.0) (λ xs. chain τ S (Value.Operand p.base) p.projections))

-- a Store
store_parts : (q : ℕ → Bool) (τ : Types) (S : AggStates) → AllParts q S → (stay : Piece) → stay.states ≡ S → (p : Place) (x : Value)
    (o : Option AggStates) → forward_store τ S p x ≡ o → Pass q (x ∷ []) → AllParts q (step_store S stay o).states
unfolding step_store left
store_parts q τ S h stay es p x none e t = rw es h
store_parts q τ S h stay es p x (some S') e t = forward_parts q τ S S' h p x t e

-- an arm that a setting turns off
guard_parts : (q : ℕ → Bool) (S : AggStates) → AllParts q S → (b : Bool) (stay : Piece) → stay.states ≡ S → (p : Piece) → AllParts q p.states
    → AllParts q (guarded b stay p).states
unfolding guarded
guard_parts q S h true stay es p t = t
guard_parts q S h false stay es p t = rw es h

-- ---- a step

-- every kind
kind_parts : (σ : Settings) (τ : Types) (φ : ValueId → Bool) (q : ℕ → Bool) (S : AggStates) → AllParts q S → (n : ℕ) (m : Meta) (k : InstructionKind)
    → T (every (λ v. q v.0) (counted_reads false k)) → AllParts q (step_kind σ τ φ S n (record { meta = m; kind = k }) k).states
unfolding step_kind
kind_parts σ τ φ q S h n m (Assign d x u) t =
    assign_parts q S h _ (stays_states σ τ S n _) d (on_some (aggregate_type τ u) (λ a. state_of S x))
    (λ xs e. found_passes q S h x (aggregate_type τ u) xs e)
kind_parts σ τ φ q S h n m (UnaryOp op d x) t = rw (stays_states σ τ S n _) h
kind_parts σ τ φ q S h n m (BinaryOp op d x y) t = rw (stays_states σ τ S n _) h
kind_parts σ τ φ q S h n m (Call ds f xs ps rs) t = rw (stays_states σ τ S n _) h
kind_parts σ τ φ q S h n m (Cast d x u v) t = rw (stays_states σ τ S n _) h
kind_parts σ τ φ q S h n m (Load d p u) t =
    guard_parts q S h (σ.tuples && walkable σ.edition p) _ (stays_states σ τ S n _) _
    (load_parts q τ S h _ (stays_states σ τ S n _) d p u (first_integer p.projections))
kind_parts σ τ φ q S h n m (Store p x u) t =
    guard_parts q S h (σ.tuples && walkable σ.edition p) _ (stays_states σ τ S n _) _
    (store_parts q τ S h _ (stays_states σ τ S n _) p x (forward_store τ S p x) refl (every_r (λ v. q v.0) (place_reads p) (operand x []) t))
kind_parts σ τ φ q S h n m (Debug a xs) t = rw (stays_states σ τ S n _) h
kind_parts σ τ φ q S h n m Nop t = rw (stays_states σ τ S n _) h
kind_parts σ τ φ q S h n m (Phi d u ss) t = rw (stays_states σ τ S n _) h
kind_parts σ τ φ q S h n m (MakeTuple d xs) t = list_parts q S h _ (stays_states σ τ S n _) d (φ d) xs t
kind_parts σ τ φ q S h n m (ExtractTupleElement d x k u) t =
    guard_parts q S h σ.tuples _ (stays_states σ τ S n _) _
    (extract_parts q S h _ (stays_states σ τ S n _) d u (on_some (state_of S x) (λ xs. get_elem? xs k)))
kind_parts σ τ φ q S h n m (MakeStruct d fs u) t =
    build_parts q S h _ (stays_states σ τ S n _) d (φ d) (struct_parts τ d fs u) (λ xs e. parts_given (λ v. q v.0) τ d fs u xs t e)
kind_parts σ τ φ q S h n m (ExtractStructField d x f u) t =
    guard_parts q S h σ.structs _ (stays_states σ τ S n _) _
    (extract_parts q S h _ (stays_states σ τ S n _) d u (on_some (extract_index τ x f) (λ k. on_some (state_of S x) (λ xs. get_elem? xs k))))
kind_parts σ τ φ q S h n m (InsertField d x f y u) t =
    guard_parts q S h σ.structs _ (stays_states σ τ S n _) _
    (insert_piece q S h _ (stays_states σ τ S n _) d (on_some (field_index (row_of τ (some u)) f) (λ k. on_some (state_of S x) (λ xs. St.replaced xs k y)))
    (λ ys e. elim (on_some_inv (field_index (row_of τ (some u)) f) (λ k. on_some (state_of S x) (λ xs. St.replaced xs k y)) ys e)
    [ through k c e1 ↦ put_passes q S h x k y ys (test_rest (λ v. q v.0) x (operand y []) t) e1 ]))
kind_parts σ τ φ q S h n m (InsertTuple d x k y u) t =
    guard_parts q S h σ.tuples _ (stays_states σ τ S n _) _
    (insert_piece q S h _ (stays_states σ τ S n _) d (on_some (state_of S x) (λ xs. St.replaced xs k y))
    (λ ys e. put_passes q S h x k y ys (test_rest (λ v. q v.0) x (operand y []) t) e))
kind_parts σ τ φ q S h n m (MakeFixedArray d xs u c) t = list_parts q S h _ (stays_states σ τ S n _) d (φ d) xs t
kind_parts σ τ φ q S h n m (AssertEq x y) t = rw (stays_states σ τ S n _) h
kind_parts σ τ φ q S h n m (HeapAllocCells d x) t = rw (stays_states σ τ S n _) h

-- what holds of all parts and of what an instruction reads holds of all parts behind the step
pub step_parts : (σ : Settings) (τ : Types) (φ : ValueId → Bool) (q : ℕ → Bool) (debug : Bool) (S : AggStates) (n : ℕ) (i : Instruction)
    → AllParts q S → T (every (λ v. q v.0) (counted_reads debug i.kind)) → AllParts q (step σ τ φ S n i).states
unfolding step
step_parts σ τ φ q debug S n i h t = kind_parts σ τ φ q S h n i.meta i.kind (reads_aside (λ v. q v.0) debug i.kind t)
