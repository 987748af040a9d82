-- (T): the parts of every tracked value fit its recorded type, at each point of a block whose instructions are typed. No run is involved.
use mathlib.Core.Path.{◌≡◌, refl, sym, ap, ◌∙◌}
use Prim.Native.Nat.{ℕ, ◌+◌}
use mathlib.Core.Bool.{Bool, true, false, ◌&&◌, ◌||◌}
use mathlib.Core.Option.{Option, none, some}
use mathlib.Core.List.{List, [], ◌∷◌}
use lib.Dec.{T, eqb, eqb→eq}
use lib.ListN.{length, get_elem?}
use Rattle.mir.specs.declared.ValueId.{ValueId}
use Rattle.mir.specs.declared.TypeId.{TypeId}
use Rattle.mir.specs.declared.Value.{Value}
use Rattle.mir.specs.declared.Projection.{Projection}
use Rattle.mir.specs.declared.Projection.TheVariants.{Index, Field, Tuple}
use Rattle.mir.specs.Syntax.{Meta, Place, Instruction, InstructionKind}
use Rattle.mir.specs.Syntax.{Assign, UnaryOp, BinaryOp, Call, Cast, Load, Store, Debug, Nop, Phi}
use Rattle.mir.specs.Syntax.{MakeTuple, ExtractTupleElement, MakeStruct, ExtractStructField, InsertField, InsertTuple, MakeFixedArray, AssertEq, HeapAllocCells}
use Rattle.fold.specs.declared.Settings.{Settings}
use Rattle.mir.specs.Lookup.{Types, row_of, recorded_type, value_row, is_tuple, is_struct, is_array, is_aggregate, struct_fields_of, on_some}
use Rattle.bytes_struct.specs.FindField.{field_index, field_type_of}
use Rattle.bytes_struct.proofs.Laws.{index_type}
use Rattle.mir.specs.Parts.{struct_parts, part_type, operand_row, is_pointer}
use Rattle.rewrite.specs.State.{AggStates, no_states, insert_state, state_of, step_index, step_part, chain, first_integer, store_part, store_last, store_deeper, store_from, forward_store}
use Rattle.rewrite.specs.State as St
use Rattle.rewrite.specs.Rebuild.{aggregate_type}
use Rattle.rewrite.specs.Piece.{Piece, kept, left, tracked, assigned}
use Rattle.rewrite.specs.Stays.{guarded}
use Rattle.rewrite.specs.Step.{step_build, folded_parts, step_insert, hand_on, step_extract, extract_index, step_loaded, step_load, step_store, step_assign, step_kind, step, walkable}
use Rattle.shelf.specs.Lists.{every}
use Rattle.shelf.specs.Agrees.{index_fits}
use Rattle.shelf.specs.Fits.{same_type, fits, step_type, place_type, fields_fit}
use Rattle.machine_simulation.specs.Typing.{Whole, leads_to, typed, TypedStates, states_after}
use Rattle.machine_simulation.proofs.Tools.{both_l, both_r, none_some, split, passes, fails, cond_yes, change_other, is_none, is_some, opt}
use Rattle.machine_simulation.proofs.Frame.{cond_some}
use Rattle.machine_simulation.proofs.Cases.{same_type→eq, fits_type, same_row}
use Rattle.machine_simulation.proofs.Builds.{whole_fit, struct_whole, folded_inv, through, on_some_inv}
use Rattle.machine_simulation.proofs.Takes.{tuple_type, field_type_lem, index_of}
use Rattle.machine_simulation.proofs.Loads.{array_part, cond_true, stepped, step_inv, no_place, no_pointer, own_fits, has_type_lem, load_type}
use Rattle.machine_simulation.proofs.Puts.{whole_replaced, field_fits}
use Rattle.machine_simulation.proofs.Stores.{store_type, array_step, first_number}
use Rattle.rewrite.proofs.StaysStates.{stays_states}

-- ---- one entry more

-- an entry that fits
insert_typed : (τ : Types) (S : AggStates) (d : ValueId) (xs : List Value) → TypedStates τ S → Whole τ (recorded_type τ d) xs
    → TypedStates τ (insert_state S d xs)
unfolding insert_state
insert_typed τ S d xs ts new v ys h =
    elim (split (eqb v.0 d.0)) [
      | passes y ↦ let q : v ≡ d = ap (λ (k : ℕ). record { 0 = k }) (eqb→eq v.0 d.0 y) in
          let p : xs ≡ ys = got (sym (cond_yes (eqb v.0 d.0) (some xs) (S v.0) y) ∙ h) in
          rw q (rw (← p) new)
      | fails n ↦ ts v ys (sym (change_other S d.0 xs v.0 n) ∙ h)
    ]
  where
    got : some xs ≡ some ys → xs ≡ ys
    got z = cc

-- a tracked value and its parts
data SeenTyped (τ : Types) (x : Value) (xs : List Value) : Type 0 where
  seen : (v : ValueId) → x ≡ Value.Operand v → Whole τ (recorded_type τ v) xs → SeenTyped τ x xs

-- what is known of a tracked value
see : (τ : Types) (S : AggStates) → TypedStates τ S → (x : Value) (xs : List Value) → state_of S x ≡ some xs → SeenTyped τ x xs
unfolding state_of
see τ S ts (Value.Literal l) xs h = absurd (none_some h)
see τ S ts (Value.Operand v) xs h = seen v refl (ts v xs h)
see τ S ts Value.Error xs h = absurd (none_some h)

-- ---- steps and places

-- the part that a step leads to has the step's type
part_type_lem : (τ : Types) (v : ValueId) (p : Projection) (k : ℕ) (q : TypeId) → step_index τ v p ≡ some k → step_type (value_row τ v) p ≡ some q
    → part_type (value_row τ v) k ≡ some q
unfolding step_index step_type
part_type_lem τ v (Index x) k q e ty = array_part (value_row τ v) (cond_true (is_array (value_row τ v)) (part_type (value_row τ v) 0) q ty) k 0 ∙ cond_some (is_array (value_row τ v)) (part_type (value_row τ v) 0) q ty
part_type_lem τ v (Field n) k q e ty = sym (index_type (value_row τ v) n k e) ∙ ty
part_type_lem τ v (Tuple j) k q e ty = let z : j ≡ k = cc in rw (← z) (cond_some (is_tuple (value_row τ v)) (part_type (value_row τ v) j) q ty)

-- a part of a tracked value fits its type
part_fits : (τ : Types) (v : ValueId) (xs : List Value) (k : ℕ) (x : Value) (q : TypeId) → Whole τ (recorded_type τ v) xs → get_elem? xs k ≡ some x
    → part_type (value_row τ v) k ≡ some q → T (fits τ x (some q))
unfolding value_row
part_fits τ v xs k x q w h e = rw e at (w.each k x h)

-- so it fits that type
step_fits : (τ : Types) (S : AggStates) → TypedStates τ S → (x z : Value) (p : Projection) (ty : Option TypeId) (q : TypeId) → T (fits τ x ty)
    → step_part τ S x p ≡ some z → step_type (row_of τ ty) p ≡ some q → T (fits τ z (some q))
step_fits τ S ts x z p ty q f h e =
    elim (step_inv τ S x p z h) [
      | stepped v k xs xe ix lk ge ↦
          part_fits τ v xs k z q (ts v xs lk) ge (part_type_lem τ v p k q ix (rw (same_row τ v ty (fits_type τ v ty (rw xe at f))) e))
    ]

-- what a chain leads to fits the place's type
pub chain_fits : (τ : Types) (S : AggStates) → TypedStates τ S → (ps : List Projection) (x x' : Value) (ty : Option TypeId) (u : TypeId)
    → T (fits τ x ty) → chain τ S x ps ≡ some x' → place_type τ ty ps ≡ some u → T (fits τ x' (some u))
unfolding chain place_type
chain_fits τ S ts [] x x' ty u f e pt = let q : x ≡ x' = cc in rw (← q) (rw pt at f)
chain_fits τ S ts (p ∷ ps) x x' ty u f e pt =
    elim (on_some_inv (step_part τ S x p) (λ z. chain τ S z ps) x' e) [
      | through z sp ch ↦ elim (opt (step_type (row_of τ ty) p)) [
        | is_none n ↦ absurd (no_place τ ps u (rw n at pt))
        | is_some q so ↦ chain_fits τ S ts ps z x' (some q) u (step_fits τ S ts x z p ty q f sp so) ch (rw so at pt)
      ]
    ]

-- a part replaced
part_stored : (τ : Types) (S S' : AggStates) → TypedStates τ S → (v : ValueId) (k : ℕ) (y : Value) (u : TypeId) → T (fits τ y (some u))
    → part_type (value_row τ v) k ≡ some u → store_part S v k y ≡ some S' → TypedStates τ S'
unfolding store_part value_row
part_stored τ S S' ts v k y u fy pt e =
    elim (on_some_inv (S v.0) (λ xs. on_some (St.replaced xs k y) (λ ys. some (insert_state S v ys))) S' e) [
      | through xs lk e1 ↦ elim (on_some_inv (St.replaced xs k y) (λ ys. some (insert_state S v ys)) S' e1) [
        | through ys h e2 ↦ rw (← (state_is ys e2)) (insert_typed τ S v ys ts (whole_replaced τ (recorded_type τ v) xs k y ys (ts v xs lk) (rw pt fy) h))
      ]
    ]
  where
    state_is : (ys : List Value) → some (insert_state S v ys) ≡ some S' → insert_state S v ys ≡ S'
    state_is ys z = cc

-- at the last step of a deeper Store
last_stored : (τ : Types) (S S' : AggStates) → TypedStates τ S → (x : Value) (p : Projection) (y : Value) (ty : Option TypeId) (u : TypeId)
    → T (fits τ x ty) → T (fits τ y (some u)) → step_type (row_of τ ty) p ≡ some u → store_last τ S x p y ≡ some S' → TypedStates τ S'
unfolding store_last
last_stored τ S S' ts (Value.Literal l) p y ty u fx fy st e = absurd (none_some e)
last_stored τ S S' ts (Value.Operand v) p y ty u fx fy st e =
    elim (on_some_inv (step_index τ v p) (λ k. store_part S v k y) S' e)
    [ through k ix e1 ↦ part_stored τ S S' ts v k y u fy (part_type_lem τ v p k u ix (rw (same_row τ v ty (fits_type τ v ty fx)) st)) e1 ]
last_stored τ S S' ts Value.Error p y ty u fx fy st e = absurd (none_some e)

-- the same place from equal types
place_with : (τ : Types) (a b : Option TypeId) (ps : List Projection) (u : TypeId) → a ≡ b → place_type τ a ps ≡ some u → place_type τ b ps ≡ some u
place_with τ a b ps u e h = rw e at h

-- a deeper Store
deeper_stored : (τ : Types) (S S' : AggStates) → TypedStates τ S → (ps : List Projection) (x y : Value) (ty : Option TypeId) (u : TypeId)
    → T (fits τ x ty) → T (fits τ y (some u)) → place_type τ ty ps ≡ some u → store_deeper τ S x ps y ≡ some S' → TypedStates τ S'
unfolding store_deeper place_type
deeper_stored τ S S' ts [] x y ty u fx fy pt e = absurd (none_some e)
deeper_stored τ S S' ts (p ∷ []) x y ty u fx fy pt e = last_stored τ S S' ts x p y ty u fx fy pt e
deeper_stored τ S S' ts (p ∷ q ∷ ps) x y ty u fx fy pt e =
    elim (on_some_inv (step_part τ S x p) (λ z. store_deeper τ S z (q ∷ ps) y) S' e) [
      | through z sp e1 ↦ elim (opt (step_type (row_of τ ty) p)) [
        | is_none n ↦ absurd (no_place τ (q ∷ ps) u (place_with τ _ none (q ∷ ps) u n pt))
        | is_some o so ↦ deeper_stored τ S S' ts (q ∷ ps) z y (some o) u (step_fits τ S ts x z p ty o fx sp so) fy (place_with τ _ (some o) (q ∷ ps) u so pt) e1
      ]
    ]

-- ---- the pieces

-- kept or left out with an entry more
piece_typed : (τ : Types) (S : AggStates) → TypedStates τ S → (d : ValueId) (o : Option (List Value)) (f : Option (List Value) → Piece)
    → ((f none).states ≡ S) → ((xs : List Value) → (f (some xs)).states ≡ insert_state S d xs)
    → ((xs : List Value) → o ≡ some xs → Whole τ (recorded_type τ d) xs) → TypedStates τ (f o).states
piece_typed τ S ts d none f en es h = rw en ts
piece_typed τ S ts d (some xs) f en es h = rw (es xs) (insert_typed τ S d xs ts (h xs refl))

-- a build
build_typed : (τ : Types) (S : AggStates) → TypedStates τ S → (stay : Piece) → stay.states ≡ S → (d : ValueId) (o : Option (List Value))
    → ((xs : List Value) → o ≡ some xs → Whole τ (recorded_type τ d) xs) → TypedStates τ (step_build S stay d o).states
unfolding step_build kept tracked left
build_typed τ S ts stay es d o h = piece_typed τ S ts d o (λ q. step_build S stay d q) es (λ xs. refl) h

-- an insert
insert_piece : (τ : Types) (S : AggStates) → TypedStates τ S → (stay : Piece) → stay.states ≡ S → (d : ValueId) (o : Option (List Value))
    → ((xs : List Value) → o ≡ some xs → Whole τ (recorded_type τ d) xs) → TypedStates τ (step_insert S stay d o).states
unfolding step_insert kept tracked left
insert_piece τ S ts stay es d o h = piece_typed τ S ts d o (λ q. step_insert S stay d q) es (λ xs. refl) h

-- an Assign
assign_typed : (τ : Types) (S : AggStates) → TypedStates τ S → (stay : Piece) → stay.states ≡ S → (d : ValueId) (o : Option (List Value))
    → ((xs : List Value) → o ≡ some xs → Whole τ (recorded_type τ d) xs) → TypedStates τ (step_assign S stay d o).states
unfolding step_assign kept tracked left
assign_typed τ S ts stay es d o h = piece_typed τ S ts d o (λ q. step_assign S stay d q) es (λ xs. refl) h

-- a part handed on or assigned
hand_typed : (τ : Types) (S : AggStates) → TypedStates τ S → (d : ValueId) (u : TypeId) (x : Value) (o : Option (List Value))
    → ((xs : List Value) → o ≡ some xs → Whole τ (recorded_type τ d) xs) → TypedStates τ (hand_on S d u x o).states
unfolding hand_on assigned tracked left
hand_typed τ S ts d u x o h = piece_typed τ S ts d o (λ q. hand_on S d u x q) refl (λ xs. refl) h

-- a value of the dest's type hands its parts on
handed : (τ : Types) (S : AggStates) → TypedStates τ S → (d : ValueId) (u : TypeId) (x : Value) (xs : List Value)
    → T (same_type (recorded_type τ d) (some u)) → T (fits τ x (some u)) → state_of S x ≡ some xs → Whole τ (recorded_type τ d) xs
handed τ S ts d u x xs td fx lk = elim (see τ S ts x xs lk) [ seen v q w ↦ rw (same_type→eq _ _ td) (rw (fits_type τ v (some u) (rw q at fx)) at w) ]

-- an extract
extract_typed : (τ : Types) (S : AggStates) → TypedStates τ S → (stay : Piece) → stay.states ≡ S → (d : ValueId) (u : TypeId) (o : Option Value)
    → T (same_type (recorded_type τ d) (some u)) → ((x : Value) → o ≡ some x → T (fits τ x (some u))) → TypedStates τ (step_extract S stay d u o).states
unfolding step_extract kept
extract_typed τ S ts stay es d u none td h = rw es ts
extract_typed τ S ts stay es d u (some x) td h = hand_typed τ S ts d u x (state_of S x) (λ xs e. handed τ S ts d u x xs td (h x refl) e)

-- a Load with its chain
loaded_typed : (τ : Types) (S : AggStates) → TypedStates τ S → (stay : Piece) → stay.states ≡ S → (d : ValueId) (p : Place) (u : TypeId) (o : Option Value)
    → on_some (S p.base.0) (λ xs. chain τ S (Value.Operand p.base) p.projections) ≡ o → T (typed τ (Load d p u))
    → TypedStates τ (step_loaded τ S stay d u o).states
unfolding step_loaded kept typed
loaded_typed τ S ts stay es d p u none e ty = rw es ts
loaded_typed τ S ts stay es d p u (some x) e ty =
    elim (on_some_inv (S p.base.0) (λ xs. chain τ S (Value.Operand p.base) p.projections) x e) [
      | through xs lk ch ↦
          let w = ts p.base xs lk in
          let ht = has_type_lem τ (recorded_type τ p.base) xs w in
          let a : Bool = same_type (recorded_type τ d) (some u) in
          let l : Bool = leads_to τ p u in
          let b : Bool = l && every (index_fits τ) p.projections in
          let tt' = load_type (is_pointer (value_row τ p.base)) a b (rw (same_row τ p.base (recorded_type τ p.base) refl) (no_pointer (row_of τ (recorded_type τ p.base)) (length xs) w.sized)) ty in
          let fx = chain_fits τ S ts p.projections (Value.Operand p.base) x (recorded_type τ p.base) u (own_fits τ p.base ht.0 ht.1) ch (same_type→eq _ _ (both_l l (every (index_fits τ) p.projections) (both_r a b tt'))) in
          hand_typed τ S ts d u x (on_some (aggregate_type τ u) (λ c. state_of S x))
          (λ ys h. elim (on_some_inv (aggregate_type τ u) (λ c. state_of S x) ys h) [ through c e1 e2 ↦ handed τ S ts d u x ys (both_l a b tt') fx e2 ])
    ]

-- a Load
load_typed : (τ : Types) (S : AggStates) → TypedStates τ S → (stay : Piece) → stay.states ≡ S → (d : ValueId) (p : Place) (u : TypeId) (o : Option ℕ)
    → T (typed τ (Load d p u)) → TypedStates τ (step_load τ S stay d p u o).states
unfolding step_load kept
load_typed τ S ts stay es d p u none ty = rw es ts
load_typed τ S ts stay es d p u (some k) ty = loaded_typed τ S ts stay es d p u (on_some (S p.base.0) (λ xs. chain τ S (Value.Operand p.base) p.projections)) refl ty

-- a Store that is forwarded, by one projection or more
part_of : (τ : Types) (S S' : AggStates) (b : ValueId) (k : ℕ) (y : Value) → on_some (S b.0)
    (λ xs. on_some (St.replaced xs k y) (λ ys. some (insert_state S b ys))) ≡ some S' → store_part S b k y ≡ some S'
unfolding store_part
part_of τ S S' b k y e = e

-- from the first projection on
from_typed : (τ : Types) (S S' : AggStates) → TypedStates τ S → (b : ValueId) (ps : List Projection) (y : Value) (u : TypeId) (k : ℕ)
    → first_integer ps ≡ some k → T (fits τ y (some u))
    → ((xs : List Value) → S b.0 ≡ some xs → place_type τ (recorded_type τ b) ps ≡ some u) → store_from τ S b ps y k ≡ some S' → TypedStates τ S'
unfolding store_from store_part place_type value_row
from_typed τ S S' ts b [] y u k ef fy pt e = absurd (none_some e)
from_typed τ S S' ts b (p ∷ []) y u k ef fy pt e =
    elim (on_some_inv (S b.0) (λ xs. on_some (St.replaced xs k y) (λ ys. some (insert_state S b ys))) S' e)
    [ through xs lk e1 ↦ part_stored τ S S' ts b k y u fy (array_step (row_of τ (recorded_type τ b)) k u (rw (first_number p [] k ef) at (pt xs lk))) (part_of τ S S' b k y e) ]
from_typed τ S S' ts b (p ∷ q ∷ ps) y u k ef fy pt e =
    elim (on_some_inv (S b.0) (λ xs. on_some (get_elem? xs k) (λ x. store_deeper τ S x (q ∷ ps) y)) S' e) [
      | through xs lk e1 ↦ elim (on_some_inv (get_elem? xs k) (λ x. store_deeper τ S x (q ∷ ps) y) S' e1) [
        | through x ge e2 ↦
            let pe : place_type τ (step_type (row_of τ (recorded_type τ b)) p) (q ∷ ps) ≡ some u = pt xs lk in
            elim (opt (step_type (row_of τ (recorded_type τ b)) p)) [
              | is_none n ↦ absurd (no_place τ (q ∷ ps) u (place_with τ _ none (q ∷ ps) u n pe))
              | is_some o so ↦
                  deeper_stored τ S S' ts (q ∷ ps) x y (some o) u
                  (part_fits τ b xs k x o (ts b xs lk) ge (array_step (row_of τ (recorded_type τ b)) k o (rw (first_number p (q ∷ ps) k ef) at so))) fy (place_with τ _ (some o) (q ∷ ps) u so pe) e2
            ]
      ]
    ]

-- a Store that is forwarded
forward_typed : (τ : Types) (S S' : AggStates) → TypedStates τ S → (p : Place) (y : Value) (u : TypeId) → T (typed τ (Store p y u))
    → forward_store τ S p y ≡ some S' → TypedStates τ S'
unfolding forward_store typed
forward_typed τ S S' ts p y u ty e =
    let a : Bool = fits τ y (some u) in
    let c : Bool = is_pointer (value_row τ p.base) in
    let d : Bool = is_aggregate (value_row τ p.base) in
    let g : Bool = same_type (place_type τ (recorded_type τ p.base) p.projections) (some u) in
    elim (on_some_inv (first_integer p.projections) (λ k. store_from τ S p.base p.projections y k) S' e) [
      | through k ef e1 ↦ from_typed τ S S' ts p.base p.projections y u k ef (both_l a (c || (d && g)) ty)
          (λ xs lk. same_type→eq _ _ (store_type a c d g (rw (same_row τ p.base (recorded_type τ p.base) refl) (no_pointer (row_of τ (recorded_type τ p.base)) (length xs) (ts p.base xs lk).sized)) ty)) e1
    ]

-- a Store
store_typed : (τ : Types) (S : AggStates) → TypedStates τ S → (stay : Piece) → stay.states ≡ S → (p : Place) (x : Value) (u : TypeId) (o : Option AggStates)
    → forward_store τ S p x ≡ o → T (typed τ (Store p x u)) → TypedStates τ (step_store S stay o).states
unfolding step_store left
store_typed τ S ts stay es p x u none e ty = rw es ts
store_typed τ S ts stay es p x u (some S') e ty = forward_typed τ S S' ts p x u ty e

-- an arm that a setting turns off
guard_typed : (τ : Types) (S : AggStates) → TypedStates τ S → (b : Bool) (stay : Piece) → stay.states ≡ S → (p : Piece) → TypedStates τ p.states
    → TypedStates τ (guarded b stay p).states
unfolding guarded
guard_typed τ S ts true stay es p h = h
guard_typed τ S ts false stay es p h = rw es ts

-- an insert's parts fit the dest's type
inserted_typed : (τ : Types) (S : AggStates) → TypedStates τ S → (d : ValueId) (x : Value) (k : ℕ) (y : Value) (u : TypeId) (xs ys : List Value)
    → T (same_type (recorded_type τ d) (some u)) → T (fits τ x (some u)) → T (fits τ y (part_type (row_of τ (some u)) k))
    → state_of S x ≡ some xs → St.replaced xs k y ≡ some ys → Whole τ (recorded_type τ d) ys
inserted_typed τ S ts d x k y u xs ys td fx fy lk h =
    elim (see τ S ts x xs lk) [ seen v q w ↦ rw (same_type→eq _ _ td) (whole_replaced τ (some u) xs k y ys (rw (fits_type τ v (some u) (rw q at fx)) at w) fy h) ]

-- every kind
kind_typed : (σ : Settings) (τ : Types) (φ : ValueId → Bool) (S : AggStates) → TypedStates τ S → (n : ℕ) (m : Meta) (k : InstructionKind)
    → T (typed τ k) → TypedStates τ (step_kind σ τ φ S n (record { meta = m; kind = k }) k).states
unfolding step_kind typed
kind_typed σ τ φ S ts n m (Assign d x u) ty =
    assign_typed τ S ts _ (stays_states σ τ S n _) d (on_some (aggregate_type τ u) (λ a. state_of S x))
    (λ xs h. elim (on_some_inv (aggregate_type τ u) (λ a. state_of S x) xs h) [ through a e1 e2 ↦ handed τ S ts d u x xs (search (both_l)) (search (both_l, both_r)) e2 ])
kind_typed σ τ φ S ts n m (UnaryOp op d x) ty = rw (stays_states σ τ S n _) ts
kind_typed σ τ φ S ts n m (BinaryOp op d x y) ty = rw (stays_states σ τ S n _) ts
kind_typed σ τ φ S ts n m (Call ds f xs ps rs) ty = rw (stays_states σ τ S n _) ts
kind_typed σ τ φ S ts n m (Cast d x u v) ty = rw (stays_states σ τ S n _) ts
kind_typed σ τ φ S ts n m (Load d p u) ty = guard_typed τ S ts (σ.tuples && walkable σ.edition p) _ (stays_states σ τ S n _) _ (load_typed τ S ts _ (stays_states σ τ S n _) d p u (first_integer p.projections) ty)
kind_typed σ τ φ S ts n m (Store p x u) ty = guard_typed τ S ts (σ.tuples && walkable σ.edition p) _ (stays_states σ τ S n _) _ (store_typed τ S ts _ (stays_states σ τ S n _) p x u (forward_store τ S p x) refl ty)
kind_typed σ τ φ S ts n m (Debug a xs) ty = rw (stays_states σ τ S n _) ts
kind_typed σ τ φ S ts n m Nop ty = rw (stays_states σ τ S n _) ts
kind_typed σ τ φ S ts n m (Phi d u ss) ty = rw (stays_states σ τ S n _) ts
kind_typed σ τ φ S ts n m (MakeTuple d xs) ty =
    build_typed τ S ts _ (stays_states σ τ S n _) d (folded_parts (φ d) (some xs)) (λ ys h. let q : xs ≡ ys = same ys (folded_inv (φ d) (some xs) ys h) in rw (← q) (whole_fit τ (recorded_type τ d) xs (search (both_l, both_r))))
  where
    same : (ys : List Value) → some xs ≡ some ys → xs ≡ ys
    same ys z = cc
kind_typed σ τ φ S ts n m (ExtractTupleElement d x k u) ty =
    guard_typed τ S ts σ.tuples _ (stays_states σ τ S n _) _ (extract_typed τ S ts _ (stays_states σ τ S n _) d u (on_some (state_of S x) (λ xs. get_elem? xs k)) (search (both_l))
    (λ z h. elim (on_some_inv (state_of S x) (λ xs. get_elem? xs k) z h) [
      | through xs a b ↦ elim (see τ S ts x xs a) [
        | seen v q w ↦ let tz : T (same_type (part_type (operand_row τ x) k) (some u)) = search (both_l, both_r) in part_fits τ v xs k z u w b (tuple_type τ v k u (rw q at tz))
      ]
    ]))
kind_typed σ τ φ S ts n m (MakeStruct d fs u) ty =
    build_typed τ S ts _ (stays_states σ τ S n _) d (folded_parts (φ d) (struct_parts τ d fs u)) (λ xs h.
    let t1 : T (same_type (recorded_type τ d) (some u)) = search (both_l) in
    let t2 : T (is_struct (row_of τ (some u))) = search (both_l, both_r) in
    let t3 : T (fields_fit τ fs (struct_fields_of (row_of τ (some u)))) = search (both_l, both_r) in
    struct_whole τ d fs u xs (same_type→eq _ _ t1) t2 t3 (folded_inv (φ d) (struct_parts τ d fs u) xs h))
kind_typed σ τ φ S ts n m (ExtractStructField d x f u) ty =
    guard_typed τ S ts σ.structs _ (stays_states σ τ S n _) _ (extract_typed τ S ts _ (stays_states σ τ S n _) d u (on_some (extract_index τ x f) (λ k. on_some (state_of S x) (λ xs. get_elem? xs k))) (search (both_l))
    (λ z h. elim (on_some_inv (extract_index τ x f) (λ k. on_some (state_of S x) (λ xs. get_elem? xs k)) z h) [
      | through k c h' ↦ elim (on_some_inv (state_of S x) (λ xs. get_elem? xs k) z h') [
        | through xs a b ↦ elim (see τ S ts x xs a) [
          | seen v q w ↦ let tz : T (same_type (field_type_of (operand_row τ x) f) (some u)) = search (both_l, both_r) in part_fits τ v xs k z u w b (field_type_lem τ v f k u (index_of τ v f k (rw q at c)) (rw q at tz))
        ]
      ]
    ]))
kind_typed σ τ φ S ts n m (InsertField d x f y u) ty =
    guard_typed τ S ts σ.structs _ (stays_states σ τ S n _) _ (insert_piece τ S ts _ (stays_states σ τ S n _) d (on_some (field_index (row_of τ (some u)) f) (λ k. on_some (state_of S x) (λ xs. St.replaced xs k y)))
    (λ ys h. elim (on_some_inv (field_index (row_of τ (some u)) f) (λ k. on_some (state_of S x) (λ xs. St.replaced xs k y)) ys h) [
      | through k c h' ↦ elim (on_some_inv (state_of S x) (λ xs. St.replaced xs k y) ys h') [
        | through xs a b ↦ let tf : T (fits τ y (field_type_of (row_of τ (some u)) f)) = search (both_l, both_r) in
            inserted_typed τ S ts d x k y u xs ys (search (both_l)) (search (both_l, both_r)) (field_fits τ (row_of τ (some u)) f k y c tf) a b
      ]
    ]))
kind_typed σ τ φ S ts n m (InsertTuple d x k y u) ty =
    guard_typed τ S ts σ.tuples _ (stays_states σ τ S n _) _ (insert_piece τ S ts _ (stays_states σ τ S n _) d (on_some (state_of S x) (λ xs. St.replaced xs k y))
    (λ ys h. elim (on_some_inv (state_of S x) (λ xs. St.replaced xs k y) ys h) [ through xs a b ↦ inserted_typed τ S ts d x k y u xs ys (search (both_l)) (search (both_l, both_r)) (search (both_l, both_r)) a b ]))
kind_typed σ τ φ S ts n m (MakeFixedArray d xs u c) ty =
    build_typed τ S ts _ (stays_states σ τ S n _) d (folded_parts (φ d) (some xs)) (λ ys h. let q : xs ≡ ys = same ys (folded_inv (φ d) (some xs) ys h) in rw (← q) (whole_fit τ (recorded_type τ d) xs (search (both_l, both_r))))
  where
    same : (ys : List Value) → some xs ≡ some ys → xs ≡ ys
    same ys z = cc
kind_typed σ τ φ S ts n m (AssertEq x y) ty = rw (stays_states σ τ S n _) ts
kind_typed σ τ φ S ts n m (HeapAllocCells d x) ty = rw (stays_states σ τ S n _) ts

-- a typed instruction leaves (T) as it was
pub step_typed : (σ : Settings) (τ : Types) (φ : ValueId → Bool) (S : AggStates) (n : ℕ) (i : Instruction) → TypedStates τ S → T (typed τ i.kind)
    → TypedStates τ (step σ τ φ S n i).states
unfolding step
step_typed σ τ φ S n i ts ty = kind_typed σ τ φ S ts n i.meta i.kind ty

-- instruction by instruction
after_typed : (σ : Settings) (τ : Types) (φ : ValueId → Bool) (S : AggStates) (n : ℕ) (is : List Instruction) → TypedStates τ S
    → T (every (λ i. typed τ i.kind) is) → TypedStates τ (states_after σ τ φ S n is)
unfolding states_after
after_typed σ τ φ S n [] ts ty = ts
after_typed σ τ φ S n (i ∷ is) ts ty =
    let p = step σ τ φ S n i in
    after_typed σ τ φ p.states (n + length p.fresh) is (step_typed σ τ φ S n i ts (both_l (typed τ i.kind) (every (λ i. typed τ i.kind) is) ty)) (both_r (typed τ i.kind) (every (λ i. typed τ i.kind) is) ty)

-- (T): behind any typed instructions from the start of a block, by any decision
pub tracked_typed : (σ : Settings) (τ : Types) (φ : ValueId → Bool) (n : ℕ) (is : List Instruction) → T (every (λ i. typed τ i.kind) is)
    → TypedStates τ (states_after σ τ φ no_states n is)
unfolding no_states
tracked_typed σ τ φ n is ty = after_typed σ τ φ no_states n is (λ v xs h. absurd (none_some h)) ty
