-- The table's rows are the kinds: walking a row does to the walk what the kind's decoder says of the bytes.
use Prim.Native.Nat.{ℕ, zero, suc, ◌+◌, ◌<◌}
use mathlib.Core.Path.{◌≡◌, refl, ap, ◌∙◌, sym}
use mathlib.Core.List.{List, [], ◌∷◌, ◌++◌, map}
use mathlib.Core.Bool.{Bool, true}
use native.Mathlib.Nat.{add-zero, zero-add}
use native.Mathlib.Omega.{arith}
use lib.ListN.{length, get_or, drop}
use lib.Dec.{leb, eqb}
use Rattle.bytes_wire.specs.Parse.{Parse, ok, bad, later, and_then, map_parse, checked, seq_of}
use Rattle.bytes_wire.specs.Number.{u8_of, u16_of}
use Rattle.bytes_wire.specs.Value.{value_of}
use Rattle.bytes_wire.specs.declared.Cause.{Cause}
use Rattle.mir.specs.declared.Value.{Value}
use Rattle.mir.specs.declared.ValueId.{ValueId}
use Rattle.bytes_wire.proofs.Laws.{map_map, map_and, and_map, and_ok, and_nothing, assoc, from_8}
use Rattle.bytes_wire.proofs.Inv.{no_ok, both, image, and_inv, map_inv, checked_inv, number_inv}
use Rattle.mir.specs.declared.Projection.{Projection}
use Rattle.mir.specs.declared.Projection.TheVariants.{Index, Field, Tuple}
use Rattle.mir.specs.Syntax.{Source, FieldInit, InstructionKind}
use Rattle.mir.specs.Reads.{operand, operands, indices, source_values, init_values, reads, dests, kind_number, is_phi}
use Rattle.bytes_field.specs.Decode.{count_of, list_of, defined_of, defined_seq, defineds_of, mark, type_id_of, projection_of, place_of, source_of, field_init_of, returns_of}
use Rattle.bytes_field.specs.Decode.{assign_of, unary_of, binary_of, call_of, cast_of, load_of, store_of, debug_of, phi_of, make_tuple_of, extract_tuple_of, make_struct_of}
use Rattle.bytes_field.specs.Decode.{extract_field_of, insert_field_of, insert_tuple_of, make_array_of, assert_eq_of, heap_alloc_of, kinds, jump_of, if_of, branch_of, return_of, terminators}
use Rattle.bytes_field.specs.Walk.{Walk, defines, uses, uses_value, uses_projection, fold, uses_place, behind, leaves, simple_walk, atom_walk, pair_walk, times, list_walk, any_many, exactly, place_walk, field_walk, row_walk, rows, terminator_rows}
use Rattle.bytes_field.specs.declared.Bounds.{Bounds}

-- two lists, one behind the other
pub fold_append : {X A : Type 0} (f : X → A → X) (x : X) (l m : List A) → fold f x (l ++ m) ≡ fold f (fold f x l) m
fold_append f x [] m = refl
fold_append f x (a ∷ l) m = fold_append f (f x a) l m

-- steps that change nothing
pub fold_none : {X A : Type 0} (x : X) (l : List A) → fold (λ y a. y) x l ≡ x
fold_none x [] = refl
fold_none x (a ∷ l) = fold_none x l

-- a value's number is read in front of the others
pub uses_operand : (w : Walk) (x : Value) (vs : List ValueId) → fold uses w (operand x vs) ≡ fold uses (uses_value w x) vs
uses_operand w (Value.Literal l) vs = refl
uses_operand w (Value.Operand v) vs = refl
uses_operand w Value.Error vs = refl

-- each value of a list
pub uses_values : (w : Walk) (xs : List Value) → fold uses_value w xs ≡ fold uses w (operands xs)
uses_values w [] = refl
uses_values w (x ∷ xs) = uses_values (uses_value w x) xs ∙ sym (uses_operand w x (operands xs))

-- each value behind a name
pub uses_inits : (w : Walk) (fs : List FieldInit) → fold (λ v f. uses_value v f.value) w fs ≡ fold uses w (operands (init_values fs))
uses_inits w [] = refl
uses_inits w (f ∷ fs) = uses_inits (uses_value w f.value) fs ∙ sym (uses_operand w f.value (operands (init_values fs)))

-- each value behind a block
pub uses_sources : (w : Walk) (ss : List Source) → fold (λ v p. uses_value v p.value) w ss ≡ fold uses w (operands (source_values ss))
uses_sources w [] = refl
uses_sources w (p ∷ ss) = uses_sources (uses_value w p.value) ss ∙ sym (uses_operand w p.value (operands (source_values ss)))

-- each Index value
pub uses_projections : (w : Walk) (ps : List Projection) → fold uses_projection w ps ≡ fold uses w (operands (indices ps))
uses_projections w [] = refl
uses_projections w (Index x ∷ ps) = uses_projections (uses_value w x) ps ∙ sym (uses_operand w x (operands (indices ps)))
uses_projections w (Field n ∷ ps) = uses_projections w ps
uses_projections w (Tuple k ∷ ps) = uses_projections w ps

-- k elements, each of which does a step, do all the steps
pub times_seq : {A : Type 0} (f : Walk → List ℕ → Parse Walk) (step : Walk → A → Walk) (dec : List ℕ → Parse A) → ((w : Walk) (t : List ℕ) → f w t ≡ map_parse (step w) (dec t)) → (k : ℕ) (w : Walk) (s : List ℕ) → times f k w s ≡ map_parse (fold step w) (seq_of dec k s)
unfolding times seq_of
times_seq f step dec h zero w s = refl
times_seq f step dec h (suc k) w s =
    let ih : (v : Walk) (t : List ℕ) → times f k v t ≡ map_parse (fold step v) (seq_of dec k t) = λ v t. times_seq f step dec h k v t in
    simp (h, and_map, map_and, map_map, ih)

-- k defined values, none of which was defined before
pub times_defined : (b : Bounds) (k : ℕ) (w : Walk) (s : List ℕ) → times (pair_walk b 1 0) k w s ≡ map_parse (fold defines w) (defined_seq b.next w.seen k s)
unfolding times defined_seq atom_walk simple_walk
times_defined b zero w s = refl
times_defined b (suc k) w s =
    let ih : (v : Walk) (t : List ℕ) → times (pair_walk b 1 0) k v t ≡ map_parse (fold defines v) (defined_seq b.next v.seen k t) = λ v t. times_defined b k v t in
    simp (and_nothing, and_map, map_and, map_map, ih)

-- the same made of every value
pub map_same : {A B : Type 0} (f g : A → B) (d : Parse A) → ((a : A) → f a ≡ g a) → map_parse f d ≡ map_parse g d
map_same f g (ok a n) h = ap (λ x. ok x n) (h a)
map_same f g (bad c o) h = refl

-- a test that always holds
checked_any : {A : Type 0} (c : Cause) (d : Parse A) → checked c (λ a. true) d ≡ d
checked_any c (ok a n) = refl
checked_any c (bad k o) = refl

-- lists each of whose elements does a step, where the steps together do `whole`
module _ {A : Type 0} (b : Bounds) (c e : ℕ) (step : Walk → A → Walk) (dec : List ℕ → Parse A) (each : (w : Walk) (t : List ℕ) → pair_walk b c e w t ≡ map_parse (step w) (dec t)) (whole : Walk → List A → Walk) (all : (w : Walk) (xs : List A) → fold step w xs ≡ whole w xs) where
  -- k elements
  times_whole : (k : ℕ) (w : Walk) (s : List ℕ) → times (pair_walk b c e) k w s ≡ map_parse (whole w) (seq_of dec k s)
  times_whole k w s = times_seq (pair_walk b c e) step dec each k w s ∙ map_same (fold step w) (whole w) (seq_of dec k s) (all w)

  -- any number of elements up to m
  list_whole : (m : ℕ) (w : Walk) (s : List ℕ) → list_walk b (any_many m) c e w s ≡ map_parse (whole w) (list_of m dec s)
  unfolding list_walk list_of
  list_whole m w s = simp (checked_any, times_whole, map_and)

  -- just `many` elements
  list_exactly : (m many : ℕ) (w : Walk) (s : List ℕ) → list_walk b (exactly m many) c e w s ≡ map_parse (whole w) (and_then s (checked Cause.CallCounts (λ n. eqb n many) (count_of m s)) (λ n t. seq_of dec n t))
  unfolding list_walk
  list_exactly m many w s = simp (times_whole, map_and)

-- the lists of a row
module _ (b : Bounds) (m : ℕ) (w : Walk) (s : List ℕ) where
  -- values
  pub values_list : list_walk b (any_many m) 2 0 w s ≡ map_parse (λ xs. fold uses w (operands xs)) (list_of m (value_of b.next) s)
  unfolding atom_walk simple_walk
  values_list = list_whole b 2 0 uses_value (value_of b.next) (λ v t. simp and_nothing) (λ v xs. fold uses v (operands xs)) uses_values m w s

  -- types
  pub types_list : list_walk b (any_many m) 3 0 w s ≡ map_parse (λ ts. w) (list_of m (type_id_of b.types) s)
  unfolding atom_walk simple_walk
  types_list = list_whole b 3 0 (λ v t. v) (type_id_of b.types) (λ v t. simp (and_nothing, map_map)) (λ v ts. v) fold_none m w s

  -- defined values
  pub defined_list : list_walk b (any_many m) 1 0 w s ≡ map_parse (fold defines w) (defineds_of m b.next w.seen s)
  unfolding list_walk defineds_of
  defined_list = simp (checked_any, times_defined, map_and)

  -- names with values
  pub inits_list : list_walk b (any_many m) 4 2 w s ≡ map_parse (λ fs. fold uses w (operands (init_values fs))) (list_of m (field_init_of b) s)
  unfolding atom_walk simple_walk
  inits_list = list_whole b 4 2 (λ v f. uses_value v f.value) (field_init_of b) (λ v t. simp (and_map, map_and, map_map)) (λ v fs. fold uses v (operands (init_values fs))) uses_inits m w s

  -- blocks with values
  pub sources_list : list_walk b (any_many m) 6 2 w s ≡ map_parse (λ ss. fold uses w (operands (source_values ss))) (list_of m (source_of b) s)
  unfolding atom_walk simple_walk
  sources_list = list_whole b 6 2 (λ v p. uses_value v p.value) (source_of b) (λ v t. simp (and_map, map_and, map_map)) (λ v ss. fold uses v (operands (source_values ss))) uses_sources m w s

  -- projections
  pub projections_list : list_walk b (any_many m) 10 0 w s ≡ map_parse (λ ps. fold uses w (operands (indices ps))) (list_of m (projection_of b.next) s)
  unfolding atom_walk simple_walk
  projections_list = list_whole b 10 0 uses_projection (projection_of b.next) (λ v t. simp and_nothing) (λ v ps. fold uses v (operands (indices ps))) uses_projections m w s

-- just so many types
pub returns_list : (b : Bounds) (seen : List Bool) (many : ℕ) (w : Walk) (s : List ℕ) → list_walk b (exactly b.list many) 3 0 w s ≡ map_parse (λ ts. w) (returns_of b seen many s)
unfolding atom_walk simple_walk returns_of
returns_list b seen many w s = list_exactly b 3 0 (λ v t. v) (type_id_of b.types) (λ v t. simp (and_nothing, map_map)) (λ v ts. v) fold_none b.list many w s

-- a place: its base is read, then the values of its Index steps
pub place_row : (b : Bounds) (w : Walk) (s : List ℕ) → place_walk b w s ≡ map_parse (uses_place w) (place_of b s)
unfolding place_walk simple_walk
place_row b w s = simp (projections_list, and_map, map_and, map_map)

-- a Call's fields, where the return types are to be `many`
unfoldable call_many : Bounds → List Bool → ℕ → List ℕ → Parse InstructionKind
call_many b seen many s =
    and_then s (defineds_of b.list b.next seen s) (λ ds s.
    and_then s (u16_of s) (λ f s.
    and_then s (list_of b.list (value_of b.next) s) (λ xs s.
    and_then s (list_of b.list (type_id_of b.types) s) (λ ps s.
    map_parse (λ rs. InstructionKind.Call ds f xs ps rs) (returns_of b seen many s)))))

-- one law for each kind, in `InstructionKind` order, then for each terminator
module _ (b : Bounds) (many : ℕ) (w : Walk) (s : List ℕ) where
  -- Assign: dest, value, type
  pub assign_row : row_walk b many 5 0x321 w s ≡ map_parse (behind w) (assign_of b w.seen s)
  unfolding row_walk field_walk simple_walk assign_of
  assign_row = simp (and_map, map_and, map_map, and_ok, uses_operand)

  -- UnaryOp: operation, dest, value
  pub unary_row : row_walk b many 5 0x219 w s ≡ map_parse (behind w) (unary_of b w.seen s)
  unfolding row_walk field_walk simple_walk unary_of
  unary_row = simp (and_map, map_and, map_map, and_ok, uses_operand)

  -- BinaryOp: operation, dest, two values
  pub binary_row : row_walk b many 5 0x2218 w s ≡ map_parse (behind w) (binary_of b w.seen s)
  unfolding row_walk field_walk simple_walk binary_of
  binary_row = simp (and_map, map_and, map_map, and_ok, uses_operand)

  -- Call: dests, callee, values, types, and `many` return types, however many dests
  call_many_lem : row_walk b many 5 0xfba4c w s ≡ map_parse (behind w) (call_many b w.seen many s)
  unfolding row_walk field_walk simple_walk call_many
  call_many_lem = simp (and_map, map_and, map_map, and_ok, defined_list, values_list, types_list, returns_list b w.seen)

  -- Cast: dest, value, two types
  pub cast_row : row_walk b many 5 0x3321 w s ≡ map_parse (behind w) (cast_of b w.seen s)
  unfolding row_walk field_walk simple_walk cast_of
  cast_row = simp (and_map, map_and, map_map, and_ok, uses_operand)

  -- Load: dest, place, type
  pub load_row : row_walk b many 5 0x371 w s ≡ map_parse (behind w) (load_of b w.seen s)
  unfolding row_walk field_walk simple_walk load_of
  load_row = simp (and_map, map_and, map_map, and_ok, place_row, assoc)

  -- Store: place, value, type
  pub store_row : row_walk b many 5 0x327 w s ≡ map_parse (behind w) (store_of b w.seen s)
  unfolding row_walk field_walk simple_walk store_of
  store_row = simp (and_map, map_and, map_map, and_ok, place_row, assoc, fold_append, uses_operand)

  -- Debug: message, values
  pub debug_row : row_walk b many 5 0xa5 w s ≡ map_parse (behind w) (debug_of b w.seen s)
  unfolding row_walk field_walk simple_walk debug_of
  debug_row = simp (and_map, map_and, map_map, and_ok, values_list)

  -- Nop, and Unreachable: no field
  pub nop_row : row_walk b many 5 0x0 w s ≡ ok w 0
  unfolding row_walk field_walk simple_walk
  nop_row = refl

  -- Phi: dest, type, blocks with values
  pub phi_row : row_walk b many 5 0xe31 w s ≡ map_parse (behind w) (phi_of b w.seen s)
  unfolding row_walk field_walk simple_walk phi_of
  phi_row = simp (and_map, map_and, map_map, and_ok, sources_list)

  -- MakeTuple: dest, values
  pub make_tuple_row : row_walk b many 5 0xa1 w s ≡ map_parse (behind w) (make_tuple_of b w.seen s)
  unfolding row_walk field_walk simple_walk make_tuple_of
  make_tuple_row = simp (and_map, map_and, map_map, and_ok, values_list)

  -- ExtractTupleElement: dest, value, index, type
  pub extract_tuple_row : row_walk b many 5 0x3521 w s ≡ map_parse (behind w) (extract_tuple_of b w.seen s)
  unfolding row_walk field_walk simple_walk extract_tuple_of
  extract_tuple_row = simp (and_map, map_and, map_map, and_ok, uses_operand)

  -- MakeStruct: dest, names with values, type
  pub make_struct_row : row_walk b many 5 0x3d1 w s ≡ map_parse (behind w) (make_struct_of b w.seen s)
  unfolding row_walk field_walk simple_walk make_struct_of
  make_struct_row = simp (and_map, map_and, map_map, and_ok, inits_list)

  -- ExtractStructField: dest, value, name, type
  pub extract_field_row : row_walk b many 5 0x3421 w s ≡ map_parse (behind w) (extract_field_of b w.seen s)
  unfolding row_walk field_walk simple_walk extract_field_of
  extract_field_row = simp (and_map, map_and, map_map, and_ok, uses_operand)

  -- InsertField: dest, value, name, value, type
  pub insert_field_row : row_walk b many 5 0x32421 w s ≡ map_parse (behind w) (insert_field_of b w.seen s)
  unfolding row_walk field_walk simple_walk insert_field_of
  insert_field_row = simp (and_map, map_and, map_map, and_ok, uses_operand)

  -- InsertTuple: dest, value, index, value, type
  pub insert_tuple_row : row_walk b many 5 0x32521 w s ≡ map_parse (behind w) (insert_tuple_of b w.seen s)
  unfolding row_walk field_walk simple_walk insert_tuple_of
  insert_tuple_row = simp (and_map, map_and, map_map, and_ok, uses_operand)

  -- MakeFixedArray: dest, values, type
  pub make_array_row : (c : Bool) → row_walk b many 5 0x3a1 w s ≡ map_parse (behind w) (make_array_of b w.seen c s)
  unfolding row_walk field_walk simple_walk make_array_of
  make_array_row c = simp (and_map, map_and, map_map, and_ok, values_list)

  -- AssertEq: two values
  pub assert_eq_row : row_walk b many 5 0x22 w s ≡ map_parse (behind w) (assert_eq_of b w.seen s)
  unfolding row_walk field_walk simple_walk assert_eq_of
  assert_eq_row = simp (and_map, map_and, map_map, and_ok, uses_operand)

  -- HeapAllocCells: dest, value
  pub heap_alloc_row : row_walk b many 5 0x21 w s ≡ map_parse (behind w) (heap_alloc_of b w.seen s)
  unfolding row_walk field_walk simple_walk heap_alloc_of
  heap_alloc_row = simp (and_map, map_and, map_map, and_ok, uses_operand)

  -- Jump: block
  pub jump_row : row_walk b many 5 0x6 w s ≡ map_parse (leaves w) (jump_of b s)
  unfolding row_walk field_walk simple_walk jump_of
  jump_row = simp (and_map, map_map, and_ok)

  -- If: value, two blocks
  pub if_row : row_walk b many 5 0x662 w s ≡ map_parse (leaves w) (if_of b s)
  unfolding row_walk field_walk simple_walk if_of
  if_row = simp (and_map, map_and, map_map, and_ok, uses_operand)

  -- BranchCmp: operation, two values, two blocks
  pub branch_row : row_walk b many 5 0x66228 w s ≡ map_parse (leaves w) (branch_of b s)
  unfolding row_walk field_walk simple_walk branch_of
  branch_row = simp (and_map, map_and, map_map, and_ok, uses_operand)

  -- Return: values
  pub return_row : row_walk b many 5 0xa w s ≡ map_parse (leaves w) (return_of b s)
  unfolding row_walk field_walk simple_walk return_of
  return_row = simp (and_map, map_map, and_ok, values_list)

-- as many values are defined as the count says
defined_length : (next : ℕ) (seen : List Bool) (k : ℕ) (s : List ℕ) {ds : List ValueId} {n : ℕ} → defined_seq next seen k s ≡ ok ds n → length ds ≡ k
unfolding defined_seq
defined_length next seen zero s {ds} e = let p : ds ≡ [] = cc in ap length p
defined_length next seen (suc k) s e =
    elim (and_inv s (defined_of next seen s) (λ d t. map_parse (λ xs. d ∷ xs) (defined_seq next (mark seen d) k t)) e) [
      | both d m j p q r ↦
          elim (map_inv (λ xs. d ∷ xs) (defined_seq next (mark seen d) k (drop m s)) q) [ image xs f g ↦ ap length g ∙ ap suc (defined_length next (mark seen d) k (drop m s) f) ]
    ]

-- a count is the first byte
pub count_first : (most : ℕ) (s : List ℕ) {k n : ℕ} → count_of most s ≡ ok k n → k ≡ get_or s 0 0
count_first most s e =
    let h = number_inv 1 s (checked_inv Cause.TooMany (λ n. leb n most) (u8_of s) e).0 in
    h.1 ∙ from_8 s 0

-- a list of defined values has as many as its first byte says
pub defineds_length : (most next : ℕ) (seen : List Bool) (s : List ℕ) {ds : List ValueId} {n : ℕ} → defineds_of most next seen s ≡ ok ds n → length ds ≡ get_or s 0 0
unfolding defineds_of
defineds_length most next seen s e =
    elim (and_inv s (count_of most s) (λ n t. defined_seq next seen n t) e)
    [ both k m j p q r ↦ defined_length next seen k (drop m s) q ∙ count_first most s p ]

-- what is known of the value may be used behind it
and_known : {A B : Type 0} (s : List ℕ) (d : Parse A) (view : A → ℕ) (x : ℕ) (g : ℕ → A → List ℕ → Parse B) → ((a : A) (n : ℕ) → d ≡ ok a n → view a ≡ x) → and_then s d (λ a t. g (view a) a t) ≡ and_then s d (λ a t. g x a t)
and_known s (ok a n) view x g h = ap (λ y. later n (g y a (drop n s))) (h a n refl)
and_known s (bad c o) view x g h = refl

-- a Call has as many return types as its first byte says
pub call_row : (b : Bounds) (w : Walk) (s : List ℕ) → row_walk b (get_or s 0 0) 5 0xfba4c w s ≡ map_parse (behind w) (call_of b w.seen s)
unfolding call_of call_many
call_row b w s =
    call_many_lem b (get_or s 0 0) w s
    ∙ ap (map_parse (behind w)) (sym (and_known s (defineds_of b.list b.next w.seen s) length (get_or s 0 0)
    (λ many ds s.
    and_then s (u16_of s) (λ f s.
    and_then s (list_of b.list (value_of b.next) s) (λ xs s.
    and_then s (list_of b.list (type_id_of b.types) s) (λ ps s.
    map_parse (λ rs. InstructionKind.Call ds f xs ps rs) (returns_of b w.seen many s)))))
    (λ ds n. defineds_length b.list b.next w.seen s)))

-- a fact of every answer of a list and its number, from j on
infixr 67 ◌&◌
data Each {K : Type 0} (P : ℕ → Parse K → Type 0) : ℕ → List (Parse K) → Type 0 where
  none : {j : ℕ} → Each P j []
  ◌&◌ : {j : ℕ} {d : Parse K} {ds : List (Parse K)} → P j d → Each P (suc j) ds → Each P j (d ∷ ds)

-- so of the one at a place
each_at : {K : Type 0} (P : ℕ → Parse K → Type 0) (j : ℕ) (ds : List (Parse K)) → Each P j ds → (k : ℕ) → k < length ds → P (j + k) (get_or ds k (bad Cause.Undefined 0))
each_at P j [] none k h = absurd (omega arith)
each_at P j (d ∷ ds) (p & ps) zero h = rw add-zero p
each_at P j (d ∷ ds) (p & ps) (suc k) h = let e : j + suc k ≡ suc j + k = omega arith in rw e (each_at P (suc j) ds ps k (omega arith))

-- every kind's row
pub kind_row : (b : Bounds) (c : Bool) (w : Walk) (k : ℕ) (s : List ℕ) → k < 19 → row_walk b (get_or s 0 0) 5 (get_or rows k 0) w s ≡ map_parse (behind w) (get_or (map (λ f. f s) (kinds b w.seen c)) k (bad Cause.Undefined 0))
kind_row b c w k s h =
    let n = get_or s 0 0 in
    rw zero-add at (each_at (λ j d. row_walk b n 5 (get_or rows j 0) w s ≡ map_parse (behind w) d) 0 (map (λ f. f s) (kinds b w.seen c))
    (assign_row b n w s & unary_row b n w s & binary_row b n w s & call_row b w s & cast_row b n w s
    & load_row b n w s & store_row b n w s & debug_row b n w s & nop_row b n w s & phi_row b n w s
    & make_tuple_row b n w s & extract_tuple_row b n w s & make_struct_row b n w s & extract_field_row b n w s
    & insert_field_row b n w s & insert_tuple_row b n w s & make_array_row b n w s c & assert_eq_row b n w s
    & heap_alloc_row b n w s & none)
    k h)

-- every terminator's row
pub terminator_row : (b : Bounds) (many : ℕ) (w : Walk) (k : ℕ) (s : List ℕ) → k < 5 → row_walk b many 5 (get_or terminator_rows k 0) w s ≡ map_parse (leaves w) (get_or (map (λ f. f s) (terminators b)) k (bad Cause.Undefined 0))
terminator_row b many w k s h =
    rw zero-add at (each_at (λ j d. row_walk b many 5 (get_or terminator_rows j 0) w s ≡ map_parse (leaves w) d) 0 (map (λ f. f s) (terminators b))
    (jump_row b many w s & if_row b many w s & branch_row b many w s & return_row b many w s & nop_row b many w s & none)
    k h)

-- two things that are always made alike
same_made : {A B : Type 0} (f g : A → B) (d : Parse A) {a : A} {n : ℕ} → map_parse f d ≡ map_parse g d → d ≡ ok a n → f a ≡ g a
same_made f g (ok b m) e q = cc
same_made f g (bad c o) e q = absurd (no_ok q)

-- the decoder of a number gives the kind of that number
pub kind_number_lem : (b : Bounds) (seen : List Bool) (c : Bool) (k : ℕ) (s : List ℕ) (i : InstructionKind) (n : ℕ) → k < 19 → get_or (map (λ f. f s) (kinds b seen c)) k (bad Cause.Undefined 0) ≡ ok i n → kind_number i ≡ k
unfolding assign_of unary_of binary_of call_of cast_of load_of store_of debug_of phi_of make_tuple_of extract_tuple_of make_struct_of extract_field_of insert_field_of insert_tuple_of make_array_of assert_eq_of heap_alloc_of
kind_number_lem b seen c k s i n h e =
    let ds = map (λ f. f s) (kinds b seen c) in
    let q : map_parse kind_number (get_or ds k (bad Cause.Undefined 0)) ≡ map_parse (λ x. k) (get_or ds k (bad Cause.Undefined 0)) =
    rw zero-add at (each_at (λ j d. map_parse kind_number d ≡ map_parse (λ x. j) d) 0 ds
    ((simp (map_and, map_map)) & (simp (map_and, map_map)) & (simp (map_and, map_map)) & (simp (map_and, map_map)) & (simp (map_and, map_map))
    & (simp (map_and, map_map)) & (simp (map_and, map_map)) & (simp (map_and, map_map)) & refl & (simp (map_and, map_map))
    & (simp (map_and, map_map)) & (simp (map_and, map_map)) & (simp (map_and, map_map)) & (simp (map_and, map_map))
    & (simp (map_and, map_map)) & (simp (map_and, map_map)) & (simp (map_and, map_map)) & (simp (map_and, map_map))
    & (simp (map_and, map_map)) & none)
    k h) in
    same_made kind_number (λ x. k) (get_or ds k (bad Cause.Undefined 0)) q e

-- and so says whether it is a Phi
pub kind_late : (b : Bounds) (seen : List Bool) (c : Bool) (k : ℕ) (s : List ℕ) (i : InstructionKind) (n : ℕ) → k < 19 → get_or (map (λ f. f s) (kinds b seen c)) k (bad Cause.Undefined 0) ≡ ok i n → is_phi i ≡ eqb k 9
kind_late b seen c k s i n h e = ap (λ j. eqb j 9) (kind_number_lem b seen c k s i n h e)

-- reads do not change whether a Phi would be late
pub uses_late : (w : Walk) (vs : List ValueId) → (fold uses w vs).late ≡ w.late
uses_late w [] = refl
uses_late w (v ∷ vs) = uses_late (uses w v) vs

-- nor do definitions
pub defines_late : (w : Walk) (ds : List ValueId) → (fold defines w ds).late ≡ w.late
defines_late w [] = refl
defines_late w (d ∷ ds) = defines_late (defines w d) ds

-- nor does an instruction of itself
pub behind_late : (w : Walk) (i : InstructionKind) → (behind w i).late ≡ w.late
behind_late w i = uses_late (fold defines w (dests i)) (reads i) ∙ defines_late w (dests i)
