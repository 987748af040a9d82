-- Where the operand fields, the list and the projections of each kind stand.
use Prim.Native.Nat.{ℕ, zero, suc, ◌+◌, ◌*◌}
use mathlib.Core.Path.{◌≡◌, refl, ap, ◌∙◌, sym}
use mathlib.Core.List.{List, [], ◌∷◌, map}
use mathlib.Core.Bool.{Bool, false, not}
use native.Mathlib.Nat.{add-zero, zero-add}
use native.Mathlib.Omega.{arith}
use lib.ListN.{length, get_or, drop, length-map}
use lib.Seq.{get_or-drop}
use lib.Dec.{ltb}
use Rattle.bytes_wire.specs.Parse.{Parse, ok, bad, map_parse}
use Rattle.bytes_wire.specs.Number.{number_of, below}
use Rattle.bytes_wire.specs.Value.{value_of, value_id_of, value_kinds}
use Rattle.bytes_wire.specs.declared.Cause.{Cause}
use Rattle.mir.specs.declared.Value.{Value}
use Rattle.bytes_wire.proofs.Inv.{no_ok, image, map_inv}
use Rattle.mir.specs.declared.Projection.{Projection}
use Rattle.mir.specs.Syntax.{InstructionKind}
use Rattle.mir.specs.Reads.{source_values, init_values}
use Rattle.bytes_field.specs.Decode.{type_id_of, name_id_of, list_of, mark, defined_of, defined_seq, defineds_of, operation_of, projection_of, place_of, source_of, field_init_of, returns_of}
use Rattle.bytes_field.specs.Decode.{kinds, assign_of, unary_of, binary_of, call_of, cast_of, load_of, store_of, debug_of, phi_of, make_tuple_of, extract_tuple_of, make_struct_of, extract_field_of, insert_field_of, insert_tuple_of, make_array_of, assert_eq_of, heap_alloc_of}
use Rattle.bytes_field.specs.declared.Bounds.{Bounds}
use Rattle.bytes_field.proofs.Laws.{head}
use Rattle.bytes_operands.specs.Fields.{operand_fields, list_values, place_steps, value_size, value_end, projection_end, after, value_step, operand_row, operand_first, list_row, list_at, list_count, steps_at, step_count}
use Rattle.bytes_operands.proofs.Places.{Stand, Field, then, last, made, alone, because, Takes, takes_number, takes_map, takes_checked, fixed, Listed, empty, ◌&◌, listed_map, count, list, over, row, tagged_size}

-- the numbers of things take two bytes
takes_below : (bound : ℕ) → Takes (below bound) 2
takes_below bound = takes_checked Cause.OutOfRange (λ x. ltb x bound) (takes_number 2)

takes_id : (next : ℕ) → Takes (value_id_of next) 2
takes_id next = takes_map _ (takes_below next)

takes_dest : (next : ℕ) (seen : List Bool) → Takes (defined_of next seen) 2
takes_dest next seen = takes_checked Cause.Redefined (λ d. not (get_or seen d.0 false)) (takes_id next)

-- a value takes what its kind says
pub value_size_lem : (next : ℕ) (s : List ℕ) {x : Value} {n : ℕ} → value_of next s ≡ ok x n → n ≡ value_size (get_or s 0 0)
unfolding value_of
value_size_lem next s e =
    let t = drop 1 s in
    tagged_size {fs = value_kinds next} s
    (row (λ a n f. ap (λ m. 1 + m) ((takes_map _ (takes_number 4)).each t a n f))
    (row (λ a n f. ap (λ m. 1 + m) ((takes_map _ (takes_map _ (takes_checked Cause.Undefined (λ x. ltb x 2) (takes_number 1)))).each t a n f))
    (row (λ a n f. let z : n ≡ 0 = cc in ap (λ m. 1 + m) z)
    (row (λ a n f. ap (λ m. 1 + m) ((takes_map _ (takes_id next)).each t a n f))
    (row (λ a n f. let z : n ≡ 0 = cc in ap (λ m. 1 + m) z)
    over)))))
    1 e

-- so does a projection, and an Index what its value's kind says
pub projection_size : (next : ℕ) (s : List ℕ) {p : Projection} {n : ℕ} → projection_of next s ≡ ok p n → n ≡ get_or ((1 + value_size (get_or s 1 0)) ∷ 3 ∷ 5 ∷ []) (get_or s 0 0) 5
unfolding projection_of
projection_size next s e =
    let t = drop 1 s in
    tagged_size
    {fs = (λ t. map_parse Projection.Index (value_of next t)) ∷ (λ t. map_parse Projection.Field (name_id_of t)) ∷ (λ t. map_parse Projection.Tuple (number_of 4 t)) ∷ []}
    s
    (row {w = 1 + value_size (get_or s 1 0)} (λ a n f. elim (map_inv Projection.Index (value_of next t) f) [ image x p q ↦ ap (λ m. 1 + m) (value_size_lem next t p ∙ ap value_size (get_or-drop 1 s 0 0)) ])
    (row (λ a n f. ap (λ m. 1 + m) ((takes_map _ (takes_map _ (takes_number 2))).each t a n f))
    (row (λ a n f. ap (λ m. 1 + m) ((takes_map _ (takes_number 4)).each t a n f))
    over)))
    5 e

-- what stands at a place
pub data At {A : Type 0} (dec : List ℕ → Parse A) (t : List ℕ) (p : ℕ) (x : A) : Type 0 where
  at : (n : ℕ) → dec (drop p t) ≡ ok x n → At dec t p x

-- the place behind a projection, counted from its own
pub ends : (p v k : ℕ) → p + get_or ((1 + v) ∷ 3 ∷ 5 ∷ []) k 5 ≡ get_or ((p + 1 + v) ∷ (p + 3) ∷ []) k (p + 5)
ends p v zero = omega arith
ends p v (suc zero) = refl
ends p v (suc (suc zero)) = refl
ends p v (suc (suc (suc k))) = refl

-- what is known of an instruction of the kind with number j whose fields are t
pub record Stands (next : ℕ) (t : List ℕ) (j : ℕ) (i : InstructionKind) : Type 0 where
  pub operands : Listed (At (value_of next) t) (value_step t 0 (operand_row j).apart) (operand_first t j) (operand_fields i)
  pub values : Listed (λ p. At (value_of next) t (p + (list_row j).before)) (value_step t (list_row j).before 0) (list_at t j + 1) (list_values i)
  pub listed : length (list_values i) ≡ list_count t j
  pub steps : Listed (At (projection_of next) t) (projection_end t) (steps_at j + 1) (place_steps i)
  pub stepped : length (place_steps i) ≡ step_count t j

module _ (b : Bounds) (seen : List Bool) (c : Bool) (t : List ℕ) where
  abbrev Value-at : ℕ → Value → Type 0
  Value-at p x = At (value_of b.next) t p x

  -- the fields, wherever they stand
  value : {p : ℕ} → Field t p (value_of b.next) (Value-at p) (value_end t p)
  value {p} = record { each = λ a n e. (at n e, ap (λ m. p + m) (value_size_lem b.next (drop p t) e ∙ ap value_size (head t p))) }

  projection : (p : ℕ) → Field t p (projection_of b.next) (At (projection_of b.next) t p) (projection_end t p)
  projection p =
      record {
        each = λ a n e.
            let z : n ≡ get_or ((1 + value_size (get_or t (p + 1) 0)) ∷ 3 ∷ 5 ∷ []) (get_or t p 0) 5 = rw (get_or-drop p t 1 0, head t p) at (projection_size b.next (drop p t) e) in
            (at n e, rw z (ends p (value_size (get_or t (p + 1) 0)) (get_or t p 0)));
      }

  dest : {p : ℕ} → Field t p (defined_of b.next seen) (λ a. Unit {0}) (p + 2)
  dest = fixed (takes_dest b.next seen)

  type : {p : ℕ} → Field t p (type_id_of b.types) (λ a. Unit {0}) (p + 2)
  type = fixed (takes_map _ (takes_below b.types))

  name : {p : ℕ} → Field t p name_id_of (λ a. Unit {0}) (p + 2)
  name = fixed (takes_map _ (takes_number 2))

  number : {p : ℕ} (w : ℕ) → Field t p (number_of w) (λ a. Unit {0}) (p + w)
  number w = fixed (takes_number w)

  operation : {p : ℕ} (many : ℕ) → Field t p (operation_of many) (λ a. Unit {0}) (p + 1)
  operation many = fixed (takes_checked Cause.Undefined (λ x. ltb x many) (takes_number 1))

  -- the dests of a Call
  news : (seen : List Bool) (k p : ℕ) → Field t p (defined_seq b.next seen k) (λ ds. Unit {0}) (p + 2 * k)
  unfolding defined_seq
  news seen zero p = alone (tt, omega arith)
  news seen (suc k) p = then (fixed (takes_dest b.next seen)) (λ d u. last _ (news (mark seen d) k (p + 2)) (λ ds v. (tt, omega arith)))

  dests : Field t 0 (defineds_of b.list b.next seen) (λ ds. Unit {0}) (1 + 2 * get_or t 0 0)
  unfolding defineds_of
  dests = then (count b.list 0) (λ k q. because (news seen k 1) (λ ds e r. (tt, rw q at r.1)))

  -- a list of values, of names with values, of blocks with values
  abbrev Values : ℕ → ℕ → List Value → Type 0
  Values before p xs = Listed (λ p. Value-at (p + before)) (value_step t before 0) (p + 1) xs × (length xs ≡ get_or t p 0)

  values : {p : ℕ} → Field t p (list_of b.list (value_of b.next)) (Values 0 p) (after (value_step t 0 0) (get_or t p 0) (p + 1))
  values {p} = list (λ q. rw (add-zero q, add-zero (value_end t q)) (value {p = q})) b.list p

  types : {p : ℕ} → Field t p (list_of b.list (type_id_of b.types)) (λ ts. Unit {0}) (after (λ q. q + 2) (get_or t p 0) (p + 1))
  types {p} = because (list (λ q. type {p = q}) b.list p) (λ ts e q. (tt, q.1))

  sources : {p : ℕ} → Field t p (list_of b.list (source_of b)) (λ ss. Values 2 p (source_values ss)) (after (value_step t 2 0) (get_or t p 0) (p + 1))
  sources {p} =
      because
      (list {Q = λ q s. Value-at (q + 2) s.value} (λ q. then (fixed (takes_map _ (takes_below b.blocks))) (λ k u. last _ value (λ x r. (r, sym (add-zero _))))) b.list p)
      (λ ss e q. ((listed_map (λ s. s.value) (λ p x r. r) q.0.0, length-map ss _ ∙ q.0.1), q.1))

  inits : {p : ℕ} → Field t p (list_of b.list (field_init_of b)) (λ fs. Values 2 p (init_values fs)) (after (value_step t 2 0) (get_or t p 0) (p + 1))
  inits {p} =
      because
      (list {Q = λ q f. Value-at (q + 2) f.value} (λ q. then name (λ k u. last _ value (λ x r. (r, sym (add-zero _))))) b.list p)
      (λ fs e q. ((listed_map (λ f. f.value) (λ p x r. r) q.0.0, length-map fs _ ∙ q.0.1), q.1))

  -- a place: its projections behind its base
  abbrev Steps : ℕ → List Projection → Type 0
  Steps p ps = Listed (At (projection_of b.next) t) (projection_end t) (p + 1) ps × (length ps ≡ get_or t p 0)

  place : {p : ℕ} → Field t p (place_of b) (λ x. Steps (p + 2) x.projections) (after (projection_end t) (get_or t (p + 2) 0) (p + 2 + 1))
  place {p} = then (fixed (takes_id b.next)) (λ v u. last _ (list projection b.projections (p + 2)) (λ ps q. (q, refl)))

  -- a decoder of the fields of the kind with number j
  abbrev Of : ℕ → (List ℕ → Parse InstructionKind) → Type 0
  Of j f = Stand t 0 f (λ i e. Stands b.next t j i)

  -- the value right behind another
  beside : (p : ℕ) {x : Value} → Value-at p x → Value-at (p + 0) x
  beside p x = rw add-zero x

  -- what is to be shown of a kind
  stands : {j : ℕ} {i : InstructionKind} → Listed (At (value_of b.next) t) (value_step t 0 (operand_row j).apart) (operand_first t j)
      (operand_fields i) → Listed (λ p. Value-at (p + (list_row j).before)) (value_step t (list_row j).before 0) (list_at t j + 1)
      (list_values i) → length (list_values i) ≡ list_count t j → Listed (At (projection_of b.next) t) (projection_end t) (steps_at j + 1)
      (place_steps i) → length (place_steps i) ≡ step_count t j → Stands b.next t j i
  stands p r s u v = record { operands = p; values = r; listed = s; steps = u; stepped = v }

  -- the kinds in order, each field with its law, then what stands where
  assign : Of 0 (assign_of b seen)
  unfolding assign_of
  assign = then dest (λ d u. then (value {p = 2}) (λ x p. last _ type (λ y v. stands (p & empty) empty refl empty refl)))

  unary : Of 1 (unary_of b seen)
  unfolding unary_of
  unary = then (operation 16) (λ o u. then dest (λ d u. last _ (value {p = 3}) (λ x p. stands (p & empty) empty refl empty refl)))

  binary : Of 2 (binary_of b seen)
  unfolding binary_of
  binary = then (operation 26) (λ o u. then dest (λ d u. then value (λ x p. last _ value (λ y q. stands (p & beside (value_end t 3) q & empty) empty refl empty refl))))

  call : Of 3 (call_of b seen)
  unfolding call_of
  call = then dests (λ ds u. then (number 2) (λ f u. then values (λ xs p. then types (λ ps u. made (returns_of b seen (length ds)) _ (λ rs e. stands empty p.0 p.1 empty refl)))))

  cast : Of 4 (cast_of b seen)
  unfolding cast_of
  cast = then dest (λ d u. then (value {p = 2}) (λ x p. then type (λ y u. last _ type (λ z u. stands (p & empty) empty refl empty refl))))

  load : Of 5 (load_of b seen)
  unfolding load_of
  load = then dest (λ d u. then place (λ x p. last _ type (λ y u. stands empty empty refl p.0 p.1)))

  store : Of 6 (store_of b seen)
  unfolding store_of
  store = then place (λ x p. then value (λ y q. last _ type (λ z u. stands (q & empty) empty refl p.0 p.1)))

  debug : Of 7 (debug_of b seen)
  unfolding debug_of
  debug = then (number 4) (λ m u. last _ values (λ xs p. stands empty p.0 p.1 empty refl))

  nop : Of 8 (λ s. ok InstructionKind.Nop 0)
  nop = alone (stands empty empty refl empty refl)

  phi : Of 9 (phi_of b seen)
  unfolding phi_of
  phi = then dest (λ d u. then type (λ y u. last _ sources (λ ss p. stands empty p.0 p.1 empty refl)))

  make_tuple : Of 10 (make_tuple_of b seen)
  unfolding make_tuple_of
  make_tuple = then dest (λ d u. last _ values (λ xs p. stands empty p.0 p.1 empty refl))

  extract_tuple : Of 11 (extract_tuple_of b seen)
  unfolding extract_tuple_of
  extract_tuple = then dest (λ d u. then (value {p = 2}) (λ x p. then (number 4) (λ k u. last _ type (λ y u. stands (p & empty) empty refl empty refl))))

  make_struct : Of 12 (make_struct_of b seen)
  unfolding make_struct_of
  make_struct = then dest (λ d u. then inits (λ fs p. last _ type (λ y u. stands empty p.0 p.1 empty refl)))

  extract_field : Of 13 (extract_field_of b seen)
  unfolding extract_field_of
  extract_field = then dest (λ d u. then (value {p = 2}) (λ x p. then name (λ k u. last _ type (λ y u. stands (p & empty) empty refl empty refl))))

  insert_field : Of 14 (insert_field_of b seen)
  unfolding insert_field_of
  insert_field = then dest (λ d u. then (value {p = 2}) (λ x p. then name (λ k u. then value (λ y q. last _ type (λ z u. stands (p & q & empty) empty refl empty refl)))))

  insert_tuple : Of 15 (insert_tuple_of b seen)
  unfolding insert_tuple_of
  insert_tuple = then dest (λ d u. then (value {p = 2}) (λ x p. then (number 4) (λ k u. then value (λ y q. last _ type (λ z u. stands (p & q & empty) empty refl empty refl)))))

  make_array : Of 16 (make_array_of b seen c)
  unfolding make_array_of
  make_array = then dest (λ d u. then values (λ xs p. last _ type (λ y u. stands empty p.0 p.1 empty refl)))

  assert_eq : Of 17 (assert_eq_of b seen)
  unfolding assert_eq_of
  assert_eq = then value (λ x p. last _ value (λ y q. stands (p & beside (value_end t 0) q & empty) empty refl empty refl))

  heap_alloc : Of 18 (heap_alloc_of b seen)
  unfolding heap_alloc_of
  heap_alloc = then dest (λ d u. last _ (value {p = 2}) (λ x p. stands (p & empty) empty refl empty refl))

  -- decoders of the kinds from number j on
  infixr 67 ◌and◌
  data Rows : ℕ → List (List ℕ → Parse InstructionKind) → Type 0 where
    done : {j : ℕ} → Rows j []
    ◌and◌ : {j : ℕ} {f : List ℕ → Parse InstructionKind} {fs : List (List ℕ → Parse InstructionKind)} → Of j f → Rows (suc j) fs → Rows j (f ∷ fs)

  -- the one that k chooses
  row_at : {j : ℕ} {fs : List (List ℕ → Parse InstructionKind)} → Rows j fs → (k : ℕ) → Of (j + k) (λ s. get_or (map (λ f. f s) fs) k (bad Cause.Undefined 0))
  row_at done k = record { each = λ i n e. absurd (no_ok e) }
  row_at {j} (x and r) zero = rw (add-zero j) x
  row_at {j} (x and r) (suc k) = let e : j + suc k ≡ suc j + k = omega arith in rw e (row_at r k)

  -- the fields of the kind with number k
  pub fields : (k : ℕ) → Of k (λ s. get_or (map (λ f. f s) (kinds b seen c)) k (bad Cause.Undefined 0))
  fields k =
      rw zero-add at
      (row_at
      (assign and unary and binary and call and cast and load and store and debug and nop and phi and make_tuple and extract_tuple
      and make_struct and extract_field and insert_field and insert_tuple and make_array and assert_eq and heap_alloc and done)
      k)
