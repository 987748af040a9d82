-- The fields of each kind are written as they stood, and have a byte form.
use Prim.Native.Nat.{ℕ, ◌+◌, ◌-◌, ◌*◌, ◌≤◌}
use mathlib.Core.Path.{◌≡◌, refl, ap, ◌∙◌}
use mathlib.Core.List.{List, ◌∷◌, map}
use mathlib.Core.Bool.{Bool, cond}
use native.Mathlib.Nat.{le_refl, mul-le-mul_right}
use native.Mathlib.Omega.{arith}
use borrow.Author.Tests.{leb-true, eqb-true}
use lib.ListN.{length, get_or}
use lib.Dec.{leb, eqb}
use Rattle.bytes_wire.specs.Parse.{Parse, ok, bad}
use Rattle.bytes_wire.specs.Value.{bool_byte}
use Rattle.bytes_wire.specs.declared.Cause.{Cause}
use Rattle.mir.specs.Syntax.{InstructionKind}
use Rattle.mir.specs.Reads.{kind_number}
use Rattle.bytes_field.specs.Decode.{kinds, assign_of, unary_of, binary_of, returns_of, call_of, cast_of, load_of, store_of, debug_of, phi_of, make_tuple_of, extract_tuple_of, make_struct_of, extract_field_of, insert_field_of, insert_tuple_of, make_array_of, assert_eq_of, heap_alloc_of}
use Rattle.bytes_field.specs.Decode.{terminator_of, jump_of, if_of, branch_of, return_of}
use Rattle.bytes_field.specs.Encode.{type_id_bytes, each_bytes, list_bytes, field_bytes, const_bit, terminator_bytes}
use Rattle.bytes_field.specs.declared.Bounds.{Bounds}
use Rattle.bytes_laws.specs.WellFormed.{Wide, FitList, FitType, FitKind, FitTerminator}
use Rattle.bytes_laws.proofs.Exact.{Exact, After, then, last, just, alone, whole, within, tested, number, byte, sequence}
use Rattle.bytes_laws.proofs.Fields.{type, types, block, name, value, values, dest, dests, operation, place, sources, inits}
use Rattle.bytes_laws.proofs.Rows.{none, ◌&◌, row, tag}

-- the most bytes that the fields of a kind take
abbrev pub fields_most : Bounds → ℕ
fields_most b = 18 + (b.list * 11 + (b.projections * 6 - b.list * 11))

-- the return types of a Call: as many as it has dests
returns : (b : Bounds) (seen : List Bool) (many : ℕ) → Exact (returns_of b seen many) (list_bytes type_id_bytes) (λ rs. FitList b.list (FitType b) rs × (length rs ≡ many)) (1 + b.list * 2)
unfolding returns_of
returns b seen many =
    whole
    (then (tested Cause.CallCounts (λ n. eqb n many) (tested Cause.TooMany (λ n. leb n b.list) byte)) (λ k p.
    let l : k ≤ b.list = leb-true k b.list p.0.1 in
    let e : k ≡ many = eqb-true k many p.1 in
    within (just (sequence (type b) k) (λ rs q. (ap (λ n. n ∷ each_bytes type_id_bytes rs) q.0, ((rw q.0 l, q.1), q.0 ∙ e)))) (mul-le-mul_right 2 l)))
    (le_refl (1 + b.list * 2))

-- a kind has the number n, its bit 3 stands only with number 16, and it has a byte form
abbrev pub GoodKind : Bounds → List Bool → Bool → ℕ → InstructionKind → Type 0
GoodKind b seen c n i = (kind_number i ≡ n) × (const_bit i ≡ cond (eqb n 16) (bool_byte c) 0) × (Wide b → FitKind b seen i)

module _ (b : Bounds) (seen : List Bool) (c : Bool) where
  -- a decoder of the fields of the kind with number n
  abbrev Of : ℕ → (List ℕ → Parse InstructionKind) → Type 0
  Of n f = After (λ w. w) f field_bytes (GoodKind b seen c n) (fields_most b)

  -- the kinds in order, each field with its law, then what the whole is
  assign : Of 0 (assign_of b seen)
  unfolding assign_of field_bytes
  assign = within (then (dest b seen) (λ x p. then (value b) (λ y q. last _ (type b) (λ z r. (refl, (refl, refl, λ w. (p, q w, r))))))) (omega arith)

  unary : Of 1 (unary_of b seen)
  unfolding unary_of field_bytes
  unary = within (then (operation 16) (λ x p. then (dest b seen) (λ y q. last _ (value b) (λ z r. (refl, (refl, refl, λ w. (p, q, r w))))))) (omega arith)

  binary : Of 2 (binary_of b seen)
  unfolding binary_of field_bytes
  binary = within (then (operation 26) (λ x p. then (dest b seen) (λ y q. then (value b) (λ z r. last _ (value b) (λ u s. (refl, (refl, refl, λ w. (p, q, r w, s w)))))))) (omega arith)

  call : Of 3 (call_of b seen)
  unfolding call_of field_bytes
  call = within (then (dests b seen) (λ x p. then (number 2) (λ y q. then (values b) (λ z r. then (types b) (λ u s. last _ (returns b seen (length x)) (λ v t. (refl, (refl, refl, λ w. (p, q, r w, s, t.0, t.1))))))))) (omega arith)

  cast : Of 4 (cast_of b seen)
  unfolding cast_of field_bytes
  cast = within (then (dest b seen) (λ x p. then (value b) (λ y q. then (type b) (λ z r. last _ (type b) (λ u s. (refl, (refl, refl, λ w. (p, q w, r, s)))))))) (omega arith)

  load : Of 5 (load_of b seen)
  unfolding load_of field_bytes
  load = within (then (dest b seen) (λ x p. then (place b) (λ y q. last _ (type b) (λ z r. (refl, (refl, refl, λ w. (p, q w, r))))))) (omega arith)

  store : Of 6 (store_of b seen)
  unfolding store_of field_bytes
  store = within (then (place b) (λ x p. then (value b) (λ y q. last _ (type b) (λ z r. (refl, (refl, refl, λ w. (p w, q w, r))))))) (omega arith)

  debug : Of 7 (debug_of b seen)
  unfolding debug_of field_bytes
  debug = within (then (number 4) (λ x p. last _ (values b) (λ y q. (refl, (refl, refl, λ w. (p, q w)))))) (omega arith)

  phi : Of 9 (phi_of b seen)
  unfolding phi_of field_bytes
  phi = within (then (dest b seen) (λ x p. then (type b) (λ y q. last _ (sources b) (λ z r. (refl, (refl, refl, λ w. (p, q, r w))))))) (omega arith)

  make_tuple : Of 10 (make_tuple_of b seen)
  unfolding make_tuple_of field_bytes
  make_tuple = within (then (dest b seen) (λ x p. last _ (values b) (λ y q. (refl, (refl, refl, λ w. (p, q w)))))) (omega arith)

  extract_tuple : Of 11 (extract_tuple_of b seen)
  unfolding extract_tuple_of field_bytes
  extract_tuple = within (then (dest b seen) (λ x p. then (value b) (λ y q. then (number 4) (λ z r. last _ (type b) (λ u s. (refl, (refl, refl, λ w. (p, q w, r, s)))))))) (omega arith)

  make_struct : Of 12 (make_struct_of b seen)
  unfolding make_struct_of field_bytes
  make_struct = within (then (dest b seen) (λ x p. then (inits b) (λ y q. last _ (type b) (λ z r. (refl, (refl, refl, λ w. (p, q w, r))))))) (omega arith)

  extract_field : Of 13 (extract_field_of b seen)
  unfolding extract_field_of field_bytes
  extract_field = within (then (dest b seen) (λ x p. then (value b) (λ y q. then name (λ z r. last _ (type b) (λ u s. (refl, (refl, refl, λ w. (p, q w, r, s)))))))) (omega arith)

  insert_field : Of 14 (insert_field_of b seen)
  unfolding insert_field_of field_bytes
  insert_field = within (then (dest b seen) (λ x p. then (value b) (λ y q. then name (λ z r. then (value b) (λ u s. last _ (type b) (λ v t. (refl, (refl, refl, λ w. (p, q w, r, s w, t))))))))) (omega arith)

  insert_tuple : Of 15 (insert_tuple_of b seen)
  unfolding insert_tuple_of field_bytes
  insert_tuple = within (then (dest b seen) (λ x p. then (value b) (λ y q. then (number 4) (λ z r. then (value b) (λ u s. last _ (type b) (λ v t. (refl, (refl, refl, λ w. (p, q w, r, s w, t))))))))) (omega arith)

  make_array : Of 16 (make_array_of b seen c)
  unfolding make_array_of field_bytes
  make_array = within (then (dest b seen) (λ x p. then (values b) (λ y q. last _ (type b) (λ z r. (refl, (refl, refl, λ w. (p, q w, r))))))) (omega arith)

  assert_eq : Of 17 (assert_eq_of b seen)
  unfolding assert_eq_of field_bytes
  assert_eq = within (then (value b) (λ x p. last _ (value b) (λ y q. (refl, (refl, refl, λ w. (p w, q w)))))) (omega arith)

  heap_alloc : Of 18 (heap_alloc_of b seen)
  unfolding heap_alloc_of field_bytes
  heap_alloc = within (then (dest b seen) (λ x p. last _ (value b) (λ y q. (refl, (refl, refl, λ w. (p, q w)))))) (omega arith)

  -- no field
  nop : Of 8 (λ s. ok InstructionKind.Nop 0)
  unfolding field_bytes
  nop = within (alone refl (refl, refl, λ w. tt)) (omega arith)

  -- the fields of the kind with number k
  pub fields : (k : ℕ) → Of k (λ s. get_or (map (λ f. f s) (kinds b seen c)) k (bad Cause.Undefined 0))
  fields k =
      row {k = λ n w. w} {G = GoodKind b seen c}
      (assign
      & unary
      & binary
      & call
      & cast
      & load
      & store
      & debug
      & nop
      & phi
      & make_tuple
      & extract_tuple
      & make_struct
      & extract_field
      & insert_field
      & insert_tuple
      & make_array
      & assert_eq
      & heap_alloc
      & none)
      k

-- a terminator
pub terminator : (b : Bounds) → Exact (terminator_of b) terminator_bytes (λ t. Wide b → FitTerminator b t) (1 + (15 + b.list * 5))
unfolding terminator_of jump_of if_of branch_of return_of terminator_bytes
terminator b =
    tag
    (within (last _ (block b) (λ p f. (refl, λ w. f))) (omega arith)
    & within (then (value b) (λ x e. then (block b) (λ p f. last _ (block b) (λ q g. (refl, λ w. (e w, f, g)))))) (omega arith)
    & within (then (operation 26) (λ op o. then (value b) (λ x d. then (value b) (λ y e. then (block b) (λ p f. last _ (block b) (λ q g. (refl, λ w. (o, d w, e w, f, g)))))))) (omega arith)
    & within (last _ (values b) (λ xs f. (refl, λ w. f w))) (omega arith)
    & within (alone refl (λ w. tt)) (omega arith)
    & none)
