-- Fewer tests: an instruction that is accepted is accepted without marks, and where no Phi is late.
use Prim.Native.Nat.{ℕ, zero, suc}
use mathlib.Core.Path.{◌≡◌, refl}
use mathlib.Core.List.{List, [], ◌∷◌, map}
use mathlib.Core.Bool.{Bool, true, false, not, ◌&&◌}
use lib.ListN.{get_or, drop}
use lib.Dec.{ltb, eqb}
use Rattle.bytes_wire.specs.Parse.{Parse, ok, bad, and_then, map_parse, checked}
use Rattle.bytes_wire.specs.Number.{u8_of}
use Rattle.bytes_wire.specs.Value.{value_id_of}
use Rattle.bytes_wire.specs.declared.Cause.{Cause}
use Rattle.bytes_wire.proofs.Laws.{checked_true}
use Rattle.bytes_wire.proofs.Inv.{both, image, and_inv, map_inv, checked_inv}
use Rattle.mir.specs.Syntax.{InstructionKind, Instruction}
use Rattle.bytes_field.specs.Decode.{count_of, mark, defined_of, defined_seq, defineds_of, operation_of, returns_of, kinds, bit, meta_of, bits_of, instruction_of}
use Rattle.bytes_field.specs.Decode.{assign_of, unary_of, binary_of, call_of, cast_of, load_of, store_of, debug_of, phi_of, make_tuple_of, extract_tuple_of, make_struct_of, extract_field_of, insert_field_of, insert_tuple_of, make_array_of, assert_eq_of, heap_alloc_of}
use Rattle.bytes_field.specs.declared.Bounds.{Bounds}

-- what the first accepts, the second reads alike
pub record Under {A : Type 0} (d e : List ℕ → Parse A) : Type 0 where
  pub each : (s : List ℕ) (a : A) (n : ℕ) → d s ≡ ok a n → e s ≡ ok a n

-- no test is left out
same : {A : Type 0} {d : List ℕ → Parse A} → Under d d
same = record { each = λ s a n e. e }

-- in sequence
under_and : {A B : Type 0} {d e : List ℕ → Parse A} {f g : A → List ℕ → Parse B} → Under d e → ((a : A) → Under (f a) (g a)) → Under (λ s. and_then s (d s) f) (λ s. and_then s (e s) g)
under_and {A} {B} {d} {e} {f} {g} x y =
    record {
      each = λ s b n h.
          elim (and_inv s (d s) f h) [
            | both a m k p q r ↦
                let u : e s ≡ ok a m = x.each s a m p in
                let v : g a (drop m s) ≡ ok b k = (y a).each (drop m s) b k q in
                rw (r, u, v)
          ];
    }

-- made of what was read
under_map : {A B : Type 0} {d e : List ℕ → Parse A} (f : A → B) → Under d e → Under (λ s. map_parse f (d s)) (λ s. map_parse f (e s))
under_map {A} {B} {d} {e} f x =
    record { each = λ s b n h. elim (map_inv f (d s) h) [ image a p q ↦ let u : e s ≡ ok a n = x.each s a n p in rw (u, q) ] }

-- a test that holds wherever another does
under_test : {A : Type 0} {d e : List ℕ → Parse A} (c : Cause) (p q : A → Bool) → ((a : A) → p a ≡ true → q a ≡ true) → Under d e → Under (λ s. checked c p (d s)) (λ s. checked c q (e s))
under_test {A} {d} {e} c p q f x =
    record {
      each = λ s a n h.
          let i = checked_inv c p (d s) h in
          let u : e s ≡ ok a n = x.each s a n i.0 in
          rw u (checked_true c q a n (f a i.1));
    }

module _ (b : Bounds) (seen : List Bool) (c : Bool) where
  -- the value is defined already, or not
  dest : (seen : List Bool) → Under (defined_of b.next seen) (defined_of b.next [])
  dest seen = under_test {d = value_id_of b.next} Cause.Redefined (λ d. not (get_or seen d.0 false)) (λ d. true) (λ d h. refl) same

  -- the dests of a Call
  news : (seen : List Bool) (k : ℕ) → Under (defined_seq b.next seen k) (defined_seq b.next [] k)
  unfolding defined_seq
  news seen zero = same
  news seen (suc k) = under_and (dest seen) (λ d. under_map (λ ds. d ∷ ds) (news (mark seen d) k))

  dests : Under (defineds_of b.list b.next seen) (defineds_of b.list b.next [])
  unfolding defineds_of
  dests = under_and {d = count_of b.list} same (λ k. news seen k)

  -- the decoders of a table
  infixr 67 ◌&◌
  data Rows : List (List ℕ → Parse InstructionKind) → List (List ℕ → Parse InstructionKind) → Type 0 where
    none : Rows [] []
    ◌&◌ : {d e : List ℕ → Parse InstructionKind} {ds es : List (List ℕ → Parse InstructionKind)} → Under d e → Rows ds es → Rows (d ∷ ds) (e ∷ es)

  -- the one that k chooses
  row_at : {ds es : List (List ℕ → Parse InstructionKind)} → Rows ds es → (k : ℕ) → Under (λ s. get_or (map (λ f. f s) ds) k (bad Cause.Undefined 0)) (λ s. get_or (map (λ f. f s) es) k (bad Cause.Undefined 0))
  row_at none k = same
  row_at (x & r) zero = x
  row_at (x & r) (suc k) = row_at r k

  -- the kinds in order: only a dest is tested for marks
  relax_kind : (k : ℕ) → Under (λ s. get_or (map (λ f. f s) (kinds b seen c)) k (bad Cause.Undefined 0)) (λ s. get_or (map (λ f. f s) (kinds b [] c)) k (bad Cause.Undefined 0))
  unfolding assign_of unary_of binary_of returns_of call_of cast_of load_of store_of debug_of phi_of make_tuple_of extract_tuple_of make_struct_of extract_field_of insert_field_of insert_tuple_of make_array_of assert_eq_of heap_alloc_of
  relax_kind k =
      row_at
      (under_and (dest seen) (λ d. same)
      & under_and {d = operation_of 16} same (λ o. under_and (dest seen) (λ d. same))
      & under_and {d = operation_of 26} same (λ o. under_and (dest seen) (λ d. same))
      & under_and dests (λ ds. same)
      & under_and (dest seen) (λ d. same)
      & under_and (dest seen) (λ d. same)
      & same
      & same
      & same
      & under_and (dest seen) (λ d. same)
      & under_and (dest seen) (λ d. same)
      & under_and (dest seen) (λ d. same)
      & under_and (dest seen) (λ d. same)
      & under_and (dest seen) (λ d. same)
      & under_and (dest seen) (λ d. same)
      & under_and (dest seen) (λ d. same)
      & under_and (dest seen) (λ d. same)
      & same
      & under_and (dest seen) (λ d. same)
      & none)
      k

-- the whole of it
pub relax : (b : Bounds) (seen : List Bool) (late : Bool) (s : List ℕ) {i : Instruction} {n : ℕ} → instruction_of b seen late s ≡ ok i n → instruction_of b [] false s ≡ ok i n
unfolding instruction_of
relax b seen late s {i} {n} e =
    (under_and {d = bits_of} same (λ bits.
    under_and (under_test {d = λ s. checked Cause.Undefined (λ k. ltb k 19) (u8_of s)} Cause.LatePhi (λ k. not (late && eqb k 9)) (λ k. true) (λ k h. refl) same) (λ k.
    under_and {d = meta_of bits} same (λ m.
    under_map _ (relax_kind b seen (bit 3 bits) k))))).each s i n e
