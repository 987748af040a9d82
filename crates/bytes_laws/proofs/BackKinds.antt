-- An instruction and a terminator that are written are read back.
use Prim.Native.Nat.{ℕ, ◌<◌}
use mathlib.Core.Path.{◌≡◌, refl, ap, ◌∙◌, sym}
use mathlib.Core.List.{List, ◌∷◌, ◌++◌, map}
use mathlib.Core.Bool.{Bool, true, false, not, ◌&&◌, true≢false}
use mathlib.Core.Option.{Option, none, some}
use native.Mathlib.Omega.{arith}
use borrow.Author.Tests.{lt-ltb}
use lib.ListN.{length, get_or}
use lib.Dec.{ltb, eqb}
use Rattle.bytes_wire.specs.Parse.{Parse, ok, bad, and_then}
use Rattle.bytes_wire.specs.Value.{bool_byte}
use Rattle.bytes_wire.specs.declared.Cause.{Cause}
use Rattle.bytes_wire.proofs.Laws.{checked_true}
use Rattle.mir.specs.Syntax.{InstructionKind, Instruction, Terminator}
use Rattle.mir.specs.Syntax.{Assign, UnaryOp, BinaryOp, Call, Cast, Load, Store, Debug, Nop, Phi}
use Rattle.mir.specs.Syntax.{MakeTuple, ExtractTupleElement, MakeStruct, ExtractStructField, InsertField, InsertTuple, MakeFixedArray, AssertEq, HeapAllocCells}
use Rattle.mir.specs.Syntax.{Jump, If, BranchCmp, Return, Unreachable}
use Rattle.mir.specs.Reads.{kind_number}
use Rattle.bytes_field.specs.Decode.{kinds, assign_of, unary_of, binary_of, call_of, cast_of, load_of, store_of, debug_of, phi_of, make_tuple_of, extract_tuple_of, make_struct_of, extract_field_of, insert_field_of, insert_tuple_of, make_array_of, assert_eq_of, heap_alloc_of}
use Rattle.bytes_field.specs.Decode.{bit, defined_bits, bits_of, instruction_of, terminators, terminator_of, jump_of, if_of, branch_of, return_of}
use Rattle.bytes_field.specs.Encode.{field_bytes, const_bit, bit_map, stands, instruction_bytes, terminator_bytes}
use Rattle.bytes_field.specs.declared.Bounds.{Bounds}
use Rattle.bytes_laws.specs.WellFormed.{Wide, FitKind, FitInstruction, FitTerminator}
use Rattle.bytes_laws.proofs.Back.{Back, then, last, alone, tested, number, byte, tag}
use Rattle.bytes_laws.proofs.BackFields.{name, operation, type, block, value, values, types, dest, dests, returns, place, sources, inits, beside}
use Rattle.bytes_laws.proofs.Bits.{bits_of_lem, bits_fit}

-- the bit tells the boolean
bool_same : (c k : Bool) → bool_byte c ≡ bool_byte k → c ≡ k
bool_same true true e = refl
bool_same true false e = absurd (omega arith)
bool_same false true e = absurd (omega arith)
bool_same false false e = refl

-- each bit is 0 or 1
bool_small : (c : Bool) → bool_byte c < 2
bool_small true = omega arith
bool_small false = omega arith

stands_small : {A : Type 0} (o : Option A) → stands o < 2
stands_small none = omega arith
stands_small (some a) = omega arith

-- a Phi is not late
not_late : (late t : Bool) → (t ≡ true → late ≡ false) → not (late && t) ≡ true
not_late true true f = absurd (true≢false (f refl))
not_late true false f = refl
not_late false t f = refl

-- a kind's number and bit 3
kind_bits : (i : InstructionKind) → (kind_number i < 19) × (const_bit i < 2) × (eqb (kind_number i) 16 ≡ false → const_bit i ≡ 0)
kind_bits (Assign d x t) = (omega arith, omega arith, λ e. refl)
kind_bits (UnaryOp op d x) = (omega arith, omega arith, λ e. refl)
kind_bits (BinaryOp op d x y) = (omega arith, omega arith, λ e. refl)
kind_bits (Call ds f xs ps rs) = (omega arith, omega arith, λ e. refl)
kind_bits (Cast d x t u) = (omega arith, omega arith, λ e. refl)
kind_bits (Load d p t) = (omega arith, omega arith, λ e. refl)
kind_bits (Store p x t) = (omega arith, omega arith, λ e. refl)
kind_bits (Debug m xs) = (omega arith, omega arith, λ e. refl)
kind_bits Nop = (omega arith, omega arith, λ e. refl)
kind_bits (Phi d t ss) = (omega arith, omega arith, λ e. refl)
kind_bits (MakeTuple d xs) = (omega arith, omega arith, λ e. refl)
kind_bits (ExtractTupleElement d x k t) = (omega arith, omega arith, λ e. refl)
kind_bits (MakeStruct d fs t) = (omega arith, omega arith, λ e. refl)
kind_bits (ExtractStructField d x n t) = (omega arith, omega arith, λ e. refl)
kind_bits (InsertField d x n y t) = (omega arith, omega arith, λ e. refl)
kind_bits (InsertTuple d x k y t) = (omega arith, omega arith, λ e. refl)
kind_bits (MakeFixedArray d xs t c) = (omega arith, bool_small c, λ e. absurd (true≢false e))
kind_bits (AssertEq x y) = (omega arith, omega arith, λ e. refl)
kind_bits (HeapAllocCells d x) = (omega arith, omega arith, λ e. refl)

module _ (b : Bounds) (w : Wide b) (seen : List Bool) (c : Bool) where
  -- the fields of each kind
  kind : (i : InstructionKind) → FitKind b seen i → const_bit i ≡ bool_byte c → Back (λ s. get_or (map (λ f. f s) (kinds b seen c)) (kind_number i) (bad Cause.Undefined 0)) (field_bytes i) i
  unfolding assign_of unary_of binary_of call_of cast_of load_of store_of debug_of phi_of make_tuple_of extract_tuple_of make_struct_of extract_field_of insert_field_of insert_tuple_of make_array_of assert_eq_of heap_alloc_of field_bytes
  kind (Assign d x t) h e = then _ (dest b w seen d h.0) (then _ (value b w x h.1) (last _ (type b w t h.2)))
  kind (UnaryOp op d x) h e = then _ (operation 16 op (omega arith) h.0) (then _ (dest b w seen d h.1) (last _ (value b w x h.2)))
  kind (BinaryOp op d x y) h e = then _ (operation 26 op (omega arith) h.0) (then _ (dest b w seen d h.1) (then _ (value b w x h.2) (last _ (value b w y h.3))))
  kind (Call ds f xs ps rs) h e = then _ (dests b w seen ds h.0) (then _ (number 2 f h.1) (then _ (values b w xs h.2) (then _ (types b w ps h.3) (last _ (returns b w seen (length ds) rs h.4 h.5)))))
  kind (Cast d x t u) h e = then _ (dest b w seen d h.0) (then _ (value b w x h.1) (then _ (type b w t h.2) (last _ (type b w u h.3))))
  kind (Load d p t) h e = then _ (dest b w seen d h.0) (then _ (place b w p h.1) (last _ (type b w t h.2)))
  kind (Store p x t) h e = then _ (place b w p h.0) (then _ (value b w x h.1) (last _ (type b w t h.2)))
  kind (Debug m xs) h e = then _ (number 4 m h.0) (last _ (values b w xs h.1))
  kind Nop h e = alone
  kind (Phi d t ss) h e = then _ (dest b w seen d h.0) (then _ (type b w t h.1) (last _ (sources b w ss h.2)))
  kind (MakeTuple d xs) h e = then _ (dest b w seen d h.0) (last _ (values b w xs h.1))
  kind (ExtractTupleElement d x k t) h e = then _ (dest b w seen d h.0) (then _ (value b w x h.1) (then _ (number 4 k h.2) (last _ (type b w t h.3))))
  kind (MakeStruct d fs t) h e = then _ (dest b w seen d h.0) (then _ (inits b w fs h.1) (last _ (type b w t h.2)))
  kind (ExtractStructField d x n t) h e = then _ (dest b w seen d h.0) (then _ (value b w x h.1) (then _ (name n h.2) (last _ (type b w t h.3))))
  kind (InsertField d x n y t) h e = then _ (dest b w seen d h.0) (then _ (value b w x h.1) (then _ (name n h.2) (then _ (value b w y h.3) (last _ (type b w t h.4)))))
  kind (InsertTuple d x k y t) h e = then _ (dest b w seen d h.0) (then _ (value b w x h.1) (then _ (number 4 k h.2) (then _ (value b w y h.3) (last _ (type b w t h.4)))))
  kind (MakeFixedArray d xs t k) h e = let f : c ≡ k = bool_same c k (sym e) in rw f (then _ (dest b w seen d h.0) (then _ (values b w xs h.1) (last _ (type b w t h.2))))
  kind (AssertEq x y) h e = then _ (value b w x h.0) (last _ (value b w y h.1))
  kind (HeapAllocCells d x) h e = then _ (dest b w seen d h.0) (last _ (value b w x h.1))

-- the bit map x before the kind k
bits_first : {A : Type 0} {w : List ℕ} {a : A} (f : ℕ → List ℕ → Parse A) (x k : ℕ) → x < 16 → (eqb k 16 ≡ false → bit 3 x ≡ false) → Back (f x) (k ∷ w) a → Back (λ s. and_then s (bits_of s) f) (x ∷ k ∷ w) a
bits_first {w} {a} f x k l g y = record { says = λ t. rw (bits (w ++ t), y.says t) (ap (ok a) (omega arith)) }
  where
    bits : (t : List ℕ) → bits_of (x ∷ k ∷ t) ≡ ok x 1
    bits t =
        let s = x ∷ k ∷ t in
        rw ((byte x (omega arith)).says (k ∷ t)) (checked_true Cause.Undefined (defined_bits s) x 1 (bits_fit (ltb x 16) (bit 3 x) (ltb 1 (length s)) (eqb k 16) (lt-ltb x 16 l) g))

-- an instruction
instruction : (b : Bounds) (seen : List Bool) (late : Bool) (i : Instruction) → Wide b → FitInstruction b seen late i → Back (instruction_of b seen late) (instruction_bytes i) i
unfolding instruction_of instruction_bytes
instruction b seen late i w h =
    let x = bit_map i in
    let k = kind_number i.kind in
    let m = i.meta in
    let c = kind_bits i.kind in
    let l : k < 256 = omega (arith, c.0) in
    let e = bits_of_lem x (stands m.span) (stands m.expression) (stands m.comment) (const_bit i.kind) (stands_small m.span) (stands_small m.expression) (stands_small m.comment) c.1 refl in
    bits_first _ x k e.0 (λ f. bool_same (bit 3 x) false (sym e.4 ∙ c.2 f))
    (then _ (tested Cause.LatePhi (λ k. not (late && eqb k 9)) (not_late late (eqb k 9) h.2) (tested Cause.Undefined (λ k. ltb k 19) (lt-ltb k 19 c.0) (byte k l)))
    (then _ (beside x m e.1 e.2 e.3 h.0)
    (last _ (kind b w seen (bit 3 x) i.kind h.1 e.4))))

-- a terminator
terminator : (b : Bounds) (i : Terminator) → Wide b → FitTerminator b i → Back (terminator_of b) (terminator_bytes i) i
unfolding terminator_of jump_of if_of branch_of return_of terminator_bytes
terminator b (Jump p) w h = tag (terminators b) 0 (last _ (block b w p h))
terminator b (If x p q) w h = tag (terminators b) 1 (then _ (value b w x h.0) (then _ (block b w p h.1) (last _ (block b w q h.2))))
terminator b (BranchCmp op x y p q) w h = tag (terminators b) 2 (then _ (operation 26 op (omega arith) h.0) (then _ (value b w x h.1) (then _ (value b w y h.2) (then _ (block b w p h.3) (last _ (block b w q h.4))))))
terminator b (Return xs) w h = tag (terminators b) 3 (last _ (values b w xs h))
terminator b Unreachable w h = tag (terminators b) 4 alone

-- what is written of an instruction is read as it, whatever follows
pub instruction_back : (b : Bounds) (seen : List Bool) (late : Bool) (i : Instruction) (t : List ℕ) → Wide b → FitInstruction b seen late i → instruction_of b seen late (instruction_bytes i ++ t) ≡ ok i (length (instruction_bytes i))
instruction_back b seen late i t w h = (instruction b seen late i w h).says t

pub terminator_back : (b : Bounds) (i : Terminator) (t : List ℕ) → Wide b → FitTerminator b i → terminator_of b (terminator_bytes i ++ t) ≡ ok i (length (terminator_bytes i))
terminator_back b i t w h = (terminator b i w h).says t
