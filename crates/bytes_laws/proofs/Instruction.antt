-- An instruction and a terminator that were read: written as they stood, at most so long, and with a byte form.
use Prim.Native.Nat.{ℕ, ◌+◌, ◌≤◌, ◌<◌}
use mathlib.Core.Path.{◌≡◌, refl, ◌∙◌, sym}
use mathlib.Core.List.{List, ◌∷◌, map}
use mathlib.Core.Bool.{Bool, true, false, not, cond, ◌&&◌, true≢false}
use native.Mathlib.Nat.{le_refl}
use native.Mathlib.Omega.{arith}
use borrow.Author.Tests.{ltb-true, lt-ltb}
use lib.ListN.{length, get_or, drop, length-drop}
use lib.Dec.{ltb, eqb}
use Rattle.bytes_wire.specs.Parse.{ok, bad, and_then, map_parse, checked}
use Rattle.bytes_wire.specs.Number.{u8_of}
use Rattle.bytes_wire.specs.Value.{bool_byte}
use Rattle.bytes_wire.specs.WellFormed.{Bytes}
use Rattle.bytes_wire.specs.declared.Cause.{Cause}
use Rattle.bytes_wire.proofs.Laws.{from_8}
use Rattle.bytes_wire.proofs.Inv.{both, and_inv, checked_inv, number_inv}
use Rattle.bytes_wire.proofs.Canon.{Canon, bytes_drop, canon_and}
use Rattle.mir.specs.Syntax.{Instruction, Terminator}
use Rattle.bytes_field.specs.Decode.{kinds, bit, meta_of, defined_bits, bits_of, kind_of, instruction_of, terminator_of}
use Rattle.bytes_field.specs.Encode.{bit_map, instruction_bytes, terminator_bytes}
use Rattle.bytes_field.specs.declared.Bounds.{Bounds}
use Rattle.bytes_laws.specs.WellFormed.{Wide, FitInstruction}
use Rattle.bytes_laws.proofs.Exact.{Exact, ends, After, then, last, whole, byte}
use Rattle.bytes_laws.proofs.Fields.{beside}
use Rattle.bytes_laws.proofs.EachKind.{fields_most, fields, terminator}
use Rattle.bytes_laws.proofs.Bits.{bits_sum, bits_defined}

-- bit 3 stands with kind 16 alone
const_bit_lem : (c t : Bool) → (c ≡ true → t ≡ true) → cond t (bool_byte c) 0 ≡ bool_byte c
const_bit_lem c true f = refl
const_bit_lem true false f = absurd (true≢false (sym (f refl)))
const_bit_lem false false f = refl

-- a Phi is not late
not_late : (late t : Bool) → not (late && t) ≡ true → t ≡ true → late ≡ false
not_late true true e f = sym e
not_late true false e f = sym f
not_late false t e f = refl

-- what stands behind the bit map x and the kind k
behind_kind : (b : Bounds) (seen : List Bool) (late : Bool) (x k : ℕ) → x < 16 → (bit 3 x ≡ true → eqb k 16 ≡ true) → not
    (late && eqb k 9) ≡ true → After (λ w. x ∷ k ∷ w) (λ s. and_then s (meta_of x s) (λ m s. map_parse (λ i. record { meta = m; kind = i })
    (get_or (map (λ f. f s) (kinds b seen (bit 3 x))) k (bad Cause.Undefined 0)))) instruction_bytes (λ i. Wide b → FitInstruction b seen late i)
    (24 + fields_most b)
unfolding instruction_bytes
behind_kind b seen late x k l c p =
    then (beside x) (λ m f.
    last _ (whole (fields b seen (bit 3 x) k) (le_refl (fields_most b))) (λ i g.
    let e : bit_map (record { meta = m; kind = i }) ≡ x = omega (arith, f.0.0, f.0.1, f.0.2, g.1 ∙ const_bit_lem (bit 3 x) (eqb k 16) c, bits_sum x l) in
    (simp (e, g.0), λ w. (f.1, g.2 w, λ h. not_late late (eqb k 9) p (rw g.0 at h)))))

-- the whole of it
pub instruction : (b : Bounds) (seen : List Bool) (late : Bool) → Exact (instruction_of b seen late) instruction_bytes (λ i. Wide b → FitInstruction b seen late i) (26 + fields_most b)
unfolding instruction_of
instruction b seen late =
    record {
      each = λ s i n h e.
          elim (and_inv s (bits_of s) _ e) [
            | both x m j p q r ↦
                let c = checked_inv Cause.Undefined (defined_bits s) (u8_of s) p in
                let u = byte.each s x m h c.0 in
                let o : m ≡ 1 = (number_inv 1 s c.0).2 in
                elim (and_inv (drop m s) (kind_of late (drop m s)) _ q) [
                  | both k m' j' p' q' r' ↦
                      let h' = bytes_drop s m h in
                      let d = checked_inv Cause.LatePhi (λ k. not (late && eqb k 9)) (checked Cause.Undefined (λ k. ltb k 19) (u8_of (drop m s))) p' in
                      let d' = checked_inv Cause.Undefined (λ k. ltb k 19) (u8_of (drop m s)) d.0 in
                      let v = byte.each (drop m s) k m' h' d'.0 in
                      let y = number_inv 1 (drop m s) d'.0 in
                      let a : k ≡ get_or s 1 0 = y.1 ∙ rw o (from_8 s 1) in
                      let l : 1 < length s = omega (arith, y.0, length-drop m s) in
                      let z = bits_defined (ltb x 16) (bit 3 x) (ltb 1 (length s)) (eqb (get_or s 1 0) 16) c.1 (lt-ltb 1 (length s) l) in
                      elim ((behind_kind b seen late x k (ltb-true x 16 z.0) (rw a z.1) d.1).each (drop m' (drop m s)) i j' (bytes_drop (drop m s) m' h') q') [
                        | ends w f g good small ↦
                            record {
                              canon = rw (g, r, r') (canon_and u.canon (canon_and v.canon f));
                              good = good;
                              small = omega (arith, u.small, v.small);
                            }
                      ]
                ]
          ];
    }

-- an instruction is written as it stood
pub instruction_canon : (b : Bounds) (seen : List Bool) (late : Bool) (s : List ℕ) {i : Instruction} {n : ℕ} → Bytes s → instruction_of b seen late s ≡ ok i n → Canon (instruction_bytes i) s n
instruction_canon b seen late s {i} {n} h e = ((instruction b seen late).each s i n h e).canon

-- it takes at most 268 bytes
pub instruction_size : (b : Bounds) (seen : List Bool) (late : Bool) (s : List ℕ) {i : Instruction} {n : ℕ} → Bytes s → instruction_of b seen late s ≡ ok i n → b.list ≤ 16 → b.projections ≤ 8 → n ≤ 268
instruction_size b seen late s {i} {n} h e l p = omega (arith, ((instruction b seen late).each s i n h e).small)

-- and so for a terminator
pub terminator_canon : (b : Bounds) (s : List ℕ) {t : Terminator} {n : ℕ} → Bytes s → terminator_of b s ≡ ok t n → Canon (terminator_bytes t) s n
terminator_canon b s {t} {n} h e = ((terminator b).each s t n h e).canon
