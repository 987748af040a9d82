-- What was read is written as it stood, and what was read has a byte form.
use Prim.Native.Nat.{ℕ, zero, suc, ◌+◌, ◌*◌, ◌/◌, ◌%◌, ◌^◌, ◌≤◌, ◌<◌}
use mathlib.Core.Path.{◌≡◌, refl, ◌∙◌, sym}
use mathlib.Core.List.{List, [], ◌∷◌, ◌++◌}
use mathlib.Core.Bool.{Bool}
use native.Mathlib.Nat.{pow-zero, pow-suc, one-le-pow}
use native.Mathlib.Omega.{arith}
use borrow.Author.Tests.{ltb-true}
use lib.ListN.{length, take, drop, length-append}
use lib.Seq.{get_or-drop, take-add}
use lib.Dec.{ltb, eqb}
use Rattle.bytes_wire.specs.Parse.{ok, map_parse, checked}
use Rattle.bytes_wire.specs.Number.{from_bytes, to_bytes, number_of, u8_of, u32_of, below}
use Rattle.bytes_wire.specs.Value.{integer, boolean, unit, bool_byte, bool_of, value_id_of, value_of, value_kinds, value_bytes}
use Rattle.bytes_wire.specs.WellFormed.{Bytes, FitValue}
use Rattle.bytes_wire.specs.declared.Cause.{Cause}
use Rattle.mir.specs.declared.Literal.{Literal}
use Rattle.mir.specs.declared.Value.{Value}
use Rattle.bytes_wire.proofs.Inv.{no_ok, behind, image, later_inv, map_inv, checked_inv, number_inv, below_inv, tagged_inv}
use Rattle.bytes_wire.proofs.RoundTrip.{length_to_bytes}

-- b is what the first n bytes of t are, all n of them
pub record Canon (b t : List ℕ) (n : ℕ) : Type 0 where
  pub same : b ≡ take n t
  pub size : length b ≡ n

-- what is left of bytes is bytes
pub bytes_drop : (s : List ℕ) (n : ℕ) → Bytes s → Bytes (drop n s)
bytes_drop s n h i = rw (get_or-drop n s i 0) (h (n + i))

-- one thing, then another behind it
pub canon_and : {b₁ b₂ s : List ℕ} {m k : ℕ} → Canon b₁ s m → Canon b₂ (drop m s) k → Canon (b₁ ++ b₂) s (m + k)
canon_and {b₁} {b₂} {s} {m} {k} p q = record { same = rw (take-add, p.same, q.same); size = omega (arith, length-append b₁ b₂, p.size, q.size) }

-- the lowest byte of a number, and the others
low : (a y : ℕ) → a < 256 → (a + 256 * y) % 256 ≡ a
low a y h = omega arith

high : (a y : ℕ) → a < 256 → (a + 256 * y) / 256 ≡ y
high a y h = omega arith

-- bytes are those of the number they make
to_from : (w : ℕ) (s : List ℕ) → Bytes s → w ≤ length s → to_bytes w (from_bytes (take w s)) ≡ take w s
to_from zero s h l = refl
to_from (suc w) [] h l = absurd (omega arith)
to_from (suc w) (a ∷ s) h l =
    let k : w ≤ length s = omega arith in
    let y = from_bytes (take w s) in
    rw (low a y (h 0), high a y (h 0), to_from w s (bytes_drop (a ∷ s) 1 h) k)

-- w bytes make a number that fits w bytes
from_fit : (w : ℕ) (s : List ℕ) → Bytes s → from_bytes (take w s) < 256 ^ w
from_fit zero s h = rw pow-zero (omega arith)
from_fit (suc w) [] h = rw pow-suc (omega (arith, one-le-pow w 256 (omega arith)))
from_fit (suc w) (a ∷ s) h = rw pow-suc (omega (arith, h 0, from_fit w s (bytes_drop (a ∷ s) 1 h)))

-- a number is written as it stood
pub number_canon : (w : ℕ) (s : List ℕ) {x n : ℕ} → Bytes s → number_of w s ≡ ok x n → Canon (to_bytes w x) s n
number_canon w s {x} {n} h e =
    let k = number_inv w s e in
    record { same = rw (k.1, k.2) (to_from w s h k.0); size = length_to_bytes w x ∙ sym k.2 }

-- a number that was read fits its width
pub number_fit : (w : ℕ) (s : List ℕ) {x n : ℕ} → Bytes s → number_of w s ≡ ok x n → x < 256 ^ w
number_fit w s h e = rw (number_inv w s e).1 (from_fit w s h)

-- a byte that is 0 or 1
pub bool_canon : (s : List ℕ) {b : Bool} {n : ℕ} → Bytes s → bool_of s ≡ ok b n → Canon (bool_byte b ∷ []) s n
bool_canon s {b} {n} h e =
    elim (map_inv (λ x. eqb x 1) (checked Cause.Undefined (λ x. ltb x 2) (u8_of s)) e) [
      | image x p q ↦
          let k = checked_inv Cause.Undefined (λ x. ltb x 2) (u8_of s) p in
          rw (q, ← bool_byte_lem x (ltb-true x 2 k.1)) (number_canon 1 s h k.0)
    ]
  where
    bool_byte_lem : (x : ℕ) → x < 2 → to_bytes 1 x ≡ bool_byte (eqb x 1) ∷ []
    bool_byte_lem zero l = refl
    bool_byte_lem (suc zero) l = refl
    bool_byte_lem (suc (suc x)) l = absurd (omega arith)

-- a u16 that has to stay below a bound
pub below_canon : (bound : ℕ) (s : List ℕ) {x n : ℕ} → Bytes s → below bound s ≡ ok x n → Canon (to_bytes 2 x) s n × (x < bound)
below_canon bound s {x} h e = let k = below_inv bound s e in (number_canon 2 s h k.0, k.1)

-- a kind byte alone, and one with what follows it
pub canon_byte : (a : ℕ) (s : List ℕ) → Canon (a ∷ []) (a ∷ s) 1
canon_byte a s = record { same = refl; size = refl }

pub canon_tag : (a : ℕ) {b s : List ℕ} {k n : ℕ} → Canon b s k → n ≡ 1 + k → Canon (a ∷ b) (a ∷ s) n
canon_tag a {b} {s} {k} {n} c e = rw e (canon_and (canon_byte a s) c)

-- a value: both laws at once
value_both : (next : ℕ) (s : List ℕ) {v : Value} {n : ℕ} → Bytes s → value_of next s ≡ ok v n → Canon (value_bytes v) s n × (next ≤ 65536 → FitValue next v)
unfolding value_of
value_both next [] h e = absurd (no_ok e)
value_both next (zero ∷ t) h e =
    elim (later_inv 1 (map_parse integer (u32_of t)) (tagged_inv (value_kinds next) (0 ∷ t) e).1) [
      | behind k p q ↦
          elim (map_inv integer (u32_of t) p) [ image x f g ↦ rw g (canon_tag 0 (number_canon 4 t (bytes_drop (0 ∷ t) 1 h) f) q, λ l. number_fit 4 t (bytes_drop (0 ∷ t) 1 h) f) ]
    ]
value_both next (suc zero ∷ t) h e =
    elim (later_inv 1 (map_parse boolean (bool_of t)) (tagged_inv (value_kinds next) (1 ∷ t) e).1) [
      | behind k p q ↦
          elim (map_inv boolean (bool_of t) p) [ image b f g ↦ rw g (canon_tag 1 (bool_canon t (bytes_drop (1 ∷ t) 1 h) f) q, λ l. tt) ]
    ]
value_both next (suc (suc zero) ∷ t) {v} {n} h e =
    let f = (tagged_inv (value_kinds next) (2 ∷ t) e).1 in
    let p : v ≡ unit = cc in
    let q : n ≡ 1 = cc in
    rw p (rw q (canon_byte 2 t), λ l. tt)
value_both next (suc (suc (suc zero)) ∷ t) h e =
    elim (later_inv 1 (map_parse Value.Operand (value_id_of next t)) (tagged_inv (value_kinds next) (3 ∷ t) e).1) [
      | behind k p q ↦
          elim (map_inv Value.Operand (value_id_of next t) p) [
            | image x f g ↦
                elim (map_inv (λ y. record { 0 = y }) (below next t) f) [
                  | image y u w ↦
                      let c = below_canon next t (bytes_drop (3 ∷ t) 1 h) u in
                      rw (g, w) (canon_tag 3 c.0 q, λ l. (c.1, l))
                ]
          ]
    ]
value_both next (suc (suc (suc (suc zero))) ∷ t) {v} {n} h e =
    let f = (tagged_inv (value_kinds next) (4 ∷ t) e).1 in
    let p : v ≡ Value.Error = cc in
    let q : n ≡ 1 = cc in
    rw p (rw q (canon_byte 4 t), λ l. tt)
value_both next (suc (suc (suc (suc (suc a)))) ∷ t) h e = absurd (no_ok (tagged_inv (value_kinds next) (suc (suc (suc (suc (suc a)))) ∷ t) e).1)

-- a value is written as it stood
pub value_canon : (next : ℕ) (s : List ℕ) {v : Value} {n : ℕ} → Bytes s → value_of next s ≡ ok v n → Canon (value_bytes v) s n
value_canon next s h e = (value_both next s h e).0

-- a value that was read has a byte form
pub value_fit : (next : ℕ) (s : List ℕ) {v : Value} {n : ℕ} → Bytes s → value_of next s ≡ ok v n → next ≤ 65536 → FitValue next v
value_fit next s h e l = (value_both next s h e).1 l

-- a value takes 5 bytes at most
pub value_short : (x : Value) → length (value_bytes x) ≤ 5
value_short (Value.Literal (Literal.Integer x)) = omega arith
value_short (Value.Literal (Literal.Boolean b)) = omega arith
value_short (Value.Literal Literal.Unit) = omega arith
value_short (Value.Operand v) = omega arith
value_short Value.Error = omega arith
