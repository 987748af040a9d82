-- The bit map of an instruction: the bits that were read are those that are written.
use Prim.Native.Nat.{ℕ, zero, suc, ◌+◌, ◌*◌, ◌/◌, ◌%◌, ◌^◌, ◌<◌}
use mathlib.Core.Path.{◌≡◌, refl, sym}
use mathlib.Core.Bool.{Bool, true, false, not, ◌&&◌, true≢false}
use native.Mathlib.Nat.{div-div-eq-div-mul}
use native.Mathlib.Omega.{arith}
use lib.Dec.{eqb}
use Rattle.bytes_wire.specs.Value.{bool_byte}
use Rattle.bytes_field.specs.Decode.{bit}

-- a bit, as a number
pub small : (y : ℕ) → y < 2 → bool_byte (eqb y 1) ≡ y
small zero l = refl
small (suc zero) l = refl
small (suc (suc y)) l = absurd (omega arith)

pub bit_byte : (k x : ℕ) → bool_byte (bit k x) ≡ x / 2 ^ k % 2
bit_byte k x = small (x / 2 ^ k % 2) (omega arith)

-- four bits make the number
pub bits_sum : (x : ℕ) → x < 16 → bool_byte (bit 0 x) + 2 * bool_byte (bit 1 x) + 4 * bool_byte (bit 2 x) + 8 * bool_byte (bit 3 x) ≡ x
bits_sum x l =
    let f : x / 4 ≡ x / 2 / 2 = sym (div-div-eq-div-mul x 2 2) in
    let g : x / 8 ≡ x / 4 / 2 = sym (div-div-eq-div-mul x 4 2) in
    rw (bit_byte 0 x, bit_byte 1 x, bit_byte 2 x, bit_byte 3 x) (join x (x / 2) (x / 4) (x / 8) refl f g l)
  where
    join : (x y z u : ℕ) → y ≡ x / 2 → z ≡ y / 2 → u ≡ z / 2 → x < 16 → x / 1 % 2 + 2 * (y % 2) + 4 * (z % 2) + 8 * (u % 2) ≡ x
    join x y z u e f g l = omega arith

-- a test of two parts, the second with an exception
pub bits_defined : (p q r t : Bool) → p && not (q && (r && not t)) ≡ true → r ≡ true → (p ≡ true) × (q ≡ true → t ≡ true)
bits_defined true true true true e f = (refl, λ g. refl)
bits_defined true true true false e f = (refl, λ g. e)
bits_defined true true false t e f = absurd (true≢false (sym f))
bits_defined true false r t e f = (refl, λ g. absurd (true≢false (sym g)))
bits_defined false q r t e f = absurd (true≢false (sym e))

-- the bits of a number that is made of four
pub bits_of_lem : (x p q r c : ℕ) → p < 2 → q < 2 → r < 2 → c < 2 → x ≡ p + 2 * q + 4 * r + 8 * c → (x < 16) × (p ≡ bool_byte (bit 0 x)) × (q ≡ bool_byte (bit 1 x)) × (r ≡ bool_byte (bit 2 x)) × (c ≡ bool_byte (bit 3 x))
bits_of_lem x p q r c e f g h i = (omega arith, rw (bit_byte 0 x) (omega arith), rw (bit_byte 1 x) (omega arith), rw (bit_byte 2 x) (omega arith), rw (bit_byte 3 x) (omega arith))

-- the bit map is defined
pub bits_fit : (p q r t : Bool) → p ≡ true → (t ≡ false → q ≡ false) → p && not (q && (r && not t)) ≡ true
bits_fit true true true true e f = refl
bits_fit true true true false e f = absurd (true≢false (f refl))
bits_fit true true false t e f = refl
bits_fit true false r t e f = refl
bits_fit false q r t e f = e
