-- The map of the recorded types: the bits of a list of bytes are those of the number that it makes.
use Prim.Native.Nat.{ℕ, zero, suc, ◌+◌, ◌*◌, ◌/◌, ◌%◌, ◌^◌, ◌<◌}
use mathlib.Core.Path.{◌≡◌, refl, ap, ◌∙◌, sym}
use mathlib.Core.List.{List, [], ◌∷◌, ◌++◌}
use mathlib.Core.Option.{Option}
use native.Mathlib.Nat.{pow-suc, div-div-eq-div-mul, zero-div}
use native.Mathlib.Omega.{arith}
use lib.ListN.{length, get_or}
use Rattle.bytes_wire.specs.Number.{to_bytes, from_bytes}
use Rattle.mir.specs.declared.TypeId.{TypeId}
use Rattle.bytes_wire.specs.Value.{bool_byte}
use Rattle.bytes_field.specs.Encode.{stands}
use Rattle.mir.specs.Lists.{Each}
use Rattle.bytes_laws.proofs.Bits.{bit_byte}
use Rattle.bytes_sections.specs.Decode.{has_recorded}
use Rattle.bytes_sections.specs.Encode.{map_number}

-- a byte
abbrev pub Small : ℕ → Type 0
Small x = x < 256

-- the next bit is the lowest of the half
pub half : (x v : ℕ) → x / 2 ^ suc v ≡ x / 2 ^ v / 2
half x v = rw pow-suc (sym (div-div-eq-div-mul x (2 ^ v) 2))

-- a bit of the lowest byte
low_bit : (v a y : ℕ) → v < 8 → a < 256 → (a + 256 * y) / 2 ^ v % 2 ≡ a / 2 ^ v % 2
low_bit zero a y l h = omega arith
low_bit (suc zero) a y l h = omega arith
low_bit (suc (suc zero)) a y l h = omega arith
low_bit (suc (suc (suc zero))) a y l h = omega arith
low_bit (suc (suc (suc (suc zero)))) a y l h = omega arith
low_bit (suc (suc (suc (suc (suc zero))))) a y l h = omega arith
low_bit (suc (suc (suc (suc (suc (suc zero)))))) a y l h = omega arith
low_bit (suc (suc (suc (suc (suc (suc (suc zero))))))) a y l h = omega arith
low_bit (suc (suc (suc (suc (suc (suc (suc (suc v)))))))) a y l h = absurd (omega arith)

-- eight bits are a byte
pub byte_wide : (v : ℕ) → 2 ^ (8 + v) ≡ 256 * 2 ^ v
byte_wide zero = refl
byte_wide (suc v) =
    let e : 8 + suc v ≡ suc (8 + v) = omega arith in
    rw (e, pow-suc 2 (8 + v), pow-suc 2 v, byte_wide v) (omega arith)

-- a bit of the bytes above it
high_bit : (v a y : ℕ) → a < 256 → (a + 256 * y) / 2 ^ (8 + v) ≡ y / 2 ^ v
high_bit v a y h =
    let e : (a + 256 * y) / 256 ≡ y = omega arith in
    rw (byte_wide v) (sym (div-div-eq-div-mul (a + 256 * y) 256 (2 ^ v)) ∙ ap (λ z. z / 2 ^ v) e)

-- bit r of byte q
at_bit : (map : List ℕ) → Each Small map → (q r : ℕ) → r < 8 → from_bytes map / 2 ^ (8 * q + r) % 2 ≡ get_or map q 0 / 2 ^ r % 2
at_bit [] h q r l = rw (zero-div (2 ^ (8 * q + r)), zero-div (2 ^ r))
at_bit (a ∷ map) h zero r l = let e : 8 * 0 + r ≡ r = omega arith in rw e (low_bit r a (from_bytes map) l h.0)
at_bit (a ∷ map) h (suc q) r l =
    let e : 8 * suc q + r ≡ 8 + (8 * q + r) = omega arith in
    rw (e, high_bit (8 * q + r) a (from_bytes map) h.0) (at_bit map h.1 q r l)

-- "value v is bit v mod 8 of byte v div 8, low bit first"
pub map_bit : (map : List ℕ) → Each Small map → (v : ℕ) → from_bytes map / 2 ^ v % 2 ≡ bool_byte (has_recorded map v)
map_bit map h v =
    let e : 8 * (v / 8) + v % 8 ≡ v = omega arith in
    let l : v % 8 < 8 = omega arith in
    rw (bit_byte (v % 8) (get_or map (v / 8) 0)) (rw e at (at_bit map h (v / 8) (v % 8) l))

-- bytes with j bits more behind them
pub map_fit : (whole last : List ℕ) (j : ℕ) → Each Small whole → from_bytes last < 2 ^ j → from_bytes (whole ++ last) < 2 ^ (8 * length whole + j)
map_fit [] last j h l = let e : 8 * 0 + j ≡ j = omega arith in rw e l
map_fit (a ∷ whole) last j h l =
    let e : 8 * suc (length whole) + j ≡ 8 + (8 * length whole + j) = omega arith in
    rw (e, byte_wide (8 * length whole + j)) (omega (arith, h.0, map_fit whole last j h.1 l))

-- bytes are those of the number that they make
pub to_from : (map : List ℕ) → Each Small map → to_bytes (length map) (from_bytes map) ≡ map
to_from [] h = refl
to_from (a ∷ map) h =
    let y = from_bytes map in
    let e : (a + 256 * y) % 256 ≡ a = omega (arith, h.0) in
    let f : (a + 256 * y) / 256 ≡ y = omega (arith, h.0) in
    rw (e, f, to_from map h.1)

-- the map's number, from its bit v on
pub first_bit : (t : Option TypeId) (ts : List (Option TypeId)) (x : ℕ) → x % 2 ≡ stands t → map_number ts ≡ x / 2 → map_number (t ∷ ts) ≡ x
first_bit t ts x e f = omega arith
