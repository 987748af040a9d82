-- The map and the recorded types that are written are read back.
use Prim.Native.Nat.{ℕ, zero, suc, ◌+◌, ◌*◌, ◌/◌, ◌%◌, ◌^◌, ◌≤◌, ◌<◌}
use mathlib.Core.Path.{◌≡◌, refl, ◌∙◌}
use mathlib.Core.List.{List, [], ◌∷◌, ◌++◌}
use mathlib.Core.Bool.{Bool, true, false, cond}
use mathlib.Core.Option.{Option, none, some}
use native.Mathlib.Nat.{pow-zero, pow-suc, pow-succ', pow-le-pow_right, div-div-eq-div-mul, mod-eq_of_lt, zero-add, div-one}
use native.Mathlib.Omega.{arith}
use borrow.Author.Tests.{lt-ltb, eqb-true, eqb-false}
use lib.ListN.{length}
use lib.Dec.{ltb, eqb}
use Rattle.bytes_wire.specs.Parse.{ok, map_parse, checked, seq_of}
use Rattle.bytes_wire.specs.Number.{to_bytes, from_bytes, u8_of}
use Rattle.bytes_wire.specs.Value.{bool_byte}
use Rattle.bytes_wire.specs.declared.Cause.{Cause}
use Rattle.mir.specs.declared.TypeId.{TypeId}
use Rattle.bytes_wire.proofs.RoundTrip.{length_to_bytes}
use Rattle.bytes_field.specs.Encode.{type_id_bytes, each_bytes, option_bytes, stands}
use Rattle.mir.specs.Lists.{Each}
use Rattle.bytes_laws.specs.WellFormed.{FitOption}
use Rattle.bytes_laws.proofs.Back.{Back, then, last, alone, tested, byte, sequence}
use Rattle.bytes_laws.proofs.BackFields.{type}
use Rattle.bytes_types.specs.WellFormed.{FitPart}
use Rattle.bytes_types.proofs.Canon.{only}
use Rattle.bytes_sections.specs.Decode.{last_byte_of, map_of, has_recorded, recorded_type_of, recorded_of}
use Rattle.bytes_sections.specs.Encode.{map_number}
use Rattle.bytes_laws_whole.proofs.Map.{Small, byte_wide, half, map_bit}
use Rattle.bytes_laws_whole.proofs.Whole.{singles}

-- the bytes of a number are bytes
pub small_bytes : (w x : ℕ) → Each Small (to_bytes w x)
small_bytes zero x = tt
small_bytes (suc w) x = (omega arith, small_bytes w (x / 256))

-- a number of 8 w bits is the number of its w bytes
from_to : (w x : ℕ) → x < 2 ^ (8 * w) → from_bytes (to_bytes w x) ≡ x
from_to zero x h = omega arith
from_to (suc w) x h =
    let e : 8 * suc w ≡ 8 + 8 * w = omega arith in
    let k : x < 256 * 2 ^ (8 * w) = rw (e, byte_wide (8 * w)) at h in
    rw (from_to w (x / 256) (omega arith)) (omega arith)

pub map_number_lem : (n x : ℕ) → x < 2 ^ n → from_bytes (to_bytes ((n + 7) / 8) x) ≡ x
map_number_lem n x h =
    let l : n ≤ 8 * ((n + 7) / 8) = omega arith in
    from_to ((n + 7) / 8) x (omega (arith, pow-le-pow_right {n = 2} (omega arith) l))

-- the first k bytes, and those behind them
split : (k e x : ℕ) → to_bytes (k + e) x ≡ to_bytes k x ++ to_bytes e (x / 256 ^ k)
split zero e x = rw (zero-add e, pow-zero 256, div-one x)
split (suc k) e x =
    let f : suc k + e ≡ suc (k + e) = omega arith in
    rw (f, pow-succ' 256 k, split k e (x / 256), div-div-eq-div-mul x 256 (256 ^ k))

-- what is left of 8 k + j bits behind k bytes
rest_fit : (k j x : ℕ) → x < 2 ^ (8 * k + j) → x / 256 ^ k < 2 ^ j
rest_fit zero j x h = let e : 8 * 0 + j ≡ j = omega arith in rw (pow-zero 256, div-one x) (rw e at h)
rest_fit (suc k) j x h =
    let e : 8 * suc k + j ≡ 8 + (8 * k + j) = omega arith in
    let g : x < 256 * 2 ^ (8 * k + j) = rw (e, byte_wide (8 * k + j)) at h in
    rw (pow-succ' 256 k, ← div-div-eq-div-mul x 256 (256 ^ k)) (rest_fit k j (x / 256) (omega arith))

-- the bits behind the whole bytes
last_byte : (j y : ℕ) → j < 8 → y < 2 ^ j → Back (last_byte_of j) (to_bytes ((j + 7) / 8) y) (to_bytes ((j + 7) / 8) y)
last_byte j y l h = chosen (eqb j 0) refl
  where
    chosen : (t : Bool) → eqb j 0 ≡ t → Back (λ s. cond t (ok [] 0) (map_parse (λ x. x ∷ []) (checked Cause.Undefined (λ x. ltb x (2 ^ j)) (u8_of s)))) (to_bytes ((j + 7) / 8) y) (to_bytes ((j + 7) / 8) y)
    chosen true e = let z : j ≡ 0 = eqb-true j 0 e in rw z alone
    chosen false e =
        let z : (j + 7) / 8 ≡ 1 = omega (arith, eqb-false j 0 e) in
        let q : j ≤ 8 = omega arith in
        let k : y < 256 = omega (arith, pow-le-pow_right {n = 2} (omega arith) q) in
        rw (z, mod-eq_of_lt k) (last _ (tested Cause.Undefined (λ x. ltb x (2 ^ j)) (lt-ltb y (2 ^ j) h) (byte y k)))

-- "a bit map of next-value bits, spare bits 0"
pub map_back : (next x : ℕ) → x < 2 ^ next → Back (map_of next) (to_bytes ((next + 7) / 8) x) (to_bytes ((next + 7) / 8) x)
unfolding map_of
map_back next x h =
    let k = next / 8 in
    let j = next % 8 in
    let e : (next + 7) / 8 ≡ k + (j + 7) / 8 = omega arith in
    let f : 8 * k + j ≡ next = omega arith in
    let g = rest_fit k j x (rw f h) in
    let first : Back (seq_of u8_of k) (to_bytes k x) (to_bytes k x) = rw (length_to_bytes k x, singles (to_bytes k x)) at (sequence {P = Small} (λ a l. byte a l) (to_bytes k x) (small_bytes k x)) in
    rw (e, split k ((j + 7) / 8) x) (then _ first (last _ (last_byte j (x / 256 ^ k) (omega arith) g)))

-- the type of a value, where its bit stands
recorded_type_lem : (types : ℕ) (c : Bool) (t : Option TypeId) → types ≤ 65536 → stands t ≡ bool_byte c → FitOption (FitPart types) t → Back (recorded_type_of types c) (option_bytes type_id_bytes t) t
recorded_type_lem types true none l e h = absurd (omega arith)
recorded_type_lem types true (some t) l e h = last _ (type (only types) (record { types = l; next = omega arith; blocks = omega arith; list = omega arith; projections = omega arith }) t h)
recorded_type_lem types false none l e h = alone
recorded_type_lem types false (some t) l e h = absurd (omega arith)

-- a bit is 0 or 1
stands_small : (t : Option TypeId) → stands t < 2
stands_small none = omega arith
stands_small (some t) = omega arith

-- the map's number has as many bits as there are values
pub number_fit : (rs : List (Option TypeId)) → map_number rs < 2 ^ length rs
number_fit [] = rw pow-zero (omega arith)
number_fit (t ∷ ts) = rw pow-suc (omega (arith, stands_small t, number_fit ts))

-- "then a u16 type for each set bit, rising"
pub recorded_back : (types : ℕ) (map : List ℕ) → types ≤ 65536 → Each Small map → (v : ℕ) (rs : List (Option TypeId)) → from_bytes map / 2 ^ v ≡ map_number rs → Each (FitOption (FitPart types)) rs → Back (recorded_of types map v (length rs)) (each_bytes (option_bytes type_id_bytes) rs) rs
unfolding recorded_of
recorded_back types map l s v [] e h = alone
recorded_back types map l s v (t ∷ ts) e h =
    let c = has_recorded map v in
    let f : stands t ≡ bool_byte c = omega (arith, map_bit map s v, stands_small t) in
    let g : from_bytes map / 2 ^ suc v ≡ map_number ts = half (from_bytes map) v ∙ omega (arith, stands_small t) in
    then _ (recorded_type_lem types c t l f h.0) (last _ (recorded_back types map l s (suc v) ts g h.1))
