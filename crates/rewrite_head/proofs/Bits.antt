-- The recorded types of old and fresh values by number, and the map's number bit by bit.
use Prim.Native.Nat.{ℕ, zero, suc, ◌+◌, ◌-◌, ◌*◌, ◌/◌, ◌%◌, ◌^◌, ◌≤◌, ◌<◌}
use mathlib.Core.Path.{◌≡◌, refl, ap, ◌∙◌, sym}
use mathlib.Core.List.{List, [], ◌∷◌, map}
use mathlib.Core.Option.{Option, none, some}
use native.Mathlib.Nat.{add-zero, add-mul, two-pow-succ}
use native.Mathlib.Omega.{arith}
use Rattle.std.proofs.Math.Pow.{pow_mono}
use lib.ListN.{length, get_or, drop, length-append, length-map, get_or-append, get_or-eq_default}
use lib.Seq.{get_or-append-add, drop-nil}
use Rattle.mir.specs.declared.TypeId.{TypeId}
use Rattle.bytes_field.specs.Encode.{stands}
use Rattle.bytes_sections.specs.Encode.{map_number}
use Rattle.bytes_sections.specs.Index.{recorded_number, recorded_from}
use Rattle.rewrite_progress.specs.Effect.{type_numbers}
use Rattle.rewrite_head.specs.declared.recorded.RecordedTypes.{RecordedTypes}
use Rattle.rewrite_head.specs.Head.{OfRecorded, with_fresh, Tabled}

-- how many values there are
pub length_fresh : (rs : List (Option TypeId)) (ts : List TypeId) → length (with_fresh rs ts) ≡ length rs + length ts
length_fresh rs ts = rw (length-append, length-map)

-- a recorded type's number, taken apart again
recorded_back : (o : Option TypeId) → recorded_from (recorded_number o) ≡ o
recorded_back none = refl
recorded_back (some t) = let z : t.0 + 1 ≡ suc t.0 = omega arith in ap recorded_from z

-- a fresh value has a recorded type
fresh_type : (ts : List TypeId) (k : ℕ) → k < length ts → some (record { 0 = get_or (type_numbers ts) k 0 }) ≡ get_or (map some ts) k none
unfolding type_numbers
fresh_type [] k h = absurd (omega arith)
fresh_type (t ∷ ts) zero h = refl
fresh_type (t ∷ ts) (suc k) h = fresh_type ts k (omega arith)

module _ {recorded fresh : List ℕ} {next many : ℕ} {rs : List (Option TypeId)} {ts : List TypeId} (h : Tabled recorded fresh next many rs ts) where
  -- the recorded type of a value there was
  pub old_type : (v : ℕ) (o : Option TypeId) → v < next → o ≡ recorded_from (get_or recorded v 0) → o ≡ get_or (with_fresh rs ts) v none
  old_type v o l e =
      let i : v < length rs = omega (arith, h.old) in
      e ∙ ap recorded_from (h.known v i (omega (arith, h.long))) ∙ recorded_back _ ∙ sym (get_or-append rs (map some ts) none v i)

  -- of a fresh one
  pub new_type : (v n : ℕ) → next + n ≡ v → n < many → some (record { 0 = get_or fresh n 0 }) ≡ get_or (with_fresh rs ts) v none
  new_type v n l k =
      let p : length rs + n ≡ v = omega (arith, h.old) in
      let q : get_or (with_fresh rs ts) v none ≡ get_or (map some ts) n none = ap (λ n. get_or (with_fresh rs ts) n none) (sym p) ∙ get_or-append-add rs (map some ts) n none in
      ap (λ t. some (record { 0 = t })) (h.taken n k) ∙ fresh_type ts n (omega (arith, h.new)) ∙ sym q

  -- past all of them there is none
  pub no_type : (v : ℕ) → next + many ≤ v → none ≡ get_or (with_fresh rs ts) v none
  no_type v l = sym (get_or-eq_default (with_fresh rs ts) none {n = v} (omega (arith, h.old, h.new, length_fresh rs ts)))

-- the lowest bit, and those above it
pub low_bit : (rs : List (Option TypeId)) (v : ℕ) → map_number (drop v rs) ≡ stands (get_or rs v none) + 2 * map_number (drop (v + 1) rs)
low_bit [] v = rw (drop-nil v, drop-nil (v + 1)) refl
low_bit (r ∷ rs) zero = refl
low_bit (r ∷ rs) (suc v) =
    let e : suc v + 1 ≡ suc (v + 1) = omega arith in
    rw e (low_bit rs v)

-- the bits of a byte, all eight at once
pub eight : (x a b c d e f g h y : ℕ) → a ≤ 1 → b ≤ 1 → c ≤ 1 → d ≤ 1 → e ≤ 1 → f ≤ 1 → g ≤ 1 → h ≤ 1
    → x ≡ a + 2 * (b + 2 * (c + 2 * (d + 2 * (e + 2 * (f + 2 * (g + 2 * (h + 2 * y)))))))
    → (a + 2 * b + 4 * c + 8 * d + 16 * (e + 2 * f + 4 * g + 8 * h) ≡ x % 256) × (x / 256 ≡ y)
eight x a b c d e f g h y i j k l m n o p q =
    let z : x ≡ (a + 2 * b + 4 * c + 8 * d + 16 * (e + 2 * f + 4 * g + 8 * h)) + 256 * y = omega arith in
    let w : a + 2 * b + 4 * c + 8 * d + 16 * (e + 2 * f + 4 * g + 8 * h) < 256 = omega arith in
    parts (a + 2 * b + 4 * c + 8 * d + 16 * (e + 2 * f + 4 * g + 8 * h)) z w
  where
    parts : (u : ℕ) → x ≡ u + 256 * y → u < 256 → (u ≡ x % 256) × (x / 256 ≡ y)
    parts u z w = (omega arith, omega arith)

-- the bits of a byte from bit k on, which stand before those of the bytes behind it
pub record Bits (values : RecordedTypes) (v byte k : ℕ) : Type 0 where
  pub low : k ≤ 8
  pub small : byte + 1 ≤ 2 ^ (8 - k)
  pub bits : OfRecorded values (λ all. map_number (drop (v + k) all) ≡ byte + 2 ^ (8 - k) * map_number (drop (v + 8) all))

module _ (values : RecordedTypes) (v : ℕ) where
  pub bits_start : Bits values v 0 8
  bits_start = record { low = omega arith; small = omega arith; bits = λ rs ts h. omega arith }

  module _ (byte k : ℕ) (c : Bits values v byte k) (more : 0 < k) where
    -- twice as many
    twice : 2 ^ (8 - (k - 1)) ≡ 2 ^ (8 - k) + 2 ^ (8 - k)
    twice = let z : 8 - (k - 1) ≡ suc (8 - k) = omega (arith, c.low) in rw z (two-pow-succ (8 - k))

    -- before the last bit there is room for one more
    pub bits_low : byte + 1 ≤ 128
    bits_low =
        let m : 2 ^ (8 - k) ≤ 2 ^ 7 = pow_mono {j = 7} (omega (arith, more)) in
        omega (arith, c.small)

    pub bits_again : (bit : ℕ) → bit ≤ 1 → OfRecorded values (λ all. bit ≡ stands (get_or all (v + (k - 1)) none)) → Bits values v (2 * byte + bit) (k - 1)
    bits_again bit l e = record {
      low = omega (arith, c.low);
      small = omega (arith, c.small, twice);
      bits = λ rs ts h.
          let R = with_fresh rs ts in
          let Y = map_number (drop (v + 8) R) in
          let z : v + (k - 1) + 1 ≡ v + k = omega arith in
          let p : map_number (drop (v + (k - 1)) R) ≡ stands (get_or R (v + (k - 1)) none) + 2 * map_number (drop (v + k) R) = rw z at (low_bit R (v + (k - 1))) in
          let q : 2 ^ (8 - (k - 1)) * Y ≡ 2 ^ (8 - k) * Y + 2 ^ (8 - k) * Y = ap (λ n. n * Y) twice ∙ add-mul (2 ^ (8 - k)) (2 ^ (8 - k)) Y in
          omega (arith, p, q, c.bits rs ts h, e rs ts h);
    }

  pub bits_done : (byte k : ℕ) → Bits values v byte k → k ≤ 0 → OfRecorded values (λ all. (byte ≡ map_number (drop v all) % 256) × (map_number (drop v all) / 256 ≡ map_number (drop (v + 8) all)))
  bits_done byte k c l rs ts h =
      let R = with_fresh rs ts in
      let z : k ≡ 0 = omega arith in
      let p : map_number (drop v R) ≡ byte + 256 * map_number (drop (v + 8) R) = rw (z, add-zero) at (c.bits rs ts h) in
      let s : byte < 256 = omega (arith, rw z at c.small) in
      parts (map_number (drop v R)) (map_number (drop (v + 8) R)) p s
    where
      parts : (x y : ℕ) → x ≡ byte + 256 * y → byte < 256 → (byte ≡ x % 256) × (x / 256 ≡ y)
      parts x y z w = (omega arith, omega arith)
