-- The map of the values that have a recorded type.
use Prim.Native.Nat.{ℕ, zero, suc, ◌+◌, ◌*◌, ◌/◌, ◌%◌, ◌^◌, ◌≤◌, ◌<◌, zero-le}
use mathlib.Core.Path.{◌≡◌, refl, ap, ◌∙◌, sym}
use mathlib.Core.List.{List, [], ◌∷◌, ◌++◌, append-nil}
use mathlib.Core.Bool.{Bool, true, false}
use native.Mathlib.Nat.{add-zero, le_trans}
use native.Mathlib.Omega.{arith}
use borrow.Author.Tests.{lt-ltb, le-ltb, leb-true, leb-false, eqb-true, ne_eqb}
use lib.ListN.{length, get_or, take, drop, length-drop}
use lib.Seq.{take-add, get_or-take}
use lib.Dec.{leb, ltb, eqb}
use Rattle.bytes_wire.specs.Parse.{ok, bad, map_parse, checked, seq_of}
use Rattle.bytes_wire.specs.Number.{u8_of, from_bytes}
use Rattle.bytes_wire.specs.declared.Cause.{Cause}
use Rattle.bytes_wire.proofs.Laws.{size, size_map, size_cond, size_checked, size_and, size_number, size_seq, number_some, number_short, from_8}
use Rattle.bytes_wire.proofs.Inv.{no_ok, both, image, and_inv, map_inv, checked_inv, number_inv}
use Rattle.bytes_field.specs.Walk.{unit}
use Rattle.bytes_sections.specs.Decode.{last_byte_of, map_of, has_recorded, recorded_of}

-- one byte
byte : (a : ℕ) (s : List ℕ) → u8_of (a ∷ s) ≡ ok a 1
byte a s = number_some 1 (a ∷ s) (omega arith) ∙ ap (λ x. ok x 1) (let z : a + 256 * 0 ≡ a = omega arith in z)

-- k bytes, where there are so many
pub bytes_some : (k : ℕ) (s : List ℕ) → k ≤ length s → seq_of u8_of k s ≡ ok (take k s) k
unfolding seq_of
bytes_some zero s h = refl
bytes_some (suc k) [] h = absurd (omega arith)
bytes_some (suc k) (a ∷ s) h =
    let l : k ≤ length s = omega arith in
    let z : 1 + k ≡ suc k = omega arith in
    rw (byte a s, bytes_some k s l, z)

-- fewer
pub bytes_short : (k : ℕ) (s : List ℕ) → length s < k → seq_of u8_of k s ≡ bad Cause.Truncated (length s)
unfolding seq_of
bytes_short zero s h = absurd (omega arith)
bytes_short (suc k) [] h = rw (number_short 1 [] (omega arith))
bytes_short (suc k) (a ∷ s) h =
    let l : length s < k = omega arith in
    let z : 1 + length s ≡ suc (length s) = omega arith in
    rw (byte a s, bytes_short k s l, z)

-- the powers of two that a byte has
pub power : (i : ℕ) → i < 8 → 1 * 2 ^ i % 256 ≡ 2 ^ i
power zero h = refl
power (suc zero) h = refl
power (suc (suc zero)) h = refl
power (suc (suc (suc zero))) h = refl
power (suc (suc (suc (suc zero)))) h = refl
power (suc (suc (suc (suc (suc zero))))) h = refl
power (suc (suc (suc (suc (suc (suc zero)))))) h = refl
power (suc (suc (suc (suc (suc (suc (suc zero))))))) h = refl
power (suc (suc (suc (suc (suc (suc (suc (suc i)))))))) h = absurd (omega arith)

-- reading the map of `next` bits
module _ (next : ℕ) (s : List ℕ) where
  -- a whole byte is missing
  pub map_short : length s < next / 8 → bad Cause.Truncated (length s) ≡ map_parse unit (map_of next s)
  unfolding map_of
  map_short h = sym (rw (bytes_short (next / 8) s h))

  -- there are only whole bytes
  pub map_whole : next / 8 ≤ length s → next % 8 ≡ 0 → ok tt (next / 8) ≡ map_parse unit (map_of next s)
  unfolding map_of
  map_whole h e = sym (simp (bytes_some (next / 8) s h, e, add-zero))

  -- the last byte is missing
  pub map_cut : next / 8 ≤ length s → (next % 8 ≡ 0 → ⊥) → length s ≤ next / 8 → bad Cause.Truncated (next / 8) ≡ map_parse unit (map_of next s)
  unfolding map_of
  map_cut h e l =
      let k : length (drop (next / 8) s) < 1 = omega (arith, length-drop (next / 8) s) in
      sym (simp (bytes_some (next / 8) s h, ne_eqb _ _ e, number_short 1 (drop (next / 8) s) k, add-zero))

  -- the last byte
  last_byte : next / 8 < length s → u8_of (drop (next / 8) s) ≡ ok (get_or s (next / 8) 0) 1
  last_byte h = number_some 1 (drop (next / 8) s) (omega (arith, length-drop (next / 8) s)) ∙ ap (λ x. ok x 1) (from_8 s (next / 8))

  -- a spare bit of it stands
  pub map_spare : next / 8 < length s → (next % 8 ≡ 0 → ⊥) → 2 ^ (next % 8) ≤ get_or s (next / 8) 0 → bad Cause.Undefined (next / 8) ≡ map_parse unit (map_of next s)
  unfolding map_of
  map_spare h e l =
      let k : next / 8 ≤ length s = omega arith in
      sym (simp (bytes_some (next / 8) s k, ne_eqb _ _ e, last_byte h, le-ltb _ _ l, add-zero))

  -- none does
  pub map_last : next / 8 < length s → (next % 8 ≡ 0 → ⊥) → get_or s (next / 8) 0 < 2 ^ (next % 8) → ok tt (next / 8 + 1) ≡ map_parse unit (map_of next s)
  unfolding map_of
  map_last h e l =
      let k : next / 8 ≤ length s = omega arith in
      sym (simp (bytes_some (next / 8) s k, ne_eqb _ _ e, last_byte h, lt-ltb _ _ l))

-- no map reaches further than the bytes do
pub size_map_of : (next : ℕ) (s : List ℕ) → size (map_parse unit (map_of next s)) ≤ length s
unfolding map_of
size_map_of next s =
    rw size_map (size_and s (seq_of u8_of (next / 8) s) _ (size_seq u8_of (λ t. size_number 1 t) (next / 8) s) (λ w t.
    rw size_map (size_cond (eqb (next % 8) 0) _ _ _ (λ e. zero-le)
    (rw size_map (le_trans (size_checked Cause.Undefined (λ x. ltb x (2 ^ (next % 8))) (u8_of t)) (size_number 1 t))))))

-- the bytes of a map that was read are the first of those that stood there, and have a bit for each value
pub record MapBytes (next : ℕ) (s map : List ℕ) : Type 0 where
  pub size_is : ℕ
  pub enough : next ≤ 8 * size_is
  pub same : map ≡ take size_is s

-- one byte, as a list
single : (s : List ℕ) → 1 ≤ length s → from_bytes (take 1 s) ∷ [] ≡ take 1 s
single [] h = absurd (omega arith)
single (a ∷ s) h = let z : a + 256 * 0 ≡ a = omega arith in ap (λ x. x ∷ []) z

-- so a map tells that was read
pub map_bytes : (next : ℕ) (s : List ℕ) {map : List ℕ} {n : ℕ} → map_of next s ≡ ok map n → MapBytes next s map
unfolding map_of
map_bytes next s {map} {n} e =
    elim (and_inv s (seq_of u8_of (next / 8) s) (λ w t. map_parse (λ last. w ++ last) (last_byte_of (next % 8) t)) e) [
      | both w k j p q r ↦ elim (map_inv (λ last. w ++ last) (last_byte_of (next % 8) (drop k s)) q) [ image l f g ↦ chosen w k l j p f g (eqb (next % 8) 0) refl ]
    ]
  where
    whole : (w : List ℕ) (k : ℕ) → seq_of u8_of (next / 8) s ≡ ok w k → (next / 8 ≤ length s) × (w ≡ take (next / 8) s) × (k ≡ next / 8)
    whole w k p = fits (leb (next / 8) (length s)) refl
      where
        fits : (b : Bool) → leb (next / 8) (length s) ≡ b → (next / 8 ≤ length s) × (w ≡ take (next / 8) s) × (k ≡ next / 8)
        fits true h =
            let l = leb-true (next / 8) (length s) h in
            let g : ok (take (next / 8) s) (next / 8) ≡ ok w k = sym (bytes_some (next / 8) s l) ∙ p in
            (l, cc, cc)
        fits false h = absurd (no_ok (sym (bytes_short (next / 8) s (leb-false (next / 8) (length s) h)) ∙ p))

    chosen : (w : List ℕ) (k : ℕ) (l : List ℕ) (j : ℕ) → seq_of u8_of (next / 8) s ≡ ok w k → last_byte_of (next % 8) (drop k s) ≡ ok l j → map ≡ w ++ l → (b : Bool) → eqb (next % 8) 0 ≡ b → MapBytes next s map
    chosen w k l j p f g true h =
        let z : next % 8 ≡ 0 = eqb-true (next % 8) 0 h in
        let i = whole w k p in
        let d : ok [] 0 ≡ ok l j = simp h at f in
        let y : l ≡ [] = cc in
        record { size_is = next / 8; enough = omega arith; same = g ∙ rw (y, append-nil) i.1 }
    chosen w k l j p f g false h =
        let i = whole w k p in
        let d : map_parse (λ x. x ∷ []) (checked Cause.Undefined (λ x. ltb x (2 ^ (next % 8))) (u8_of (drop k s))) ≡ ok l j = simp h at f in
        elim (map_inv (λ x. x ∷ []) (checked Cause.Undefined (λ x. ltb x (2 ^ (next % 8))) (u8_of (drop k s))) d) [
          | image x u v ↦
              let o = number_inv 1 (drop k s) (checked_inv Cause.Undefined (λ y. ltb y (2 ^ (next % 8))) (u8_of (drop k s)) u).0 in
              let y : l ≡ take 1 (drop (next / 8) s) = v ∙ ap (λ y. y ∷ []) o.1 ∙ single (drop k s) o.0 ∙ ap (λ i. take 1 (drop i s)) i.2 in
              record { size_is = next / 8 + 1; enough = omega arith; same = g ∙ rw (take-add, y, i.1) }
        ]

-- so the bits that are looked at are those that stood there
pub same_bit : (next : ℕ) (s map : List ℕ) → MapBytes next s map → (v : ℕ) → v < next → has_recorded map v ≡ has_recorded s v
same_bit next s map u v h =
    let l : v / 8 < u.size_is = omega (arith, u.enough) in
    ap (λ x. eqb (x / 2 ^ (v % 8) % 2) 1) (ap (λ x. get_or x (v / 8) 0) u.same ∙ get_or-take u.size_is s (v / 8) 0 l)

-- and the types that are read by them
pub same_types : (types next : ℕ) (s map : List ℕ) → MapBytes next s map → (k v : ℕ) (t : List ℕ) → v + k ≤ next → recorded_of types map v k t ≡ recorded_of types s v k t
unfolding recorded_of
same_types types next s map u zero v t h = refl
same_types types next s map u (suc k) v t h =
    let ih : (x : List ℕ) → recorded_of types map (suc v) k x ≡ recorded_of types s (suc v) k x = λ x. same_types types next s map u k (suc v) x (omega arith) in
    simp (same_bit next s map u v (omega arith), ih)
