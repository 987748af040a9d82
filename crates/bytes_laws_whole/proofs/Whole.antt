-- A routine that was read is written as it stood, and has a byte form.
use Prim.Native.Nat.{ℕ, zero, suc, ◌+◌, ◌*◌, ◌/◌, ◌%◌, ◌^◌, ◌≤◌, ◌<◌, zero-le}
use mathlib.Core.Path.{◌≡◌, refl, ap, ◌∙◌, sym}
use mathlib.Core.List.{List, [], ◌∷◌, ◌++◌, append_assoc}
use mathlib.Core.Bool.{Bool, true, false, cond}
use mathlib.Core.Option.{Option}
use native.Mathlib.Nat.{le_refl, suc-mul, mul-le-mul_right, pow-suc, div-lt_iff_lt-mul}
use native.Mathlib.Omega.{arith}
use borrow.Author.Tests.{leb-true, ltb-true, eqb-true, eqb-false}
use lib.ListN.{length, replicate, length-append, drop, length-drop}
use lib.Seq.{take_all}
use lib.Dec.{leb, ltb, eqb}
use Rattle.bytes_wire.specs.Parse.{ok, map_parse, checked}
use Rattle.bytes_wire.specs.Number.{to_bytes, from_bytes, u8_of}
use Rattle.bytes_wire.specs.Value.{bool_byte}
use Rattle.bytes_wire.specs.WellFormed.{Bytes}
use Rattle.bytes_wire.specs.declared.Cause.{Cause}
use Rattle.mir.specs.declared.TypeId.{TypeId}
use Rattle.bytes_wire.proofs.Inv.{both, image, and_inv, map_inv, cond_inv}
use Rattle.bytes_wire.proofs.Canon.{Canon, bytes_drop}
use Rattle.bytes_field.specs.Decode.{defineds_of}
use Rattle.bytes_field.specs.Encode.{block_id_bytes, type_id_bytes, each_bytes, option_bytes, stands}
use Rattle.mir.specs.Lists.{Each}
use Rattle.bytes_laws.specs.WellFormed.{Wide, FitOption}
use Rattle.bytes_laws.proofs.Exact.{Exact, After, then, last, alone, whole, within, tested, because, number, byte, sequence}
use Rattle.bytes_laws.proofs.Fields.{type, block, dests}
use Rattle.bytes_block.specs.Decode.{marks}
use Rattle.bytes_block.specs.WellFormed.{WideMosts}
use Rattle.bytes_block.specs.declared.Mosts.{Mosts}
use Rattle.bytes_block.proofs.Canon.{block_most}
use Rattle.mir.specs.MirType.{MirType}
use Rattle.bytes_types.specs.Encode.{types_bytes}
use Rattle.bytes_types.specs.WellFormed.{FitPart, FitTypes}
use Rattle.bytes_types.proofs.Canon.{only, types_exact}
use Rattle.mir.specs.Routine.{Routine}
use Rattle.bytes_types.specs.Decode.{types_of}
use Rattle.bytes_sections.specs.Decode.{mosts, at_most, last_byte_of, map_of, has_recorded, recorded_type_of, recorded_of, blocks_of, bounds_of, sizes_of, body_of, routine_of, ended, whole_of}
use Rattle.bytes_sections.specs.declared.Sizes.{Sizes}
use Rattle.bytes_sections.specs.Encode.{map_number, encode}
use Rattle.bytes_laws_whole.specs.WellFormed.{WellFormed}
use Rattle.bytes_laws_whole.proofs.Blocks.{blocks_exact, blocks_small}
use Rattle.bytes_laws_whole.proofs.Map.{Small, half, map_bit, map_fit, to_from, first_bit}

-- bytes one after another are the bytes
pub singles : (xs : List ℕ) → each_bytes (λ x. x ∷ []) xs ≡ xs
singles [] = refl
singles (x ∷ xs) = ap (λ ys. x ∷ ys) (singles xs)

-- it holds of each thing in two lists
pub both_lists : {A : Type 0} (P : A → Type 0) (xs ys : List A) → Each P xs → Each P ys → Each P (xs ++ ys)
both_lists P [] ys h g = g
both_lists P (x ∷ xs) ys h g = (h.0, both_lists P xs ys h.1 g)

-- a map of n bits: as many bytes as it takes, spare bits 0
abbrev MapOf : ℕ → List ℕ → Type 0
MapOf n map = (length map ≡ (n + 7) / 8) × Each Small map × (from_bytes map < 2 ^ n)

-- the bits behind the whole bytes
last_byte : (j : ℕ) → j < 8 → Exact (last_byte_of j) (λ l. l) (MapOf j) 1
last_byte j l = chosen (eqb j 0) refl
  where
    chosen : (t : Bool) → eqb j 0 ≡ t → Exact (λ s. cond t (ok [] 0) (map_parse (λ x. x ∷ []) (checked Cause.Undefined (λ x. ltb x (2 ^ j)) (u8_of s)))) (λ l. l) (MapOf j) 1
    chosen true e = let z : j ≡ 0 = eqb-true j 0 e in rw z (whole (alone refl (refl, tt, omega arith)) zero-le)
    chosen false e =
        let z : 1 ≤ j = omega (arith, eqb-false j 0 e) in
        whole (last _ (tested Cause.Undefined (λ x. ltb x (2 ^ j)) byte) (λ x p. (refl, (omega arith, (p.0, tt), omega (arith, ltb-true x (2 ^ j) p.1))))) (le_refl 1)

-- "a bit map of next-value bits"
map_exact : (next : ℕ) → Exact (map_of next) (λ l. l) (MapOf next) (next / 8 * 1 + 1)
unfolding map_of
map_exact next =
    whole
    (then (sequence byte (next / 8)) (λ whole p.
    last _ (last_byte (next % 8) (omega arith)) (λ end q. (ap (λ l. l ++ end) (sym (singles whole)), joined whole end p q))))
    (le_refl _)
  where
    joined : (xs end : List ℕ) → (length xs ≡ next / 8) × Each Small xs → MapOf (next % 8) end → MapOf next (xs ++ end)
    joined xs end p q =
        let e : 8 * length xs + next % 8 ≡ next = omega (arith, p.0) in
        (omega (arith, length-append xs end, p.0, q.0), both_lists Small xs end p.1 q.1, rw e at (map_fit xs end (next % 8) p.1 q.2))

-- the type of a value, where its bit stands
recorded_type_lem : (types : ℕ) (c : Bool) → Exact (recorded_type_of types c) (option_bytes type_id_bytes) (λ t. (stands t ≡ bool_byte c) × FitOption (FitPart types) t) 2
recorded_type_lem types true = whole (last _ (type (only types)) (λ t p. (refl, (refl, p)))) (le_refl 2)
recorded_type_lem types false = whole (alone refl (refl, tt)) zero-le

-- the half of a number takes one bit less
half_fit : (x k : ℕ) → x < 2 ^ suc k → x / 2 < 2 ^ k
half_fit x k h = (div-lt_iff_lt-mul {k = 2} (omega arith)).1 (rw pow-suc at h)

-- "then a u16 type for each set bit, rising": the bits from v on are those of what was read
module _ (types : ℕ) (map : List ℕ) (h : Each Small map) where
  abbrev above : ℕ → ℕ
  above v = from_bytes map / 2 ^ v

  recorded : (v k : ℕ) → Exact (recorded_of types map v k) (each_bytes (option_bytes type_id_bytes)) (λ rs. (length rs ≡ k) × Each (FitOption (FitPart types)) rs × (above v < 2 ^ k → map_number rs ≡ above v)) (k * 2)
  unfolding recorded_of
  recorded v zero = whole (alone refl (refl, tt, λ l. omega arith)) zero-le
  recorded v (suc k) =
      whole
      (then (recorded_type_lem types (has_recorded map v)) (λ t p.
      last _ (recorded (suc v) k) (λ ts q.
      (refl, (ap suc q.0, (p.1, q.1), λ l. first_bit t ts (above v) (map_bit map h v ∙ sym p.0) (q.2 (rw (half (from_bytes map) v) (half_fit (above v) k l)) ∙ half (from_bytes map) v))))))
      (omega (arith, suc-mul k 2))

-- a count that is a u16
count : (most : ℕ) → Exact (at_most most) (to_bytes 2) (λ n. n ≤ most) 2
count most = because (tested Cause.TooMany (λ n. leb n most) (number 2)) (λ n p. leb-true n most p.1)

-- "u16 next value; u16 block count; u16 entry block"
abbrev pub sizes_bytes : Sizes → List ℕ
sizes_bytes z = to_bytes 2 z.next ++ (to_bytes 2 z.blocks ++ block_id_bytes z.entry)

abbrev GoodSizes : Mosts → Sizes → Type 0
GoodSizes m z = (z.next ≤ m.next) × (z.blocks ≤ m.blocks) × (z.entry.0 < z.blocks)

sizes : (m : Mosts) → Exact (sizes_of m) sizes_bytes (GoodSizes m) 6
unfolding sizes_of
sizes m =
    whole
    (then (count m.next) (λ next p.
    then (count m.blocks) (λ blocks q.
    last _ (block (record { types = 0; next = 0; blocks = blocks; list = 0; projections = 0 })) (λ entry r. (refl, (p, q, r))))))
    (le_refl 6)

-- the bounds are as wide as their fields
pub wide : (m : Mosts) (types next blocks : ℕ) → WideMosts m → types ≤ m.types → next ≤ m.next → blocks ≤ m.blocks → Wide (bounds_of m types next blocks)
wide m types next blocks w t n k = record { types = omega (arith, w.types); next = omega (arith, w.next); blocks = omega (arith, w.blocks); list = w.list; projections = w.projections }

-- the map's bytes are those of the number that the recorded types make
map_written : (next : ℕ) (map : List ℕ) (rs : List (Option TypeId)) → MapOf next map → length rs ≡ next → (from_bytes map / 2 ^ 0 < 2 ^ next → map_number rs ≡ from_bytes map / 2 ^ 0) → to_bytes ((length rs + 7) / 8) (map_number rs) ≡ map
map_written next map rs p e f =
    let z : from_bytes map / 2 ^ 0 ≡ from_bytes map = omega arith in
    let g : map_number rs ≡ from_bytes map = rw z at (f (rw z p.2)) in
    let l : (length rs + 7) / 8 ≡ length map = rw e (sym p.0) in
    rw (g, l) (to_from map p.1)

-- the most bytes behind the sizes
abbrev body_most : Mosts → Sizes → ℕ
body_most m z = (1 + m.list * 2) + ((z.next / 8 * 1 + 1) + (z.next * 2 + z.blocks * block_most m (bounds_of m 0 0 0)))

-- what stands behind the types and the sizes
body : (m : Mosts) (ts : List MirType) (z : Sizes) → (length ts ≤ m.types) × FitTypes m.list [] ts → GoodSizes m z → After (λ w. types_bytes ts ++ (sizes_bytes z ++ w)) (body_of m ts z) encode (λ r. WideMosts m → WellFormed m r) (body_most m z)
unfolding body_of encode
body m ts z t g =
    let b = bounds_of m (length ts) z.next z.blocks in
    let clear = replicate z.next false in
    then (dests b clear) (λ ps p.
    then (map_exact z.next) (λ map q.
    then (recorded (length ts) map q.1 0 z.next) (λ rs r.
    last _ (blocks_exact m b 0 (marks clear ps) z.blocks) (λ ks k.
    let e = k.0 in
    let f = map_written z.next map rs q r.0 r.2 in (
      simp (append_assoc, e, f),
      λ w.
          record {
            many_types = t.0;
            types = t.1;
            next = g.0;
            many_blocks = rw e g.1;
            entry = rw e g.2;
            many_parameters = p.0;
            parameters = rw e p.1;
            many_recorded = r.0;
            recorded = r.1;
            blocks = rw e (k.1 (wide m (length ts) z.next z.blocks w t.0 g.0 g.1));
          },
    )))))

-- the most bytes of a routine
abbrev pub routine_most : Mosts → ℕ
routine_most m = (2 + m.types * (7 + m.list * 4)) + (6 + ((1 + m.list * 2) + ((m.next / 8 + 1) + (m.next * 2 + m.blocks * block_most m (bounds_of m 0 0 0)))))

-- a routine
pub routine_exact : (m : Mosts) → Exact (routine_of m) encode (λ r. WideMosts m → WellFormed m r) (routine_most m)
unfolding routine_of
routine_exact m =
    whole
    (then (types_exact m.types m.list) (λ ts t.
    then (sizes m) (λ z g.
    within (body m ts z t g) (room z g))))
    (le_refl _)
  where
    room : (z : Sizes) → GoodSizes m z → body_most m z ≤ (1 + m.list * 2) + ((m.next / 8 + 1) + (m.next * 2 + m.blocks * block_most m (bounds_of m 0 0 0)))
    room z g = omega (arith, g.0, mul-le-mul_right (block_most m (bounds_of m 0 0 0)) g.1)

-- a routine that was read is written as it stood
pub routine_canon : (m : Mosts) (s : List ℕ) {r : Routine} {n : ℕ} → Bytes s → routine_of m s ≡ ok r n → Canon (encode r) s n
routine_canon m s {r} {n} h e = ((routine_exact m).each s r n h e).canon

-- and nothing stands behind it
whole_inv : (m : Mosts) (s : List ℕ) {r : Routine} {n : ℕ} → whole_of m s ≡ ok r n → (routine_of m s ≡ ok r n) × (length s ≤ n)
unfolding whole_of
whole_inv m s {r} {n} e =
    elim (and_inv s (routine_of m s) (λ r t. ended r t) e) [
      | both r' k j p q c ↦
          let d = cond_inv (eqb (length (drop k s)) 0) (ok r' 0) Cause.Trailing 0 q in
          let f = d.1 in
          let u : r' ≡ r = cc in
          let v : j ≡ 0 = cc in
          let x : k ≡ n = omega arith in
          let l : length s ≤ k = omega (arith, length-drop k s, eqb-true (length (drop k s)) 0 d.0) in
          (rw (u, x) at p, rw x at l)
    ]

-- the bytes of an accepted input are the input
pub whole_canon : (m : Mosts) (s : List ℕ) {r : Routine} {n : ℕ} → Bytes s → whole_of m s ≡ ok r n → (encode r ≡ s) × (n ≡ length s)
whole_canon m s {r} {n} h e =
    let i = whole_inv m s e in
    let c = routine_canon m s h i.0 in
    let q : encode r ≡ s = c.same ∙ take_all n s i.1 in
    (q, sym c.size ∙ ap length q)

-- what is accepted has a byte form
pub whole_fit : (m : Mosts) (s : List ℕ) {r : Routine} {n : ℕ} → WideMosts m → Bytes s → whole_of m s ≡ ok r n → WellFormed m r
whole_fit m s {r} {n} w h e = ((routine_exact m).each s r n h (whole_inv m s e).0).good w

-- and is short: its places take 16 bits
pub whole_short : (s : List ℕ) {r : Routine} {n : ℕ} → Bytes s → whole_of mosts s ≡ ok r n → length s < 65536
unfolding routine_of body_of
whole_short s {r} {n} h e =
    let w = whole_inv mosts s e in
    elim (and_inv s (types_of 64 16 s) _ w.0) [
      | both ts i j p q c ↦
          let t₁ = drop i s in
          let h₁ = bytes_drop s i h in
          elim (and_inv (drop i s) (sizes_of mosts (drop i s)) _ q) [
            | both z i₂ j₂ p₂ q₂ c₂ ↦
                let t₂ = drop i₂ (drop i s) in
                let h₂ = bytes_drop t₁ i₂ h₁ in
                let b = bounds_of mosts (length ts) z.next z.blocks in
                let clear = replicate z.next false in
                let y = (sizes mosts).each t₁ z i₂ h₁ p₂ in
                elim (and_inv t₂ (defineds_of 16 z.next clear t₂) _ q₂) [
                  | both ps i₃ j₃ p₃ q₃ c₃ ↦
                      let t₃ = drop i₃ t₂ in
                      let h₃ = bytes_drop t₂ i₃ h₂ in
                      elim (and_inv t₃ (map_of z.next t₃) _ q₃) [
                        | both map i₄ j₄ p₄ q₄ c₄ ↦
                            let t₄ = drop i₄ t₃ in
                            let h₄ = bytes_drop t₃ i₄ h₃ in
                            let o = (map_exact z.next).each t₃ map i₄ h₃ p₄ in
                            elim (and_inv t₄ (recorded_of (length ts) map 0 z.next t₄) _ q₄) [
                              | both rs i₅ j₅ p₅ q₅ c₅ ↦
                                  elim (map_inv _ (blocks_of mosts b 0 (marks clear ps) z.blocks (drop i₅ t₄)) q₅) [
                                    | image ks f g ↦
                                        omega (
                                          arith,
                                          w.1,
                                          ((types_exact 64 16).each s ts i h p).small,
                                          y.small,
                                          y.good.0,
                                          y.good.1,
                                          ((dests b clear).each t₂ ps i₃ h₂ p₃).small,
                                          o.small,
                                          ((recorded (length ts) map o.good.1 0 z.next).each t₄ rs i₅ h₄ p₅).small,
                                          blocks_small mosts b 0 (marks clear ps) z.blocks (drop i₅ t₄) (omega arith) (omega arith) (omega arith) (bytes_drop t₄ i₅ h₄) f,
                                        )
                                  ]
                            ]
                      ]
                ]
          ]
    ]
