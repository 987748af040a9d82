-- An instruction's bit map and kind, and a walk's answer behind a place.
use Prim.Native.Nat.{ℕ, ◌≤◌, ◌<◌}
use mathlib.Core.Path.{◌≡◌, ap, ◌∙◌}
use mathlib.Core.List.{List}
use mathlib.Core.Bool.{Bool, true, false, not, ◌&&◌}
use native.Mathlib.Omega.{arith}
use borrow.Author.Tests.{lt-ltb, le-ltb, ltb-true}
use lib.ListN.{length, get_or, drop, length-drop}
use lib.Dec.{ltb, eqb}
use Rattle.bytes_wire.specs.Parse.{Parse, ok, bad, checked}
use Rattle.bytes_wire.specs.Number.{number_of, u8_of}
use Rattle.bytes_wire.specs.declared.Cause.{Cause}
use Rattle.bytes_wire.proofs.Laws.{number_short, number_some, from_8}
use Rattle.bytes_wire.proofs.Inv.{checked_inv}
use Rattle.bytes_field.specs.Decode.{defined_bits, kind_of}
use Rattle.bytes_field.specs.Walk.{Walk}
use Rattle.bytes_block.specs.Decode.{Head, head_of}

-- the bits' byte
first : (s : List ℕ) → 1 ≤ length s → number_of 1 s ≡ ok (get_or s 0 0) 1
first s h = number_some 1 s h ∙ ap (λ x. ok x 1) (from_8 s 0)

-- the kind's byte
second : (s : List ℕ) → 2 ≤ length s → number_of 1 (drop 1 s) ≡ ok (get_or s 1 0) 1
second s h = number_some 1 (drop 1 s) (omega (arith, length-drop 1 s)) ∙ ap (λ x. ok x 1) (from_8 s 1)

-- a kind is one of the 19
pub kind_below : (late : Bool) (s : List ℕ) {k n : ℕ} → kind_of late s ≡ ok k n → k < 19
kind_below late s {k} e =
    let h = (checked_inv Cause.LatePhi (λ k. not (late && eqb k 9)) (checked Cause.Undefined (λ k. ltb k 19) (u8_of s)) e).0 in
    ltb-true k 19 (checked_inv Cause.Undefined (λ k. ltb k 19) (u8_of s) h).1

module _ (late : Bool) (s : List ℕ) where
  -- there is no byte for the bits
  pub no_bits : length s < 1 → ◌≡◌ {A = Parse Head} (bad Cause.Truncated 0) (head_of late s)
  unfolding head_of
  no_bits h = simp (number_short 1 s h)

  -- a bit stands that should not
  pub bits_past : 1 ≤ length s → defined_bits s (get_or s 0 0) ≡ false → ◌≡◌ {A = Parse Head} (bad Cause.Undefined 0) (head_of late s)
  unfolding head_of
  bits_past h e = simp (first s h, e)

  module _ (e : defined_bits s (get_or s 0 0) ≡ true) where
    -- there is no byte for the kind
    pub no_kind : 1 ≤ length s → length s < 2 → ◌≡◌ {A = Parse Head} (bad Cause.Truncated 1) (head_of late s)
    unfolding head_of
    no_kind h k =
        let j : length (drop 1 s) < 1 = omega (arith, length-drop 1 s) in
        simp (first s h, e, number_short 1 (drop 1 s) j)

    -- the kind is none of the 19
    pub kind_past : 2 ≤ length s → 19 ≤ get_or s 1 0 → ◌≡◌ {A = Parse Head} (bad Cause.Undefined 1) (head_of late s)
    unfolding head_of
    kind_past h k =
        let j : 1 ≤ length s = omega arith in
        simp (first s j, e, second s h, le-ltb _ _ k)

    -- a Phi is late
    pub late_phi_lem : 2 ≤ length s → get_or s 1 0 < 19 → (late && eqb (get_or s 1 0) 9) ≡ true → ◌≡◌ {A = Parse Head} (bad Cause.LatePhi 1) (head_of late s)
    unfolding head_of
    late_phi_lem h k l =
        let j : 1 ≤ length s = omega arith in
        simp (first s j, e, second s h, lt-ltb _ _ k, l)

    -- both are as they should be
    pub head_some : 2 ≤ length s → get_or s 1 0 < 19 → (late && eqb (get_or s 1 0) 9) ≡ false → ◌≡◌ {A = Parse Head} (ok (record { bits = get_or s 0 0; kind = get_or s 1 0 }) 2) (head_of late s)
    unfolding head_of
    head_some h k l =
        let j : 1 ≤ length s = omega arith in
        simp (first s j, e, second s h, lt-ltb _ _ k, l)

-- what is known at a walk's count is known at the place of what is read there
pub peeked : (s : List ℕ) (x : ℕ) (w : Walk) (k : ℕ) → x ≡ get_or s k 0 → (v : Walk) (at : ℕ) → ok w k ≡ ok v at → x ≡ get_or s at 0
peeked s x w k h v at e = let q : k ≡ at = cc in h ∙ ap (λ i. get_or s i 0) q
