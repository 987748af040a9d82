-- "u16 next value; u16 block count; u16 entry block".
use Prim.Native.Nat.{ℕ, ◌+◌, ◌≤◌}
use mathlib.Core.Path.{◌≡◌, ◌∙◌, sym}
use mathlib.Core.List.{List}
use native.Mathlib.Nat.{le_trans}
use native.Mathlib.Omega.{arith}
use borrow.Author.Tests.{leb-true}
use lib.ListN.{length, drop, length-drop}
use lib.Seq.{drop-drop}
use lib.Dec.{leb}
use Rattle.bytes_wire.specs.Parse.{Parse, ok, bad}
use Rattle.bytes_wire.specs.Number.{u16_of, below}
use Rattle.bytes_wire.specs.declared.Cause.{Cause}
use Rattle.bytes_wire.proofs.Laws.{size, size_map, size_checked, size_and, size_number, size_below, later_later}
use Rattle.bytes_wire.proofs.Inv.{both, image, and_inv, map_inv, checked_inv, number_inv, below_inv}
use Rattle.bytes_field.specs.Decode.{block_id_of}
use Rattle.bytes_block.specs.declared.Mosts.{Mosts}
use Rattle.bytes_sections.specs.Decode.{at_most, sizes_of}
use Rattle.bytes_sections.specs.declared.Sizes.{Sizes}

-- a count that was read takes two bytes
pub record Count (most : ℕ) (s : List ℕ) (at x : ℕ) : Type 0 where
  pub long : at + 2 ≤ length s
  pub is : at_most most (drop at s) ≡ ok x 2

-- so the code tells
pub count_read : (most : ℕ) (s : List ℕ) (at : ℕ) {x n : ℕ} → at ≤ length s → at_most most (drop at s) ≡ ok x n → Count most s at x
count_read most s at {x} {n} h e =
    let i = number_inv 2 (drop at s) (checked_inv Cause.TooMany (λ y. leb y most) (u16_of (drop at s)) e).0 in
    record { long = omega (arith, i.0, length-drop at s); is = e ∙ rw i.2 }

-- no such answer reaches further than the bytes do
pub size_most : (most : ℕ) (s : List ℕ) → size (at_most most s) ≤ length s
size_most most s = le_trans (size_checked Cause.TooMany (λ n. leb n most) (u16_of s)) (size_number 2 s)

module _ (m : Mosts) (s : List ℕ) where
  -- the next value is refused
  pub sizes_next : {c : Cause} {o : ℕ} → at_most m.next s ≡ bad c o → bad c o ≡ sizes_of m s
  unfolding sizes_of
  sizes_next e = sym (rw e)

  module _ {next : ℕ} (a : Count m.next s 0 next) where
    -- the number of blocks is refused
    pub sizes_blocks : {c : Cause} {o : ℕ} → at_most m.blocks (drop 2 s) ≡ bad c o → bad c (2 + o) ≡ sizes_of m s
    unfolding sizes_of
    sizes_blocks e = sym (simp (a.is, e))

    module _ {blocks : ℕ} (b : Count m.blocks s 2 blocks) where
      -- the entry block is refused
      pub sizes_entry : {c : Cause} {o : ℕ} → below blocks (drop 4 s) ≡ bad c o → bad c (4 + o) ≡ sizes_of m s
      unfolding sizes_of
      sizes_entry e = sym (simp (a.is, b.is, drop-drop, later_later, e))

      -- all three
      pub sizes_some : {x n : ℕ} → below blocks (drop 4 s) ≡ ok x n → ◌≡◌ {A = Parse Sizes} (ok (record { next = next; blocks = blocks; entry = record { 0 = x } }) 6) (sizes_of m s)
      unfolding sizes_of
      sizes_some e = let z = (number_inv 2 (drop 4 s) (below_inv blocks (drop 4 s) e).0).2 in sym (simp (a.is, b.is, drop-drop, e, z))

-- no answer reaches further than the bytes do
pub size_sizes : (m : Mosts) (s : List ℕ) → size (sizes_of m s) ≤ length s
unfolding sizes_of
size_sizes m s =
    size_and s (at_most m.next s) _ (size_most m.next s) (λ next t.
    size_and t (at_most m.blocks t) _ (size_most m.blocks t) (λ blocks u. rw (size_map, size_map) (size_below blocks u)))

-- the counts are at most their mosts
pub sizes_fit : (m : Mosts) (s : List ℕ) {z : Sizes} {n : ℕ} → sizes_of m s ≡ ok z n → (z.next ≤ m.next) × (z.blocks ≤ m.blocks)
unfolding sizes_of
sizes_fit m s e =
    elim (and_inv s (at_most m.next s) _ e) [
      | both x i j p q r ↦
          elim (and_inv (drop i s) (at_most m.blocks (drop i s)) _ q) [
            | both y k l f g h ↦
                elim (map_inv (λ entry. record { next = x; blocks = y; entry = entry }) (block_id_of y (drop k (drop i s))) g) [
                  | image entry u v ↦
                      rw v (leb-true x m.next (checked_inv Cause.TooMany (λ n. leb n m.next) (u16_of s) p).1, leb-true y m.blocks (checked_inv Cause.TooMany (λ n. leb n m.blocks) (u16_of (drop i s)) f).1)
                ]
          ]
    ]
