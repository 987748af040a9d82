-- The numbers beside an instruction's kind: each stands where its bit does.
use Prim.Native.Nat.{ℕ, ◌/◌, ◌%◌, ◌≤◌, zero-le}
use mathlib.Core.Path.{◌≡◌, refl, ◌∙◌, sym}
use mathlib.Core.List.{List}
use mathlib.Core.Bool.{Bool, true, false}
use native.Mathlib.Omega.{arith}
use borrow.Author.Tests.{ne_eqb}
use lib.ListN.{length}
use Rattle.bytes_wire.specs.Parse.{Parse, and_then, map_parse}
use Rattle.bytes_wire.specs.Number.{u32_of}
use Rattle.bytes_wire.proofs.Laws.{size, size_and, size_map, size_number, map_map, map_and, and_map, assoc, and_ok, and_nothing, later_zero, and_same}
use Rattle.mir.specs.Syntax.{Meta}
use Rattle.bytes_field.specs.Decode.{bit, optional, span_of, expression_of, meta_of}
use Rattle.bytes_field.specs.Walk.{Walk}
use Rattle.bytes_block.specs.Decode.{skipped}

-- a number that leaves what the walk carries, where it stands at all
abbrev pub numbered : Bool → ℕ → Walk → List ℕ → Parse Walk
numbered on width w t = map_parse (λ x. w) (skipped on width t)

-- the numbers that three bits choose
abbrev numbers : Bool → Bool → Bool → Walk → List ℕ → Parse Walk
numbers x y z w s =
    and_then s (numbered x 4 w s) (λ w s.
    and_then s (numbered x 4 w s) (λ w s.
    and_then s (numbered y 4 w s) (λ w s.
    and_then s (numbered y 8 w s) (λ w s. numbered z 4 w s))))

-- the meta that they make
abbrev meta_bits : Bool → Bool → Bool → List ℕ → Parse Meta
meta_bits x y z s =
    and_then s (optional x span_of s) (λ p s.
    and_then s (optional y expression_of s) (λ e s.
    map_parse (λ c. record { span = p; expression = e; comment = c }) (optional z u32_of s)))

-- to walk over the one is to walk over the other
meta_cases : (x y z : Bool) (w : Walk) (s : List ℕ) → numbers x y z w s ≡ map_parse (λ m. w) (meta_bits x y z s)
meta_cases true true true w s = simp (and_map, map_and, map_map, assoc)
meta_cases true true false w s = simp (and_map, map_and, map_map, assoc, and_ok)
meta_cases true false true w s = simp (and_map, map_and, map_map, assoc, later_zero)
meta_cases true false false w s = simp (and_map, map_and, map_map, assoc, later_zero, and_ok)
meta_cases false true true w s = simp (and_map, map_and, map_map, assoc, later_zero)
meta_cases false true false w s = simp (and_map, map_and, map_map, assoc, later_zero, and_ok)
meta_cases false false true w s = simp (map_map, later_zero)
meta_cases false false false w s = refl

-- five numbers, one behind the other
pub meta_numbers : (s : List ℕ) (bits : ℕ) {x y z : Bool} (p : Parse Walk) {p1 p2 p3 p4 p5 : Parse Walk} → x ≡ bit 0 bits → y ≡ bit 1 bits → z ≡ bit 2 bits → p1 ≡ and_then s p (numbered x 4) → p2 ≡ and_then s p1 (numbered x 4) → p3 ≡ and_then s p2 (numbered y 4) → p4 ≡ and_then s p3 (numbered y 8) → p5 ≡ and_then s p4 (numbered z 4) → p5 ≡ and_then s p (λ w t. map_parse (λ m. w) (meta_of bits t))
unfolding meta_of
meta_numbers s bits {x} {y} {z} p ex ey ez e1 e2 e3 e4 e5 =
    e5 ∙ rw (e4, e3, e2, e1) (simp assoc (and_same s p (numbers x y z) _ (λ w t. rw (ex, ey, ez) (meta_cases (bit 0 bits) (bit 1 bits) (bit 2 bits) w t))))

-- none of the bits stands
pub no_numbers : (s : List ℕ) (bits : ℕ) (p : Parse Walk) → bits % 8 ≡ 0 → p ≡ and_then s p (λ w t. map_parse (λ m. w) (meta_of bits t))
unfolding meta_of
no_numbers s bits p h =
    let x : bit 0 bits ≡ false = ne_eqb (bits / 1 % 2) 1 (λ (e : bits / 1 % 2 ≡ 1). omega arith) in
    let y : bit 1 bits ≡ false = ne_eqb (bits / 2 % 2) 1 (λ (e : bits / 2 % 2 ≡ 1). omega arith) in
    let z : bit 2 bits ≡ false = ne_eqb (bits / 4 % 2) 1 (λ (e : bits / 4 % 2 ≡ 1). omega arith) in
    sym (simp (x, y, z, and_nothing))

-- a field that may be absent stays within the bytes
size_optional : {A : Type 0} (x : Bool) (dec : List ℕ → Parse A) → ((t : List ℕ) → size (dec t) ≤ length t) → (s : List ℕ) → size (optional x dec s) ≤ length s
size_optional true dec h s = rw size_map (h s)
size_optional false dec h s = zero-le

-- and so does the meta
pub size_meta : (bits : ℕ) (s : List ℕ) → size (meta_of bits s) ≤ length s
unfolding meta_of
size_meta bits s =
    size_and s (optional (bit 0 bits) span_of s) _ (size_optional (bit 0 bits) span_of (λ t. size_and t (u32_of t) _ (size_number 4 t) (λ a u. rw size_map (size_number 4 u))) s) (λ p t.
    size_and t (optional (bit 1 bits) expression_of t) _ (size_optional (bit 1 bits) expression_of (λ t. size_and t (u32_of t) _ (size_number 4 t) (λ a u. rw size_map (size_number 8 u))) t) (λ e u.
    rw size_map (size_optional (bit 2 bits) u32_of (λ t. size_number 4 t) u)))
