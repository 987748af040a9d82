-- What stands before the map, and all of it put together.
use Prim.Native.Nat.{ℕ, zero, suc, ◌+◌, ◌-◌, ◌*◌, ◌/◌, ◌≤◌}
use mathlib.Core.Path.{◌≡◌, refl, ap, ◌∙◌, sym}
use mathlib.Core.List.{List, [], ◌∷◌, ◌++◌, append_assoc}
use native.Mathlib.Omega.{arith}
use lib.ListN.{length, get_or, take, drop, length-append}
use lib.Seq.{sets, slice, length-slice, take-nil, take-append-add, take-append_seam, drop_at, get_or_at}
use Rattle.bytes_wire.specs.Number.{to_bytes}
use Rattle.mir.specs.declared.TypeId.{TypeId}
use Rattle.mir.specs.declared.ValueId.{ValueId}
use Rattle.bytes_field.specs.Encode.{each_bytes, option_bytes, type_id_bytes, value_id_bytes, block_id_bytes, list_bytes}
use Rattle.bytes_emit.proofs.Sets.{sets_append}
use Rattle.bytes_block.specs.Encode.{block_bytes}
use Rattle.bytes_types.specs.Encode.{types_bytes}
use Rattle.mir.specs.Routine.{Routine}
use Rattle.bytes_sections.specs.Encode.{encode, map_number, recorded_bytes}
use Rattle.bytes_emit.specs.Written.{Writes}
use Rattle.bytes_wire.proofs.RoundTrip.{length_to_bytes}
use Rattle.rewrite_head.specs.Head.{head_bytes, with_fresh, widened, Tabled, front_end, front_bytes}
use Rattle.rewrite_head.proofs.Bits.{length_fresh}

-- a part that is lent is the part in the middle
part_slice : (from end : ℕ) (s : List ℕ) → from ≤ end → take (end - from) (drop from s) ≡ slice from end s
part_slice zero end s h = let z : end - 0 ≡ end = omega arith in ap (λ k. take k s) z
part_slice (suc f) zero s h = absurd (omega arith)
part_slice (suc f) (suc e) [] h = take-nil (suc e - suc f)
part_slice (suc f) (suc e) (x ∷ s) h =
    let z : suc e - suc f ≡ e - f = omega arith in
    ap (λ k. take k (drop f s)) z ∙ part_slice f e s (omega arith)

-- three runs one behind another
pub front_written : (s out a b c : List ℕ) (at next count : ℕ) → count ≡ get_or s (at + 6) 0 → front_end s at ≤ length s → (p r : ℕ) → p ≡ 0 + length (slice 0 at s) → a ≡ sets out 0 (slice 0 at s) → b ≡ sets a p (to_bytes 2 next)
    → (r ≡ p + 2 + length (take (at + 7 + 2 * count - (at + 2)) (drop (at + 2) s))) × (c ≡ sets b (p + 2) (take (at + 7 + 2 * count - (at + 2)) (drop (at + 2) s)))
    → (r ≡ front_end s at) × (c ≡ sets out 0 (front_bytes s at next))
front_written s out a b c at next count u l p r e f g w =
    let part : take (at + 7 + 2 * count - (at + 2)) (drop (at + 2) s) ≡ slice (at + 2) (front_end s at) s =
    part_slice (at + 2) (at + 7 + 2 * count) s (omega arith) ∙ ap (λ k. slice (at + 2) (at + 7 + 2 * k) s) u in
    let h : c ≡ sets b (p + 2) (slice (at + 2) (front_end s at) s) = w.1 ∙ ap (sets b (p + 2)) part in
    let one : sets out 0 (front_bytes s at next) ≡ sets (sets out 0 (slice 0 at s)) (0 + length (slice 0 at s)) (to_bytes 2 next ++ slice (at + 2) (front_end s at) s) = sets_append out 0 (slice 0 at s) (to_bytes 2 next ++ slice (at + 2) (front_end s at) s) in
    let two : sets a p (to_bytes 2 next ++ slice (at + 2) (front_end s at) s) ≡ sets (sets a p (to_bytes 2 next)) (p + 2) (slice (at + 2) (front_end s at) s) = sets_append a p (to_bytes 2 next) (slice (at + 2) (front_end s at) s) in (
      omega (arith, w.0, ap length part, length-slice 0 at s (omega arith), length-slice (at + 2) (front_end s at) s (omega arith)),
      h ∙ ap (λ m. sets m (p + 2) (slice (at + 2) (front_end s at) s)) g ∙ sym two ∙ ap (λ m. sets m p (to_bytes 2 next ++ slice (at + 2) (front_end s at) s)) f
          ∙ ap (λ m. sets (sets out 0 (slice 0 at s)) m (to_bytes 2 next ++ slice (at + 2) (front_end s at) s)) e ∙ sym one,
    )

-- the numbers of values take two bytes each
two_each : (vs : List ValueId) → length (each_bytes value_id_bytes vs) ≡ 2 * length vs
two_each [] = refl
two_each (v ∷ vs) = let i = two_each vs in omega (arith, i)

-- bytes that stand in the middle
slice_at : (a b c : List ℕ) (i j : ℕ) → length a ≡ i → i + length b ≡ j → slice i j (a ++ (b ++ c)) ≡ b
slice_at a b c i j e f =
    let m : j ≡ length a + length b = omega arith in
    ap (drop i) (ap (λ n. take n (a ++ (b ++ c))) m ∙ take-append-add a (b ++ c) (length b) ∙ ap (λ w. a ++ w) (take-append_seam b c)) ∙ drop_at a b i e

-- an input whose types end at `at`
module _ (x : Routine) (s : List ℕ) (at : ℕ) (e : encode x ≡ s) (l : length (types_bytes x.types) ≡ at) where
  abbrev types : List ℕ
  types = types_bytes x.types

  abbrev next : List ℕ
  next = to_bytes 2 x.next

  -- between the next value and the map
  abbrev middle : List ℕ
  middle = to_bytes 2 (length x.blocks) ++ (block_id_bytes x.entry ++ list_bytes value_id_bytes x.parameters)

  abbrev rest : List ℕ
  rest = recorded_bytes x.recorded ++ each_bytes block_bytes x.blocks

  in_parts : s ≡ types ++ (next ++ (middle ++ rest))
  unfolding encode
  in_parts = sym e ∙ simp (append_assoc)

  -- the count of the parameters
  counted : get_or s (at + 6) 0 ≡ length x.parameters
  counted =
      let a = types ++ (next ++ (to_bytes 2 (length x.blocks) ++ block_id_bytes x.entry)) in
      let k : length a ≡ at + 6 = rw (length-append types) (omega (arith, l)) in
      let q : s ≡ a ++ (length x.parameters ∷ (each_bytes value_id_bytes x.parameters ++ rest)) = in_parts ∙ simp (append_assoc) in
      ap (λ t. get_or t (at + 6) 0) q ∙ get_or_at a (length x.parameters) (each_bytes value_id_bytes x.parameters ++ rest) 0 (at + 6) k

  length_middle : length middle ≡ 5 + 2 * length x.parameters
  length_middle = omega (arith, two_each x.parameters)

  pub front_end_lem : front_end s at ≡ at + 2 + length middle
  front_end_lem = omega (arith, counted, length_middle)

  pub front_within : front_end s at ≤ length s
  front_within =
      omega (arith, front_end_lem, ap length in_parts, length-append types (next ++ (middle ++ rest)), length-append next (middle ++ rest), length-append middle rest, l)

  pub front_is : (n : ℕ) → front_bytes s at n ≡ types ++ (to_bytes 2 n ++ middle)
  front_is n =
      let a : slice 0 at s ≡ types = ap (slice 0 at) in_parts ∙ slice_at [] types (next ++ (middle ++ rest)) 0 at refl (omega (arith, l)) in
      let k : length (types ++ next) ≡ at + 2 = rw (length-append types) (omega (arith, l)) in
      let j : at + 2 + length middle ≡ front_end s at = sym front_end_lem in
      let q : s ≡ (types ++ next) ++ (middle ++ rest) = in_parts ∙ simp (append_assoc) in
      let b : slice (at + 2) (front_end s at) s ≡ middle = ap (slice (at + 2) (front_end s at)) q ∙ slice_at (types ++ next) middle rest (at + 2) (front_end s at) k j in
      rw (a, b)

-- three runs one behind another
three_runs : (out a b c f m t : List ℕ) (p q r : ℕ) → p ≡ length f → a ≡ sets out 0 f → q ≡ p + length m → b ≡ sets a p m → Writes t b c q r → Writes (f ++ (m ++ t)) out c 0 r
three_runs out a b c f m t p q r ep ea eq eb w =
    let z : 0 + length f ≡ p = omega arith in
    let one : sets out 0 (f ++ (m ++ t)) ≡ sets (sets out 0 f) (0 + length f) (m ++ t) = sets_append out 0 f (m ++ t) in
    let two : sets a p (m ++ t) ≡ sets (sets a p m) (p + length m) t = sets_append a p m t in (
      omega (arith, length-append f (m ++ t), length-append m t, w.0),
      w.1 ∙ ap (λ k. sets b k t) eq ∙ ap (λ l. sets l (p + length m) t) eb ∙ sym two ∙ ap (λ l. sets l p (m ++ t)) ea ∙ ap (λ k. sets (sets out 0 f) k (m ++ t)) (sym z) ∙ sym one,
    )

-- what is written is what stands before the blocks, with more values
head_is : (x : Routine) (ts : List TypeId) (f : List ℕ) → f ≡ types_bytes x.types ++ (to_bytes 2 (x.next + length ts) ++ (to_bytes 2 (length x.blocks) ++ (block_id_bytes x.entry ++ list_bytes value_id_bytes x.parameters))) → f ++ recorded_bytes (with_fresh x.recorded ts) ≡ head_bytes (widened x ts)
unfolding head_bytes
head_is x ts f e = rw e (simp (append_assoc))

-- all of it
pub head_written : (x : Routine) (s : List ℕ) (at all next many : ℕ) (recorded fresh : List ℕ) (ts : List TypeId) → encode x ≡ s
    → length (types_bytes x.types) ≡ at → x.next ≡ next → all ≡ next + many → Tabled recorded fresh next many x.recorded ts
    → (out a b c : List ℕ) (p q r : ℕ)
    → p ≡ front_end s at → a ≡ sets out 0 (front_bytes s at all) → q ≡ p + (next + many + 7) / 8
    → b ≡ sets a p (to_bytes ((next + many + 7) / 8) (map_number (with_fresh x.recorded ts)))
    → Writes (each_bytes (option_bytes type_id_bytes) (with_fresh x.recorded ts)) b c q r → Writes (head_bytes (widened x ts)) out c 0 r
head_written x s at all next many recorded fresh ts e l n d h out a b c p q r ep e₁ eq eb w =
    let R = with_fresh x.recorded ts in
    let f = front_bytes s at (next + many) in
    let ea : a ≡ sets out 0 f = e₁ ∙ ap (λ n. sets out 0 (front_bytes s at n)) d in
    let i : f ≡ types_bytes x.types ++ (to_bytes 2 (next + many) ++ middle x s at e l) = front_is x s at e l (next + many) in
    let j : next + many ≡ x.next + length ts = omega (arith, h.new) in
    let k : p ≡ length f = omega (arith, ap length i, length-append (types_bytes x.types) (to_bytes 2 (next + many) ++ middle x s at e l), front_end_lem x s at e l) in
    let m : next + many ≡ length R = omega (arith, h.old, h.new, length_fresh x.recorded ts) in
    let o : q ≡ p + length (to_bytes ((next + many + 7) / 8) (map_number R)) = eq ∙ ap (λ z. p + z) (sym (length_to_bytes ((next + many + 7) / 8) (map_number R))) in
    let u : Writes (f ++ (to_bytes ((next + many + 7) / 8) (map_number R) ++ each_bytes (option_bytes type_id_bytes) R)) out c 0 r = three_runs out a b c f (to_bytes ((next + many + 7) / 8) (map_number R)) (each_bytes (option_bytes type_id_bytes) R) p q r k ea o eb w in
    let v : Writes (f ++ recorded_bytes R) out c 0 r = rw (← m) u in
    rw (← head_is x ts f (i ∙ ap (λ z. types_bytes x.types ++ (to_bytes 2 z ++ middle x s at e l)) j)) v
