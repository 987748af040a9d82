-- A routine that is written is read back.
use Prim.Native.Nat.{ℕ, ◌+◌, ◌/◌, ◌^◌, ◌≤◌, ◌<◌}
use mathlib.Core.Path.{◌≡◌, refl, ap, ◌∙◌}
use mathlib.Core.List.{List, [], ◌++◌, append_assoc, append-nil}
use native.Mathlib.Nat.{add-zero, div-one}
use native.Mathlib.Omega.{arith}
use borrow.Author.Tests.{le-leb}
use lib.ListN.{length, drop}
use lib.Seq.{drop_at}
use lib.Dec.{leb}
use Rattle.bytes_wire.specs.Parse.{ok}
use Rattle.bytes_wire.specs.Number.{to_bytes, from_bytes}
use Rattle.bytes_wire.specs.declared.Cause.{Cause}
use Rattle.bytes_field.specs.Encode.{value_id_bytes, type_id_bytes, each_bytes, list_bytes, option_bytes}
use Rattle.bytes_laws.specs.WellFormed.{Wide}
use Rattle.bytes_laws.proofs.Back.{Back, then, last, tested, number}
use Rattle.bytes_laws.proofs.BackFields.{block, dests}
use Rattle.bytes_block.specs.Decode.{marks}
use Rattle.bytes_block.specs.Encode.{block_bytes}
use Rattle.bytes_block.specs.WellFormed.{WideMosts}
use Rattle.bytes_block.specs.declared.Mosts.{Mosts}
use Rattle.bytes_types.proofs.RoundTrip.{types_back}
use Rattle.mir.specs.Routine.{Routine}
use Rattle.bytes_sections.specs.Decode.{at_most, sizes_of, body_of, routine_of, whole_of}
use Rattle.bytes_sections.specs.declared.Sizes.{Sizes}
use Rattle.bytes_sections.specs.Encode.{map_number, encode}
use Rattle.bytes_laws_whole.specs.WellFormed.{WellFormed, bounds, unmarked}
use Rattle.bytes_laws_whole.proofs.Whole.{sizes_bytes, wide}
use Rattle.bytes_laws_whole.proofs.BackBlocks.{blocks_back}
use Rattle.bytes_laws_whole.proofs.BackMap.{small_bytes, map_number_lem, map_back, number_fit, recorded_back}

-- a count that is a u16
count : (most n : ℕ) → most ≤ 65535 → n ≤ most → Back (at_most most) (to_bytes 2 n) n
count most n l h =
    let c : n < 65536 = omega arith in
    tested Cause.TooMany (λ n. leb n most) (le-leb n most h) (number 2 n c)

-- a routine's sizes
abbrev sizes : Routine → Sizes
sizes r = record { next = r.next; blocks = length r.blocks; entry = r.entry }

module _ (m : Mosts) (r : Routine) (w : WideMosts m) (h : WellFormed m r) where
  -- the routine's bounds are as wide as their fields
  widths : Wide (bounds m r)
  widths = wide m (length r.types) r.next (length r.blocks) w h.many_types h.next h.many_blocks

  -- "u16 next value; u16 block count; u16 entry block"
  sizes_back : Back (sizes_of m) (sizes_bytes (sizes r)) (sizes r)
  unfolding sizes_of
  sizes_back = then _ (count m.next r.next w.next h.next) (then _ (count m.blocks (length r.blocks) w.blocks h.many_blocks) (last _ (block (bounds m r) widths r.entry h.entry)))

  -- the bytes of the map
  abbrev map : List ℕ
  map = to_bytes ((r.next + 7) / 8) (map_number r.recorded)

  -- the map's number fits it
  number_fits : map_number r.recorded < 2 ^ r.next
  number_fits = rw h.many_recorded at (number_fit r.recorded)

  -- what stands behind the sizes
  body_back : Back (body_of m r.types (sizes r)) (list_bytes value_id_bytes r.parameters ++ (map ++ (each_bytes (option_bytes type_id_bytes) r.recorded ++ each_bytes block_bytes r.blocks))) r
  unfolding body_of
  body_back =
      let x = map_number r.recorded in
      let e : from_bytes map / 2 ^ 0 ≡ x = div-one (from_bytes map) ∙ map_number_lem r.next x number_fits in
      then _ (dests (bounds m r) widths (unmarked r) r.parameters (h.many_parameters, h.parameters))
      (then _ (map_back r.next x number_fits)
      (then _ (rw h.many_recorded at (recorded_back (length r.types) map widths.types (small_bytes ((r.next + 7) / 8) x) 0 r.recorded e h.recorded))
      (last _ (blocks_back m (bounds m r) w widths 0 (marks (unmarked r) r.parameters) r.blocks h.blocks))))

  -- the routine, whatever follows
  pub routine_back : Back (routine_of m) (encode r) r
  unfolding routine_of encode
  routine_back = rw (h.many_recorded, append_assoc) (then _ (types_back m.types m.list r.types w.types w.list h.many_types h.types) (then _ sizes_back body_back))

-- what is written of a routine that has a byte form is read as that routine
pub whole_back : (m : Mosts) (r : Routine) → WideMosts m → WellFormed m r → whole_of m (encode r) ≡ ok r (length (encode r))
unfolding whole_of
whole_back m r w h =
    let s = encode r in
    let n = length s in
    let e : routine_of m s ≡ ok r n = rw append-nil at ((routine_back m r w h).says []) in
    let d : drop n s ≡ [] = rw append-nil at (drop_at s [] n refl) in
    rw (e, d) (ap (ok r) (add-zero n))
