-- The parameters: each is marked as defined.
use Prim.Native.Nat.{ℕ, ◌≤◌}
use mathlib.Core.Path.{◌≡◌, ap, ◌∙◌, sym}
use mathlib.Core.List.{List, []}
use mathlib.Core.Bool.{Bool, false}
use lib.ListN.{length}
use Rattle.bytes_wire.specs.Parse.{Parse, ok, bad, and_then, map_parse}
use Rattle.bytes_wire.specs.declared.Cause.{Cause}
use Rattle.bytes_wire.proofs.Laws.{size, size_map, later_zero, and_nothing, map_map}
use Rattle.bytes_wire.proofs.Inv.{no_ok}
use Rattle.bytes_field.specs.Decode.{defineds_of}
use Rattle.bytes_field.specs.Walk.{Walk, walk_of, defines, fold, simple_walk, field_walk, row_walk, unit}
use Rattle.bytes_field.specs.declared.Bounds.{Bounds}
use Rattle.bytes_field.proofs.Rows.{defined_list}
use Rattle.bytes_field.proofs.Sizes.{size_row}
use Rattle.bytes_block.proofs.Laws.{defines_seen}
use Rattle.bytes_sections.specs.Index.{ParametersRead}

-- the row of one list of defined values
parameters_row : (b : Bounds) (w : Walk) (s : List ℕ) → row_walk b 0 1 0xc w s ≡ map_parse (fold defines w) (defineds_of b.list b.next w.seen s)
unfolding row_walk field_walk simple_walk
parameters_row b w s = simp (and_nothing, defined_list)

-- the parameters reach no further than the bytes do
pub size_parameters : (b : Bounds) (seen : List Bool) (s : List ℕ) → size (map_parse unit (defineds_of b.list b.next seen s)) ≤ length s
size_parameters b seen s =
    let w = walk_of seen [] 0 false in
    let d = defineds_of b.list b.next seen s in
    rw (size_map unit d) (rw (parameters_row b w s, size_map (fold defines w) d) at (size_row b 0 1 0xc w s))

module _ (b : Bounds) (s : List ℕ) (seen : List Bool) (buffer : List ℕ) {r : Parse Walk} (e : r ≡ and_then s (ok (walk_of seen buffer 0 false) 0) (λ w t. row_walk b 0 1 0xc w t)) where
  -- what the walk answered
  walked : r ≡ map_parse (fold defines (walk_of seen buffer 0 false)) (defineds_of b.list b.next seen s)
  walked = e ∙ later_zero (row_walk b 0 1 0xc (walk_of seen buffer 0 false) s) ∙ parameters_row b (walk_of seen buffer 0 false) s

  -- it is refused
  pub parameters_bad : {c : Cause} {o : ℕ} {after : List Bool} → r ≡ bad c o → ParametersRead b s (bad c o) seen after
  parameters_bad {c} {o} f =
      let g : bad c o ≡ map_parse unit (defineds_of b.list b.next seen s) = sym (ap (map_parse unit) f) ∙ ap (map_parse unit) walked ∙ map_map unit (fold defines (walk_of seen buffer 0 false)) (defineds_of b.list b.next seen s) in
      record { answers = g; marking = λ ps n q. absurd (no_ok (g ∙ ap (map_parse unit) q)) }

  -- all are marked
  pub parameters_some : {w : Walk} {n : ℕ} → r ≡ ok w n → ParametersRead b s (ok tt n) seen w.seen
  parameters_some {w} {n} f =
      let d = defineds_of b.list b.next seen s in
      record {
        answers = sym (ap (map_parse unit) f) ∙ ap (map_parse unit) walked ∙ map_map unit (fold defines (walk_of seen buffer 0 false)) d;
        marking = λ ps k q.
            let g : ok w n ≡ ok (fold defines (walk_of seen buffer 0 false) ps) k = sym f ∙ walked ∙ ap (map_parse (fold defines (walk_of seen buffer 0 false))) q in
            let h : w ≡ fold defines (walk_of seen buffer 0 false) ps = cc in
            ap (λ v. v.seen) h ∙ defines_seen (walk_of seen buffer 0 false) ps;
      }
