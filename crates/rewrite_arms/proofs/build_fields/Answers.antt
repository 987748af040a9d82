use Rattle.std.proofs.Common.{arith, ap, ◌∙◌, sym, List, ℕ, get_or}
use Rattle.rewrite_arms.proofs.Actions.{struct_tracks, struct_stays}
use Rattle.rewrite_arms.proofs.build_fields.Goals as goal

pub returns-in-Some-clause-fields_built : goal.returns-in-Some-clause-fields_built
returns-in-Some-clause-fields_built c =
    let l = c.listed.ensures in
    λ next S stay x r q d z f.
    let row = c.type_row-row.ensures in
    let n = c.behind-names.ensures in
    let m = n.many ∙ ap (λ (l : List ℕ). get_or l 3 0) row in
    let w =
    c.in-Some.ensures.names_tracked next S f.inits f.fields (rw l.bytes r) q d (rw (l.bytes, l.place) f.stand) (f.many ∙ sym l.many) (rw (n.bytes, n.place, row) f.named)
    (f.count ∙ sym m) (omega (arith, f.few, f.count, m)) in
    struct_tracks _ _ f.piece w.0 (rw l.bytes at w.1)

pub returns-in-None-clause-fields_built : goal.returns-in-None-clause-fields_built
returns-in-None-clause-fields_built c =
    let l = c.listed.ensures in
    λ next S stay x r q d z f.
    let row = c.type_row-row.ensures in
    let n = c.behind-names.ensures in
    let m = n.many ∙ ap (λ (l : List ℕ). get_or l 3 0) row in
    let w =
    c.in-None.ensures.names_tracked next S f.inits f.fields (rw l.bytes r) q d (rw (l.bytes, l.place) f.stand) (f.many ∙ sym l.many) (rw (n.bytes, n.place, row) f.named)
    (f.count ∙ sym m) (omega (arith, f.few, f.count, m)) in
    struct_stays _ _ f.piece z w.0 (rw l.bytes at w.1)
