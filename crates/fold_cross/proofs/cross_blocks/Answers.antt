use Rattle.fold_cross.proofs.Crossing.{crossed_all}
use Rattle.fold_cross.proofs.cross_blocks.Goals as goal

pub returns : goal.returns
returns c =
    let a = c.args in
    λ e. crossed_all (record { code = a.code; shapes = a.shapes; eligible = a.eligible; readers = _; few = _ }) a.readers.now a.marks.now _ e
    c.note_readers.ensures (λ σ τ ks. c.cross_read.ensures τ ks σ)
