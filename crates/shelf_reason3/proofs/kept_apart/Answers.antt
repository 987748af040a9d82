use Rattle.std.proofs.Common.{rules}
use Rattle.shelf_marks.proofs.Bases.{apart_all}
use Rattle.shelf_marks.specs.Tests.{parts_clear, each_kind}
use Rattle.shelf_reason3.proofs.kept_apart.Goals as goal

pub returns : goal.returns
returns c =
    let a = c.args in
    let e = c.each_block.ensures (λ τ x. each_kind (parts_clear c.mark_bases.new.marks) x.instructions) (λ k r l h. search rules) in
    apart_all a.code _ c.mark_bases.ensures e
