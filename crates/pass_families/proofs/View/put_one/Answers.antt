use Rattle.std.proofs.Common.{ap, sym, ◌∙◌}
use Rattle.mir.specs.Kind.{build_kind}
use Rattle.pass_families.proofs.Putting.{puts_none, puts_one}
use Rattle.pass_families.proofs.View.put_one.Goals as goal

pub returns-then-not-is_build-clause-written : goal.returns-then-not-is_build-clause-written
returns-then-not-is_build-clause-written c =
    let a = c.args in
    puts_none a.self.named a.self.code a.at.block a.self.tables a.at.instruction a.at.slot a.text.now
    (ap build_kind (sym c.in-Some.ensures) ∙ sym c.if-not-is_build.ensures)

pub returns-clause-written : goal.returns-clause-written
returns-clause-written c =
    let a = c.args in
    puts_one a.self.named a.self.code a.at.block a.self.tables a.at.instruction a.at.slot a.text.now c.put_build.new.text c.put_build.result
    (ap build_kind (sym c.in-Some.ensures) ∙ sym c.if-not-is_build.ensures) c.put_build.ensures.written
