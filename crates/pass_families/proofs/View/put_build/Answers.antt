use Rattle.std.proofs.Common.{arith}
use mathlib.Core.Path.{refl}
use Rattle.bytes_sections.proofs.Body.{take_clear}
use Rattle.pass_families.proofs.Showing.{puts_build}
use Rattle.pass_families.proofs.View.put_build.Goals as goal

pub returns-clause-written : goal.returns-clause-written
returns-clause-written c =
    let a = c.args in
    puts_build a.self.named a.self.code a.at.block a.at.instruction a.at.slot a.self.tables
    _ c.find_build-build.new.family _ _ c.find_build-build.result a.text.now c.put_line.new.text c.put_line.result
    c.find_build-build.ensures (take_clear _ 256 (omega arith)) refl c.put_line.ensures.written
