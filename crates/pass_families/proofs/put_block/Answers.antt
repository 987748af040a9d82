use mathlib.Core.Path.{refl}
use Rattle.bytes_sections.proofs.Body.{take_clear}
use Rattle.pass_families.proofs.Putting.{puts_block}
use Rattle.pass_families.proofs.put_block.Goals as goal

pub returns-clause-written : goal.returns-clause-written
returns-clause-written c =
    let a = c.args in
    puts_block a.named a.code a.k.0 a.slots _ _ _ a.text.now c.put_all.new.text c.put_all.result
    c.scan_copies.ensures refl (take_clear a.code.bounds.next 256 c.requires.0) c.put_all.ensures.written
