use mathlib.Core.Path.{refl}
use Rattle.bytes_sections.proofs.Body.{take_clear}
use Rattle.fold_looked.proofs.Looking.{looks_copies}
use Rattle.fold_looked.proofs.look_copies.Goals as goal

pub returns : goal.returns
returns c =
    let a = c.args in
    let clear = take_clear a.code.bounds.next 256 c.if-n-gt-VALUES.false in
    looks_copies a.code a.slots a.shapes.now _ c.scan_copies.new.copies _ c.scan_copies.new.dynamic _ a.looked.now c.look_all.new.looked
    c.scan_copies.ensures refl clear clear c.look_all.ensures
