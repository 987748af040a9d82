use mathlib.Core.Path.{refl}
use native.Mathlib.Omega.{arith}
use Rattle.shelf_reason5.proofs.Buffer.{next_within, next_told}
use Rattle.shelf_reason5.proofs.Output.walk_instruction.Goals as goal

pub further-requires : goal.further-requires
further-requires c =
    let a = c.args in
    let s = c.read_instruction-scan in
    omega (arith, next_within a.self.bounds a.self.bytes.now _ a.at _ _ _ s.result c.behind-t.ensures s.ensures)

pub returns : goal.returns
returns c =
    let a = c.args in
    let s = c.read_instruction-scan in
    next_told a.self.bounds a.self.bytes.now _ a.at a.self.dropped.now _ _ _ s.result c.further.result c.behind-t.ensures refl (c.further.ensures _ _) _ c.judge.ensures s.ensures
