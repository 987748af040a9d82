use mathlib.Core.Path.{refl}
use native.Mathlib.Omega.{arith}
use Rattle.shelf_reason5.proofs.Buffer.{last_within, last_told}
use Rattle.shelf_reason5.proofs.Output.walk_terminator.Goals as goal

pub further-requires : goal.further-requires
further-requires c =
    let a = c.args in
    let s = c.read_terminator-scan in
    omega (arith, last_within a.self.bounds a.self.bytes.now _ a.at _ _ _ s.result c.behind-t.ensures s.ensures)

pub returns : goal.returns
returns c =
    let a = c.args in
    let s = c.read_terminator-scan in
    last_told a.self.bounds a.self.bytes.now _ a.at a.self.dropped.now _ _ _ s.result c.further.result c.behind-t.ensures refl (c.further.ensures _ _) _ c.judge.ensures s.ensures
