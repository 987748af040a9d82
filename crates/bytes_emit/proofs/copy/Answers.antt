use mathlib.Core.Path.{refl, sym, ◌∙◌}
use native.Mathlib.Omega.{arith}
use Rattle.bytes_emit.proofs.Sets.{sets_past, sets_cut}
use Rattle.bytes_emit.proofs.copy.Goals as goal

pub returns-then-to-out : goal.returns-then-to-out
returns-then-to-out c = let a = c.args in (refl, c.copy_whole-then-to-out.ensures ∙ sets_cut a.out.now a.to _ a.s.now (omega arith))

pub returns-else-to-out : goal.returns-else-to-out
returns-else-to-out c = let a = c.args in (refl, sym (sets_past a.out.now a.to a.s.now c.if-to-out.false))
