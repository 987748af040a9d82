use Rattle.std.proofs.Common.{false, replicate}
use mathlib.Core.Path.{◌∙◌, ap, sym}
use Rattle.mir.specs.Lookup.{types_in}
use Rattle.fold_routine.proofs.Choosing.{follows_choice}
use Rattle.fold_routine.proofs.choose_crossed.Goals as goal

pub returns : goal.returns
returns c =
    λ r f e k fits l.
    let m = c.cross_marks.ensures c.args.settings (types_in r) _ k f (e ∙ ap (λ n. replicate n false) (sym k.ground.values)) in
    follows_choice _ r _ _ _ m (c.choose.ensures (types_in r) _ k fits f l)
