use Rattle.std.proofs.Common.{◌∙◌, sym}
use Rattle.rewrite_build.specs.Written.{renumbered}
use Rattle.rewrite_build.proofs.Heads.{struct_writes}
use Rattle.rewrite_build.proofs.put_struct.Goals as goal

pub returns-clause-of_parts : goal.returns-clause-of_parts
returns-clause-of_parts c =
    λ xs r l fs m n.
    let k = m ∙ sym c.field_count-want.ensures in
    struct_writes _ _ c.args.d c.args.out.now _ _ (renumbered c.args.parts.nums.now xs) _ _ fs c.args.t k c.put_head.ensures
    (c.put_fields-at.ensures.of_parts xs r l fs k n) c.put_type_id.ensures
