use Rattle.std.proofs.Common.{◌∙◌}
use Rattle.bytes_lookup.proofs.Canon.{block_part}
use Rattle.bytes_lookup.proofs.block_bytes.Goals as goal

pub returns : goal.returns
returns c = λ m b xs h p l.
    let a = c.args in
    c.between.ensures ∙ block_part m b a.s.now a.blocks.now xs a.k.0 h p l c.place-from.ensures c.place-to.ensures
