use Rattle.std.proofs.Common.{◌*◌, ◌≤◌}
use lib.ListN.{get_or}
use Rattle.bytes_index.specs.Table.{starts_in}
use Rattle.pass_families.specs.Widths.{line_width, longest_text}
use Rattle.pass_families.proofs.Putting.{PuttingBlocks}
use Rattle.pass_families.proofs.put_blocks.Given as goal

abbrev pub invariant-loop-k : goal.invariant-loop-k
invariant-loop-k l =
    (l.to ≤ line_width * get_or (starts_in l.code.facts.now) l.k 0)
    × (l.to ≤ longest_text)
    × PuttingBlocks l.named l.code l.shapes l.initial.text l.text l.to l.k
