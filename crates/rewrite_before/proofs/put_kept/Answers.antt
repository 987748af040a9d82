use Rattle.rewrite_before.proofs.Writing.{instruction_copied}
use Rattle.rewrite_before.proofs.put_kept.Goals as goal

pub returns-clause-instruction_written : goal.returns-clause-instruction_written
returns-clause-instruction_written c = rw c.put_further.ensures
    (instruction_copied c.args.code _ _ _ _ _ _ c.slot_bytes.ensures c.copy_bytes-to.ensures.writes)
