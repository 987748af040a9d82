use Rattle.bytes_wire.proofs.first_bytes.Goals as goal
use Rattle.bytes_wire.proofs.Chunks.{chunk_read}

pub returns-clause-told : goal.returns-clause-told
returns-clause-told g c = rw (c.ok_or.ensures.value, c.at.ensures) (chunk_read g.row.N c.args.s.now c.first_chunk.result c.first_chunk.ensures.cases)
