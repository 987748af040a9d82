use Rattle.bytes_sections.proofs.Body.{none_marked}
use Rattle.bytes_read.proofs.read_body.Goals as goal

pub read_marked-requires : goal.read_marked-requires
read_marked-requires c = (c.requires.0, none_marked c.args.b.next 256 c.requires.1, c.requires.1, c.requires.2, c.requires.3)
