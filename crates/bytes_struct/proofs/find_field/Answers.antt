use Rattle.std.proofs.Common.{[]}
use mathlib.Core.Path.{refl}
use Rattle.bytes_struct.proofs.Seek.{no_type_lem, type_found}
use Rattle.bytes_struct.proofs.find_field.Goals as goal

pub returns-then-code-t : goal.returns-then-code-t
returns-then-code-t c = λ most ts a l. no_type_lem most [] [] ts _ _ _ l c.if-code-t.true

pub returns : goal.returns
returns c = λ most ts a l.
    type_found most _ _ ts _ _ _ l c.find_in_row.result a c.if-code-t.false c.type_row.ensures refl c.find_in_row.ensures
