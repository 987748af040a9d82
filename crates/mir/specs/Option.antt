-- What an optional answer of the code says, as the definitions have it.
use Rattle.std.specs.Prelude.{Some, None, Option as Answered}
use Rattle.std.proofs.Math.Option.{Option, none, some}

abbrev pub as_option : {A : Type 0} → Answered A → Option A
as_option (Some x) = some x
as_option None = none
