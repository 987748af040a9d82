-- A recorded type as a number of the table: 0 for none, else one more than the type's.
use Rattle.std.specs.Prelude.{ℕ, zero, suc, ◌+◌}
use Rattle.std.proofs.Math.Option.{Option, none, some}
use Rattle.mir.specs.declared.TypeId.{TypeId}

abbrev pub recorded_number : Option TypeId → ℕ
recorded_number none = 0
recorded_number (some t) = t.0 + 1

-- the recorded type that a number says
abbrev pub recorded_from : ℕ → Option TypeId
recorded_from zero = none
recorded_from (suc t) = some (record { 0 = t })
