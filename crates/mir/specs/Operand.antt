-- The value that a field reads.
use Rattle.std.specs.Prelude.{Option, Some, None}
use Rattle.mir.specs.declared.ValueId.{ValueId}
use Rattle.mir.specs.declared.Value.{Value}

-- an operand's number; none of a literal and of Error
abbrev pub operand_of : Value → Option ValueId
operand_of (Value.Literal l) = None
operand_of (Value.Operand v) = Some v
operand_of Value.Error = None
