-- Bytes, and which values have a byte form.
use Rattle.std.specs.Prelude.{ℕ, ◌<◌, ◌≤◌, List, get_or}
use Rattle.mir.specs.declared.Literal.{Literal}
use Rattle.mir.specs.declared.Value.{Value}

-- every number of the list is a byte
abbrev pub Bytes : List ℕ → Type 0
Bytes s = (i : ℕ) → get_or s i 0 < 256

-- the value's numbers fit their fields, and an operand is one of the `next` values there are
abbrev pub FitValue : ℕ → Value → Type 0
FitValue next (Value.Literal (Literal.Integer x)) = x < 4294967296
FitValue next (Value.Literal (Literal.Boolean b)) = Unit {0}
FitValue next (Value.Literal Literal.Unit) = Unit {0}
FitValue next (Value.Operand v) = (v.0 < next) × (next ≤ 65536)
FitValue next Value.Error = Unit {0}
