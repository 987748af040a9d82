use Rattle.bytes_emit.proofs.put_assign.Goals as goal
use mathlib.Core.Path.{refl}
use native.Mathlib.Omega.{arith}
use lib.ListN.{length-append}
use Rattle.bytes_wire.specs.Value.{value_bytes}
use Rattle.bytes_field.specs.Encode.{instruction_bytes, field_bytes, value_id_bytes, type_id_bytes}
use Rattle.bytes_emit.proofs.Sets.{sets_assign}

pub returns : goal.returns
unfolding instruction_bytes field_bytes
returns c =
    let a = c.args in
    let value = c.put_value-at.ensures in (
      simp (value.0, length-append) (omega arith),
      rw (c.put_type_id.ensures, value.0, value.1, c.put_value_id.ensures, c.put_kind.ensures)
          (sets_assign a.out.now a.to 0 0 (value_id_bytes a.d) (value_bytes a.x) (type_id_bytes a.t) refl),
    )
