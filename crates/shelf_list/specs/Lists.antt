-- Lists of an instruction, by the places of their things.
use Rattle.std.specs.Prelude.{ℕ, ◌+◌, List}
use Rattle.mir.specs.declared.ValueId.{ValueId}
use Rattle.mir.specs.declared.TypeId.{TypeId}
use Rattle.mir.specs.declared.Value.{Value}
use Rattle.mir.specs.Syntax.{Source}
use Rattle.bytes_operands.specs.Fields.{value_step}
use Rattle.rewrite_parts.specs.Rows.{ValueAt}
use Rattle.shelf_field.specs.Fields.{IdAt, TypeAt, Lined}

-- a Phi's source: its value stands behind its block
pub record SourceAt (next : ℕ) (t : List ℕ) (p : ℕ) (x : Source) : Type 0 where
  pub value : ValueAt next t (p + 2) x.value

-- the place behind a thing of two bytes
abbrev pub two : ℕ → ℕ
two p = p + 2

abbrev pub ValuesAt : ℕ → List ℕ → ℕ → List Value → Type 0
ValuesAt next t at xs = Lined (ValueAt next t) (value_step t 0 0) at xs

abbrev pub SourcesAt : ℕ → List ℕ → ℕ → List Source → Type 0
SourcesAt next t at ss = Lined (SourceAt next t) (value_step t 2 0) at ss

abbrev pub TypesIn : ℕ → List ℕ → ℕ → List TypeId → Type 0
TypesIn types t at ts = Lined (TypeAt types t) two at ts

abbrev pub IdsAt : ℕ → List ℕ → ℕ → List ValueId → Type 0
IdsAt next t at ds = Lined (IdAt next t) two at ds
