-- A scalar made of one.
use Rattle.std.specs.Prelude.{ℕ, ◌≡◌, ◌&&◌, List, Bool}
use Rattle.mir.specs.declared.Value.{Value}
use Rattle.mir.specs.declared.ValueId.{ValueId}
use Rattle.mir.specs.Lookup.{Types, recorded_type}
use Rattle.bytes_index.specs.declared.code.Typing.{Typing}
use Rattle.fold.specs.Tables.{TypingGround}
use Rattle.rewrite_parts.specs.Rows.{ValueAt}
use Rattle.shelf.specs.Agrees.{is_scalar_type, is_scalar}
use Rattle.shelf_field.specs.Fields.{IdAt}

-- of a dest and a value that stand at two places of an instruction's own fields: both are scalars
abbrev pub Scalars : Typing → List ℕ → ℕ → ℕ → Bool → Type 0
Scalars typing t dest from r =
    (τ : Types) (d : ValueId) (x : Value)
    → TypingGround typing τ
    → IdAt typing.code.bounds.next t dest d
    → ValueAt typing.code.bounds.next t from x
    → r ≡ (is_scalar_type τ (recorded_type τ d) && is_scalar τ x)
