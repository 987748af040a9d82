-- Where a part lies. Positions go by the same lookups as in the pass.
use Rattle.std.specs.Prelude.{ℕ, List, [], ◌∷◌}
use Rattle.std.proofs.Math.Option.{Option, none, some}
use Rattle.std.proofs.Math.ListN.{get_elem?}
use Rattle.mir.specs.declared.TypeId.{TypeId}
use Rattle.mir.specs.MirType.{MirType}
use Rattle.mir.specs.Lookup.{Types, row_of, on_some}
use Rattle.bytes_struct.specs.FindField.{field_index}
use Rattle.mir.specs.Parts.{part_type}
use Rattle.machine.specs.Values.{Val, part_of, with_part}
use Rattle.machine.specs.Meaning.{Meaning}
use Rattle.machine.specs.Records.{Step, index, field, tuple}

-- the rows at which a build's parts, a Call's arguments and values at no type stand
unfoldable pub part_row : Types → Option MirType → ℕ → Option MirType
part_row τ row k = row_of τ (part_type row k)

-- argument k at parameter type k
unfoldable pub argument_row : Types → List TypeId → ℕ → Option MirType
argument_row τ ps k = row_of τ (get_elem? ps k)

-- at no type
unfoldable pub no_row : ℕ → Option MirType
no_row k = none

-- the part that a step names, in a value of the row
unfoldable pub step_position : {A : Type 0} → Meaning A → Option MirType → Step A → Option ℕ
step_position M row (index x) = M.position x
step_position M row (field n) = field_index row n
step_position M row (tuple k) = some k

-- the part at the end of a place
unfoldable pub walked : {A : Type 0} → Meaning A → Types → Option MirType → Val A → List (Step A) → Option (Val A)
walked M τ row x [] = some x
walked M τ row x (s ∷ ss) = on_some (step_position M row s) (λ k. on_some (part_of x k) (λ y. walked M τ (part_row τ row k) y ss))

-- the value with that part changed, "or with no projection all of it"
unfoldable pub changed : {A : Type 0} → Meaning A → Types → Option MirType → Val A → List (Step A) → Val A → Option (Val A)
changed M τ row x [] y = some y
changed M τ row x (s ∷ ss) y =
    on_some (step_position M row s) (λ k. on_some (part_of x k) (λ p. on_some (changed M τ (part_row τ row k) p ss y) (λ q. with_part x k q)))
