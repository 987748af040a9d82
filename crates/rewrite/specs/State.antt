-- What the pass remembers while it walks a block: the parts of each tracked value. (Tracked: document 01's word for a
-- value whose definition is left out and whose parts are remembered.)
use Rattle.std.specs.Prelude.{ℕ, zero, suc, List, [], ◌∷◌, cond, eqb}
use Rattle.std.proofs.Math.Option.{Option, none, some}
use Rattle.std.proofs.Math.ListN.{get_elem?}
use Rattle.mir.specs.declared.ValueId.{ValueId}
use Rattle.mir.specs.declared.Literal.{Literal}
use Rattle.mir.specs.declared.Value.{Value}
use Rattle.mir.specs.declared.Projection.{Projection}
use Rattle.mir.specs.declared.Projection.TheVariants.{Index, Field, Tuple}
use Rattle.mir.specs.Syntax.{Place}
use Rattle.mir.specs.Lookup.{Types, value_row, as_const_integer, on_some}
use Rattle.bytes_struct.specs.FindField.{field_index}

-- sroa.rs 797, `agg_states`: ValueId → AggState
abbrev pub AggStates : Type 0
AggStates = ℕ → Option (List Value)

unfoldable pub no_states : AggStates
no_states v = none

-- `agg_states.insert(..)`: a value's parts, in place of any it had
unfoldable pub insert_state : AggStates → ValueId → List Value → AggStates
insert_state S d xs = λ v. cond (eqb v d.0) (some xs) (S v)

-- `agg_states.get(..)` of a value that is an operand
unfoldable pub state_of : AggStates → Value → Option (List Value)
state_of S (Value.Literal l) = none
state_of S (Value.Operand v) = S v.0
state_of S Value.Error = none

unfoldable pub cons_some : Value → Option (List Value) → Option (List Value)
cons_some x none = none
cons_some x (some xs) = some (x ∷ xs)

-- the parts with one replaced; none where there is no such part
unfoldable pub replaced : List Value → ℕ → Value → Option (List Value)
replaced [] k y = none
replaced (x ∷ xs) zero y = some (y ∷ xs)
replaced (x ∷ xs) (suc k) y = cons_some x (replaced xs k y)

-- which part a step names, of the value that is walked
unfoldable pub step_index : Types → ValueId → Projection → Option ℕ
step_index τ v (Index x) = as_const_integer x
step_index τ v (Field n) = field_index (value_row τ v) n
step_index τ v (Tuple k) = some k

-- one step of a chain: from a tracked operand to its part
unfoldable pub step_part : Types → AggStates → Value → Projection → Option Value
step_part τ S (Value.Literal l) p = none
step_part τ S (Value.Operand v) p = on_some (step_index τ v p) (λ k. on_some (S v.0) (λ xs. get_elem? xs k))
step_part τ S Value.Error p = none

-- sroa.rs 1489, `forward_projection_chain`
unfoldable pub chain : Types → AggStates → Value → List Projection → Option Value
chain τ S x [] = some x
chain τ S x (p ∷ ps) = on_some (step_part τ S x p) (λ y. chain τ S y ps)

-- the Integer literal that the first projection is
unfoldable pub first_integer : List Projection → Option ℕ
first_integer [] = none
first_integer (Index (Value.Literal (Literal.Integer k)) ∷ ps) = some k
first_integer (Index (Value.Literal (Literal.Boolean b)) ∷ ps) = none
first_integer (Index (Value.Literal Literal.Unit) ∷ ps) = none
first_integer (Index (Value.Operand v) ∷ ps) = none
first_integer (Index Value.Error ∷ ps) = none
first_integer (Field n ∷ ps) = none
first_integer (Tuple k ∷ ps) = none

-- one part of a tracked value replaced
unfoldable pub store_part : AggStates → ValueId → ℕ → Value → Option AggStates
store_part S v k y = on_some (S v.0) (λ xs. on_some (replaced xs k y) (λ ys. some (insert_state S v ys)))

-- the last step of a deeper store: the value that holds the part changes
unfoldable pub store_last : Types → AggStates → Value → Projection → Value → Option AggStates
store_last τ S (Value.Literal l) p y = none
store_last τ S (Value.Operand v) p y = on_some (step_index τ v p) (λ k. store_part S v k y)
store_last τ S Value.Error p y = none

-- sroa.rs 1578 to 1612: from part to part, and at the last projection the new value is put in
unfoldable pub store_deeper : Types → AggStates → Value → List Projection → Value → Option AggStates
store_deeper τ S x [] y = none
store_deeper τ S x (p ∷ []) y = store_last τ S x p y
store_deeper τ S x (p ∷ q ∷ ps) y = on_some (step_part τ S x p) (λ z. store_deeper τ S z (q ∷ ps) y)

-- sroa.rs 1568 to 1576: with one projection part k is replaced; with more, the walk goes on from part k
unfoldable pub store_from : Types → AggStates → ValueId → List Projection → Value → ℕ → Option AggStates
store_from τ S v [] y k = none
store_from τ S v (p ∷ []) y k = store_part S v k y
store_from τ S v (p ∷ q ∷ ps) y k = on_some (S v.0) (λ xs. on_some (get_elem? xs k) (λ x. store_deeper τ S x (q ∷ ps) y))

-- sroa.rs 1548, `try_forward_store_chain`: the states behind a Store that is forwarded
unfoldable pub forward_store : Types → AggStates → Place → Value → Option AggStates
forward_store τ S p y = on_some (first_integer p.projections) (λ k. store_from τ S p.base p.projections y k)
