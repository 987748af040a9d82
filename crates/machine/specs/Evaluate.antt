-- What values are read as. "The machine stops at an unwritten value": none. An Error met as a value stops alike.
use Rattle.std.specs.Prelude.{ℕ, zero, suc, List, [], ◌∷◌}
use Rattle.std.proofs.Math.Option.{Option, none, some}
use Rattle.mir.specs.declared.Value.{Value}
use Rattle.mir.specs.MirType.{MirType}
use Rattle.mir.specs.declared.Projection.{Projection}
use Rattle.mir.specs.declared.Projection.TheVariants.{Index, Field, Tuple}
use Rattle.machine.specs.Values.{Val, Vals, ends, cons_val}
use Rattle.machine.specs.Meaning.{Meaning}
use Rattle.machine.specs.Records.{Env, Step, index, field, tuple}

-- a value that stands at a row, if at any
unfoldable pub eval : {A : Type 0} → Meaning A → Env A → Option MirType → Value → Option (Val A)
eval M E row (Value.Literal l) = some (M.literal l row)
eval M E row (Value.Operand v) = E v.0
eval M E row Value.Error = none

-- values in a list, value k at the row of k
unfoldable pub eval_all : {A : Type 0} → Meaning A → Env A → (ℕ → Option MirType) → List Value → Option (Vals A)
eval_all M E rows [] = some ends
eval_all M E rows (x ∷ xs) = cons_val (eval M E (rows zero) x) (eval_all M E (λ k. rows (suc k)) xs)

-- an Index with its value
unfoldable pub indexed : {A : Type 0} → Option (Val A) → Option (Step A)
indexed none = none
indexed (some x) = some (index x)

-- one step of a place; an Index value stands at no type
unfoldable pub eval_step : {A : Type 0} → Meaning A → Env A → Projection → Option (Step A)
eval_step M E (Index x) = indexed (eval M E none x)
eval_step M E (Field n) = some (field n)
eval_step M E (Tuple k) = some (tuple k)

-- a step in front of others, if all are read
unfoldable pub cons_step : {A : Type 0} → Option (Step A) → Option (List (Step A)) → Option (List (Step A))
cons_step none ss = none
cons_step (some s) none = none
cons_step (some s) (some ss) = some (s ∷ ss)

-- the steps of a place
unfoldable pub eval_steps : {A : Type 0} → Meaning A → Env A → List Projection → Option (List (Step A))
eval_steps M E [] = some []
eval_steps M E (p ∷ ps) = cons_step (eval_step M E p) (eval_steps M E ps)
