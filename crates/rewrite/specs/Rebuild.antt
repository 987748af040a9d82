-- sroa.rs 1420, `materialize`: an aggregate is rebuilt, directly before what needs it, under the next value number.
use Rattle.std.specs.Prelude.{ℕ, zero, suc, ◌+◌, List, [], ◌∷◌, ◌++◌, false, cond, not, length, eqb}
use Rattle.std.proofs.Math.Bool as B
use Rattle.std.proofs.Math.Option.{Option, none, some}
use Rattle.bytes_wire.specs.Value.{unit}
use Rattle.mir.specs.declared.ValueId.{ValueId}
use Rattle.mir.specs.declared.TypeId.{TypeId}
use Rattle.mir.specs.declared.Value.{Value}
use Rattle.mir.specs.MirType.{StructField, MirType, Felt, Bool, U32, Tuple, Struct, FixedArray, Pointer, Function, Unit, Error, Unknown}
use Rattle.mir.specs.Syntax.{FieldInit, Instruction, InstructionKind, plain}
use Rattle.mir.specs.Lookup.{Types, row_of, recorded_type, is_aggregate}
use Rattle.rewrite.specs.declared.Fault.{Fault}
use Rattle.rewrite.specs.State.{AggStates, state_of}
use Rattle.rewrite.specs.Fault.{first_met, full_fault, lines_fault}

-- "a tuple rebuilt at a longer type gets Unit parts, at a shorter one loses its last"
unfoldable pub fitted : ℕ → List Value → List Value
fitted zero xs = []
fitted (suc k) [] = unit ∷ fitted k []
fitted (suc k) (x ∷ xs) = x ∷ fitted k xs

-- a struct's parts with the names of its fields
unfoldable pub named : List StructField → List Value → List FieldInit
named [] xs = []
named (f ∷ fs) [] = record { name = f.name; value = unit } ∷ named fs []
named (f ∷ fs) (x ∷ xs) = record { name = f.name; value = x } ∷ named fs xs

-- the rebuild's instruction; a type that is no aggregate has none
unfoldable pub rebuild_at : ValueId → List Value → TypeId → Option MirType → List Instruction
rebuild_at d xs t none = []
rebuild_at d xs t (some Felt) = []
rebuild_at d xs t (some Bool) = []
rebuild_at d xs t (some U32) = []
rebuild_at d xs t (some (Tuple ts)) = plain (InstructionKind.MakeTuple d (fitted (length ts) xs)) ∷ []
rebuild_at d xs t (some (Struct n fs)) = plain (InstructionKind.MakeStruct d (named fs xs) t) ∷ []
rebuild_at d xs t (some (FixedArray e size)) = plain (InstructionKind.MakeFixedArray d xs e false) ∷ []
rebuild_at d xs t (some (Pointer e)) = []
rebuild_at d xs t (some (Function ps r)) = []
rebuild_at d xs t (some Unit) = []
rebuild_at d xs t (some Error) = []
rebuild_at d xs t (some Unknown) = []

-- "an array of another count panics: refusal 10"
unfoldable pub clashes : List Value → Option MirType → B.Bool
clashes xs none = false
clashes xs (some Felt) = false
clashes xs (some Bool) = false
clashes xs (some U32) = false
clashes xs (some (Tuple ts)) = false
clashes xs (some (Struct n fs)) = false
clashes xs (some (FixedArray e size)) = not (eqb (length xs) size)
clashes xs (some (Pointer e)) = false
clashes xs (some (Function ps r)) = false
clashes xs (some Unit) = false
clashes xs (some Error) = false
clashes xs (some Unknown) = false

unfoldable pub clash_fault : List Value → Option MirType → Option Fault
clash_fault xs row = cond (clashes xs row) (some Fault.Clash) none

-- values in a list that may need rebuilds: the builds before, the values with fresh numbers put in, the types of the
-- fresh numbers in order, and the first fault, by how many instructions the block has before
pub record Rebuilt : Type 0 where
  pub before : List Instruction
  pub values : List Value
  pub fresh : List TypeId
  pub fault : ℕ → Option Fault

abbrev pub untouched : List Value → Rebuilt
untouched xs = record { before = []; values = xs; fresh = []; fault = λ l. none }

-- one value in front of others: kept, or rebuilt at a type from its parts
unfoldable pub keep_value : Value → Rebuilt → Rebuilt
keep_value x r = record { before = r.before; values = x ∷ r.values; fresh = r.fresh; fault = r.fault }

-- "15 as a number or instruction is added": number n, then the instructions behind l others, then what comes behind them
unfoldable pub added_fault : ℕ → ℕ → List Instruction → (ℕ → Option Fault) → Option Fault
added_fault n l is rest = first_met (full_fault n) (first_met (lines_fault l is) (rest (l + length is)))

-- "a rebuilt value takes the next value number, which rises by one, and its type is recorded"
unfoldable pub rebuild_value : Types → ℕ → TypeId → List Value → Rebuilt → Rebuilt
rebuild_value τ n t xs r =
    let is = rebuild_at (record { 0 = n }) xs t (row_of τ (some t)) in
    record {
      before = is ++ r.before;
      values = Value.Operand (record { 0 = n }) ∷ r.values;
      fresh = t ∷ r.fresh;
      fault = λ l. first_met (clash_fault xs (row_of τ (some t))) (added_fault n l is r.fault);
    }

-- where a type is asked for and the value is tracked, it is rebuilt
unfoldable pub one_value : Types → ℕ → Value → (ℕ → Rebuilt) → Option TypeId → Option (List Value) → Rebuilt
one_value τ n x rest none s = keep_value x (rest n)
one_value τ n x rest (some t) none = keep_value x (rest n)
one_value τ n x rest (some t) (some xs) = rebuild_value τ n t xs (rest (suc n))

-- each value with the type at which it is rebuilt, if any
pub record Wanted : Type 0 where
  pub value : Value
  pub at : Option TypeId

-- the values in order: each rebuild takes the next number
unfoldable pub rebuild_all : Types → AggStates → ℕ → List Wanted → Rebuilt
rebuild_all τ S n [] = untouched []
rebuild_all τ S n (w ∷ ws) = one_value τ n w.value (λ m. rebuild_all τ S m ws) w.at (state_of S w.value)

-- a type that is an aggregate, else none
unfoldable pub aggregate_type : Types → TypeId → Option TypeId
aggregate_type τ t = cond (is_aggregate (row_of τ (some t))) (some t) none

-- sroa.rs 1265 to 1273: a Call's arguments at the parameter types; those past the parameter types are not rebuilt
unfoldable pub wanted_arguments : Types → List Value → List TypeId → List Wanted
wanted_arguments τ [] ts = []
wanted_arguments τ (x ∷ xs) [] = record { value = x; at = none } ∷ wanted_arguments τ xs []
wanted_arguments τ (x ∷ xs) (t ∷ ts) = record { value = x; at = aggregate_type τ t } ∷ wanted_arguments τ xs ts

-- a returned value at its recorded type
unfoldable pub return_type : Types → Value → Option TypeId
return_type τ (Value.Literal l) = none
return_type τ (Value.Operand v) = recorded_type τ v
return_type τ Value.Error = none

-- sroa.rs 1324 to 1332: a Return's values, each at its recorded type, aggregate or not
unfoldable pub wanted_returns : Types → List Value → List Wanted
wanted_returns τ [] = []
wanted_returns τ (x ∷ xs) = record { value = x; at = return_type τ x } ∷ wanted_returns τ xs
