-- Edition 2 (document 02, wish 5): "each of them rebuilt first at its recorded type, the tracked parts it keeps before the whole".
use Rattle.std.specs.Prelude.{ℕ, zero, suc, ◌+◌, List, [], ◌∷◌, ◌++◌, false, cond, length, take, replicate}
use Rattle.std.proofs.Math.Option.{Option, none, some}
use Rattle.mir.specs.declared.TypeId.{TypeId}
use Rattle.mir.specs.declared.Value.{Value}
use Rattle.mir.specs.MirType.{MirType, Felt, Bool, U32, Tuple, Struct, FixedArray, Pointer, Function, Unit, Error, Unknown}
use Rattle.mir.specs.Lookup.{Types, row_of, on_some}
use Rattle.fold.specs.Family.{Marks, marked, mark}
use Rattle.rewrite.specs.declared.Fault.{Fault}
use Rattle.rewrite.specs.State.{AggStates, state_of}
use Rattle.rewrite.specs.Fault.{first_met}
use Rattle.rewrite.specs.Rebuild.{Rebuilt, Wanted, untouched, keep_value, rebuild_at, clash_fault, added_fault, rebuild_all, aggregate_type, return_type}

-- "rebuilt .. at its recorded type"; "not rebuilt are a tracked value with no recorded aggregate type"
unfoldable pub own_type : Types → Value → Option TypeId
own_type τ x = on_some (return_type τ x) (aggregate_type τ)

-- values, each at its own type
unfoldable pub wanted_own : Types → List Value → List Wanted
wanted_own τ [] = []
wanted_own τ (x ∷ xs) = record { value = x; at = own_type τ x } ∷ wanted_own τ xs

-- the parts that a rebuild keeps at a type: "a tuple rebuilt .. at a shorter one loses its last"
unfoldable pub kept_parts : Option MirType → List Value → List Value
kept_parts none xs = xs
kept_parts (some Felt) xs = xs
kept_parts (some Bool) xs = xs
kept_parts (some U32) xs = xs
kept_parts (some (Tuple ts)) xs = take (length ts) xs
kept_parts (some (Struct n fs)) xs = take (length fs) xs
kept_parts (some (FixedArray e size)) xs = xs
kept_parts (some (Pointer e)) xs = xs
kept_parts (some (Function ps r)) xs = xs
kept_parts (some Unit) xs = xs
kept_parts (some Error) xs = xs
kept_parts (some Unknown) xs = xs

-- 14 "when rebuilding a value meets that value among its own parts": it is among those whose rebuild has begun and not ended
unfoldable pub loop_fault : Marks → Value → Option Fault
loop_fault path (Value.Literal l) = none
loop_fault path (Value.Operand v) = cond (marked path v) (some Fault.Looped) none
loop_fault path Value.Error = none

-- those begun, and one more
unfoldable pub begun : Marks → Value → Marks
begun path (Value.Literal l) = path
begun path (Value.Operand v) = mark path v
begun path Value.Error = path

-- "the tracked parts it keeps before the whole": the parts p are rebuilt, then the whole of type t, then comes the rest.
-- "10 and 14 are tested as a rebuild begins, before its parts"
unfoldable pub whole_then : Types → Option Fault → ℕ → TypeId → List Value → Rebuilt → (ℕ → Rebuilt) → Rebuilt
whole_then τ begins n t xs p rest =
    let m = n + length p.fresh in
    let is = rebuild_at (record { 0 = m }) p.values t (row_of τ (some t)) in
    let r = rest (suc m) in
    record {
      before = p.before ++ (is ++ r.before);
      values = Value.Operand (record { 0 = m }) ∷ r.values;
      fresh = p.fresh ++ (t ∷ r.fresh);
      fault = λ l.
          first_met begins
          (first_met (clash_fault xs (row_of τ (some t)))
          (first_met (p.fault l)
          (added_fault m (l + length p.before) is r.fault)));
    }

-- how the parts of a value are rebuilt, from a number on
abbrev pub Inner : Type 0
Inner = Value → ℕ → List Wanted → Rebuilt

-- one value, in front of others
unfoldable pub deep_value : Types → Marks → Inner → ℕ → Value → (ℕ → Rebuilt) → Option TypeId → Option (List Value) → Rebuilt
deep_value τ path inner n x rest none s = keep_value x (rest n)
deep_value τ path inner n x rest (some t) none = keep_value x (rest n)
deep_value τ path inner n x rest (some t) (some xs) =
    let parts = inner x n (wanted_own τ (kept_parts (row_of τ (some t)) xs)) in
    whole_then τ (loop_fault path x) n t xs parts rest

-- the values in order, each with its parts before it
unfoldable pub deep_values : Types → AggStates → Marks → Inner → ℕ → List Wanted → Rebuilt
deep_values τ S path inner n [] = untouched []
deep_values τ S path inner n (w ∷ ws) = deep_value τ path inner n w.value (λ m. deep_values τ S path inner m ws) w.at (state_of S w.value)

-- the values in order, their parts as deep as there are values: a rebuild deeper than that has met 14
unfoldable pub deep_all : Types → AggStates → ℕ → Marks → ℕ → List Wanted → Rebuilt
deep_all τ S zero path n ws = rebuild_all τ S n ws
deep_all τ S (suc k) path n ws = deep_values τ S path (λ x. deep_all τ S k (begun path x)) n ws

-- with nothing begun
unfoldable pub rebuild_deep : Types → AggStates → ℕ → List Wanted → Rebuilt
rebuild_deep τ S n ws = deep_all τ S (suc (length τ.recorded)) (replicate (length τ.recorded) false) n ws
