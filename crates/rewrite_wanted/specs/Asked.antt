-- At which types values are asked for, and what is told of one.
use Rattle.std.specs.Prelude.{ℕ, suc, ◌*◌, ◌<◌, ◌≡◌, List, [], ◌∷◌, cond, length, drop, ltb, Some, None, Option as Answered}
use Rattle.std.proofs.Math.Option.{Option, none, some}
use Rattle.bytes_wire.specs.Number.{at16}
use Rattle.bytes_wire.specs.WellFormed.{FitValue}
use Rattle.mir.specs.declared.ValueId.{ValueId}
use Rattle.mir.specs.declared.TypeId.{TypeId}
use Rattle.mir.specs.declared.Value.{Value}
use Rattle.bytes_index.specs.declared.code.Code.{Code}
use Rattle.mir.specs.Option.{as_option}
use Rattle.fold.specs.Family.{Marks}
use Rattle.mir.specs.Lookup.{Types}
use Rattle.rewrite.specs.State.{AggStates, state_of}
use Rattle.rewrite.specs.Rebuild.{Rebuilt, Wanted, keep_value, one_value, aggregate_type, return_type}
use Rattle.rewrite.specs.Deep.{own_type}
use Rattle.rewrite_parts.specs.Rows.{ValueAt, Rep}
use Rattle.fold.specs.Tables.{CodeGround}
use Rattle.rewrite_wanted.specs.declared.Asks.{Asks}
use Rattle.rewrite_wanted.specs.declared.Build.{Build}

-- the tables say what is tracked, and which types there are and which are recorded
pub record Setting (code : Code) (tracked : Marks) (rows : List ℕ) (τ : Types) (S : AggStates) : Type 0 where
  pub used : ℕ
  pub ground : CodeGround code τ
  pub rep : Rep code.bounds.next code.bytes.now tracked rows used S

-- the type asked of value i, which is x: the i-th of the types that stand in t, or its recorded type, or that where it is an aggregate
abbrev pub asked_at : Types → List ℕ → Asks → ℕ → Value → Option TypeId
asked_at τ t (Asks.Types at n) i x = cond (ltb i n) (aggregate_type τ (record { 0 = at16 (drop at t) (2 * i) })) none
asked_at τ t Asks.Recorded i x = return_type τ x
asked_at τ t Asks.Own i x = own_type τ x

-- values from number i on, each with the type asked for
unfoldable pub asked_list : Types → List ℕ → Asks → ℕ → List Value → List Wanted
asked_list τ t a i [] = []
asked_list τ t a i (x ∷ xs) = record { value = x; at = asked_at τ t a i x } ∷ asked_list τ t a (suc i) xs

-- what is told of the value x where o is asked for: it stays, or it is an operand that is rebuilt
pub data Told (τ : Types) (S : AggStates) (x : Value) (o : Option TypeId) : Answered Build → Type 0 where
  stays : ((n : ℕ) (rest : ℕ → Rebuilt) → one_value τ n x rest o (state_of S x) ≡ keep_value x (rest n)) → Told τ S x o None
  build : (v : ValueId) (t : TypeId) (xs : List Value)
      → x ≡ Value.Operand v
      → o ≡ some t
      → S v.0 ≡ some xs
      → t.0 < length τ.rows
      → Told τ S x o (Some (record { value = v; named = t }))

-- what is told of value i of a list, which stands at place `at` of t
abbrev pub WantedAt : Code → List ℕ → ℕ → Marks → Asks → ℕ → Answered Build → Type 0
WantedAt code t at tracked asks i r =
    (τ : Types) (S : AggStates) (rows : List ℕ) (x : Value)
    → Setting code tracked rows τ S
    → ValueAt code.bounds.next t at x
    → Told τ S x (asked_at τ t asks i x) r

-- what is told of the value x where its own type is asked for
abbrev pub OwnWanted : Code → Marks → Value → Answered Build → Type 0
OwnWanted code tracked x r =
    (τ : Types) (S : AggStates) (rows : List ℕ)
    → Setting code tracked rows τ S
    → FitValue code.bounds.next x
    → Told τ S x (own_type τ x) r

-- the type t where it is an aggregate
abbrev pub AggregateOf : Code → TypeId → Answered TypeId → Type 0
AggregateOf code t r = (τ : Types) → CodeGround code τ → as_option r ≡ aggregate_type τ t

-- the recorded type of v
abbrev pub RecordedOf : Code → ValueId → Answered TypeId → Type 0
RecordedOf code v r =
    (τ : Types)
    → CodeGround code τ
    → v.0 < code.bounds.next
    → as_option r ≡ return_type τ (Value.Operand v)

-- and that where it is an aggregate
abbrev pub OwnTypeOf : Code → ValueId → Answered TypeId → Type 0
OwnTypeOf code v r =
    (τ : Types)
    → CodeGround code τ
    → v.0 < code.bounds.next
    → as_option r ≡ own_type τ (Value.Operand v)

-- the type asked of value i, the operand v
abbrev pub TypeAsked : Code → List ℕ → Asks → ValueId → ℕ → Answered TypeId → Type 0
TypeAsked code t asks v i r =
    (τ : Types)
    → CodeGround code τ
    → v.0 < code.bounds.next
    → as_option r ≡ asked_at τ t asks i (Value.Operand v)
