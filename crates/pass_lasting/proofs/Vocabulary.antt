-- The words of the proofs: what holds of all that is tracked, values with one recorded type, and rebuilds that read what is defined before.
use mathlib.Core.Path.{◌≡◌}
use Prim.Native.Nat.{ℕ, suc, ◌+◌}
use mathlib.Core.Bool.{Bool, false, ◌&&◌}
use mathlib.Core.Option.{Option, some}
use mathlib.Core.List.{List, [], ◌∷◌, ◌++◌}
use lib.Dec.{T, ltb}
use lib.ListN.{length, get_elem?}
use Rattle.mir.specs.declared.ValueId.{ValueId}
use Rattle.mir.specs.declared.TypeId.{TypeId}
use Rattle.mir.specs.declared.Value.{Value}
use Rattle.mir.specs.Syntax.{Instruction, Assign}
use Rattle.mir.specs.Reads.{operands, reads, dests}
use Rattle.mir.specs.Lookup.{Types, row_of, recorded_type, struct_fields_of}
use Rattle.fold.specs.declared.Settings.{Settings}
use Rattle.rewrite.specs.State.{AggStates}
use Rattle.rewrite.specs.Rebuild.{Rebuilt}
use Rattle.rewrite.specs.declared.Counts.{Counts}
use Rattle.rewrite.specs.Piece.{Piece, left, assigned}
use Rattle.rewrite.specs.Stays.{stays}
use Rattle.shelf.specs.Lists.{every}
use Rattle.shelf.specs.Reads.{counted_reads}
use Rattle.shelf.specs.Agrees.{agrees, counted_agrees}
use Rattle.machine_simulation.specs.Typing.{TypedStates}
use Rattle.machine_simulation.specs.Static.{fields_once}
use Rattle.machine_simulation.proofs.Retype.{retyped, Alike}
use Rattle.machine_simulation.proofs.Invariant.{numbered}

-- ---- what is tracked

-- what holds of the numbers that the parts of all that is tracked read
abbrev pub AllParts : (ℕ → Bool) → AggStates → Type 0
AllParts q S = (v : ℕ) (xs : List Value) → S v ≡ some xs → T (every (λ u. q u.0) (operands xs))

-- a part of something tracked
pub data PartOf (S : AggStates) : Value → Type 0 where
  part_of : (v : ℕ) (xs : List Value) (k : ℕ) (x : Value) → S v ≡ some xs → get_elem? xs k ≡ some x → PartOf S x

-- what a step makes of an instruction: what becomes of one that stays, nothing, or an Assign of a part, at a type that fits
pub data Shown (σ : Settings) (τ : Types) (S : AggStates) (n : ℕ) (i : Instruction) : Piece → Type 0 where
  stays_so : Shown σ τ S n i (stays σ τ S n i)
  left_out : (c : Counts) (ds : List ValueId) (S' : AggStates) → Shown σ τ S n i (left c ds S')
  assigned_so : (c : Counts) (d : ValueId) (x : Value) (t : TypeId) → dests i.kind ≡ d ∷ [] → PartOf S x
      → (TypedStates τ S → T (counted_agrees false τ i.kind) → T (agrees τ (Assign d x t)))
      → Shown σ τ S n i (assigned c S d x t)

-- ---- types

-- y stands where x did: it is x, or both are operands with one recorded type
pub data TypeTwin (τ : Types) : Value → Value → Type 0 where
  unmoved : (x : Value) → TypeTwin τ x x
  anew : (v n : ValueId) → recorded_type τ n ≡ recorded_type τ v → TypeTwin τ (Value.Operand v) (Value.Operand n)

-- one by one
abbrev pub TypeTwins : Types → List Value → List Value → Type 0
TypeTwins τ [] [] = Unit {0}
TypeTwins τ [] (y ∷ ys) = ⊥
TypeTwins τ (x ∷ xs) [] = ⊥
TypeTwins τ (x ∷ xs) (y ∷ ys) = TypeTwin τ x y × TypeTwins τ xs ys

-- the types of the original and as the rewritten routine records them; the first fresh number, below which they are alike
pub record Table : Type 0 where
  pub types : Types
  pub later : List (Option TypeId)
  pub m : ℕ
  pub alike : (v : ValueId) → T (ltb v.0 m) → Alike types later v
  pub names : (t : TypeId) → T (fields_once (struct_fields_of (row_of types (some t))))

-- the types as the rewritten routine records them
abbrev pub types_later : Table → Types
types_later κ = retyped κ.types κ.later

-- rebuilds that agree with the types, and what then stands for the values
pub record AgreeBefore (κ : Table) (xs : List Value) (r : Rebuilt) : Type 0 where
  pub builds : T (every (λ i. agrees (types_later κ) i.kind) r.before)
  pub twins : TypeTwins (types_later κ) xs r.values

-- ---- order

-- a value that is defined before number n is taken, and passes a test
abbrev pub early : (ℕ → Bool) → ℕ → ValueId → Bool
early q n v = ltb v.0 n && q v.0

-- from number n up to m, each taken for one rebuild that reads what is early, or in a Return for none
pub data Calm (q : ℕ → Bool) : ℕ → List Instruction → ℕ → Type 0 where
  none : {n : ℕ} → Calm q n [] n
  build : {n m : ℕ} {i : Instruction} {is : List Instruction} → dests i.kind ≡ numbered n ∷ []
      → T (every (early q n) (reads i.kind)) → Calm q (suc n) is m → Calm q n (i ∷ is) m
  bare : {n m : ℕ} {is : List Instruction} → Calm q (suc n) is m → Calm q n is m

-- rebuilds of values from number n on; behind them the values are early, if they were
pub record CalmBefore (q : ℕ → Bool) (low n : ℕ) (xs : List Value) (r : Rebuilt) : Type 0 where
  pub before : Calm q n r.before (n + length r.fresh)
  pub values : T (every (early q low) (operands xs)) → T (every (early q (n + length r.fresh)) (operands r.values))

-- what a step puts out for an instruction: nothing, or rebuilds and then one that defines the same and reads what is early
pub data InOrder (debug : Bool) (q : ℕ → Bool) (n : ℕ) (i : Instruction) (p : Piece) : Type 0 where
  gone : p.out ≡ [] → InOrder debug q n i p
  stands : (bs : List Instruction) (j : Instruction) → p.out ≡ bs ++ (j ∷ []) → Calm q n bs (n + length p.fresh)
      → dests j.kind ≡ dests i.kind → T (every (early q (n + length p.fresh)) (counted_reads debug j.kind))
      → InOrder debug q n i p
