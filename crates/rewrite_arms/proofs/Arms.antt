-- The arms: what is found of an instruction, and the step that it is.
use Prim.Native.Nat.{ℕ, ◌+◌, ◌*◌, ◌≤◌, ◌<◌}
use mathlib.Core.Path.{◌≡◌, refl, ap, ◌∙◌}
use mathlib.Core.List.{List}
use mathlib.Core.Bool.{Bool, true, false, cond}
use mathlib.Core.Option.{Option, none, some}
use native.Mathlib.Omega.{arith}
use lib.ListN.{get_or, drop}
use lib.Seq.{get_or-drop}
use Rattle.bytes_wire.specs.Number.{at16, at32}
use Rattle.bytes_wire.specs.Value.{value_of}
use Rattle.bytes_wire.specs.WellFormed.{FitValue}
use Rattle.mir.specs.declared.Value.{Value}
use Rattle.mir.specs.declared.ValueId.{ValueId}
use Rattle.mir.specs.declared.TypeId.{TypeId}
use Rattle.bytes_wire.proofs.Canon.{bytes_drop, value_fit}
use Rattle.mir.specs.Syntax.{Place}
use Rattle.bytes_field.specs.declared.Bounds.{Bounds}
use Rattle.bytes_operands.specs.Fields.{value_size, value_end}
use Rattle.bytes_operands.proofs.EachKind.{At, at}
use Rattle.mir.specs.Lookup.{Types, row_of, is_aggregate, on_some}
use Rattle.rewrite.specs.State.{AggStates, state_of, chain, first_integer}
use Rattle.rewrite.specs.Rebuild.{aggregate_type}
use Rattle.rewrite.specs.Piece.{Piece}
use Rattle.rewrite.specs.Step.{step_extract, hand_on, step_loaded, step_load}
use Rattle.rewrite_chains.specs.Chained.{loaded_part}
use Rattle.rewrite_arms.specs.Decided.{Below, step_taken}

-- numbers behind `off` bytes
pub behind_16 : (off q : ℕ) (s : List ℕ) → at16 (drop off s) q ≡ at16 s (off + q)
behind_16 off q s = let z : off + (q + 1) ≡ off + q + 1 = omega arith in rw (get_or-drop off s q 0, get_or-drop off s (q + 1) 0, z) refl

pub behind_32 : (off q : ℕ) (s : List ℕ) → at32 (drop off s) q ≡ at32 s (off + q)
behind_32 off q s =
    let z : off + (q + 2) ≡ off + q + 2 = omega arith in
    ap (λ m. m + 65536 * at16 (drop off s) (q + 2)) (behind_16 off q s) ∙ ap (λ m. at16 s (off + q) + 65536 * m) (behind_16 off (q + 2) s ∙ ap (λ m. at16 s m) z)

-- the place behind a value
pub behind_value : (off q : ℕ) (s : List ℕ) → off + value_end (drop off s) q ≡ value_end s (off + q)
behind_value off q s = let z : value_size (get_or (drop off s) q 0) ≡ value_size (get_or s (off + q) 0) = ap value_size (get_or-drop off s q 0) in omega arith

-- a value that was read is one of those there are
operand_below : (next : ℕ) (x : Value) → FitValue next x → Below next x
operand_below next x f = record { each = λ v e. (rw e at f).0 }

pub value_below : (b : Bounds) (s : List ℕ) (off q : ℕ) (x : Value) → ((j : ℕ) → get_or s j 0 < 256) → b.next ≤ 256 → At (value_of b.next) (drop off s) q x → Below b.next x
value_below b s off q x h l (at n e) = operand_below b.next x (value_fit b.next (drop q (drop off s)) (bytes_drop (drop off s) q (bytes_drop s off h)) e (omega arith))

-- the same by the two ways of writing a step
pub taken_extract : (S : AggStates) (stay : Piece) (d : ValueId) (t : TypeId) (o : Option Value) → step_extract S stay d t o ≡ step_taken true S stay d t o
unfolding step_extract step_taken
taken_extract S stay d t none = refl
taken_extract S stay d t (some x) = refl

some_when : {A : Type 0} (c : Bool) (t : TypeId) (o : Option A) → on_some (cond c (some t) none) (λ u. o) ≡ cond c o none
unfolding on_some
some_when true t o = refl
some_when false t o = refl

pub whole_aggregate : {A : Type 0} (τ : Types) (t : TypeId) (whole : Bool) (o : Option A) → whole ≡ is_aggregate (row_of τ (some t)) → on_some (aggregate_type τ t) (λ u. o) ≡ cond whole o none
unfolding aggregate_type
whole_aggregate τ t whole o e = rw e (some_when (is_aggregate (row_of τ (some t))) t o)

loaded_taken : (τ : Types) (S : AggStates) (stay : Piece) (d : ValueId) (t : TypeId) (whole : Bool) (o : Option Value) → whole ≡ is_aggregate (row_of τ (some t)) → step_loaded τ S stay d t o ≡ step_taken whole S stay d t o
unfolding step_loaded step_taken
loaded_taken τ S stay d t whole none e = refl
loaded_taken τ S stay d t whole (some x) e = ap (hand_on S d t x) (whole_aggregate τ t whole (state_of S x) e)

load_first : (τ : Types) (S : AggStates) (stay : Piece) (d : ValueId) (p : Place) (t : TypeId) (whole : Bool) (k : Option ℕ) → whole ≡ is_aggregate (row_of τ (some t)) → step_load τ S stay d p t k ≡ step_taken whole S stay d t (on_some k (λ k. on_some (S p.base.0) (λ xs. chain τ S (Value.Operand p.base) p.projections)))
unfolding step_load on_some step_taken
load_first τ S stay d p t whole none e = refl
load_first τ S stay d p t whole (some k) e = loaded_taken τ S stay d t whole (on_some (S p.base.0) (λ xs. chain τ S (Value.Operand p.base) p.projections)) e

pub load_taken : (τ : Types) (S : AggStates) (stay : Piece) (d : ValueId) (p : Place) (t : TypeId) (whole : Bool) → whole ≡ is_aggregate (row_of τ (some t)) → step_load τ S stay d p t (first_integer p.projections) ≡ step_taken whole S stay d t (loaded_part τ S p)
unfolding loaded_part
load_taken τ S stay d p t whole e = load_first τ S stay d p t whole (first_integer p.projections) e
