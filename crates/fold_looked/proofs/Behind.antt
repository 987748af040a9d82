-- What phis add to the copies of a block and to its dynamic marks: nothing.
use Prim.Native.Nat.{suc, ◌≤◌}
use mathlib.Core.Path.{◌≡◌, refl, sym}
use mathlib.Core.List.{List, [], ◌∷◌}
use mathlib.Core.Bool.{Bool, true, false, cond, true≢false}
use mathlib.Core.Option.{none}
use native.Mathlib.Omega.{arith}
use lib.ListN.{length}
use Rattle.mir.specs.Syntax.{Instruction, InstructionKind}
use Rattle.mir.specs.Syntax.{Assign, UnaryOp, BinaryOp, Call, Cast, Load, Store, Debug, Nop, Phi}
use Rattle.mir.specs.Syntax.{MakeTuple, ExtractTupleElement, MakeStruct, ExtractStructField}
use Rattle.mir.specs.Syntax.{InsertField, InsertTuple, MakeFixedArray, AssertEq, HeapAllocCells}
use Rattle.mir.specs.Reads.{is_phi}
use Rattle.mir.specs.Lookup.{Types}
use Rattle.mir.specs.Phis.{behind_phis}
use Rattle.fold.specs.Family.{Marks, accessed}
use Rattle.fold_family.specs.Copies.{copy_of, copies, dynamics}

-- a phi copies nothing and looks into nothing
phi_plain : (τ : Types) (i : InstructionKind) → is_phi i ≡ true → (copy_of τ i ≡ none) × (accessed i ≡ none)
unfolding accessed
phi_plain τ (Assign d x t) h = absurd (true≢false (sym h))
phi_plain τ (UnaryOp op d x) h = absurd (true≢false (sym h))
phi_plain τ (BinaryOp op d x y) h = absurd (true≢false (sym h))
phi_plain τ (Call ds f xs ps rs) h = absurd (true≢false (sym h))
phi_plain τ (Cast d x t u) h = absurd (true≢false (sym h))
phi_plain τ (Load d p t) h = absurd (true≢false (sym h))
phi_plain τ (Store p x t) h = absurd (true≢false (sym h))
phi_plain τ (Debug n xs) h = absurd (true≢false (sym h))
phi_plain τ Nop h = absurd (true≢false (sym h))
phi_plain τ (Phi d t ss) h = (refl, refl)
phi_plain τ (MakeTuple d xs) h = absurd (true≢false (sym h))
phi_plain τ (ExtractTupleElement d x k t) h = absurd (true≢false (sym h))
phi_plain τ (MakeStruct d fs t) h = absurd (true≢false (sym h))
phi_plain τ (ExtractStructField d x n t) h = absurd (true≢false (sym h))
phi_plain τ (InsertField d x n y t) h = absurd (true≢false (sym h))
phi_plain τ (InsertTuple d x k y t) h = absurd (true≢false (sym h))
phi_plain τ (MakeFixedArray d xs t c) h = absurd (true≢false (sym h))
phi_plain τ (AssertEq x y) h = absurd (true≢false (sym h))
phi_plain τ (HeapAllocCells d x) h = absurd (true≢false (sym h))

pub copies_behind : (τ : Types) (is : List Instruction) → copies τ is ≡ copies τ (behind_phis is)
unfolding copies behind_phis
copies_behind τ [] = refl
copies_behind τ (i ∷ is) = go (copies_behind τ is) (is_phi i.kind) refl
  where
    go : copies τ is ≡ copies τ (behind_phis is) → (b : Bool) → is_phi i.kind ≡ b → copies τ (i ∷ is) ≡ copies τ (cond b (behind_phis is) (i ∷ is))
    go ih true e = rw (phi_plain τ i.kind e).0 ih
    go ih false e = refl

pub dynamics_behind : (τ : Types) (m : Marks) (is : List Instruction) → dynamics m is ≡ dynamics m (behind_phis is)
unfolding dynamics behind_phis
dynamics_behind τ m [] = refl
dynamics_behind τ m (i ∷ is) = go (dynamics_behind τ m is) (is_phi i.kind) refl
  where
    go : dynamics m is ≡ dynamics m (behind_phis is) → (b : Bool) → is_phi i.kind ≡ b → dynamics m (i ∷ is) ≡ dynamics m (cond b (behind_phis is) (i ∷ is))
    go ih true e = rw (phi_plain τ i.kind e).1 ih
    go ih false e = refl

-- and there are no more instructions behind them
pub behind_few : (is : List Instruction) → length (behind_phis is) ≤ length is
unfolding behind_phis
behind_few [] = omega arith
behind_few (i ∷ is) = go (is_phi i.kind) (behind_few is)
  where
    go : (b : Bool) → length (behind_phis is) ≤ length is → length (cond b (behind_phis is) (i ∷ is)) ≤ suc (length is)
    go true h = omega (arith, h)
    go false h = omega arith
