-- Phis: what they read, and tests of a block's phis and of what is behind them.
use mathlib.Core.Path.{◌≡◌, sym, ap, ◌∙◌}
use Prim.Native.Nat.{ℕ}
use mathlib.Core.Bool.{Bool, true, false, not}
use mathlib.Core.Option.{Option, none, some}
use mathlib.Core.List.{List, [], ◌∷◌}
use lib.Dec.{T, eqb, ltb}
use Rattle.mir.specs.declared.ValueId.{ValueId}
use Rattle.mir.specs.declared.Value.{Value}
use Rattle.mir.specs.Syntax.{Instruction, InstructionKind, Assign, UnaryOp, BinaryOp, Call, Cast, Load, Store, Debug, Nop, Phi}
use Rattle.mir.specs.Syntax.{MakeTuple, ExtractTupleElement, MakeStruct, ExtractStructField, InsertField, InsertTuple, MakeFixedArray, AssertEq, HeapAllocCells, Source}
use Rattle.mir.specs.Reads.{operand, operands, reads, dests, counted, source_values, is_phi}
use Rattle.mir.specs.declared.BlockId.{BlockId}
use Rattle.mir.specs.Phis.{behind_phis, phis_of, PhiOf, phi_of}
use Rattle.machine.specs.Run.{source_for, source_from}
use Rattle.shelf.specs.Lists.{every}
use Rattle.shelf.specs.Reads.{counted_reads, clean}
use Rattle.machine_simulation.specs.Static.{below}
use Rattle.machine_simulation.proofs.Tools.{both_l, both_r, both, none_some, split, passes, fails, cond_yes, cond_no}
use Rattle.machine_simulation.proofs.Frame.{test_head, test_rest}

-- ---- phis

-- a phi reads its sources
pub phi_reads : (k : InstructionKind) (p : PhiOf) → phi_of k ≡ some p → reads k ≡ operands (source_values p.sources)
unfolding phi_of
phi_reads (Assign d x t) p e = absurd (none_some e)
phi_reads (UnaryOp op d x) p e = absurd (none_some e)
phi_reads (BinaryOp op d x y) p e = absurd (none_some e)
phi_reads (Call ds f xs ps rs) p e = absurd (none_some e)
phi_reads (Cast d x t u) p e = absurd (none_some e)
phi_reads (Load d q t) p e = absurd (none_some e)
phi_reads (Store q x t) p e = absurd (none_some e)
phi_reads (Debug m xs) p e = absurd (none_some e)
phi_reads Nop p e = absurd (none_some e)
phi_reads (Phi d t ss) p e = let q : record { dest = d; type = t; sources = ss } ≡ p = cc in ap (λ (z : PhiOf). operands (source_values z.sources)) q
phi_reads (MakeTuple d xs) p e = absurd (none_some e)
phi_reads (ExtractTupleElement d x k t) p e = absurd (none_some e)
phi_reads (MakeStruct d fs t) p e = absurd (none_some e)
phi_reads (ExtractStructField d x n t) p e = absurd (none_some e)
phi_reads (InsertField d x n y t) p e = absurd (none_some e)
phi_reads (InsertTuple d x k y t) p e = absurd (none_some e)
phi_reads (MakeFixedArray d xs t c) p e = absurd (none_some e)
phi_reads (AssertEq x y) p e = absurd (none_some e)
phi_reads (HeapAllocCells d x) p e = absurd (none_some e)

-- a phi's reads count
pub phi_counted : (debug : Bool) (k : InstructionKind) (p : PhiOf) → phi_of k ≡ some p → T (counted debug k)
unfolding phi_of
phi_counted true k p e = tt
phi_counted false (Assign d x t) p e = absurd (none_some e)
phi_counted false (UnaryOp op d x) p e = absurd (none_some e)
phi_counted false (BinaryOp op d x y) p e = absurd (none_some e)
phi_counted false (Call ds f xs ps rs) p e = absurd (none_some e)
phi_counted false (Cast d x t u) p e = absurd (none_some e)
phi_counted false (Load d q t) p e = absurd (none_some e)
phi_counted false (Store q x t) p e = absurd (none_some e)
phi_counted false (Debug m xs) p e = absurd (none_some e)
phi_counted false Nop p e = absurd (none_some e)
phi_counted false (Phi d t ss) p e = tt
phi_counted false (MakeTuple d xs) p e = absurd (none_some e)
phi_counted false (ExtractTupleElement d x k t) p e = absurd (none_some e)
phi_counted false (MakeStruct d fs t) p e = absurd (none_some e)
phi_counted false (ExtractStructField d x n t) p e = absurd (none_some e)
phi_counted false (InsertField d x n y t) p e = absurd (none_some e)
phi_counted false (InsertTuple d x k y t) p e = absurd (none_some e)
phi_counted false (MakeFixedArray d xs t c) p e = absurd (none_some e)
phi_counted false (AssertEq x y) p e = absurd (none_some e)
phi_counted false (HeapAllocCells d x) p e = absurd (none_some e)

-- the source that is taken is one of them
source_in : (q : ValueId → Bool) (b : BlockId) (ss : List Source) (x : Value) → T (every q (operands (source_values ss))) → source_for b ss ≡ some x
    → T (every q (operand x []))
unfolding source_for
source_in q b [] x t e = absurd (none_some e)
source_in q b (s ∷ ss) x t e =
    elim (split (eqb b.0 s.block.0)) [
      | passes y ↦ let z : s.value ≡ x = got (sym (cond_yes (eqb b.0 s.block.0) (some s.value) (source_for b ss) y) ∙ e) in
          rw (← z) (test_head q s.value (operands (source_values ss)) t)
      | fails y ↦ source_in q b ss x (test_rest q s.value (operands (source_values ss)) t) (sym (cond_no (eqb b.0 s.block.0) (some s.value) (source_for b ss) y) ∙ e)
    ]
  where
    got : some s.value ≡ some x → s.value ≡ x
    got z = cc

-- so it is from the block just left
pub from_in : (q : ValueId → Bool) (came : Option BlockId) (ss : List Source) (x : Value) → T (every q (operands (source_values ss)))
    → source_from came ss ≡ some x → T (every q (operand x []))
unfolding source_from
from_in q none ss x t e = absurd (none_some e)
from_in q (some b) ss x t e = source_in q b ss x t e

-- ---- tests of the phis and of what is behind them

-- numbers below next, behind the phis
pub below_behind : (m : ℕ) (is : List Instruction) → T (below m is) → T (below m (behind_phis is))
unfolding below behind_phis
below_behind m [] t = t
below_behind m (i ∷ is) t =
    elim (split (is_phi i.kind)) [
      | passes y ↦ rw (cond_yes (is_phi i.kind) (behind_phis is) (i ∷ is) y) (below_behind m is (search (both_l, both_r)))
      | fails y ↦ rw (cond_no (is_phi i.kind) (behind_phis is) (i ∷ is) y) t
    ]

-- and of the phis
pub below_phis : (m : ℕ) (is : List Instruction) → T (below m is) → T (below m (phis_of is))
unfolding below phis_of
below_phis m [] t = tt
below_phis m (i ∷ is) t =
    let a : T (every (λ v. ltb v.0 m) (reads i.kind)) = search (both_l) in
    let b : T (every (λ v. ltb v.0 m) (dests i.kind)) = search (both_l, both_r) in
    let c : T (below m is) = search (both_l, both_r) in
    elim (split (is_phi i.kind)) [
      | passes y ↦ rw (cond_yes (is_phi i.kind) (i ∷ phis_of is) [] y)
          (both (every (λ v. ltb v.0 m) (reads i.kind)) _ a (both (every (λ v. ltb v.0 m) (dests i.kind)) (below m (phis_of is)) b (below_phis m is c)))
      | fails y ↦ rw (cond_no (is_phi i.kind) (i ∷ phis_of is) [] y) tt
    ]

-- reason 5, behind the phis
pub clean_behind : (b : Bool) (dr : ℕ → Bool) (is : List Instruction) → T (clean b dr is) → T (clean b dr (behind_phis is))
unfolding clean behind_phis
clean_behind b dr [] t = t
clean_behind b dr (i ∷ is) t =
    elim (split (is_phi i.kind)) [
      | passes y ↦ rw (cond_yes (is_phi i.kind) (behind_phis is) (i ∷ is) y) (clean_behind b dr is (both_r (every (λ v. not (dr v.0)) (counted_reads b i.kind)) (clean b dr is) t))
      | fails y ↦ rw (cond_no (is_phi i.kind) (behind_phis is) (i ∷ is) y) t
    ]

-- and of the phis
pub clean_phis : (b : Bool) (dr : ℕ → Bool) (is : List Instruction) → T (clean b dr is) → T (clean b dr (phis_of is))
unfolding clean phis_of
clean_phis b dr [] t = tt
clean_phis b dr (i ∷ is) t =
    elim (split (is_phi i.kind)) [
      | passes y ↦ rw (cond_yes (is_phi i.kind) (i ∷ phis_of is) [] y)
          (both (every (λ v. not (dr v.0)) (counted_reads b i.kind)) (clean b dr (phis_of is)) (both_l (every (λ v. not (dr v.0)) (counted_reads b i.kind)) (clean b dr is) t) (clean_phis b dr is (both_r (every (λ v. not (dr v.0)) (counted_reads b i.kind)) (clean b dr is) t)))
      | fails y ↦ rw (cond_no (is_phi i.kind) (i ∷ phis_of is) [] y) tt
    ]
