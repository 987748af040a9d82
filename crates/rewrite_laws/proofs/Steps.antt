-- Each kind's step, and the walk over a block.
use Prim.Native.Nat.{ℕ, ◌+◌, ◌≤◌}
use mathlib.Core.Path.{◌≡◌}
use mathlib.Core.List.{List, [], ◌∷◌, ◌++◌}
use mathlib.Core.Bool.{Bool, false, not, ◌&&◌, ◌||◌}
use mathlib.Core.Option.{some}
use native.Mathlib.Omega.{arith}
use lib.ListN.{length, get_elem?, length-append}
use Rattle.bytes_wire.specs.WellFormed.{FitValue}
use Rattle.mir.specs.declared.ValueId.{ValueId}
use Rattle.mir.specs.Syntax.{Instruction, InstructionKind, Assign, UnaryOp, BinaryOp, Call, Cast, Load, Store, Debug, Nop, Phi}
use Rattle.mir.specs.Syntax.{MakeTuple, ExtractTupleElement, MakeStruct, ExtractStructField, InsertField, InsertTuple, MakeFixedArray, AssertEq, HeapAllocCells}
use Rattle.mir.specs.Syntax.{Terminator, Jump, If, BranchCmp, Return, Unreachable}
use Rattle.mir.specs.Reads.{dests, is_phi}
use Rattle.bytes_field.specs.declared.Bounds.{Bounds}
use Rattle.bytes_laws.specs.WellFormed.{FitType, FitKind, FitTerminator}
use Rattle.bytes_block.specs.Decode.{marks}
use Rattle.bytes_block.specs.WellFormed.{FitInstructions}
use Rattle.fold.specs.declared.Edition.{Edition}
use Rattle.fold.specs.declared.Settings.{Settings}
use Rattle.mir.specs.Lists.{Each}
use Rattle.mir.specs.Lookup.{Types, row_of, on_some}
use Rattle.bytes_struct.specs.FindField.{field_index}
use Rattle.mir.specs.Parts.{struct_parts}
use Rattle.rewrite.specs.State.{AggStates, state_of, replaced, first_integer, forward_store}
use Rattle.rewrite.specs.Rebuild.{aggregate_type}
use Rattle.rewrite.specs.Readings.{readings}
use Rattle.rewrite.specs.Piece.{Piece, kept}
use Rattle.rewrite.specs.Stays.{stays_first, stays_in, stays}
use Rattle.rewrite.specs.Step.{walkable, extract_index, step_kind, step}
use Rattle.rewrite.specs.Run.{Walked, ends, returned, finish, glue, walk}
use Rattle.rewrite_laws.proofs.Wider.{Wider, value_wider, values_wider, kind_wider, type_wider, place_wider, types_wider, init_wider, each_wider, end_wider}
use Rattle.rewrite_laws.proofs.Parts.{Parts, FitStates, on_some_lem, Any, holds_any, forward_fit}
use Rattle.rewrite_laws.proofs.Rebuilt.{Loose, Typed, return_values_fit}
use Rattle.rewrite_laws.proofs.Readings.{readings_fit}
use Rattle.rewrite_laws.proofs.Pieces.{Low, kept_loose, piece_kept, build_fit, folded_fit, insert_piece, extract_fit, part_of, put_of, load_fit, store_fit, assign_fit, state_at, guarded_fit, store_kept_fit, call_fit, behind_fit, struct_parts_lem}
use Rattle.bytes_laws_whole.proofs.Whole.{both_lists}

pub record WalkFit (c : Bounds) (w : Walked) : Type 0 where
  pub out : Each (Loose c) w.out
  pub terminator : FitTerminator c w.terminator
  pub fresh : Each (FitType c) w.fresh

module _ (b c : Bounds) (w : Wider b c) (τ : Types) (g : Typed c τ) (σ : Settings) (folds : ValueId → Bool) where
  abbrev IsLow : ℕ → Piece → Type 0
  IsLow n p = Low b c w τ g n p

  -- what stays, in edition 1
  first_fit : (S : AggStates) → FitStates c.list c.next S → (n : ℕ) (seen : List Bool) (i : Instruction) → Loose c i → (k : InstructionKind) → FitKind b seen k → IsLow n (stays_first σ τ S n i k)
  unfolding stays_first
  first_fit S h n seen i l (Assign d x t) f z = piece_kept b c w τ g S i h l
  first_fit S h n seen i l (UnaryOp op d x) f z = piece_kept b c w τ g S i h l
  first_fit S h n seen i l (BinaryOp op d x y) f z = piece_kept b c w τ g S i h l
  first_fit S h n seen i l (Call ds q xs ps rs) f z =
      call_fit b c w τ g S h n i l ds q xs ps rs (λ marks news. kind_wider b c w seen (Call ds q xs ps rs) f marks news) (values_wider b c w xs f.2).1 (types_wider b c w ps f.3).1 z
  first_fit S h n seen i l (Cast d x t u) f z = piece_kept b c w τ g S i h l
  first_fit S h n seen i l (Load d p t) f z = piece_kept b c w τ g S i h l
  first_fit S h n seen i l (Store p x t) f z =
      guarded_fit b c w τ g S h n (kept S i) (λ z. piece_kept b c w τ g S i h l) σ.tuples _
      (store_kept_fit b c w τ g S h n i l p x t _ (place_wider b c w p f.0) (type_wider b c w t f.2) (value_wider b c w x f.1)) z
  first_fit S h n seen i l (Debug q xs) f z = piece_kept b c w τ g S i h l
  first_fit S h n seen i l Nop f z = piece_kept b c w τ g S i h l
  first_fit S h n seen i l (Phi d t ss) f z = piece_kept b c w τ g S i h l
  first_fit S h n seen i l (MakeTuple d xs) f z = piece_kept b c w τ g S i h l
  first_fit S h n seen i l (ExtractTupleElement d x k t) f z = piece_kept b c w τ g S i h l
  first_fit S h n seen i l (MakeStruct d fs t) f z = piece_kept b c w τ g S i h l
  first_fit S h n seen i l (ExtractStructField d x q t) f z = piece_kept b c w τ g S i h l
  first_fit S h n seen i l (InsertField d x q y t) f z = piece_kept b c w τ g S i h l
  first_fit S h n seen i l (InsertTuple d x k y t) f z = piece_kept b c w τ g S i h l
  first_fit S h n seen i l (MakeFixedArray d xs t q) f z = piece_kept b c w τ g S i h l
  first_fit S h n seen i l (AssertEq x y) f z = piece_kept b c w τ g S i h l
  first_fit S h n seen i l (HeapAllocCells d x) f z = piece_kept b c w τ g S i h l

  -- in both
  stays_fit : (S : AggStates) → FitStates c.list c.next S → (n : ℕ) (seen : List Bool) (i : Instruction) → Loose c i → FitKind b seen i.kind → IsLow n (stays σ τ S n i)
  unfolding stays stays_in
  stays_fit S h n seen i l f z = by σ.edition z
    where
      by : (e : Edition) → IsLow n (stays_in e σ τ S n i)
      by Edition.First z = first_fit S h n seen i l i.kind f z
      by Edition.Second z = behind_fit b c w τ g S h n i l (each_wider (value_wider b c w) (readings i.kind) (readings_fit b (omega (arith, w.next, w.top)) seen i.kind f)) z

  step_fit : (S : AggStates) → FitStates c.list c.next S → (n : ℕ) (seen : List Bool) (i : Instruction) → IsLow n (stays σ τ S n i) → (k : InstructionKind) → FitKind b seen k → IsLow n (step_kind σ τ folds S n i k)
  unfolding step_kind
  step_fit S h n seen i l (Assign d x t) f z = assign_fit b c w τ g S h n _ l d (on_some (aggregate_type τ t) (λ u. state_of S x)) (state_at b c w τ g S h t x) z
  step_fit S h n seen i l (UnaryOp op d x) f z = l z
  step_fit S h n seen i l (BinaryOp op d x y) f z = l z
  step_fit S h n seen i l (Call ds q xs ps rs) f z = l z
  step_fit S h n seen i l (Cast d x t u) f z = l z
  step_fit S h n seen i l (Load d p t) f z =
      guarded_fit b c w τ g S h n _ l (σ.tuples && walkable σ.edition p) _ (load_fit b c w τ g S h n _ l d p t (first_integer p.projections) (place_wider b c w p f.1).0 (type_wider b c w t f.2)) z
  step_fit S h n seen i l (Store p x t) f z =
      guarded_fit b c w τ g S h n _ l (σ.tuples && walkable σ.edition p) _ (store_fit b c w τ g S h n _ l (forward_store τ S p x) (forward_fit c.list c.next τ S h p x (value_wider b c w x f.1))) z
  step_fit S h n seen i l (Debug q xs) f z = l z
  step_fit S h n seen i l Nop f z = l z
  step_fit S h n seen i l (Phi d t ss) f z = l z
  step_fit S h n seen i l (MakeTuple d xs) f z = build_fit b c w τ g S h n _ l d _ (folded_fit b c w τ g (folds d) (some xs) (values_wider b c w xs f.1)) z
  step_fit S h n seen i l (ExtractTupleElement d x k t) f z =
      guarded_fit b c w τ g S h n _ l σ.tuples _ (extract_fit b c w τ g S h n _ l d t _ (type_wider b c w t f.3) (part_of b c w τ g S h x k)) z
  step_fit S h n seen i l (MakeStruct d fs t) f z =
      build_fit b c w τ g S h n _ l d _ (folded_fit b c w τ g (folds d) (struct_parts τ d fs t) (struct_parts_lem b c w τ g d fs t (each_wider (init_wider b c w) fs f.1.1))) z
  step_fit S h n seen i l (ExtractStructField d x q t) f z =
      guarded_fit b c w τ g S h n _ l σ.structs _
      (extract_fit b c w τ g S h n _ l d t _ (type_wider b c w t f.3)
      (on_some_lem c.list c.next (Any c.list c.next) (λ x. FitValue c.next x) (extract_index τ x q) (λ k. on_some (state_of S x) (λ xs. get_elem? xs k)) (holds_any c.list c.next (extract_index τ x q)) (λ k a. part_of b c w τ g S h x k))) z
  step_fit S h n seen i l (InsertField d x q y t) f z =
      guarded_fit b c w τ g S h n _ l σ.structs _
      (insert_piece b c w τ g S h n _ l d _
      (on_some_lem c.list c.next (Any c.list c.next) (λ xs. Parts c.list c.next xs) (field_index (row_of τ (some t)) q) (λ k. on_some (state_of S x) (λ xs. replaced xs k y)) (holds_any c.list c.next (field_index (row_of τ (some t)) q)) (λ k a. put_of b c w τ g S h x k y (value_wider b c w y f.3)))) z
  step_fit S h n seen i l (InsertTuple d x k y t) f z =
      guarded_fit b c w τ g S h n _ l σ.tuples _ (insert_piece b c w τ g S h n _ l d _ (put_of b c w τ g S h x k y (value_wider b c w y f.3))) z
  step_fit S h n seen i l (MakeFixedArray d xs t q) f z = build_fit b c w τ g S h n _ l d _ (folded_fit b c w τ g (folds d) (some xs) (values_wider b c w xs f.1)) z
  step_fit S h n seen i l (AssertEq x y) f z = l z
  step_fit S h n seen i l (HeapAllocCells d x) f z = l z

  -- the terminator
  finish_fit : (S : AggStates) → FitStates c.list c.next S → (n : ℕ) (t : Terminator) → FitTerminator b t → n + length (finish σ τ S n t).fresh ≤ c.next → WalkFit c (finish σ τ S n t)
  unfolding finish ends returned
  finish_fit S h n (Jump p) f z = record { out = tt; terminator = end_wider b c w (Jump p) f; fresh = tt }
  finish_fit S h n (If x p q) f z = record { out = tt; terminator = end_wider b c w (If x p q) f; fresh = tt }
  finish_fit S h n (BranchCmp op x y p q) f z = record { out = tt; terminator = end_wider b c w (BranchCmp op x y p q) f; fresh = tt }
  finish_fit S h n (Return xs) f z =
      let a = values_wider b c w xs f in
      let y = return_values_fit c w.top τ g S h σ.edition n xs a.1 z in
      record { out = y.before; terminator = (omega (arith, y.same, a.0), y.values); fresh = y.fresh }
  finish_fit S h n Unreachable f z = record { out = tt; terminator = tt; fresh = tt }

  -- the walk: no Phi stands in it
  pub walk_fit : (S : AggStates) → FitStates c.list c.next S → (n : ℕ) (seen : List Bool) (late : Bool) (is : List Instruction) (t : Terminator) → Each (λ i. is_phi i.kind ≡ false) is → FitInstructions b seen late is → FitTerminator b t → n + length (walk σ τ folds S n is t).fresh ≤ c.next → WalkFit c (walk σ τ folds S n is t)
  unfolding walk step glue
  walk_fit S h n seen late [] t e f q z = finish_fit S h n t q z
  walk_fit S h n seen late (i ∷ is) t e f q z =
      let p = step_kind σ τ folds S n i i.kind in
      let rest = walk σ τ folds p.states (n + length p.fresh) is t in
      let k : length (p.fresh ++ rest.fresh) ≡ length p.fresh + length rest.fresh = length-append p.fresh rest.fresh in
      let y = step_fit S h n seen i (stays_fit S h n seen i (kept_loose b c w τ g seen i f.0.0 e.0 f.0.1) f.0.1) i.kind f.0.1 (omega (arith, k, z)) in
      let r = walk_fit p.states y.states (n + length p.fresh) (marks seen (dests i.kind)) (late || not (is_phi i.kind)) is t e.1 f.1 q (omega (arith, k, z)) in
      record { out = both_lists (Loose c) p.out rest.out y.out r.out; terminator = r.terminator; fresh = both_lists (FitType c) p.fresh rest.fresh y.fresh r.fresh }
