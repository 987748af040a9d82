-- What each kind of instruction adds to the graph.
use Prim.Native.Nat.{ℕ, ◌≤◌}
use mathlib.Core.Path.{◌≡◌, refl, ap, sym, ◌∙◌}
use mathlib.Core.List.{List, [], ◌∷◌}
use mathlib.Core.Bool.{Bool, true, false, ◌&&◌, ◌||◌, or-false, true≢false}
use mathlib.Core.Option.{none, some, none-ne-some}
use native.Mathlib.Omega.{arith}
use lib.ListN.{length}
use lib.Dec.{eqb}
use Rattle.mir.specs.declared.ValueId.{ValueId}
use Rattle.mir.specs.declared.Value.{Value}
use Rattle.mir.specs.Syntax.{InstructionKind}
use Rattle.mir.specs.Syntax.{Assign, UnaryOp, BinaryOp, Call, Cast, Load, Store, Debug, Nop, Phi}
use Rattle.mir.specs.Syntax.{MakeTuple, ExtractTupleElement, MakeStruct, ExtractStructField, InsertField, InsertTuple, MakeFixedArray, AssertEq, HeapAllocCells}
use Rattle.mir.specs.Reads.{kind_number, operands, init_values, reads}
use Rattle.bytes_operands.specs.Fields.{list_values, place_steps}
use Rattle.mir.specs.Lookup.{is_operand, any}
use Rattle.fold.specs.Family.{build_dest, accessed}
use Rattle.fold_climb.specs.Edges.{arguments, varies_first, varies_at, blocks}

-- no build, and no value that it wants whole
pub record Idle (i : InstructionKind) : Type 0 where
  pub none_built : build_dest i ≡ none
  pub none_whole : (v : ℕ) → blocks v i ≡ false

pub idle : (i : InstructionKind) → (kind_number i ≡ 3 → ⊥) → (kind_number i ≡ 5 → ⊥) → (kind_number i ≡ 6 → ⊥) → (kind_number i ≡ 10 → ⊥) → (kind_number i ≡ 12 → ⊥) → (kind_number i ≡ 16 → ⊥) → Idle i
unfolding build_dest blocks arguments varies_at accessed any
idle (Assign d x t) h3 h5 h6 h10 h12 h16 = record { none_built = refl; none_whole = λ v. refl }
idle (UnaryOp op d x) h3 h5 h6 h10 h12 h16 = record { none_built = refl; none_whole = λ v. refl }
idle (BinaryOp op d x y) h3 h5 h6 h10 h12 h16 = record { none_built = refl; none_whole = λ v. refl }
idle (Call ds f xs ps rs) h3 h5 h6 h10 h12 h16 = absurd (h3 refl)
idle (Cast d x t u) h3 h5 h6 h10 h12 h16 = record { none_built = refl; none_whole = λ v. refl }
idle (Load d p t) h3 h5 h6 h10 h12 h16 = absurd (h5 refl)
idle (Store p x t) h3 h5 h6 h10 h12 h16 = absurd (h6 refl)
idle (Debug n xs) h3 h5 h6 h10 h12 h16 = record { none_built = refl; none_whole = λ v. refl }
idle Nop h3 h5 h6 h10 h12 h16 = record { none_built = refl; none_whole = λ v. refl }
idle (Phi d t ss) h3 h5 h6 h10 h12 h16 = record { none_built = refl; none_whole = λ v. refl }
idle (MakeTuple d xs) h3 h5 h6 h10 h12 h16 = absurd (h10 refl)
idle (ExtractTupleElement d x k t) h3 h5 h6 h10 h12 h16 = record { none_built = refl; none_whole = λ v. refl }
idle (MakeStruct d fs t) h3 h5 h6 h10 h12 h16 = absurd (h12 refl)
idle (ExtractStructField d x n t) h3 h5 h6 h10 h12 h16 = record { none_built = refl; none_whole = λ v. refl }
idle (InsertField d x n y t) h3 h5 h6 h10 h12 h16 = record { none_built = refl; none_whole = λ v. refl }
idle (InsertTuple d x k y t) h3 h5 h6 h10 h12 h16 = record { none_built = refl; none_whole = λ v. refl }
idle (MakeFixedArray d xs t c) h3 h5 h6 h10 h12 h16 = absurd (h16 refl)
idle (AssertEq x y) h3 h5 h6 h10 h12 h16 = record { none_built = refl; none_whole = λ v. refl }
idle (HeapAllocCells d x) h3 h5 h6 h10 h12 h16 = record { none_built = refl; none_whole = λ v. refl }

-- a Call wants what it reads whole
pub record Calls (i : InstructionKind) : Type 0 where
  pub no_build : build_dest i ≡ none
  pub whole : (v : ℕ) → blocks v i ≡ any (λ (w : ValueId). eqb w.0 v) (reads i)

among : (v : ℕ) (xs : List Value) → any (is_operand (record { 0 = v })) xs ≡ any (λ (w : ValueId). eqb w.0 v) (operands xs)
unfolding any is_operand
among v [] = refl
among v (Value.Literal l ∷ xs) = among v xs
among v (Value.Operand w ∷ xs) = ap (λ (b : Bool). eqb w.0 v || b) (among v xs)
among v (Value.Error ∷ xs) = among v xs

pub calls : (i : InstructionKind) → kind_number i ≡ 3 → Calls i
unfolding build_dest blocks arguments varies_at accessed any
calls (Assign d x t) h = absurd (omega arith)
calls (UnaryOp op d x) h = absurd (omega arith)
calls (BinaryOp op d x y) h = absurd (omega arith)
calls (Call ds f xs ps rs) h = record { no_build = refl; whole = λ v. or-false (any (is_operand (record { 0 = v })) xs) ∙ among v xs }
calls (Cast d x t u) h = absurd (omega arith)
calls (Load d p t) h = absurd (omega arith)
calls (Store p x t) h = absurd (omega arith)
calls (Debug n xs) h = absurd (omega arith)
calls Nop h = absurd (omega arith)
calls (Phi d t ss) h = absurd (omega arith)
calls (MakeTuple d xs) h = absurd (omega arith)
calls (ExtractTupleElement d x k t) h = absurd (omega arith)
calls (MakeStruct d fs t) h = absurd (omega arith)
calls (ExtractStructField d x n t) h = absurd (omega arith)
calls (InsertField d x n y t) h = absurd (omega arith)
calls (InsertTuple d x k y t) h = absurd (omega arith)
calls (MakeFixedArray d xs t c) h = absurd (omega arith)
calls (AssertEq x y) h = absurd (omega arith)
calls (HeapAllocCells d x) h = absurd (omega arith)

-- a Load or Store wants its base, its first read, whole where its first projection varies
pub record Walks (i : InstructionKind) : Type 0 where
  pub base : ValueId
  pub rest : List ValueId
  pub first : reads i ≡ base ∷ rest
  pub no_dest : build_dest i ≡ none
  pub varies : (v : ℕ) → blocks v i ≡ (eqb base.0 v && varies_first (place_steps i))

pub walks : (i : InstructionKind) → (eqb (kind_number i) 5 || eqb (kind_number i) 6) ≡ true → Walks i
unfolding build_dest blocks arguments varies_at accessed any
walks (Assign d x t) h = absurd (true≢false (sym h))
walks (UnaryOp op d x) h = absurd (true≢false (sym h))
walks (BinaryOp op d x y) h = absurd (true≢false (sym h))
walks (Call ds f xs ps rs) h = absurd (true≢false (sym h))
walks (Cast d x t u) h = absurd (true≢false (sym h))
walks (Load d p t) h = record { base = p.base; rest = _; first = refl; no_dest = refl; varies = λ v. refl }
walks (Store p x t) h = record { base = p.base; rest = _; first = refl; no_dest = refl; varies = λ v. refl }
walks (Debug n xs) h = absurd (true≢false (sym h))
walks Nop h = absurd (true≢false (sym h))
walks (Phi d t ss) h = absurd (true≢false (sym h))
walks (MakeTuple d xs) h = absurd (true≢false (sym h))
walks (ExtractTupleElement d x k t) h = absurd (true≢false (sym h))
walks (MakeStruct d fs t) h = absurd (true≢false (sym h))
walks (ExtractStructField d x n t) h = absurd (true≢false (sym h))
walks (InsertField d x n y t) h = absurd (true≢false (sym h))
walks (InsertTuple d x k y t) h = absurd (true≢false (sym h))
walks (MakeFixedArray d xs t c) h = absurd (true≢false (sym h))
walks (AssertEq x y) h = absurd (true≢false (sym h))
walks (HeapAllocCells d x) h = absurd (true≢false (sym h))

-- a build wants nothing whole, and reads at most its list
pub record Builds (i : InstructionKind) : Type 0 where
  pub none_barred : (v : ℕ) → blocks v i ≡ false
  pub few : length (reads i) ≤ length (list_values i)

operands_few : (xs : List Value) → length (operands xs) ≤ length xs
operands_few [] = omega arith
operands_few (Value.Literal l ∷ xs) = omega (arith, operands_few xs)
operands_few (Value.Operand w ∷ xs) = omega (arith, operands_few xs)
operands_few (Value.Error ∷ xs) = omega (arith, operands_few xs)

pub builds : (i : InstructionKind) (d : ValueId) → build_dest i ≡ some d → Builds i
unfolding build_dest blocks arguments varies_at accessed any
builds (Assign d' x t) e h = absurd (none-ne-some _ h)
builds (UnaryOp op d' x) e h = absurd (none-ne-some _ h)
builds (BinaryOp op d' x y) e h = absurd (none-ne-some _ h)
builds (Call ds f xs ps rs) e h = absurd (none-ne-some _ h)
builds (Cast d' x t u) e h = absurd (none-ne-some _ h)
builds (Load d' p t) e h = absurd (none-ne-some _ h)
builds (Store p x t) e h = absurd (none-ne-some _ h)
builds (Debug n xs) e h = absurd (none-ne-some _ h)
builds Nop e h = absurd (none-ne-some _ h)
builds (Phi d' t ss) e h = absurd (none-ne-some _ h)
builds (MakeTuple d' xs) e h = record { none_barred = λ v. refl; few = operands_few xs }
builds (ExtractTupleElement d' x k t) e h = absurd (none-ne-some _ h)
builds (MakeStruct d' fs t) e h = record { none_barred = λ v. refl; few = operands_few (init_values fs) }
builds (ExtractStructField d' x n t) e h = absurd (none-ne-some _ h)
builds (InsertField d' x n y t) e h = absurd (none-ne-some _ h)
builds (InsertTuple d' x k y t) e h = absurd (none-ne-some _ h)
builds (MakeFixedArray d' xs t c) e h = record { none_barred = λ v. refl; few = operands_few xs }
builds (AssertEq x y) e h = absurd (none-ne-some _ h)
builds (HeapAllocCells d' x) e h = absurd (none-ne-some _ h)
