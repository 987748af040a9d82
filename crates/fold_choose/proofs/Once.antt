-- A block that fits defines each value once: the build of a build's dest is that build.
use Prim.Native.Nat.{ℕ, zero, suc, ◌≤◌, ◌<◌}
use mathlib.Core.Path.{◌≡◌, refl, ◌∙◌, sym}
use mathlib.Core.List.{List, [], ◌∷◌}
use mathlib.Core.Bool.{Bool, true, false, cond, not, ◌||◌, true≢false}
use mathlib.Core.Option.{Option, none, some, none-ne-some}
use native.Mathlib.Nat.{le_trans}
use native.Mathlib.Omega.{arith}
use borrow.Author.Tests.{eqb-true, eq-eqb}
use lib.ListN.{length, get_or, length-map}
use lib.Seq.{get_or-set_same}
use lib.Dec.{eqb}
use Rattle.mir.specs.declared.ValueId.{ValueId}
use Rattle.mir.specs.Syntax.{Instruction, InstructionKind, Block}
use Rattle.mir.specs.Syntax.{Assign, UnaryOp, BinaryOp, Call, Cast, Load, Store, Debug, Nop, Phi}
use Rattle.mir.specs.Syntax.{MakeTuple, ExtractTupleElement, MakeStruct, ExtractStructField, InsertField, InsertTuple, MakeFixedArray, AssertEq, HeapAllocCells}
use Rattle.mir.specs.Reads.{is_phi, dests}
use Rattle.bytes_field.specs.declared.Bounds.{Bounds}
use Rattle.bytes_index.specs.declared.code.Code.{Code}
use Rattle.bytes_index.specs.declared.slots.Slots.{Slots}
use Rattle.bytes_laws.specs.WellFormed.{FitNew, FitKind}
use Rattle.bytes_block.specs.Decode.{marks}
use Rattle.bytes_block.proofs.Marks.{marks_stay, marks_length}
use Rattle.bytes_block.specs.WellFormed.{FitInstructions}
use Rattle.bytes_block.specs.declared.Mosts.{Mosts}
use Rattle.bytes_operands.specs.Fields.{list_values}
use Rattle.bytes_index.specs.Code.{no_instruction, InstructionsIn}
use Rattle.fold.specs.declared.Settings.{Settings}
use Rattle.mir.specs.Lookup.{Types}
use Rattle.fold.specs.Family.{Marks, build_dest}
use Rattle.fold.specs.Climb.{is_build_of, build_of}
use Rattle.mir.specs.Phis.{behind_phis}
use Rattle.fold_choose.specs.Chosen.{Fitting, fitting, Standing}

-- a build's dest is new, and it is all that the build defines
pub build_new : (b : Bounds) (seen : List Bool) (i : InstructionKind) (v : ValueId) → FitKind b seen i → build_dest i ≡ some v → FitNew b seen v
unfolding build_dest
build_new b seen (Assign d x t) v g e = absurd (none-ne-some _ e)
build_new b seen (UnaryOp op d x) v g e = absurd (none-ne-some _ e)
build_new b seen (BinaryOp op d x y) v g e = absurd (none-ne-some _ e)
build_new b seen (Call ds f xs ps rs) v g e = absurd (none-ne-some _ e)
build_new b seen (Cast d x t u) v g e = absurd (none-ne-some _ e)
build_new b seen (Load d p t) v g e = absurd (none-ne-some _ e)
build_new b seen (Store p x t) v g e = absurd (none-ne-some _ e)
build_new b seen (Debug n xs) v g e = absurd (none-ne-some _ e)
build_new b seen Nop v g e = absurd (none-ne-some _ e)
build_new b seen (Phi d t ss) v g e = absurd (none-ne-some _ e)
build_new b seen (MakeTuple d xs) v g e = let z : d ≡ v = cc in rw z at g.0
build_new b seen (ExtractTupleElement d x k t) v g e = absurd (none-ne-some _ e)
build_new b seen (MakeStruct d fs t) v g e = let z : d ≡ v = cc in rw z at g.0
build_new b seen (ExtractStructField d x n t) v g e = absurd (none-ne-some _ e)
build_new b seen (InsertField d x n y t) v g e = absurd (none-ne-some _ e)
build_new b seen (InsertTuple d x k y t) v g e = absurd (none-ne-some _ e)
build_new b seen (MakeFixedArray d xs t c) v g e = let z : d ≡ v = cc in rw z at g.0
build_new b seen (AssertEq x y) v g e = absurd (none-ne-some _ e)
build_new b seen (HeapAllocCells d x) v g e = absurd (none-ne-some _ e)

build_dests : (i : InstructionKind) (v : ValueId) → build_dest i ≡ some v → dests i ≡ v ∷ []
unfolding build_dest
build_dests (Assign d x t) v e = absurd (none-ne-some _ e)
build_dests (UnaryOp op d x) v e = absurd (none-ne-some _ e)
build_dests (BinaryOp op d x y) v e = absurd (none-ne-some _ e)
build_dests (Call ds f xs ps rs) v e = absurd (none-ne-some _ e)
build_dests (Cast d x t u) v e = absurd (none-ne-some _ e)
build_dests (Load d p t) v e = absurd (none-ne-some _ e)
build_dests (Store p x t) v e = absurd (none-ne-some _ e)
build_dests (Debug n xs) v e = absurd (none-ne-some _ e)
build_dests Nop v e = absurd (none-ne-some _ e)
build_dests (Phi d t ss) v e = absurd (none-ne-some _ e)
build_dests (MakeTuple d xs) v e = let z : d ≡ v = cc in rw z refl
build_dests (ExtractTupleElement d x k t) v e = absurd (none-ne-some _ e)
build_dests (MakeStruct d fs t) v e = let z : d ≡ v = cc in rw z refl
build_dests (ExtractStructField d x n t) v e = absurd (none-ne-some _ e)
build_dests (InsertField d x n y t) v e = absurd (none-ne-some _ e)
build_dests (InsertTuple d x k y t) v e = absurd (none-ne-some _ e)
build_dests (MakeFixedArray d xs t c) v e = let z : d ≡ v = cc in rw z refl
build_dests (AssertEq x y) v e = absurd (none-ne-some _ e)
build_dests (HeapAllocCells d x) v e = absurd (none-ne-some _ e)

-- a list is as short as the bounds say
list_fit : (b : Bounds) (seen : List Bool) (i : InstructionKind) → FitKind b seen i → length (list_values i) ≤ b.list
list_fit b seen (Assign d x t) g = omega arith
list_fit b seen (UnaryOp op d x) g = omega arith
list_fit b seen (BinaryOp op d x y) g = omega arith
list_fit b seen (Call ds f xs ps rs) g = g.2.0
list_fit b seen (Cast d x t u) g = omega arith
list_fit b seen (Load d p t) g = omega arith
list_fit b seen (Store p x t) g = omega arith
list_fit b seen (Debug n xs) g = g.1.0
list_fit b seen Nop g = omega arith
list_fit b seen (Phi d t ss) g = rw (length-map ss (λ s. s.value)) g.2.0
list_fit b seen (MakeTuple d xs) g = g.1.0
list_fit b seen (ExtractTupleElement d x k t) g = omega arith
list_fit b seen (MakeStruct d fs t) g = rw (length-map fs (λ f. f.value)) g.1.0
list_fit b seen (ExtractStructField d x n t) g = omega arith
list_fit b seen (InsertField d x n y t) g = omega arith
list_fit b seen (InsertTuple d x k y t) g = omega arith
list_fit b seen (MakeFixedArray d xs t c) g = g.1.0
list_fit b seen (AssertEq x y) g = omega arith
list_fit b seen (HeapAllocCells d x) g = omega arith

pub lists_fit : (b : Bounds) (seen : List Bool) (late : Bool) (is : List Instruction) → FitInstructions b seen late is → (k : ℕ) → k < length is → length (list_values (get_or is k no_instruction).kind) ≤ b.list
lists_fit b seen late [] f k h = absurd (omega arith)
lists_fit b seen late (i ∷ is) f zero h = list_fit b seen i.kind f.0.1
lists_fit b seen late (i ∷ is) f (suc k) h = lists_fit b (marks seen (dests i.kind)) (late || not (is_phi i.kind)) is f.1 k (omega arith)

-- no value that was defined before is a build's dest
taken : (b : Bounds) (seen : List Bool) (late : Bool) (is : List Instruction) → FitInstructions b seen late is → (v : ValueId) → get_or seen v.0 false ≡ true → (j : ℕ) → j < length is → build_dest (get_or is j no_instruction).kind ≡ some v → ⊥
taken b seen late [] f v m j h e = absurd (omega arith)
taken b seen late (i ∷ is) f v m zero h e = true≢false (sym m ∙ (build_new b seen i.kind v f.0.1 e).1)
taken b seen late (i ∷ is) f v m (suc j) h e = taken b (marks seen (dests i.kind)) (late || not (is_phi i.kind)) is f.1 v (marks_stay seen (dests i.kind) v.0 m) j (omega arith) e

module _ (σ : Settings) (τ : Types) (cross : Marks) where
  pub built_once : (b : Bounds) (seen : List Bool) (late : Bool) (is : List Instruction) → FitInstructions b seen late is → b.next ≤ length seen → (j : ℕ) (v : ValueId) → j < length is → build_dest (get_or is j no_instruction).kind ≡ some v → build_of σ τ cross v is ≡ some (get_or is j no_instruction).kind
  unfolding build_of is_build_of
  built_once b seen late [] f l j v h e = absurd (omega arith)
  built_once b seen late (i ∷ is) f l zero v h e = rw (e, eq-eqb v.0 v.0 refl) refl
  built_once b seen late (i ∷ is) f l (suc j) v h e =
      go (built_once b (marks seen (dests i.kind)) (late || not (is_phi i.kind)) is f.1 (rw (marks_length seen (dests i.kind)) l) j v (omega arith) e) (build_dest i.kind) refl
    where
      go : build_of σ τ cross v is ≡ some (get_or is j no_instruction).kind → (o : Option ValueId) → build_dest i.kind ≡ o → cond (is_build_of σ τ cross v o) (some i.kind) (build_of σ τ cross v is) ≡ some (get_or is j no_instruction).kind
      go ih none p = ih
      go ih (some d) p = test (eqb d.0 v.0) refl
        where
          test : (t : Bool) → eqb d.0 v.0 ≡ t → cond t (some i.kind) (build_of σ τ cross v is) ≡ some (get_or is j no_instruction).kind
          test false q = ih
          test true q =
              let z : d.0 ≡ v.0 = eqb-true d.0 v.0 q in
              let n = build_new b seen i.kind d f.0.1 p in
              let w : d.0 < length seen = omega (arith, n.0, l) in
              let m : get_or (marks seen (dests i.kind)) v.0 false ≡ true = rw (build_dests i.kind d p, ← z) (get_or-set_same seen d.0 true false w) in
              absurd (taken b _ _ is f.1 v m j (omega arith) e)

  -- a phi is no build
  phi_none : (i : InstructionKind) → is_phi i ≡ true → build_dest i ≡ none
  unfolding build_dest
  phi_none (Assign d x t) h = refl
  phi_none (UnaryOp op d x) h = refl
  phi_none (BinaryOp op d x y) h = refl
  phi_none (Call ds f xs ps rs) h = refl
  phi_none (Cast d x t u) h = refl
  phi_none (Load d p t) h = refl
  phi_none (Store p x t) h = refl
  phi_none (Debug n xs) h = refl
  phi_none Nop h = refl
  phi_none (Phi d t ss) h = refl
  phi_none (MakeTuple d xs) h = absurd (true≢false (sym h))
  phi_none (ExtractTupleElement d x k t) h = refl
  phi_none (MakeStruct d fs t) h = absurd (true≢false (sym h))
  phi_none (ExtractStructField d x n t) h = refl
  phi_none (InsertField d x n y t) h = refl
  phi_none (InsertTuple d x k y t) h = refl
  phi_none (MakeFixedArray d xs t c) h = absurd (true≢false (sym h))
  phi_none (AssertEq x y) h = refl
  phi_none (HeapAllocCells d x) h = refl

  pub built_behind : (v : ValueId) (is : List Instruction) → build_of σ τ cross v (behind_phis is) ≡ build_of σ τ cross v is
  unfolding behind_phis build_of is_build_of
  built_behind v [] = refl
  built_behind v (i ∷ is) = go (built_behind v is) (is_phi i.kind) refl
    where
      go : build_of σ τ cross v (behind_phis is) ≡ build_of σ τ cross v is → (b : Bool) → is_phi i.kind ≡ b → build_of σ τ cross v (cond b (behind_phis is) (i ∷ is)) ≡ build_of σ τ cross v (i ∷ is)
      go ih true e = ih ∙ rw (phi_none i.kind e) refl
      go ih false e = refl

  -- what the code asks of a block
  pub stands_once : (m : Mosts) (code : Code) (x : Block) (at : Slots) → Fitting m code.bounds x → m.block ≤ 128 → code.bounds.list ≤ 16 → InstructionsIn code.bounds code.bytes.now code.facts.now at.first x.instructions → length x.instructions ≡ at.count → Standing σ τ cross code at x.instructions
  stands_once m code x at (fitting total seen l f) short listed a c =
      record {
        stands = a;
        counted = c;
        few = omega (arith, f.own);
        listed = λ k h. le_trans (lists_fit code.bounds seen false x.instructions f.instructions k h) listed;
        once = λ j d h e. built_behind d x.instructions ∙ built_once code.bounds seen false x.instructions f.instructions l j d h e;
      }
