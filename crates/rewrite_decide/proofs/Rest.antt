-- The kinds that stay as they are.
use Prim.Native.Nat.{ℕ}
use mathlib.Core.Path.{◌≡◌, refl, ap, ◌∙◌, sym}
use mathlib.Core.List.{List}
use mathlib.Core.Bool.{Bool, true, false, ◌&&◌}
use mathlib.Core.Option.{Option, some}
use native.Mathlib.Omega.{arith}
use Rattle.mir.specs.declared.Value.{Value}
use Rattle.mir.specs.declared.ValueId.{ValueId}
use Rattle.mir.specs.Syntax.{Instruction, InstructionKind}
use Rattle.mir.specs.Syntax.{Assign, UnaryOp, BinaryOp, Call, Cast, Load, Store, Debug, Nop, Phi}
use Rattle.mir.specs.Syntax.{MakeTuple, ExtractTupleElement, MakeStruct, ExtractStructField, InsertField, InsertTuple, MakeFixedArray, AssertEq, HeapAllocCells}
use Rattle.mir.specs.Reads.{kind_number}
use Rattle.fold.specs.declared.Settings.{Settings}
use Rattle.mir.specs.Lookup.{Types}
use Rattle.fold.specs.Family.{build_dest}
use Rattle.rewrite.specs.State.{AggStates}
use Rattle.rewrite.specs.Piece.{Piece}
use Rattle.rewrite.specs.Stays.{guarded, stays}
use Rattle.rewrite.specs.Step.{step_build, folded_parts, step, step_kind}
use Rattle.rewrite_arms.specs.Decided.{acts}

-- what is turned off stays
guard_off : (on : Bool) (stay p : Piece) → (on ≡ true → ⊥) → guarded on stay p ≡ stay
unfolding guarded
guard_off true stay p n = absurd (n refl)
guard_off false stay p n = refl

walk_off : (on : Bool) (walks : Bool) (stay p : Piece) → (on ≡ true → ⊥) → guarded (on && walks) stay p ≡ stay
unfolding guarded
walk_off true walks stay p n = absurd (n refl)
walk_off false walks stay p n = refl

build_off : (on : Bool) {fold : Bool} (S : AggStates) (stay : Piece) (d : ValueId) (o : Option (List Value)) → on ≡ fold → (on ≡ true → ⊥) → step_build S stay d (folded_parts fold o) ≡ stay
unfolding step_build folded_parts
build_off true S stay d o e n = absurd (n refl)
build_off false S stay d o e n = rw (← e) refl

module _ (σ : Settings) (τ : Types) (fold : Bool) (folds : ValueId → Bool) (S : AggStates) (m : ℕ) (i : Instruction) where
  -- a kind is met: it is number j, and looked at
  abbrev Met : ℕ → ℕ → Type 0
  Met k j = acts σ.tuples σ.structs fold k ≡ true → k ≡ j → ⊥

  idle : (k : InstructionKind) → ((d : ValueId) → build_dest k ≡ some d → fold ≡ folds d) → (kind_number k ≡ 3 → ⊥) → (kind_number k ≡ 6 → ⊥)
      → Met (kind_number k) 0 → Met (kind_number k) 5 → Met (kind_number k) 10 → Met (kind_number k) 11 → Met (kind_number k) 12 → Met (kind_number k) 13 → Met (kind_number k) 14 → Met (kind_number k) 15 → Met (kind_number k) 16 → step_kind σ τ folds S m i k ≡ stays σ τ S m i
  unfolding step_kind build_dest
  idle (Assign d x t) f n3 n6 n0 n5 n10 n11 n12 n13 n14 n15 n16 = absurd (n0 refl refl)
  idle (UnaryOp op d x) f n3 n6 n0 n5 n10 n11 n12 n13 n14 n15 n16 = refl
  idle (BinaryOp op d x y) f n3 n6 n0 n5 n10 n11 n12 n13 n14 n15 n16 = refl
  idle (Call ds c xs ps rs) f n3 n6 n0 n5 n10 n11 n12 n13 n14 n15 n16 = absurd (n3 refl)
  idle (Cast d x t u) f n3 n6 n0 n5 n10 n11 n12 n13 n14 n15 n16 = refl
  idle (Load d p t) f n3 n6 n0 n5 n10 n11 n12 n13 n14 n15 n16 = walk_off σ.tuples _ _ _ (λ e. n5 e refl)
  idle (Store p x t) f n3 n6 n0 n5 n10 n11 n12 n13 n14 n15 n16 = absurd (n6 refl)
  idle (Debug n xs) f n3 n6 n0 n5 n10 n11 n12 n13 n14 n15 n16 = refl
  idle Nop f n3 n6 n0 n5 n10 n11 n12 n13 n14 n15 n16 = refl
  idle (Phi d t ss) f n3 n6 n0 n5 n10 n11 n12 n13 n14 n15 n16 = refl
  idle (MakeTuple d xs) f n3 n6 n0 n5 n10 n11 n12 n13 n14 n15 n16 = build_off fold S _ d _ (f d refl) (λ e. n10 e refl)
  idle (ExtractTupleElement d x k t) f n3 n6 n0 n5 n10 n11 n12 n13 n14 n15 n16 = guard_off σ.tuples _ _ (λ e. n11 e refl)
  idle (MakeStruct d fs t) f n3 n6 n0 n5 n10 n11 n12 n13 n14 n15 n16 = build_off fold S _ d _ (f d refl) (λ e. n12 e refl)
  idle (ExtractStructField d x n t) f n3 n6 n0 n5 n10 n11 n12 n13 n14 n15 n16 = guard_off σ.structs _ _ (λ e. n13 e refl)
  idle (InsertField d x n y t) f n3 n6 n0 n5 n10 n11 n12 n13 n14 n15 n16 = guard_off σ.structs _ _ (λ e. n14 e refl)
  idle (InsertTuple d x k y t) f n3 n6 n0 n5 n10 n11 n12 n13 n14 n15 n16 = guard_off σ.tuples _ _ (λ e. n15 e refl)
  idle (MakeFixedArray d xs t c) f n3 n6 n0 n5 n10 n11 n12 n13 n14 n15 n16 = build_off fold S _ d _ (f d refl) (λ e. n16 e refl)
  idle (AssertEq x y) f n3 n6 n0 n5 n10 n11 n12 n13 n14 n15 n16 = refl
  idle (HeapAllocCells d x) f n3 n6 n0 n5 n10 n11 n12 n13 n14 n15 n16 = refl

  module _ {j : ℕ} (e : j ≡ kind_number i.kind) (f : (d : ValueId) → build_dest i.kind ≡ some d → fold ≡ folds d) (n3 : kind_number i.kind ≡ 3 → ⊥) (n6 : kind_number i.kind ≡ 6 → ⊥) where
    -- one that is turned off
    pub off_kept : {on : Bool} → on ≡ acts σ.tuples σ.structs fold j → on ≡ false → step σ τ folds S m i ≡ stays σ τ S m i
    unfolding step
    off_kept {on} g off = idle i.kind f n3 n6 (λ a z. no a) (λ a z. no a) (λ a z. no a) (λ a z. no a) (λ a z. no a) (λ a z. no a) (λ a z. no a) (λ a z. no a) (λ a z. no a)
      where
        no : acts σ.tuples σ.structs fold (kind_number i.kind) ≡ true → ⊥
        no a = let z : true ≡ false = sym a ∙ sym (ap (acts σ.tuples σ.structs fold) e) ∙ sym g ∙ off in let u : ◌≡◌ {A = ℕ} 0 1 = cc in omega arith
