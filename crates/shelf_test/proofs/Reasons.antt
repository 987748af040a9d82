-- Which reason it is, by the first test that fails.
use Prim.Native.Nat.{ℕ}
use mathlib.Core.Path.{◌≡◌, refl, ap, ◌∙◌, sym}
use mathlib.Core.Bool.{Bool, true, false, cond, not, and-false}
use native.Mathlib.Omega.{arith}
use Rattle.mir.specs.Syntax.{Instruction, InstructionKind, Terminator, Block}
use Rattle.mir.specs.Syntax.{Assign, UnaryOp, BinaryOp, Call, Cast, Load, Store, Debug, Nop, Phi}
use Rattle.mir.specs.Syntax.{MakeTuple, ExtractTupleElement, MakeStruct, ExtractStructField, InsertField, InsertTuple, MakeFixedArray, AssertEq, HeapAllocCells}
use Rattle.mir.specs.Reads.{terminator_reads}
use Rattle.bytes_index.specs.declared.code.Code.{Code}
use Rattle.mir.specs.Routine.{Routine}
use Rattle.rewrite.specs.Run.{Rewritten}
use mathlib.Core.List.{List, [], ◌∷◌}
use Rattle.mir.specs.declared.ValueId.{ValueId}
use Rattle.mir.specs.Phis.{behind_phis}
use Rattle.mir.specs.Lookup.{types_in}
use Rattle.shelf.specs.Lists.{every, among}
use Rattle.shelf.specs.Reads.{counted_reads, is_deep, shallow, clean, clean_terminator, with_debug}
use Rattle.shelf_marks.specs.Tests.{all_ordered, all_apart, all_shallow}
use Rattle.shelf_reason5.specs.Unread.{Written}
use Rattle.std.specs.Prelude.{Result, Ok, Err, ⊤}
use Rattle.shelf_test.specs.Number.{number_of_reason}
use Rattle.shelf_test.specs.declared.ShelfReason.{ShelfReason}
use Rattle.shelf_test.specs.Shelved.{output_bounds, input_reason, Shelved}
use Rattle.shelf.specs.Reason.{types_agree, in_order, kept_apart, no_deep_store, reads_no_dropped, shelf_reason}

-- what the scans answer, as the tests have it
pub of_order : (x : Routine) (r : Bool) → r ≡ all_ordered x.blocks → r ≡ in_order with_debug x
unfolding in_order
of_order x r e = e

pub of_apart : (x : Routine) (r : Bool) → r ≡ all_apart (types_in x) x.blocks → r ≡ kept_apart x
unfolding kept_apart
of_apart x r e = e

pub of_deep : (x : Routine) (ds : List ValueId) (r : Bool) → r ≡ all_shallow ds x.blocks → r ≡ no_deep_store ds x
unfolding no_deep_store
of_deep x ds r e = e

-- where no value is dropped, no Store has a dropped base, and none is read
module _ (gone : ℕ → Bool) (none : (v : ℕ) → gone v ≡ false) where
  shallow_kind : (i : InstructionKind) → shallow gone i ≡ true
  unfolding shallow
  shallow_kind (Assign d x t) = refl
  shallow_kind (UnaryOp op d x) = refl
  shallow_kind (BinaryOp op d x y) = refl
  shallow_kind (Call ds f xs ps rs) = refl
  shallow_kind (Cast d x t u) = refl
  shallow_kind (Load d p t) = refl
  shallow_kind (Store p x t) = rw (none p.base.0, and-false (is_deep p.projections))
  shallow_kind (Debug m xs) = refl
  shallow_kind Nop = refl
  shallow_kind (Phi d t ss) = refl
  shallow_kind (MakeTuple d xs) = refl
  shallow_kind (ExtractTupleElement d x k t) = refl
  shallow_kind (MakeStruct d fs t) = refl
  shallow_kind (ExtractStructField d x n t) = refl
  shallow_kind (InsertField d x n y t) = refl
  shallow_kind (InsertTuple d x k y t) = refl
  shallow_kind (MakeFixedArray d xs t c) = refl
  shallow_kind (AssertEq x y) = refl
  shallow_kind (HeapAllocCells d x) = refl

  none_read : (vs : List ValueId) → every (λ v. not (gone v.0)) vs ≡ true
  none_read [] = refl
  none_read (v ∷ vs) = rw (none v.0) (none_read vs)

  none_clean : (debug : Bool) (is : List Instruction) → clean debug gone is ≡ true
  unfolding clean
  none_clean debug [] = refl
  none_clean debug (i ∷ is) = rw (none_read (counted_reads debug i.kind)) (none_clean debug is)

  none_last : (t : Terminator) → clean_terminator gone t ≡ true
  unfolding clean_terminator
  none_last t = none_read (terminator_reads t)

-- a test that each passes
every_true : {A : Type 0} (p : A → Bool) → ((x : A) → p x ≡ true) → (xs : List A) → every p xs ≡ true
every_true p h [] = refl
every_true p h (x ∷ xs) = rw (h x) (every_true p h xs)

module _ (ds : List ValueId) (none : (v : ℕ) → among v ds ≡ false) where
  pub none_deep : (x : Routine) → true ≡ no_deep_store ds x
  unfolding no_deep_store
  none_deep x = sym (every_true _ (λ k. every_true _ (λ i. shallow_kind (λ v. among v ds) none i.kind) (behind_phis k.instructions)) x.blocks)

  pub none_dropped : (debug : Bool) (ks : List Block) → true ≡ reads_no_dropped debug ds ks
  unfolding reads_no_dropped
  none_dropped debug ks = sym (rw (every_true _ (λ k. none_clean (λ v. among v ds) none debug k.instructions) ks) (every_true _ (λ k. none_last (λ v. among v ds) none k.terminator) ks))

-- the blocks of the output as reason 5 looks at them
pub blocks_written : {code : Code} {out : List ℕ} {at next : ℕ} {dropped : List Bool} {x : Routine} {w : Rewritten} → Shelved code out at next dropped x w → Written (output_bounds code.bounds next) out at code.bounds.blocks w.blocks
blocks_written h =
    record {
      rest = h.rest;
      bytes = h.written;
      as_many = h.as_many;
      mosts = h.mosts;
      total = h.total;
      seen = h.seen;
      fits = h.fits;
      counted = h.counted;
      wide = h.wide;
      short = omega (arith, h.input.coded.ground.listed, h.input.coded.ground.projected);
    }

-- the reasons of the input
module _ (x : Routine) where
  pub input_1 : false ≡ types_agree with_debug x → 1 ≡ input_reason x
  unfolding input_reason
  input_1 a = rw (← a)

  pub input_2 : true ≡ types_agree with_debug x → false ≡ in_order with_debug x → 2 ≡ input_reason x
  unfolding input_reason
  input_2 a b = rw (← a, ← b)

  pub input_3 : true ≡ types_agree with_debug x → true ≡ in_order with_debug x → false ≡ kept_apart x → 3 ≡ input_reason x
  unfolding input_reason
  input_3 a b c = rw (← a, ← b, ← c)

  pub input_0 : true ≡ types_agree with_debug x → true ≡ in_order with_debug x → true ≡ kept_apart x → 0 ≡ input_reason x
  unfolding input_reason
  input_0 a b c = rw (← a, ← b, ← c)

-- they come first
first_some : (a b c : Bool) (rest n : ℕ) → n ≡ cond a (cond b (cond c 0 3) 2) 1 → (n ≡ 0 → ⊥) → n ≡ cond a (cond b (cond c rest 3) 2) 1
first_some true true true rest n e h = absurd (h e)
first_some true true false rest n e h = e
first_some true false c rest n e h = e
first_some false b c rest n e h = e

first_none : (a b c : Bool) (rest : ℕ) → ◌≡◌ {A = ℕ} 0 (cond a (cond b (cond c 0 3) 2) 1) → rest ≡ cond a (cond b (cond c rest 3) 2) 1
first_none true true true rest e = refl
first_none true true false rest e = absurd (omega arith)
first_none true false c rest e = absurd (omega arith)
first_none false b c rest e = absurd (omega arith)

-- what the test of the input answers: no reason, or one whose number is not 0
pub first_passed : (x : Routine) (r : Result ⊤ ShelfReason) (u : ⊤) → r ≡ Ok u → number_of_reason r ≡ input_reason x → 0 ≡ input_reason x
first_passed x r u was e = sym (ap number_of_reason was) ∙ e

not_passed : (k : ShelfReason) → number_of_reason (Err k) ≡ 0 → ⊥
not_passed ShelfReason.TypesDisagree h = omega (arith, h)
not_passed ShelfReason.ReadsEarly h = omega (arith, h)
not_passed ShelfReason.BaseAsPart h = omega (arith, h)
not_passed ShelfReason.DeepStore h = omega (arith, h)
not_passed ShelfReason.ReadsDropped h = omega (arith, h)

module _ (x : Routine) (w : Rewritten) where
  pub reason_first : (n : ℕ) → n ≡ input_reason x → (n ≡ 0 → ⊥) → n ≡ shelf_reason with_debug x w
  unfolding input_reason shelf_reason
  reason_first n e h = first_some (types_agree with_debug x) (in_order with_debug x) (kept_apart x) _ n e h

  pub reason_refused : (r : Result ⊤ ShelfReason) (k : ShelfReason) → r ≡ Err k → number_of_reason r ≡ input_reason x → number_of_reason (Err k) ≡ shelf_reason with_debug x w
  reason_refused r k was e = reason_first (number_of_reason (Err k)) (sym (ap number_of_reason was) ∙ e) (not_passed k)

  -- where none of them holds, the others
  others : 0 ≡ input_reason x → cond (no_deep_store w.dropped x) (cond (reads_no_dropped with_debug w.dropped w.blocks) 0 5) 4 ≡ shelf_reason with_debug x w
  unfolding input_reason shelf_reason
  others e = first_none (types_agree with_debug x) (in_order with_debug x) (kept_apart x) _ e

  pub reason_4 : 0 ≡ input_reason x → false ≡ no_deep_store w.dropped x → 4 ≡ shelf_reason with_debug x w
  reason_4 e d = rw (← d) at (others e)

  pub reason_5 : 0 ≡ input_reason x → true ≡ no_deep_store w.dropped x → false ≡ reads_no_dropped with_debug w.dropped w.blocks → 5 ≡ shelf_reason with_debug x w
  reason_5 e d f = rw (← d, ← f) at (others e)

  pub reason_0 : 0 ≡ input_reason x → true ≡ no_deep_store w.dropped x → true ≡ reads_no_dropped with_debug w.dropped w.blocks → 0 ≡ shelf_reason with_debug x w
  reason_0 e d f = rw (← d, ← f) at (others e)

  -- where no value is dropped, only the input has reasons
  pub reason_undropped : (n : ℕ) → n ≡ input_reason x → ((v : ℕ) → among v w.dropped ≡ false) → n ≡ shelf_reason with_debug x w
  unfolding input_reason shelf_reason
  reason_undropped n e h = rw (← none_deep w.dropped h x, ← none_dropped w.dropped h with_debug w.blocks) e
