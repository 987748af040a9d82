-- The walk over the blocks, and what it says of a written output.
use Prim.Native.Nat.{ℕ, suc, ◌+◌, ◌≤◌, ◌<◌, zero-le}
use mathlib.Core.Path.{◌≡◌, refl, ap, ◌∙◌, sym}
use mathlib.Core.List.{List, [], ◌∷◌, ◌++◌, append_assoc}
use mathlib.Core.Bool.{Bool, true, false, not, ◌&&◌, ◌||◌}
use native.Mathlib.Omega.{arith}
use lib.ListN.{length, get_or, drop, length-append, length-map}
use lib.Seq.{drop-drop, drop_at}
use Rattle.mir.specs.declared.Value.{Value}
use Rattle.mir.specs.declared.ValueId.{ValueId}
use Rattle.mir.specs.declared.Projection.{Projection}
use Rattle.mir.specs.declared.Projection.TheVariants.{Index, Field, Tuple}
use Rattle.mir.specs.Syntax.{Instruction, InstructionKind, Terminator, Block}
use Rattle.mir.specs.Syntax.{Assign, UnaryOp, BinaryOp, Call, Cast, Load, Store, Debug, Nop, Phi}
use Rattle.mir.specs.Syntax.{MakeTuple, ExtractTupleElement, MakeStruct, ExtractStructField, InsertField, InsertTuple, MakeFixedArray, AssertEq, HeapAllocCells}
use Rattle.mir.specs.Syntax.{Jump, If, BranchCmp, Return, Unreachable}
use Rattle.mir.specs.Reads.{operand, operands, indices, source_values, init_values, reads, dests, is_phi, terminator_reads}
use Rattle.bytes_field.specs.Encode.{each_bytes, instruction_bytes}
use Rattle.bytes_field.specs.declared.Bounds.{Bounds}
use Rattle.mir.specs.Lists.{Each}
use Rattle.bytes_laws.specs.WellFormed.{Wide, FitKind, FitTerminator}
use Rattle.bytes_laws.proofs.BackKinds.{instruction_back, terminator_back}
use Rattle.bytes_block.specs.Decode.{marks, block_marks}
use Rattle.bytes_block.specs.Encode.{block_bytes}
use Rattle.bytes_block.specs.WellFormed.{FitInstructions}
use Rattle.bytes_block.specs.declared.Mosts.{Mosts}
use Rattle.bytes_laws_whole.specs.WellFormed.{FitBlocks}
use Rattle.bytes_block.proofs.Relax.{relax}
use Rattle.shelf.specs.Lists.{every, among}
use Rattle.shelf.specs.Reads.{clean, clean_terminator, with_debug}
use Rattle.shelf.specs.Reason.{reads_no_dropped}
use Rattle.shelf_reason5.specs.Unread.{marked, clean_block, walked, Alone, Legible, Written}
use Rattle.std.specs.Prelude.{Option, Some, None}
use Rattle.shelf_reason5.proofs.Walk.{end_told, reads_told}

-- how many values an instruction or a terminator reads at most
one : (x : Value) (vs : List ValueId) → length (operand x vs) ≤ suc (length vs)
one (Value.Literal l) vs = omega arith
one (Value.Operand v) vs = omega arith
one Value.Error vs = omega arith

several : (xs : List Value) → length (operands xs) ≤ length xs
several [] = zero-le
several (x ∷ xs) = omega (arith, one x (operands xs), several xs)

steps : (ps : List Projection) → length (indices ps) ≤ length ps
steps [] = zero-le
steps (Index x ∷ ps) = omega (arith, steps ps)
steps (Field n ∷ ps) = omega (arith, steps ps)
steps (Tuple k ∷ ps) = omega (arith, steps ps)

module _ (b : Bounds) (short : b.list + b.projections ≤ 30) where
  few_reads : (seen : List Bool) (i : InstructionKind) → FitKind b seen i → length (reads i) ≤ 32
  few_reads seen (Assign d x t) h = omega (arith, one x [])
  few_reads seen (UnaryOp op d x) h = omega (arith, one x [])
  few_reads seen (BinaryOp op d x y) h = omega (arith, one x (operand y []), one y [])
  few_reads seen (Call ds f xs ps rs) h = omega (arith, several xs, h.2.0)
  few_reads seen (Cast d x t u) h = omega (arith, one x [])
  few_reads seen (Load d p t) h = omega (arith, several (indices p.projections), steps p.projections, h.1.1.0)
  few_reads seen (Store p x t) h = omega (arith, length-append (operands (indices p.projections)) (operand x []), one x [], several (indices p.projections), steps p.projections, h.0.1.0)
  few_reads seen (Debug m xs) h = omega (arith, several xs, h.1.0)
  few_reads seen Nop h = zero-le
  few_reads seen (Phi d t ss) h = omega (arith, several (source_values ss), length-map ss (λ s. s.value), h.2.0)
  few_reads seen (MakeTuple d xs) h = omega (arith, several xs, h.1.0)
  few_reads seen (ExtractTupleElement d x k t) h = omega (arith, one x [])
  few_reads seen (MakeStruct d fs t) h = omega (arith, several (init_values fs), length-map fs (λ f. f.value), h.1.0)
  few_reads seen (ExtractStructField d x n t) h = omega (arith, one x [])
  few_reads seen (InsertField d x n y t) h = omega (arith, one x (operand y []), one y [])
  few_reads seen (InsertTuple d x k y t) h = omega (arith, one x (operand y []), one y [])
  few_reads seen (MakeFixedArray d xs t c) h = omega (arith, several xs, h.1.0)
  few_reads seen (AssertEq x y) h = omega (arith, one x (operand y []), one y [])
  few_reads seen (HeapAllocCells d x) h = omega (arith, one x [])

  few_last : (t : Terminator) → FitTerminator b t → length (terminator_reads t) ≤ 32
  few_last (Jump p) h = zero-le
  few_last (If x p q) h = omega (arith, one x [])
  few_last (BranchCmp op x y p q) h = omega (arith, one x (operand y []), one y [])
  few_last (Return xs) h = omega (arith, several xs, h.0)
  few_last Unreachable h = zero-le

  -- what fits is legible
  alone_each : (seen : List Bool) (late : Bool) (is : List Instruction) → Wide b → FitInstructions b seen late is → Each (Alone b) is
  alone_each seen late [] w h = tt
  alone_each seen late (i ∷ is) w h = (
    record { read = λ t. relax b seen late (instruction_bytes i ++ t) (instruction_back b seen late i t w h.0); few = few_reads seen i.kind h.0.1 },
    alone_each (marks seen (dests i.kind)) (late || not (is_phi i.kind)) is w h.1,
  )

  legible_each : (m : Mosts) (total : ℕ) (seen : List Bool) (xs : List Block) → m.block ≤ 65535 → Wide b → FitBlocks m b total seen xs → Each (Legible b) xs
  legible_each m total seen [] l w h = tt
  legible_each m total seen (x ∷ xs) l w h = (
    record {
      many = omega (arith, h.0.own);
      each = alone_each seen false x.instructions w h.0.instructions;
      last = λ t. terminator_back b x.terminator t w h.0.terminator;
      few = few_last x.terminator h.0.terminator;
    },
    legible_each m (total + length x.instructions) (block_marks seen x.instructions) xs l w h.1,
  )

-- the blocks `left` are left, and stand at `here`
pub record Rest (b : Bounds) (s : List ℕ) (ms : List Bool) (many k here : ℕ) (ks : List Block) (left : List Block) : Type 0 where
  pub count : length left + k ≡ many
  pub sound : Each (Legible b) left
  pub tail : List ℕ
  pub bytes : drop here s ≡ each_bytes block_bytes left ++ tail
  pub same : every (clean_block ms) ks ≡ every (clean_block ms) left

pub data SomeRest (b : Bounds) (s : List ℕ) (ms : List Bool) (many k here : ℕ) (ks : List Block) : Type 0 where
  some_rest : (left : List Block) → Rest b s ms many k here ks left → SomeRest b s ms many k here ks

-- k blocks were walked, and read no marked value
pub record Over (b : Bounds) (s : List ℕ) (at : ℕ) (ms : List Bool) (many k here : ℕ) : Type 0 where
  pub under : k ≤ many
  pub left : (ks : List Block) (rest : List ℕ) → drop at s ≡ each_bytes block_bytes ks ++ rest → length ks ≡ many → Each (Legible b) ks → SomeRest b s ms many k here ks

pub over_start : (b : Bounds) (s : List ℕ) (at : ℕ) (ms : List Bool) (many : ℕ) → Over b s at ms many 0 at
over_start b s at ms many = record { under = zero-le; left = λ ks rest e l h. some_rest ks (record { count = omega arith; sound = h; tail = rest; bytes = e; same = refl }) }

-- the next block
module _ (b : Bounds) (s : List ℕ) (at : ℕ) (ms : List Bool) (many k here : ℕ) (u : Over b s at ms many k here) (h : k < many) (r : Option ℕ) (says : (x : Block) (rest : List ℕ) → drop here s ≡ block_bytes x ++ rest → Legible b x → r ≡ walked (clean_block ms x) (here + length (block_bytes x))) where
  one_less : (end : ℕ) → r ≡ Some end → {ks : List Block} (left : List Block) → Rest b s ms many k here ks left → SomeRest b s ms many (k + 1) end ks
  one_less end z [] l = absurd (omega (arith, l.count))
  one_less end z (x ∷ xs) l =
      let a = block_bytes x in
      let t = each_bytes block_bytes xs ++ l.tail in
      let y : drop here s ≡ a ++ t = l.bytes ∙ append_assoc a (each_bytes block_bytes xs) l.tail in
      let p = end_told (clean_block ms x) (here + length a) end (sym z ∙ says x t y l.sound.0) in
      some_rest xs (record {
        count = omega (arith, l.count);
        sound = l.sound.1;
        tail = l.tail;
        bytes = rw p.1 (sym (drop-drop (length a) here s) ∙ ap (λ q. drop (length a) q) y ∙ drop_at a t (length a) refl);
        same = l.same ∙ ap (λ q. q && every (clean_block ms) xs) p.0;
      })

  pub over_again : (end : ℕ) → r ≡ Some end → Over b s at ms many (k + 1) end
  over_again end z =
      record {
        under = omega arith;
        left = λ ks rest e l f.
            elim (u.left ks rest e l f) [
              | some_rest left y ↦ one_less end z left y
            ];
      }

  block_reads : r ≡ None → {ks : List Block} (left : List Block) → Rest b s ms many k here ks left → every (clean_block ms) ks ≡ false
  block_reads z [] l = absurd (omega (arith, l.count))
  block_reads z (x ∷ xs) l =
      let a = block_bytes x in
      let t = each_bytes block_bytes xs ++ l.tail in
      let y : drop here s ≡ a ++ t = l.bytes ∙ append_assoc a (each_bytes block_bytes xs) l.tail in
      let p = reads_told (clean_block ms x) (here + length a) (sym z ∙ says x t y l.sound.0) in
      l.same ∙ ap (λ q. q && every (clean_block ms) xs) p

  pub over_reads : r ≡ None → (ks : List Block) (rest : List ℕ) → drop at s ≡ each_bytes block_bytes ks ++ rest → length ks ≡ many → Each (Legible b) ks → false ≡ every (clean_block ms) ks
  over_reads z ks rest e l f =
      elim (u.left ks rest e l f) [
        | some_rest left y ↦ sym (block_reads z left y)
      ]

-- no block is left
module _ (b : Bounds) (s : List ℕ) (at : ℕ) (ms : List Bool) (many k here : ℕ) (u : Over b s at ms many k here) (h : many ≤ k) where
  none_left : {ks : List Block} (left : List Block) → Rest b s ms many k here ks left → true ≡ every (clean_block ms) ks
  none_left [] l = sym l.same
  none_left (x ∷ xs) l = absurd (omega (arith, l.count))

  pub over_done : (ks : List Block) (rest : List ℕ) → drop at s ≡ each_bytes block_bytes ks ++ rest → length ks ≡ many → Each (Legible b) ks → true ≡ every (clean_block ms) ks
  over_done ks rest e l f =
      elim (u.left ks rest e l f) [
        | some_rest left y ↦ none_left left y
      ]

-- marks that say what the list says
module _ (ms : List Bool) (ds : List ValueId) (same : (v : ℕ) → get_or ms v false ≡ among v ds) where
  values_same : (vs : List ValueId) → every (λ v. not (marked ms v.0)) vs ≡ every (λ v. not (among v.0 ds)) vs
  values_same [] = refl
  values_same (v ∷ vs) = rw (same v.0, values_same vs)

  code_same : (is : List Instruction) → clean with_debug (marked ms) is ≡ clean with_debug (λ x. among x ds) is
  unfolding clean
  code_same [] = refl
  code_same (i ∷ is) = rw (values_same (reads i.kind), code_same is)

  end_same : (t : Terminator) → clean_terminator (marked ms) t ≡ clean_terminator (λ x. among x ds) t
  unfolding clean_terminator
  end_same t = values_same (terminator_reads t)

  swap : (a c d e : Bool) → ((a && c) && (d && e)) ≡ ((a && d) && (c && e))
  swap true true d e = refl
  swap true false true e = refl
  swap true false false e = refl
  swap false c d e = refl

  pub blocks_same : (ks : List Block) → every (clean_block ms) ks ≡ reads_no_dropped with_debug ds ks
  unfolding reads_no_dropped
  blocks_same [] = refl
  blocks_same (k ∷ ks) =
      let p = clean with_debug (λ x. among x ds) k.instructions in
      let q = clean_terminator (λ x. among x ds) k.terminator in
      let d = every (λ k. clean with_debug (λ x. among x ds) k.instructions) ks in
      let e = every (λ k. clean_terminator (λ x. among x ds) k.terminator) ks in
      rw (code_same k.instructions, end_same k.terminator, blocks_same ks) (swap p q d e)

-- the answer on a written output
pub told : (b : Bounds) (s : List ℕ) (at : ℕ) (ms : List Bool) (many : ℕ) (r : Bool) → ((ks : List Block) (rest : List ℕ) → drop at s ≡ each_bytes block_bytes ks ++ rest → length ks ≡ many → Each (Legible b) ks → r ≡ every (clean_block ms) ks) → (ks : List Block) (ds : List ValueId) → Written b s at many ks → ((v : ℕ) → get_or ms v false ≡ among v ds) → r ≡ reads_no_dropped with_debug ds ks
told b s at ms many r f ks ds w same = f ks w.rest w.bytes w.as_many (legible_each b w.short w.mosts w.total w.seen ks w.counted w.wide w.fits) ∙ blocks_same ms ds same ks
