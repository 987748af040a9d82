-- The marks of the values defined so far, in the input and in the output: the output has fewer below next, and its fresh
-- numbers come in order.
use Prim.Native.Nat.{ℕ, suc, ◌≤◌, ◌<◌}
use mathlib.Core.Path.{◌≡◌, refl, ap, ◌∙◌, sym}
use mathlib.Core.List.{List, [], ◌∷◌}
use mathlib.Core.Bool.{true, false, not, true≢false}
use mathlib.Core.Bool as B
use native.Mathlib.Omega.{arith}
use lib.Dec.{T, eqb, eqb→eq, eqb_refl}
use lib.ListN.{length, get_or, length-set}
use lib.Seq.{get_or-set_same, get_or-set_other}
use Rattle.mir.specs.declared.ValueId.{ValueId}
use Rattle.mir.specs.Syntax.{InstructionKind, Assign, UnaryOp, BinaryOp, Call, Cast, Load, Store, Debug, Nop, Phi}
use Rattle.mir.specs.Syntax.{MakeTuple, ExtractTupleElement, MakeStruct, ExtractStructField, InsertField, InsertTuple, MakeFixedArray, AssertEq, HeapAllocCells}
use Rattle.mir.specs.Reads.{dests}
use Rattle.bytes_field.specs.Decode.{mark}
use Rattle.bytes_field.specs.declared.Bounds.{Bounds}
use Rattle.bytes_laws.specs.WellFormed.{FitNews, FitKind}
use Rattle.bytes_block.specs.Decode.{marks}
use Rattle.bytes_block.proofs.Marks.{mark_stays}

-- a test with its answer
pub data Split (b : B.Bool) : Type 0 where
  passes : T b → Split b
  fails : T (not b) → Split b

pub split : (b : B.Bool) → Split b
split true = passes tt
split false = fails tt

-- the dests of an instruction are new, each behind the one before
pub dests_new : (b : Bounds) (seen : List B.Bool) (i : InstructionKind) → FitKind b seen i → FitNews b seen (dests i)
dests_new b seen (Assign d x t) h = (h.0, tt)
dests_new b seen (UnaryOp op d x) h = (h.1, tt)
dests_new b seen (BinaryOp op d x y) h = (h.1, tt)
dests_new b seen (Call ds f xs ps rs) h = h.0.1
dests_new b seen (Cast d x t u) h = (h.0, tt)
dests_new b seen (Load d p t) h = (h.0, tt)
dests_new b seen (Store p x t) h = tt
dests_new b seen (Debug m xs) h = tt
dests_new b seen Nop h = tt
dests_new b seen (Phi d t ss) h = (h.0, tt)
dests_new b seen (MakeTuple d xs) h = (h.0, tt)
dests_new b seen (ExtractTupleElement d x k t) h = (h.0, tt)
dests_new b seen (MakeStruct d fs t) h = (h.0, tt)
dests_new b seen (ExtractStructField d x n t) h = (h.0, tt)
dests_new b seen (InsertField d x n y t) h = (h.0, tt)
dests_new b seen (InsertTuple d x k y t) h = (h.0, tt)
dests_new b seen (MakeFixedArray d xs t c) h = (h.0, tt)
dests_new b seen (AssertEq x y) h = tt
dests_new b seen (HeapAllocCells d x) h = (h.0, tt)

-- a defined value has a mark
differ : (v d : ℕ) → T (not (eqb v d)) → v ≡ d → ⊥
differ v d y e = no (eqb v d) (rw e (eqb_refl d)) y
  where
    no : (b : B.Bool) → T b → T (not b) → ⊥
    no true s t = t
    no false s t = s

-- what is not marked behind was not marked before
unmarked_before : (seen : List B.Bool) (d : ValueId) (v : ℕ) → get_or (mark seen d) v false ≡ false → get_or seen v false ≡ false
unmarked_before seen d v h = at (get_or seen v false) refl
  where
    at : (x : B.Bool) → get_or seen v false ≡ x → x ≡ false
    at true e = sym (mark_stays seen d v e) ∙ h
    at false e = refl

-- what is not marked in one is not marked in the other, below m
abbrev pub Fewer : ℕ → List B.Bool → List B.Bool → Type 0
Fewer m seen marked = (v : ℕ) → v < m → get_or seen v false ≡ false → get_or marked v false ≡ false

-- nothing is marked from n on
abbrev pub Above : ℕ → List B.Bool → Type 0
Above n marked = (v : ℕ) → n ≤ v → get_or marked v false ≡ false

-- both mark a value
fewer_mark : (m : ℕ) (seen marked : List B.Bool) (d : ValueId) → m ≤ length seen → d.0 < m → Fewer m seen marked → Fewer m (mark seen d) (mark marked d)
fewer_mark m seen marked d l k f v h e =
    elim (split (eqb v d.0)) [
      | passes y ↦ absurd (true≢false (sym (get_or-set_same seen d.0 true false (omega (arith, l, k))) ∙ (sym (ap (λ q. get_or (mark seen d) q false) (eqb→eq v d.0 y)) ∙ e)))
      | fails y ↦ get_or-set_other marked d.0 v true false (differ v d.0 y) ∙ f v h (sym (get_or-set_other seen d.0 v true false (differ v d.0 y)) ∙ e)
    ]

-- only the input marks it
fewer_left : (m : ℕ) (seen marked : List B.Bool) (d : ValueId) → Fewer m seen marked → Fewer m (mark seen d) marked
fewer_left m seen marked d f v h e = f v h (unmarked_before seen d v e)

-- only the output marks a fresh number
pub fewer_fresh : (m n : ℕ) (seen marked : List B.Bool) → m ≤ n → Fewer m seen marked → Fewer m seen (mark marked (record { 0 = n }))
fewer_fresh m n seen marked l f v h e = get_or-set_other marked n v true false (λ q. omega (arith, q, h, l)) ∙ f v h e

above_mark : (n : ℕ) (marked : List B.Bool) (d : ValueId) → d.0 < n → Above n marked → Above n (mark marked d)
above_mark n marked d l f v h = get_or-set_other marked d.0 v true false (λ q. omega (arith, q, h, l)) ∙ f v h

pub above_fresh : (n : ℕ) (marked : List B.Bool) → Above n marked → Above (suc n) (mark marked (record { 0 = n }))
above_fresh n marked f v h = get_or-set_other marked n v true false (λ q. omega (arith, q, h)) ∙ f v (omega (arith, h))

pub above_later : (n m : ℕ) (marked : List B.Bool) → n ≤ m → Above n marked → Above m marked
above_later n m marked l f v h = f v (omega (arith, l, h))

-- several dests
pub record Both (m n : ℕ) (seen marked : List B.Bool) : Type 0 where
  pub long : m ≤ length seen
  pub start : m ≤ n
  pub fewer : Fewer m seen marked
  pub above : Above n marked

module _ (b c : Bounds) (k : b.next ≤ c.next) where
  -- new in the input, so new in the output
  pub news_both : (n : ℕ) (seen marked : List B.Bool) (ds : List ValueId) → Both b.next n seen marked → FitNews b seen ds → FitNews c marked ds
  news_both n seen marked [] h f = tt
  news_both n seen marked (d ∷ ds) h f =
      ((omega (arith, f.0.0, k), h.fewer d.0 f.0.0 f.0.1), news_both n (mark seen d) (mark marked d) ds (both_mark n seen marked d f.0.0 h) f.1)
    where
      both_mark : (n : ℕ) (seen marked : List B.Bool) (d : ValueId) → d.0 < b.next → Both b.next n seen marked → Both b.next n (mark seen d) (mark marked d)
      both_mark n seen marked d l h =
          record {
            long = rw (length-set seen d.0 true) h.long;
            start = h.start;
            fewer = fewer_mark b.next seen marked d h.long l h.fewer;
            above = above_mark n marked d (omega (arith, l, h.start)) h.above;
          }

  pub both_kept : (n : ℕ) (seen marked : List B.Bool) (ds : List ValueId) → FitNews b seen ds → Both b.next n seen marked → Both b.next n (marks seen ds) (marks marked ds)
  both_kept n seen marked [] f h = h
  both_kept n seen marked (d ∷ ds) f h =
      both_kept n (mark seen d) (mark marked d) ds f.1 (record {
        long = rw (length-set seen d.0 true) h.long;
        start = h.start;
        fewer = fewer_mark b.next seen marked d h.long f.0.0 h.fewer;
        above = above_mark n marked d (omega (arith, f.0.0, h.start)) h.above;
      })

  pub both_left : (n : ℕ) (seen marked : List B.Bool) (ds : List ValueId) → Both b.next n seen marked → Both b.next n (marks seen ds) marked
  both_left n seen marked [] h = h
  both_left n seen marked (d ∷ ds) h =
      both_left n (mark seen d) marked ds (record { long = rw (length-set seen d.0 true) h.long; start = h.start; fewer = fewer_left b.next seen marked d h.fewer; above = h.above })

  pub both_fresh : (n : ℕ) (seen marked : List B.Bool) → Both b.next n seen marked → Both b.next (suc n) seen (mark marked (record { 0 = n }))
  both_fresh n seen marked h =
      record { long = h.long; start = omega (arith, h.start); fewer = fewer_fresh b.next n seen marked h.start h.fewer; above = above_fresh n marked h.above }

  pub both_later : (n m : ℕ) (seen marked : List B.Bool) → n ≤ m → Both b.next n seen marked → Both b.next m seen marked
  both_later n m seen marked l h = record { long = h.long; start = omega (arith, l, h.start); fewer = h.fewer; above = above_later n m marked l h.above }
