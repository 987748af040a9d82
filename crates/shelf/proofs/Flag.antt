-- The flag of the shelf test. With it Debug counts like any other instruction; what passes a test with it passes without it.
use Prim.Native.Nat.{ℕ}
use mathlib.Core.Path.{◌≡◌, refl}
use mathlib.Core.List.{List, [], ◌∷◌}
use mathlib.Core.Bool.{Bool, true, false, cond, not}
use native.Mathlib.Omega.{arith}
use lib.Dec.{T}
use Rattle.bytes_wire.specs.Parse.{ok}
use Rattle.mir.specs.declared.ValueId.{ValueId}
use Rattle.mir.specs.Syntax.{Instruction, InstructionKind, Block}
use Rattle.mir.specs.Routine.{Routine}
use Rattle.mir.specs.Reads.{reads, counted}
use Rattle.mir.specs.Lookup.{Types, recorded_type, is_some, types_in}
use Rattle.mir.specs.Phis.{behind_phis}
use Rattle.fold.specs.declared.Settings.{Settings}
use Rattle.rewrite.specs.Run.{Rewritten, rewritten_blocks}
use Rattle.shelf.specs.Lists.{every, among}
use Rattle.shelf.specs.Reads.{counted_reads, defined_in, ordered, clean, clean_terminator, with_debug}
use Rattle.shelf.specs.Agrees.{agrees, counted_agrees, block_agrees, end_agrees}
use Rattle.shelf.specs.Reason.{types_agree, in_order, kept_apart, no_deep_store, reads_no_dropped, shelf_reason}
use Rattle.shelf.specs.Answer.{reason_of}
use Rattle.shelf.proofs.Both.{both_l, both_r, both, every_imp}

-- reasons 1, 2 and 5 with the flag: of every instruction, all that it reads
pub agrees_all : (τ : Types) (i : InstructionKind) → T (counted_agrees true τ i) → T (agrees τ i)
unfolding counted_agrees
agrees_all τ i t = t

pub ordered_all : (i : Instruction) (is : List Instruction) → T (ordered true (i ∷ is)) → T (every (λ v. not (among v.0 (defined_in (i ∷ is)))) (reads i.kind))
unfolding ordered
ordered_all i is t = both_l (every (λ v. not (among v.0 (defined_in (i ∷ is)))) (reads i.kind)) (ordered true is) t

pub clean_all : (dropped : ℕ → Bool) (i : Instruction) (is : List Instruction) → T (clean true dropped (i ∷ is)) → T (every (λ v. not (dropped v.0)) (reads i.kind))
unfolding clean
clean_all dropped i is t = both_l (every (λ v. not (dropped v.0)) (reads i.kind)) (clean true dropped is) t

-- what holds of all reads holds of those that count
pub counted_of : (p : ValueId → Bool) (debug : Bool) (i : InstructionKind) → T (every p (reads i)) → T (every p (counted_reads debug i))
counted_of p debug i t = some_of (counted debug i)
  where
    some_of : (c : Bool) → T (every p (cond c (reads i) []))
    some_of true = t
    some_of false = tt

pub reads_aside : (p : ValueId → Bool) (debug : Bool) (i : InstructionKind) → T (every p (counted_reads debug i)) → T (every p (counted_reads false i))
reads_aside p true i t = counted_of p false i t
reads_aside p false i t = t

pub agrees_aside : (debug : Bool) (τ : Types) (i : InstructionKind) → T (counted_agrees debug τ i) → T (counted_agrees false τ i)
unfolding counted_agrees
agrees_aside true τ i t = some_of (counted false i)
  where
    some_of : (c : Bool) → T (cond c (agrees τ i) true)
    some_of true = t
    some_of false = tt
agrees_aside false τ i t = t

-- ---- reason 0 with Debug counted is reason 0 with it left aside

module _ (debug : Bool) where
  -- reason 1
  agrees_under : (τ : Types) (i : InstructionKind) → T (counted_agrees with_debug τ i) → T (counted_agrees debug τ i)
  agrees_under τ i t = at debug
    where
      at : (c : Bool) → T (counted_agrees c τ i)
      at true = t
      at false = agrees_aside with_debug τ i t

  block_under : (τ : Types) (k : Block) → T (block_agrees with_debug τ k) → T (block_agrees debug τ k)
  unfolding block_agrees
  block_under τ k t =
      let p : Instruction → Bool = λ i. counted_agrees with_debug τ i.kind in
      let q : Instruction → Bool = λ i. counted_agrees debug τ i.kind in
      both (every q k.instructions) (end_agrees τ k.terminator)
      (every_imp p q (λ i. agrees_under τ i.kind) k.instructions (both_l (every p k.instructions) (end_agrees τ k.terminator) t))
      (both_r (every p k.instructions) (end_agrees τ k.terminator) t)

  types_under : (r : Routine) → T (types_agree with_debug r) → T (types_agree debug r)
  unfolding types_agree
  types_under r t =
      let p = every (λ v. is_some (recorded_type (types_in r) v)) r.parameters in
      let q = every (block_agrees with_debug (types_in r)) r.blocks in
      both p (every (block_agrees debug (types_in r)) r.blocks) (both_l p q t)
      (every_imp (block_agrees with_debug (types_in r)) (block_agrees debug (types_in r)) (block_under (types_in r)) r.blocks (both_r p q t))

  -- reason 2
  ordered_under : (is : List Instruction) → T (ordered with_debug is) → T (ordered debug is)
  unfolding ordered
  ordered_under [] t = tt
  ordered_under (i ∷ is) t =
      let p : ValueId → Bool = λ v. not (among v.0 (defined_in (i ∷ is))) in
      both (every p (counted_reads debug i.kind)) (ordered debug is)
      (counted_of p debug i.kind (both_l (every p (reads i.kind)) (ordered with_debug is) t))
      (ordered_under is (both_r (every p (reads i.kind)) (ordered with_debug is) t))

  order_under : (r : Routine) → T (in_order with_debug r) → T (in_order debug r)
  unfolding in_order
  order_under r t =
      every_imp (λ (k : Block). ordered with_debug (behind_phis k.instructions)) (λ k. ordered debug (behind_phis k.instructions))
      (λ k. ordered_under (behind_phis k.instructions)) r.blocks t

  -- reason 5
  clean_under : (dropped : ℕ → Bool) (is : List Instruction) → T (clean with_debug dropped is) → T (clean debug dropped is)
  unfolding clean
  clean_under dropped [] t = tt
  clean_under dropped (i ∷ is) t =
      let p : ValueId → Bool = λ v. not (dropped v.0) in
      both (every p (counted_reads debug i.kind)) (clean debug dropped is)
      (counted_of p debug i.kind (both_l (every p (reads i.kind)) (clean with_debug dropped is) t))
      (clean_under dropped is (both_r (every p (reads i.kind)) (clean with_debug dropped is) t))

  dropped_under : (ds : List ValueId) (ks : List Block) → T (reads_no_dropped with_debug ds ks) → T (reads_no_dropped debug ds ks)
  unfolding reads_no_dropped
  dropped_under ds ks t =
      let gone : ℕ → Bool = λ x. among x ds in
      let p : Block → Bool = λ k. clean with_debug gone k.instructions in
      let q : Block → Bool = λ k. clean debug gone k.instructions in
      let e = every (λ (k : Block). clean_terminator gone k.terminator) ks in
      both (every q ks) e (every_imp p q (λ k. clean_under gone k.instructions) ks (both_l (every p ks) e t)) (both_r (every p ks) e t)

-- where no reason holds, none does of weaker tests
zeroed : (a b c d e a' b' e' : Bool) → (T a → T a') → (T b → T b') → (T e → T e')
    → ◌≡◌ {A = ℕ} (cond a (cond b (cond c (cond d (cond e 0 5) 4) 3) 2) 1) 0
    → ◌≡◌ {A = ℕ} (cond a' (cond b' (cond c (cond d (cond e' 0 5) 4) 3) 2) 1) 0
zeroed true true true true true true true true f g h z = refl
zeroed true true true true true true true false f g h z = absurd (h tt)
zeroed true true true true true true false e' f g h z = absurd (g tt)
zeroed true true true true true false b' e' f g h z = absurd (f tt)
zeroed true true true true false a' b' e' f g h z = let n : ◌≡◌ {A = ℕ} 5 0 = z in omega (arith, n)
zeroed true true true false e a' b' e' f g h z = let n : ◌≡◌ {A = ℕ} 4 0 = z in omega (arith, n)
zeroed true true false d e a' b' e' f g h z = let n : ◌≡◌ {A = ℕ} 3 0 = z in omega (arith, n)
zeroed true false c d e a' b' e' f g h z = let n : ◌≡◌ {A = ℕ} 2 0 = z in omega (arith, n)
zeroed false b c d e a' b' e' f g h z = let n : ◌≡◌ {A = ℕ} 1 0 = z in omega (arith, n)

pub reason_under : (debug : Bool) (r : Routine) (w : Rewritten) → shelf_reason with_debug r w ≡ 0 → shelf_reason debug r w ≡ 0
unfolding shelf_reason
reason_under debug r w z =
    zeroed (types_agree with_debug r) (in_order with_debug r) (kept_apart r) (no_deep_store w.dropped r) (reads_no_dropped with_debug w.dropped w.blocks)
    (types_agree debug r) (in_order debug r) (reads_no_dropped debug w.dropped w.blocks)
    (types_under debug r) (order_under debug r) (dropped_under debug w.dropped w.blocks) z

-- so a call that answers reason 0 says it of readers of Debug and of readers who leave it aside
pub answered_under : (debug : Bool) (σ : Settings) (r : Routine) (n : ℕ) → reason_of σ (ok r n) ≡ 0 → shelf_reason debug r (rewritten_blocks σ r) ≡ 0
unfolding reason_of
answered_under debug σ r n z = reason_under debug r (rewritten_blocks σ r) z
