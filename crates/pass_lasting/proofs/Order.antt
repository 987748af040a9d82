-- Order: a block that reads nothing that it defines there or later comes out so.
use mathlib.Core.Path.{◌≡◌}
use Prim.Native.Nat.{ℕ, suc, ◌+◌, ◌≤◌}
use mathlib.Core.Bool.{Bool, not, ◌&&◌}
use mathlib.Core.List.{List, [], ◌∷◌, ◌++◌, append-nil, append_assoc}
use native.Mathlib.Omega.{arith}
use lib.Dec.{T, eqb, ltb, ltb→lt, not_T}
use lib.ListN.{length}
use Rattle.mir.specs.declared.ValueId.{ValueId}
use Rattle.mir.specs.Syntax.{Instruction, Block}
use Rattle.mir.specs.Reads.{reads, dests}
use Rattle.mir.specs.Phis.{behind_phis, phis_of}
use Rattle.rewrite.specs.Piece.{Piece}
use Rattle.rewrite.specs.Run.{Walked, glue}
use Rattle.shelf.specs.Lists.{every, among}
use Rattle.shelf.specs.Reads.{counted_reads, defined_in, ordered}
use Rattle.shelf.proofs.Both.{every_imp}
use Rattle.shelf.proofs.Flag.{counted_of}
use Rattle.machine_simulation.specs.Static.{below, no_phi}
use Rattle.machine_simulation.proofs.Tools.{both_l, both_r, both, nor_i, none_of, every_two→Each, all→every}
use Rattle.machine_simulation.proofs.Invariant.{once_now, once_later}
use Rattle.machine_simulation.proofs.Rebuilds.{low_other, low_low}
use Rattle.machine_simulation.proofs.NoPhi.{behind_phis_lem}
use Rattle.machine_claim.proofs.Defined.{among_append}
use Rattle.pass_lasting.proofs.Vocabulary.{early, Calm, none, build, bare, InOrder, gone, stands}

-- what comes out of a walk from number n on: it stands in order, and what is below n and not defined by what went in is not defined by it
pub record Orderly (debug : Bool) (n : ℕ) (is out : List Instruction) : Type 0 where
  pub ordered : T (ordered debug out)
  pub defines : (v : ℕ) → T (ltb v n) → T (not (among v (defined_in is))) → T (not (among v (defined_in out)))

-- ---- lists

-- two tests that all pass are one
pub every_both : {A : Type 0} (p q : A → Bool) (xs : List A) → T (every p xs) → T (every q xs) → T (every (λ x. p x && q x) xs)
every_both p q xs s t = all→every (λ x. p x && q x) xs (every_two→Each p q (λ x. T (p x && q x)) (λ x a b. both (p x) (q x) a b) xs s t)

-- what is not defined by an instruction nor behind it is not defined there or later
defined_cons : (i : Instruction) (is : List Instruction) (v : ℕ) → T (not (among v (dests i.kind))) → T (not (among v (defined_in is)))
    → T (not (among v (defined_in (i ∷ is))))
unfolding defined_in
defined_cons i is v s t = among_append v (dests i.kind) (defined_in is) s t

-- instructions below a number define none from it on
pub below_defined : (low : ℕ) (is : List Instruction) (v : ℕ) → T (below low is) → low ≤ v → T (not (among v (defined_in is)))
unfolding defined_in below
below_defined low [] v t le = tt
below_defined low (i ∷ is) v t le =
    let d : T (every (λ u. ltb u.0 low) (dests i.kind)) = search (both_l, both_r) in
    let r : T (below low is) = search (both_l, both_r) in
    let over : T (not (ltb v low)) = not_T (ltb v low) (λ s. omega (arith, ltb→lt v low s, le)) in
    among_append v (dests i.kind) (defined_in is) (none_of (λ u. ltb u low) v (dests i.kind) d over) (below_defined low is v r le)

-- ---- rebuilds in front

-- rebuilds take numbers upwards
calm_up : (q : ℕ → Bool) (n m : ℕ) (bs : List Instruction) → Calm q n bs m → n ≤ m
calm_up q n m bs none = omega arith
calm_up q n m bs (build {i} {is} d r c) = omega (arith, calm_up q (suc n) m is c)
calm_up q n m bs (bare c) = omega (arith, calm_up q (suc n) m bs c)

-- what is below their first number and not defined behind them is not defined by them either
calm_defines : (q : ℕ → Bool) (n m : ℕ) (bs rest : List Instruction) → Calm q n bs m → (v : ℕ) → T (ltb v n) → T (not (among v (defined_in rest)))
    → T (not (among v (defined_in (bs ++ rest))))
calm_defines q n m bs rest none v l t = t
calm_defines q n m bs rest (build {i} {is} d r c) v l t =
    defined_cons i (is ++ rest) v (rw d (nor_i (eqb v n) (among v []) (low_other n v l) tt))
    (calm_defines q (suc n) m is rest c v (low_low n (suc n) v (omega arith) l) t)
calm_defines q n m bs rest (bare c) v l t = calm_defines q (suc n) m bs rest c v (low_low n (suc n) v (omega arith) l) t

-- rebuilds stand in order in front of what stands in order and defines nothing that is early
calm_ordered : (debug : Bool) (q : ℕ → Bool) (n m : ℕ) (bs rest : List Instruction) → Calm q n bs m
    → ((v : ℕ) → T (ltb v m) → T (q v) → T (not (among v (defined_in rest)))) → T (ordered debug rest) → T (ordered debug (bs ++ rest))
unfolding ordered
calm_ordered debug q n m bs rest none h o = o
calm_ordered debug q n m bs rest (build {i} {is} d r c) h o =
    let up : suc n ≤ m = calm_up q (suc n) m is c in
    let p : ValueId → Bool = λ v. not (among v.0 (defined_in (i ∷ (is ++ rest)))) in
    both (every p (counted_reads debug i.kind)) (ordered debug (is ++ rest))
    (counted_of p debug i.kind
    (every_imp (early q n) p
    (λ v e. let l : T (ltb v.0 n) = both_l (ltb v.0 n) (q v.0) e in
    calm_defines q n m (i ∷ is) rest (build d r c) v.0 l
    (h v.0 (low_low n m v.0 (omega (arith, up)) l) (both_r (ltb v.0 n) (q v.0) e))) (reads i.kind) r))
    (calm_ordered debug q (suc n) m is rest c h o)
calm_ordered debug q n m bs rest (bare c) h o = calm_ordered debug q (suc n) m bs rest c h o

-- rebuilds with nothing behind them, as before a Return, stand in order and define no number below their first
pub calm_orderly : (debug : Bool) (q : ℕ → Bool) (n m : ℕ) (bs : List Instruction) → Calm q n bs m → Orderly debug n [] bs
unfolding ordered defined_in
calm_orderly debug q n m bs c =
    record {
      ordered = rw (append-nil bs) at (calm_ordered debug q n m bs [] c (λ v l t. tt) tt);
      defines = λ v l t. rw (append-nil bs) at (calm_defines q n m bs [] c v l t);
    }

-- ---- one piece

-- nothing put out
gone_piece : (debug : Bool) (n m : ℕ) (i : Instruction) (is out : List Instruction) → n ≤ m → Orderly debug m is out → Orderly debug n (i ∷ is) out
gone_piece debug n m i is out le o =
    record {
      ordered = o.ordered;
      defines = λ v l t. o.defines v (low_low n m v le l) (once_later i is v t);
    }

-- rebuilds, and the instruction behind them
stands_piece : (debug : Bool) (n m : ℕ) (i j : Instruction) (is bs out : List Instruction) → n ≤ m
    → Calm (λ v. not (among v (defined_in (i ∷ is)))) n bs m → dests j.kind ≡ dests i.kind
    → T (every (early (λ v. not (among v (defined_in (i ∷ is)))) m) (counted_reads debug j.kind))
    → Orderly debug m is out → Orderly debug n (i ∷ is) (bs ++ (j ∷ out))
unfolding ordered
stands_piece debug n m i j is bs out le c d r o =
    let q : ℕ → Bool = λ v. not (among v (defined_in (i ∷ is))) in
    let p : ValueId → Bool = λ v. not (among v.0 (defined_in (j ∷ out))) in
    let free : (v : ℕ) → T (ltb v m) → T (q v) → T (not (among v (defined_in (j ∷ out)))) =
    λ v l t. defined_cons j out v (rw d (once_now i is v t)) (o.defines v l (once_later i is v t)) in
    record {
      ordered = calm_ordered debug q n m bs (j ∷ out) c free
          (both (every p (counted_reads debug j.kind)) (ordered debug out)
          (every_imp (early q m) p (λ v e. free v.0 (both_l (ltb v.0 m) (q v.0) e) (both_r (ltb v.0 m) (q v.0) e)) (counted_reads debug j.kind) r)
          o.ordered);
      defines = λ v l t. calm_defines q n m bs (j ∷ out) c v l (free v (low_low n m v le l) t);
    }

-- a piece in order, in front of what comes out in order
pub orderly_piece : (debug : Bool) (n : ℕ) (i : Instruction) (is : List Instruction) (p : Piece) (w : Walked)
    → InOrder debug (λ v. not (among v (defined_in (i ∷ is)))) n i p → Orderly debug (n + length p.fresh) is w.out
    → Orderly debug n (i ∷ is) (glue p w).out
unfolding glue
orderly_piece debug n i is p w (gone e) o = rw e (gone_piece debug n (n + length p.fresh) i is w.out (omega arith) o)
orderly_piece debug n i is p w (stands bs j e c d r) o =
    rw e (rw (append_assoc bs (j ∷ []) w.out) (stands_piece debug n (n + length p.fresh) i j is bs w.out (omega arith) c d r o))

-- ---- blocks

-- behind the phis, which stay, stands what the walk put out
pub block_ordered : (debug : Bool) (k : Block) (w : Walked) → T (no_phi w.out) → T (ordered debug w.out)
    → T (ordered debug (behind_phis (phis_of k.instructions ++ w.out)))
block_ordered debug k w h o = rw (behind_phis_lem k.instructions w.out h) o
