-- The frame, of phis, terminators, blocks and runs: over any set X of values that nothing reads, what stands in X changes
-- neither record nor standing.
use mathlib.Core.Path.{◌≡◌, refl}
use Prim.Native.Nat.{ℕ, zero, suc}
use mathlib.Core.Bool.{Bool, not}
use mathlib.Core.Option.{Option, none, some}
use mathlib.Core.List.{List, [], ◌∷◌}
use lib.Dec.{T}
use lib.ListN.{get_elem?}
use Rattle.mir.specs.declared.ValueId.{ValueId}
use Rattle.mir.specs.declared.BlockId.{BlockId}
use Rattle.mir.specs.Syntax.{Instruction, Terminator, Jump, If, BranchCmp, Return, Unreachable, Block}
use Rattle.mir.specs.Reads.{operand, operands, source_values, reads, counted}
use Rattle.mir.specs.Lists.{Each}
use Rattle.mir.specs.Lookup.{Types, row_of}
use Rattle.mir.specs.Phis.{behind_phis, phis_of, PhiOf, phi_of}
use Rattle.machine.specs.Values.{Val}
use Rattle.machine.specs.Meaning.{Meaning, Verdict, says, balks}
use Rattle.machine.specs.Records.{Env, Writes, write_all, Event, Cause, Out, goes, stops, Left, next, Trace, log}
use Rattle.machine.specs.Records as R
use Rattle.mir.specs.Parts.{operand_row}
use Rattle.machine.specs.Places.{no_row}
use Rattle.machine.specs.Run.{onward, needed, branch, judged, source_from, read_phi, read_phis, exec_terminator, exec_all, exec_block, trace, run_block, run_blocks}
use Rattle.machine.specs.Exec.{exec}
use Rattle.shelf.specs.Lists.{every}
use Rattle.shelf.specs.Reads.{counted_reads, clean, clean_terminator}
use Rattle.machine_simulation.proofs.Tools.{both_l, both_r, every→Each, every_at, cond_yes}
use Rattle.machine_simulation.proofs.Frame.{Same, rest_of, eval_same, eval_all_same, AgreeOff, write_both, keep_agrees}
use Rattle.machine_simulation.proofs.Phis.{phi_reads, phi_counted, from_in, clean_behind, clean_phis}

-- two ends of a block that differ in X alone
pub data AlikeOff {A : Type 0} (X : ℕ → Bool) : Left A → Left A → Type 0 where
  on : (b : BlockId) (E F : Env A) (w : List (Val A)) (rec : List (Event A)) → AgreeOff X E F → AlikeOff X (next b E w rec) (next b F w rec)
  same : (l : Left A) → AlikeOff X l l

-- what is not in X is alike
same_off : {A : Type 0} (X : ℕ → Bool) (E F : Env A) → AgreeOff X E F → (vs : List ValueId) → T (every (λ v. not (X v.0)) vs) → Each (Same E F) vs
same_off X E F ag vs t = every→Each (λ v. not (X v.0)) (Same E F) (λ v h. ag v.0 h) vs t

-- behind a lookup
needed_off : {A B : Type 0} (X : ℕ → Bool) (c : Cause) (o : Option B) (rec : List (Event A)) (k k' : B → Left A)
    → ((b : B) → o ≡ some b → AlikeOff X (k b) (k' b)) → AlikeOff X (needed c o rec k) (needed c o rec k')
unfolding needed
needed_off X c none rec k k' h = same (R.halt c rec)
needed_off X c (some b) rec k k' h = h b refl

-- behind a verdict
judged_off : {A : Type 0} (X : ℕ → Bool) (v : Verdict) (rec : List (Event A)) (k k' : Bool → Left A) → ((b : Bool) → AlikeOff X (k b) (k' b))
    → AlikeOff X (judged v rec k) (judged v rec k')
unfolding judged
judged_off X (says b) rec k k' h = h b
judged_off X (balks c) rec k k' h = same (R.halt _ rec)

module _ {A : Type 0} (M : Meaning A) (τ : Types) (X : ℕ → Bool) where
  -- a terminator that does not read X
  pub terminator_agrees : (t : Terminator) (E F : Env A) (w : List (Val A)) (rec : List (Event A)) → AgreeOff X E F → T (clean_terminator X t)
      → AlikeOff X (exec_terminator M τ t E w rec) (exec_terminator M τ t F w rec)
  unfolding exec_terminator clean_terminator
  terminator_agrees (Jump b) E F w rec ag t = on b E F w rec ag
  terminator_agrees (If x a b) E F w rec ag t =
      rw (← (eval_same M E F none x [] (same_off X E F ag (operand x []) t))) (needed_off X _ _ rec _ _ (λ y e. on (branch (M.truth y) a b) E F w rec ag))
  terminator_agrees (BranchCmp op x y a b) E F w rec ag t =
      let h = same_off X E F ag (operand x (operand y [])) t in
      rw (← (eval_same M E F (operand_row τ y) x (operand y []) h), ← (eval_same M E F (operand_row τ x) y [] (rest_of (Same E F) x (operand y []) h)))
      (needed_off X _ _ rec _ _ (λ u e. needed_off X _ _ rec _ _ (λ v e'. judged_off X (M.compare op u v) rec _ _ (λ c. on (branch c a b) E F w rec ag))))
  terminator_agrees (Return xs) E F w rec ag t = rw (← (eval_all_same M E F no_row xs (same_off X E F ag (operands xs) t))) (same _)
  terminator_agrees Unreachable E F w rec ag t = same _

  -- one phi
  phi_off : (came : Option BlockId) (o : Option PhiOf) (E F : Env A) (ws : Writes A) (rec : List (Event A)) (k k' : Writes A → Left A)
      → AgreeOff X E F → ((p : PhiOf) → o ≡ some p → T (every (λ v. not (X v.0)) (operands (source_values p.sources))))
      → ((ws : Writes A) → AlikeOff X (k ws) (k' ws)) → AlikeOff X (read_phi M τ came o E ws rec k) (read_phi M τ came o F ws rec k')
  unfolding read_phi
  phi_off came none E F ws rec k k' ag t h = h ws
  phi_off came (some p) E F ws rec k k' ag t h =
      needed_off X _ (source_from came p.sources) rec _ _ (λ x e.
      rw (← (eval_same M E F (row_of τ (some p.type)) x [] (same_off X E F ag (operand x []) (from_in (λ v. not (X v.0)) came p.sources x (t p refl) e))))
      (needed_off X _ _ rec _ _ (λ y e'. h ((p.dest, y) ∷ ws))))

  -- phis none of whose sources is in X
  pub phis_agree : (came : Option BlockId) (is : List Instruction) (E F : Env A) (ws : Writes A) (rec : List (Event A)) (k k' : Writes A → Left A)
      → AgreeOff X E F → T (clean M.debug X is)
      → ((ws : Writes A) → AlikeOff X (k ws) (k' ws)) → AlikeOff X (read_phis M τ came is E ws rec k) (read_phis M τ came is F ws rec k')
  unfolding read_phis clean
  phis_agree came [] E F ws rec k k' ag t h = h ws
  phis_agree came (i ∷ is) E F ws rec k k' ag t h =
      let q : ValueId → Bool = λ v. not (X v.0) in
      let c1 = both_l (every q (counted_reads M.debug i.kind)) (clean M.debug X is) t in
      phi_off came (phi_of i.kind) E F ws rec _ _ ag
      (λ p e. rw (phi_reads i.kind p e) at (rw (cond_yes (counted M.debug i.kind) (reads i.kind) [] (phi_counted M.debug i.kind p e)) at c1))
      (λ ws'. phis_agree came is E F ws' rec k k' ag (both_r (every q (counted_reads M.debug i.kind)) (clean M.debug X is) t) h)

  -- behind one outcome
  outcome_off : (o : Out A) (E F : Env A) (rec : List (Event A)) (k : Env A → List (Val A) → List (Event A) → Left A)
      → ((ws : Writes A) → AgreeOff X (write_all ws E) (write_all ws F))
      → ((E F : Env A) (w : List (Val A)) (rec : List (Event A)) → AgreeOff X E F → AlikeOff X (k E w rec) (k F w rec))
      → AlikeOff X (onward o E rec k) (onward o F rec k)
  unfolding onward
  outcome_off (goes ws w ev) E F rec k ag h = h (write_all ws E) (write_all ws F) w (log ev rec) (ag ws)
  outcome_off (R.ends e ev) E F rec k ag h = same _
  outcome_off (stops c ev) E F rec k ag h = same _

  -- instructions and a terminator that do not read X
  pub rest_agrees : (is : List Instruction) (t : Terminator) (E F : Env A) (w : List (Val A)) (rec : List (Event A)) → AgreeOff X E F
      → T (clean M.debug X is) → T (clean_terminator X t) → AlikeOff X (exec_all M τ is t E w rec) (exec_all M τ is t F w rec)
  unfolding exec_all clean
  rest_agrees [] t E F w rec ag c d = terminator_agrees t E F w rec ag d
  rest_agrees (i ∷ is) t E F w rec ag c d =
      let q : ValueId → Bool = λ v. not (X v.0) in
      let z = keep_agrees M τ X i.kind E F w ag (both_l (every q (counted_reads M.debug i.kind)) (clean M.debug X is) c) in
      rw z.0 (outcome_off (exec M τ i.kind F w) E F rec (λ E' w' rec'. exec_all M τ is t E' w' rec') z.1
      (λ E' F' w' rec' ag'. rest_agrees is t E' F' w' rec' ag' (both_r (every q (counted_reads M.debug i.kind)) (clean M.debug X is) c) d))

  -- a block that does not read X
  pub block_agrees_lem : (came : Option BlockId) (b : Block) (E F : Env A) (w : List (Val A)) (rec : List (Event A)) → AgreeOff X E F
      → T (clean M.debug X b.instructions) → T (clean_terminator X b.terminator)
      → AlikeOff X (exec_block M τ came b E w rec) (exec_block M τ came b F w rec)
  unfolding exec_block
  block_agrees_lem came b E F w rec ag c d =
      phis_agree came (phis_of b.instructions) E F [] rec _ _ ag (clean_phis M.debug X b.instructions c)
      (λ ws. rest_agrees (behind_phis b.instructions) b.terminator (write_all ws E) (write_all ws F) w rec (λ x nx. write_both ws E F x (ag x nx)) (clean_behind M.debug X b.instructions c) d)

  -- alike ends of a block have the same trace
  trace_off : (p q : Left A) (k : BlockId → Env A → List (Val A) → List (Event A) → Trace A)
      → ((b : BlockId) (E F : Env A) (w : List (Val A)) (rec : List (Event A)) → AgreeOff X E F → k b E w rec ≡ k b F w rec) → AlikeOff X p q
      → trace p k ≡ trace q k
  unfolding trace
  trace_off p q k h (on b E F w rec ag) = h b E F w rec ag
  trace_off p q k h (same l) = refl

  -- one block of a run
  one_off : (came : Option BlockId) (a : BlockId) (o : Option Block) → ((b : Block) → o ≡ some b → T (clean M.debug X b.instructions))
      → ((b : Block) → o ≡ some b → T (clean_terminator X b.terminator))
      → (E F : Env A) (w : List (Val A)) (rec : List (Event A)) (k : Env A → List (Val A) → List (Event A) → BlockId → Trace A)
      → ((b : BlockId) (E F : Env A) (w : List (Val A)) (rec : List (Event A)) → AgreeOff X E F → k E w rec b ≡ k F w rec b)
      → AgreeOff X E F → run_block M τ came a o E w rec k ≡ run_block M τ came a o F w rec k
  unfolding run_block
  one_off came a none c d E F w rec k h ag = refl
  one_off came a (some b) c d E F w rec k h ag = trace_off _ _ (λ b' E' w' rec'. k E' w' rec' b') h (block_agrees_lem came b E F w rec ag (c b refl) (d b refl))

  -- THE FRAME, of a run: blocks that do not read X run alike from values that agree off X
  pub run_agrees : (n : ℕ) (bs : List Block) (came : Option BlockId) (a : BlockId) (E F : Env A) (w : List (Val A)) (rec : List (Event A)) → AgreeOff X E F
      → T (every (λ b. clean M.debug X b.instructions) bs) → T (every (λ b. clean_terminator X b.terminator) bs)
      → run_blocks M τ n bs came a E w rec ≡ run_blocks M τ n bs came a F w rec
  unfolding run_blocks
  run_agrees zero bs came a E F w rec ag c d = refl
  run_agrees (suc n) bs came a E F w rec ag c d =
      one_off came a (get_elem? bs a.0) (λ b e. every_at (λ b. clean M.debug X b.instructions) bs a.0 b c e) (λ b e. every_at (λ b. clean_terminator X b.terminator) bs a.0 b d e)
      E F w rec (λ E' w' rec' b'. run_blocks M τ n bs (some a) b' E' w' rec') (λ b' E' F' w' rec' ag'. run_agrees n bs (some a) b' E' F' w' rec' ag' c d) ag
