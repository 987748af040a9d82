-- Blocks: the phis, one block, all blocks, n of them.
use mathlib.Core.Path.{◌≡◌, refl}
use Prim.Native.Nat.{ℕ, zero, suc, ◌+◌, ◌≤◌}
use mathlib.Core.Bool.{Bool, true, false, not}
use mathlib.Core.Option.{Option, none, some}
use mathlib.Core.List.{List, [], ◌∷◌, ◌++◌}
use native.Mathlib.Omega.{arith}
use lib.Dec.{T, ltb}
use lib.ListN.{length, get_elem?}
use Rattle.mir.specs.declared.ValueId.{ValueId}
use Rattle.mir.specs.declared.Value.{Value}
use Rattle.mir.specs.Syntax.{Instruction, Block}
use Rattle.mir.specs.Reads.{operand, operands, reads, counted, source_values}
use Rattle.mir.specs.Lists.{Each}
use Rattle.mir.specs.Lookup.{row_of}
use Rattle.mir.specs.declared.BlockId.{BlockId}
use Rattle.mir.specs.Phis.{behind_phis, phis_of, PhiOf, phi_of}
use Rattle.rewrite.specs.State.{no_states}
use Rattle.rewrite.specs.Run.{Walked, walk, Rewritten, Choice, block_then, skip_then, one_block, all_blocks}
use Rattle.machine.specs.Values.{Val}
use Rattle.machine.specs.Records.{Env, Writes, write_all, Event, Cause, no_source, unwritten, Left, next, Trace}
use Rattle.machine.specs.Records as R
use Rattle.machine.specs.Evaluate.{eval}
use Rattle.machine.specs.Run.{needed, source_from, read_phi, read_phis, exec_block, trace, run_block, run_blocks}
use Rattle.shelf.specs.Lists.{every}
use Rattle.shelf.specs.Reads.{counted_reads, clean, clean_terminator}
use Rattle.machine_simulation.specs.Static.{below, no_phi}
use Rattle.machine_simulation.specs.Statement.{Fine}
use Rattle.machine_simulation.proofs.Tools.{both_l, both_r, none_some, cond_yes, every_l, every_r}
use Rattle.machine_simulation.proofs.Frame.{eval_same, write_both}
use Rattle.machine_simulation.proofs.Retype.{retyped, row_of_later}
use Rattle.machine_simulation.proofs.Invariant.{Ctx, Tracks, Agree}
use Rattle.machine_simulation.proofs.Generic.{FineLeft, Match, on, over, halt, Good, Recorded, recorded_l, recorded_r, clean_l, clean_r, same_reads}
use Rattle.machine_simulation.proofs.Phis.{phi_reads, phi_counted, from_in, below_behind, below_phis, clean_behind, clean_phis}
use Rattle.machine_simulation.proofs.Ends.{sim_rest, sim_copied}
use Rattle.machine_simulation.proofs.NoPhi.{walk_no_phi, front_phis, behind_phis_lem}

-- ---- phis

-- a value that both sides lack stops both
needed_match : {A B : Type 0} (κ : Ctx A) (c : Cause) (o : Option B) (rec : List (Event A)) (k k' : B → Left A)
    → ((b : B) → o ≡ some b → FineLeft (k b) → Match κ (k b) (k' b)) → FineLeft (needed c o rec k) → Match κ (needed c o rec k) (needed c o rec k')
unfolding needed
needed_match κ c none rec k k' h f = halt c rec
needed_match κ c (some b) rec k k' h f = h b refl f

-- the value of a phi's source
phi_value : {A : Type 0} (κ : Ctx A) (p : PhiOf) (x : Value) (E F : Env A) (ws : Writes A) (rec : List (Event A)) (k k' : Writes A → Left A) → Agree κ E F
    → T (every (λ v. ltb v.0 κ.m) (operand x [])) → T (every (λ v. not (κ.dr v.0)) (operand x []))
    → ((ws : Writes A) → FineLeft (k ws) → Match κ (k ws) (k' ws))
    → FineLeft (needed unwritten (eval κ.mean E (row_of κ.types (some p.type)) x) rec (λ y. k ((p.dest, y) ∷ ws)))
    → Match κ (needed unwritten (eval κ.mean E (row_of κ.types (some p.type)) x) rec (λ y. k ((p.dest, y) ∷ ws)))
    (needed unwritten (eval κ.mean F (row_of (retyped κ.types κ.later) (some p.type)) x) rec (λ y. k' ((p.dest, y) ∷ ws)))
phi_value κ p x E F ws rec k k' ag lo cl h f =
    rw (← (row_of_later κ.types κ.later (some p.type))) (rw (← (eval_same κ.mean E F (row_of κ.types (some p.type)) x [] (same_reads κ E F ag (operand x []) lo cl)))
    (needed_match κ unwritten (eval κ.mean E (row_of κ.types (some p.type)) x) rec _ _ (λ y e f'. h ((p.dest, y) ∷ ws) f') f))

-- one phi
phi_sim : {A : Type 0} (κ : Ctx A) (came : Option BlockId) (o : Option PhiOf) (E F : Env A) (ws : Writes A) (rec : List (Event A))
    (k k' : Writes A → Left A) → Agree κ E F
    → ((p : PhiOf) → o ≡ some p → T (every (λ v. ltb v.0 κ.m) (operands (source_values p.sources))))
    → ((p : PhiOf) → o ≡ some p → T (every (λ v. not (κ.dr v.0)) (operands (source_values p.sources))))
    → ((ws : Writes A) → FineLeft (k ws) → Match κ (k ws) (k' ws)) → FineLeft (read_phi κ.mean κ.types came o E ws rec k)
    → Match κ (read_phi κ.mean κ.types came o E ws rec k) (read_phi κ.mean (retyped κ.types κ.later) came o F ws rec k')
unfolding read_phi
phi_sim κ came none E F ws rec k k' ag lo cl h f = h ws f
phi_sim κ came (some p) E F ws rec k k' ag lo cl h f =
    needed_match κ no_source (source_from came p.sources) rec _ _
    (λ x e f'. phi_value κ p x E F ws rec k k' ag (from_in (λ v. ltb v.0 κ.m) came p.sources x (lo p refl) e) (from_in (λ v. not (κ.dr v.0)) came p.sources x (cl p refl) e) h f') f

-- all phis of a block read the same on both sides
pub phis_sim : {A : Type 0} (κ : Ctx A) (came : Option BlockId) (is : List Instruction) (E F : Env A) (ws : Writes A) (rec : List (Event A))
    (k k' : Writes A → Left A) → Agree κ E F → T (below κ.m is) → T (clean κ.mean.debug κ.dr is)
    → ((ws : Writes A) → FineLeft (k ws) → Match κ (k ws) (k' ws)) → FineLeft (read_phis κ.mean κ.types came is E ws rec k)
    → Match κ (read_phis κ.mean κ.types came is E ws rec k) (read_phis κ.mean (retyped κ.types κ.later) came is F ws rec k')
unfolding read_phis below clean
phis_sim κ came [] E F ws rec k k' ag lo cl h f = h ws f
phis_sim κ came (i ∷ is) E F ws rec k k' ag lo cl h f =
    let lq : ValueId → Bool = λ v. ltb v.0 κ.m in
    let dq : ValueId → Bool = λ v. not (κ.dr v.0) in
    let l1 : T (every lq (reads i.kind)) = search (both_l) in
    let l2 : T (below κ.m is) = search (both_l, both_r) in
    let c1 : T (every dq (counted_reads κ.mean.debug i.kind)) = search (both_l) in
    let c2 : T (clean κ.mean.debug κ.dr is) = search (both_l, both_r) in
    phi_sim κ came (phi_of i.kind) E F ws rec _ _ ag
    (λ p e. rw (phi_reads i.kind p e) at l1)
    (λ p e. rw (phi_reads i.kind p e) at (rw (cond_yes (counted κ.mean.debug i.kind) (reads i.kind) [] (phi_counted κ.mean.debug i.kind p e)) at c1))
    (λ ws' f'. phis_sim κ came is E F ws' rec k k' ag l2 c2 h f') f

-- ---- one block

-- a block does what another does under the rewritten routine's types
unfoldable pub BlockSim : {A : Type 0} → Ctx A → Block → Block → Type 0
BlockSim {A} κ b b' = (came : Option BlockId) (E F : Env A) (w : List (Val A)) (rec : List (Event A)) → Agree κ E F → FineLeft (exec_block κ.mean κ.types came b E w rec)
    → Match κ (exec_block κ.mean κ.types came b E w rec) (exec_block κ.mean (retyped κ.types κ.later) came b' F w rec)

-- what the tests say of one block of the original
pub record BlockGood {A : Type 0} (κ : Ctx A) (b : Block) : Type 0 where
  pub low : T (below κ.m b.instructions)
  pub phis_first : T (no_phi (behind_phis b.instructions))
  pub good : Good κ (behind_phis b.instructions) b.terminator

-- and of one that came out
pub record BlockClean {A : Type 0} (κ : Ctx A) (b : Block) : Type 0 where
  pub reads : T (clean κ.mean.debug κ.dr b.instructions)
  pub ends : T (clean_terminator κ.dr b.terminator)

-- at the start of a block nothing is tracked
none_tracked : {A : Type 0} (κ : Ctx A) (E : Env A) (is : List Instruction) → Tracks κ no_states E is
unfolding no_states
none_tracked κ E is v xs h = absurd (none_some h)

-- a block that is copied
pub copied_block : {A : Type 0} (κ : Ctx A) (b : Block) → BlockGood κ b → BlockClean κ b → BlockSim κ b b
unfolding BlockSim exec_block
copied_block κ b g o came E F w rec ag f =
    phis_sim κ came (phis_of b.instructions) E F [] rec _ _ ag (below_phis κ.m b.instructions g.low) (clean_phis κ.mean.debug κ.dr b.instructions o.reads)
    (λ ws f'. sim_copied κ (behind_phis b.instructions) b.terminator (write_all ws E) (write_all ws F) w rec (λ x lo nd. write_both ws E F x (ag x lo nd))
    (below_behind κ.m b.instructions g.low) g.good.low_end (clean_behind κ.mean.debug κ.dr b.instructions o.reads) o.ends) f

-- the walked block, its phis untouched
abbrev pub walked_block : Block → Walked → Block
walked_block b q = record { instructions = phis_of b.instructions ++ q.out; terminator = q.terminator }

-- a block that is walked
pub rewritten_block : {A : Type 0} (κ : Ctx A) (φ : ValueId → Bool) (n : ℕ) (b : Block) → κ.m ≤ n → BlockGood κ b
    → BlockClean κ (walked_block b (walk κ.set κ.types φ no_states n (behind_phis b.instructions) b.terminator))
    → T (every (λ v. κ.dr v.0) (walk κ.set κ.types φ no_states n (behind_phis b.instructions) b.terminator).dropped)
    → Recorded (retyped κ.types κ.later) n (walk κ.set κ.types φ no_states n (behind_phis b.instructions) b.terminator).fresh
    → BlockSim κ b (walked_block b (walk κ.set κ.types φ no_states n (behind_phis b.instructions) b.terminator))
unfolding BlockSim exec_block
rewritten_block κ φ n b le g o d rc came E F w rec ag f =
    let q = walk κ.set κ.types φ no_states n (behind_phis b.instructions) b.terminator in
    let np = walk_no_phi κ.set κ.types φ no_states n (behind_phis b.instructions) b.terminator g.phis_first in
    rw (front_phis b.instructions q.out np, behind_phis_lem b.instructions q.out np)
    (phis_sim κ came (phis_of b.instructions) E F [] rec _ _ ag (below_phis κ.m b.instructions g.low) (clean_l κ.mean.debug κ.dr (phis_of b.instructions) q.out o.reads)
    (λ ws f'. sim_rest κ φ (behind_phis b.instructions) b.terminator no_states n (write_all ws E) (write_all ws F) w rec le (none_tracked κ (write_all ws E) (behind_phis b.instructions)) (λ x lo nd. write_both ws E F x (ag x lo nd)) g.good
    (record { reads = clean_r κ.mean.debug κ.dr (phis_of b.instructions) q.out o.reads; reads_end = o.ends; drops = d; fresh = rc }) f') f)

-- ---- all blocks

-- the k-th blocks of both lists
pub data Pair {A : Type 0} (κ : Ctx A) (bs bs' : List Block) (k : ℕ) : Type 0 where
  neither : get_elem? bs k ≡ none → get_elem? bs' k ≡ none → Pair κ bs bs' k
  paired : (b b' : Block) → get_elem? bs k ≡ some b → get_elem? bs' k ≡ some b' → BlockSim κ b b' → Pair κ bs bs' k

-- one place further on
shift : {A : Type 0} (κ : Ctx A) (b b' : Block) (bs bs' : List Block) (k : ℕ) → Pair κ bs bs' k → Pair κ (b ∷ bs) (b' ∷ bs') (suc k)
shift κ b b' bs bs' k (neither e e') = neither e e'
shift κ b b' bs bs' k (paired c c' e e' s) = paired c c' e e' s

-- what the tests say of what came out of blocks, from the fresh number n on
pub record RewrittenOk {A : Type 0} (κ : Ctx A) (n : ℕ) (r : Rewritten) : Type 0 where
  pub cleans : Each (BlockClean κ) r.blocks
  pub drops : T (every (λ v. κ.dr v.0) r.dropped)
  pub fresh : Recorded (retyped κ.types κ.later) n r.fresh

-- each block of a list, with what became of it
abbrev Pairs : {A : Type 0} → Ctx A → Choice → List Block → Type 0
Pairs κ c bs = (n : ℕ) → κ.m ≤ n → Each (BlockGood κ) bs → RewrittenOk κ n (all_blocks κ.set κ.types c n bs) → (k : ℕ) → Pair κ bs (all_blocks κ.set κ.types c n bs).blocks k

-- the first block, skipped or walked, and the rest
pair_go : {A : Type 0} (κ : Ctx A) (c : Choice) (b : Block) (bs : List Block) → Pairs κ c bs → (n : ℕ) → κ.m ≤ n → Each (BlockGood κ) (b ∷ bs) → (s : Bool)
    → RewrittenOk κ n (one_block κ.set κ.types c n b (λ j. all_blocks κ.set κ.types c j bs) s) → (k : ℕ)
    → Pair κ (b ∷ bs) (one_block κ.set κ.types c n b (λ j. all_blocks κ.set κ.types c j bs) s).blocks k
unfolding one_block skip_then block_then
pair_go κ c b bs ih n le g true o zero = paired b b refl refl (copied_block κ b g.0 o.cleans.0)
pair_go κ c b bs ih n le g true o (suc k) =
    shift κ b b bs (all_blocks κ.set κ.types c n bs).blocks k (ih n le g.1 (record { cleans = o.cleans.1; drops = o.drops; fresh = o.fresh }) k)
pair_go κ c b bs ih n le g false o zero =
    let q = walk κ.set κ.types (c.folds b) no_states n (behind_phis b.instructions) b.terminator in
    let r = all_blocks κ.set κ.types c (n + length q.fresh) bs in
    paired b (walked_block b q) refl refl
    (rewritten_block κ (c.folds b) n b le g.0 o.cleans.0 (every_l (λ v. κ.dr v.0) q.dropped r.dropped o.drops) (recorded_l (retyped κ.types κ.later) n q.fresh r.fresh o.fresh))
pair_go κ c b bs ih n le g false o (suc k) =
    let q = walk κ.set κ.types (c.folds b) no_states n (behind_phis b.instructions) b.terminator in
    let r = all_blocks κ.set κ.types c (n + length q.fresh) bs in
    shift κ b (walked_block b q) bs r.blocks k
    (ih (n + length q.fresh) (omega arith) g.1
    (record { cleans = o.cleans.1; drops = every_r (λ v. κ.dr v.0) q.dropped r.dropped o.drops; fresh = recorded_r (retyped κ.types κ.later) n q.fresh r.fresh o.fresh }) k)

-- all blocks, for any choice
pub pairs : {A : Type 0} (κ : Ctx A) (c : Choice) (bs : List Block) → Pairs κ c bs
unfolding all_blocks
pairs κ c [] n le g o k = neither refl refl
pairs κ c (b ∷ bs) n le g o k = pair_go κ c b bs (pairs κ c bs) n le g (c.skips b) o k

-- ---- n blocks

-- what comes behind a block
abbrev Rest : Type 0 → Type 0
Rest A = BlockId → Env A → List (Val A) → List (Event A) → Trace A

-- a fine run's block is fine
fine_block : {A : Type 0} (p : Left A) (k : Rest A) → Fine (trace p k) → FineLeft p
unfolding trace FineLeft
fine_block (next b E w rec) k f = tt
fine_block (R.over e rec) k f = tt
fine_block (R.halt c rec) k f = f

-- matching ends of a block have the same trace
match_traces : {A : Type 0} (κ : Ctx A) (p q : Left A) (k k' : Rest A)
    → ((b : BlockId) (E F : Env A) (w : List (Val A)) (rec : List (Event A)) → Agree κ E F → Fine (k b E w rec) → k b E w rec ≡ k' b F w rec)
    → Fine (trace p k) → Match κ p q → trace p k ≡ trace q k'
unfolding trace
match_traces κ p q k k' h f (on b E F w rec ag) = h b E F w rec ag f
match_traces κ p q k k' h f (over e rec) = refl
match_traces κ p q k k' h f (halt c rec) = refl

-- one block of a run
block_step : {A : Type 0} (κ : Ctx A) (came : Option BlockId) (a : BlockId) (bs bs' : List Block) → Pair κ bs bs' a.0
    → (k k' : Env A → List (Val A) → List (Event A) → BlockId → Trace A)
    → ((b : BlockId) (E F : Env A) (w : List (Val A)) (rec : List (Event A)) → Agree κ E F → Fine (k E w rec b) → k E w rec b ≡ k' F w rec b)
    → (E F : Env A) (w : List (Val A)) (rec : List (Event A)) → Agree κ E F → Fine (run_block κ.mean κ.types came a (get_elem? bs a.0) E w rec k)
    → run_block κ.mean κ.types came a (get_elem? bs a.0) E w rec k ≡ run_block κ.mean
    (retyped κ.types κ.later) came a (get_elem? bs' a.0) F w rec k'
unfolding run_block BlockSim
block_step κ came a bs bs' (neither e e') k k' h E F w rec ag f = rw (e, e')
block_step κ came a bs bs' (paired c c' e e' s) k k' h E F w rec ag f =
    let f' = rw e at f in
    rw (e, e') (match_traces κ _ _ (λ b E' w' rec'. k E' w' rec' b) (λ b E' w' rec'. k' E' w' rec' b) h f' (s came E F w rec ag (fine_block _ (λ b E' w' rec'. k E' w' rec' b) f')))

-- n blocks
pub blocks_sim : {A : Type 0} (κ : Ctx A) (bs bs' : List Block) → ((k : ℕ) → Pair κ bs bs' k)
    → (n : ℕ) (came : Option BlockId) (a : BlockId) (E F : Env A) (w : List (Val A)) (rec : List (Event A)) → Agree κ E F
    → Fine (run_blocks κ.mean κ.types n bs came a E w rec) → run_blocks κ.mean κ.types n bs came a E w rec ≡ run_blocks κ.mean
    (retyped κ.types κ.later) n bs' came a F w rec
unfolding run_blocks
blocks_sim κ bs bs' ps zero came a E F w rec ag f = refl
blocks_sim κ bs bs' ps (suc n) came a E F w rec ag f =
    block_step κ came a bs bs' (ps a.0) (λ E' w' rec' b. run_blocks κ.mean κ.types n bs (some a) b E' w' rec') (λ E' w' rec' b. run_blocks κ.mean (retyped κ.types κ.later) n bs' (some a) b E' w' rec')
    (λ b E' F' w' rec' ag' f'. blocks_sim κ bs bs' ps n (some a) b E' F' w' rec' ag' f') E F w rec ag f
