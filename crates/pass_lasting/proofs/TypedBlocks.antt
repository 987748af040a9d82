-- A walk, a block and all blocks agree with the types as the rewritten routine records them, where the original's do with its own.
use Prim.Native.Nat.{ℕ, ◌+◌}
use mathlib.Core.Bool.{Bool, true, false}
use mathlib.Core.List.{List, [], ◌∷◌, ◌++◌}
use lib.Dec.{T, ltb}
use lib.ListN.{length}
use Rattle.mir.specs.declared.ValueId.{ValueId}
use Rattle.mir.specs.declared.Value.{Value}
use Rattle.mir.specs.Syntax.{Instruction, Terminator, Jump, If, BranchCmp, Return, Unreachable, Block}
use Rattle.mir.specs.Reads.{operands, terminator_reads}
use Rattle.mir.specs.Phis.{behind_phis, phis_of}
use Rattle.fold.specs.declared.Edition.{Edition}
use Rattle.fold.specs.declared.Settings.{Settings}
use Rattle.rewrite.specs.State.{AggStates, no_states}
use Rattle.rewrite.specs.Rebuild.{Rebuilt, wanted_returns}
use Rattle.rewrite.specs.Step.{step}
use Rattle.rewrite.specs.Run.{Walked, ends, returned, rebuilt_return, finish, glue, walk, Rewritten, Choice, block_then, skip_then, one_block, all_blocks}
use Rattle.rewrite.proofs.Unchanged.{phis_behind}
use Rattle.shelf.specs.Lists.{every}
use Rattle.shelf.specs.Agrees.{end_agrees, block_agrees}
use Rattle.machine_simulation.specs.Typing.{TypedStates}
use Rattle.machine_simulation.specs.Static.{below}
use Rattle.machine_simulation.proofs.Tools.{both_l, both_r, both, none_some, every_append, every_l, every_r}
use Rattle.machine_simulation.proofs.Generic.{Recorded, recorded_l, recorded_r}
use Rattle.machine_simulation.proofs.Phis.{below_behind}
use Rattle.machine_simulation.proofs.Ends.{return_values, return_own}
use Rattle.machine_simulation.proofs.TypedStates.{step_typed}
use Rattle.machine_claim.proofs.Typed.{counted_typed}
use Rattle.shelf.proofs.Flag.{counted_of}
use Rattle.pass_lasting.proofs.Vocabulary.{AllParts, Table, types_later, AgreeBefore}
use Rattle.pass_lasting.proofs.Parts.{step_parts, none_parts}
use Rattle.pass_lasting.proofs.Arms.{shown}
use Rattle.pass_lasting.proofs.Later.{low_alike, end_later}
use Rattle.pass_lasting.proofs.AgreesWith.{known_twins}
use Rattle.pass_lasting.proofs.Rebuilt.{rebuilt_agrees, deep_agrees}
use Rattle.pass_lasting.proofs.Typed.{low, fine, fine_later, low_fine, builds_fine, Known, step_fine}

-- what is known of the rest of a block, and of all that is tracked before it
pub record Rest (debug : Bool) (κ : Table) (S : AggStates) (is : List Instruction) (t : Terminator) : Type 0 where
  pub typed : TypedStates κ.types S
  pub parts : AllParts (λ v. ltb v κ.m) S
  pub lows : T (below κ.m is)
  pub low_end : T (every (low κ) (terminator_reads t))
  pub fine : T (every (fine debug κ) is)
  pub fine_end : T (end_agrees κ.types t)

-- what came out is as well typed
pub record Fine (debug : Bool) (κ : Table) (w : Walked) : Type 0 where
  pub out : T (every (fine_later debug κ) w.out)
  pub ends : T (end_agrees (types_later κ) w.terminator)

-- ---- the terminator

-- one that stays
end_fine : (debug : Bool) (κ : Table) (t : Terminator) → T (every (low κ) (terminator_reads t)) → T (end_agrees κ.types t) → Fine debug κ (ends t)
unfolding ends
end_fine debug κ t l h = record { out = tt; ends = rw (end_later κ.types κ.later t (low_alike κ (terminator_reads t) l)) at h }

-- a Return behind its rebuilds
return_behind : (debug : Bool) (κ : Table) (xs : List Value) (r : Rebuilt) → T (every (low κ) (operands xs)) → T (end_agrees κ.types (Return xs))
    → AgreeBefore κ xs r → Fine debug κ (returned r)
unfolding returned end_agrees ends
return_behind debug κ xs r l h b =
    record {
      out = builds_fine debug κ r.before b.builds;
      ends = rw (known_twins (types_later κ) xs r.values b.twins) (end_fine debug κ (Return xs) l h).ends;
    }

-- its rebuilds, in either edition
return_agrees : (κ : Table) (e : Edition) (S : AggStates) (n : ℕ) (xs : List Value) → TypedStates κ.types S → AllParts (λ v. ltb v κ.m) S
    → T (every (low κ) (operands xs)) → Recorded (types_later κ) n (rebuilt_return e κ.types S n xs).fresh → AgreeBefore κ xs (rebuilt_return e κ.types S n xs)
unfolding rebuilt_return
return_agrees κ Edition.First S n xs ts ap l rc =
    rw (return_values κ.types xs) at (rebuilt_agrees κ S ts ap (wanted_returns κ.types xs) (return_own κ.types S xs) (rw (return_values κ.types xs) l) n rc)
return_agrees κ Edition.Second S n xs ts ap l rc = deep_agrees κ S ts ap xs l n rc

-- every terminator
finish_fine : (debug : Bool) (σ : Settings) (κ : Table) (S : AggStates) (n : ℕ) (t : Terminator) → Rest debug κ S [] t
    → Recorded (types_later κ) n (finish σ κ.types S n t).fresh → Fine debug κ (finish σ κ.types S n t)
unfolding finish returned
finish_fine debug σ κ S n (Jump b) h rc = end_fine debug κ (Jump b) h.low_end h.fine_end
finish_fine debug σ κ S n (If x a b) h rc = end_fine debug κ (If x a b) h.low_end h.fine_end
finish_fine debug σ κ S n (BranchCmp op x y a b) h rc = end_fine debug κ (BranchCmp op x y a b) h.low_end h.fine_end
finish_fine debug σ κ S n (Return xs) h rc =
    return_behind debug κ xs (rebuilt_return σ.edition κ.types S n xs) h.low_end h.fine_end (return_agrees κ σ.edition S n xs h.typed h.parts h.low_end rc)
finish_fine debug σ κ S n Unreachable h rc = end_fine debug κ Unreachable h.low_end h.fine_end

-- ---- a walk

-- the first instruction
first_known : (debug : Bool) (κ : Table) (S : AggStates) (i : Instruction) (is : List Instruction) (t : Terminator)
    → Rest debug κ S (i ∷ is) t → Known debug κ S i.kind
unfolding below
first_known debug κ S i is t h =
    record {
      typed = h.typed;
      parts = h.parts;
      reads = search (both_l, both_r);
      dests = search (both_l, both_r);
      fine = both_l (fine debug κ i) (every (fine debug κ) is) h.fine;
    }

-- what is known behind a step
rest_later : (debug : Bool) (σ : Settings) (κ : Table) (φ : ValueId → Bool) (S : AggStates) (n : ℕ) (i : Instruction) (is : List Instruction) (t : Terminator)
    → Rest debug κ S (i ∷ is) t → Rest debug κ (step σ κ.types φ S n i).states is t
unfolding below
rest_later debug σ κ φ S n i is t h =
    let k = first_known debug κ S i is t h in
    record {
      typed = step_typed σ κ.types φ S n i h.typed (counted_typed debug κ.types i.kind k.fine);
      parts = step_parts σ κ.types φ (λ v. ltb v κ.m) debug S n i h.parts (counted_of (low κ) debug i.kind k.reads);
      lows = search (both_l, both_r);
      low_end = h.low_end;
      fine = both_r (fine debug κ i) (every (fine debug κ) is) h.fine;
      fine_end = h.fine_end;
    }

-- a walk leaves the types as they agreed
pub walk_fine : (debug : Bool) (σ : Settings) (κ : Table) (φ : ValueId → Bool) (S : AggStates) (n : ℕ) (is : List Instruction) (t : Terminator)
    → Rest debug κ S is t → Recorded (types_later κ) n (walk σ κ.types φ S n is t).fresh → Fine debug κ (walk σ κ.types φ S n is t)
unfolding walk glue
walk_fine debug σ κ φ S n [] t h rc = finish_fine debug σ κ S n t h rc
walk_fine debug σ κ φ S n (i ∷ is) t h rc =
    let p = step σ κ.types φ S n i in
    let w = walk σ κ.types φ p.states (n + length p.fresh) is t in
    let f = walk_fine debug σ κ φ p.states (n + length p.fresh) is t (rest_later debug σ κ φ S n i is t h) (recorded_r (types_later κ) n p.fresh w.fresh rc) in
    record {
      out = every_append (fine_later debug κ) p.out w.out
          (step_fine debug σ κ S n i (first_known debug κ S i is t h) p (shown σ κ.types φ S n i) (recorded_l (types_later κ) n p.fresh w.fresh rc)) f.out;
      ends = f.ends;
    }

-- ---- blocks

-- what is known of a block
pub record FineBlock (debug : Bool) (κ : Table) (k : Block) : Type 0 where
  pub lows : T (below κ.m k.instructions)
  pub low_end : T (every (low κ) (terminator_reads k.terminator))
  pub agrees : T (block_agrees debug κ.types k)

-- instructions of values below the first fresh number
all_fine : (debug : Bool) (κ : Table) (is : List Instruction) → T (below κ.m is) → T (every (fine debug κ) is) → T (every (fine_later debug κ) is)
unfolding below
all_fine debug κ [] l h = tt
all_fine debug κ (i ∷ is) l h =
    both (fine_later debug κ i) (every (fine_later debug κ) is)
    (low_fine debug κ i.kind (search (both_l)) (search (both_l, both_r)) (both_l (fine debug κ i) (every (fine debug κ) is) h))
    (all_fine debug κ is (search (both_l, both_r)) (both_r (fine debug κ i) (every (fine debug κ) is) h))

-- a block that is copied
copied_agrees : (debug : Bool) (κ : Table) (k : Block) → FineBlock debug κ k → T (block_agrees debug (types_later κ) k)
unfolding block_agrees ends
copied_agrees debug κ k h =
    let p = every (fine debug κ) k.instructions in
    both (every (fine_later debug κ) k.instructions) (end_agrees (types_later κ) k.terminator)
    (all_fine debug κ k.instructions h.lows (both_l p (end_agrees κ.types k.terminator) h.agrees))
    (end_fine debug κ k.terminator h.low_end (both_r p (end_agrees κ.types k.terminator) h.agrees)).ends

-- nothing is tracked where it begins, so the rest behind its phis is known
behind_known : (debug : Bool) (κ : Table) (k : Block) → FineBlock debug κ k → Rest debug κ no_states (behind_phis k.instructions) k.terminator
unfolding block_agrees no_states
behind_known debug κ k h =
    let p = every (fine debug κ) k.instructions in
    record {
      typed = λ v xs e. absurd (none_some e);
      parts = none_parts (λ v. ltb v κ.m);
      lows = below_behind κ.m k.instructions h.lows;
      low_end = h.low_end;
      fine = every_r (fine debug κ) (phis_of k.instructions) (behind_phis k.instructions)
          (rw (phis_behind k.instructions) (both_l p (end_agrees κ.types k.terminator) h.agrees));
      fine_end = both_r p (end_agrees κ.types k.terminator) h.agrees;
    }

-- a block that is walked, its phis untouched
walked_agrees : (debug : Bool) (κ : Table) (k : Block) (w : Walked) → FineBlock debug κ k → Fine debug κ w
    → T (block_agrees debug (types_later κ) (record { instructions = phis_of k.instructions ++ w.out; terminator = w.terminator }))
unfolding block_agrees
walked_agrees debug κ k w h f =
    both (every (fine_later debug κ) (phis_of k.instructions ++ w.out)) (end_agrees (types_later κ) w.terminator)
    (every_append (fine_later debug κ) (phis_of k.instructions) w.out
    (every_l (fine_later debug κ) (phis_of k.instructions) (behind_phis k.instructions)
    (rw (phis_behind k.instructions) (all_fine debug κ k.instructions h.lows
    (both_l (every (fine debug κ) k.instructions) (end_agrees κ.types k.terminator) h.agrees)))) f.out) f.ends

-- all that is known of blocks
abbrev pub FineBlocks : Bool → Table → List Block → Type 0
FineBlocks debug κ [] = Unit {0}
FineBlocks debug κ (k ∷ ks) = FineBlock debug κ k × FineBlocks debug κ ks

-- one block, skipped or walked, in front of others
block_fine : (debug : Bool) (σ : Settings) (κ : Table) (c : Choice) (n : ℕ) (k : Block) (rest : ℕ → Rewritten) → FineBlock debug κ k
    → ((j : ℕ) → Recorded (types_later κ) j (rest j).fresh → T (every (block_agrees debug (types_later κ)) (rest j).blocks)) → (s : Bool)
    → Recorded (types_later κ) n (one_block σ κ.types c n k rest s).fresh
    → T (every (block_agrees debug (types_later κ)) (one_block σ κ.types c n k rest s).blocks)
unfolding one_block skip_then block_then
block_fine debug σ κ c n k rest h f true rc = both (block_agrees debug (types_later κ) k) _ (copied_agrees debug κ k h) (f n rc)
block_fine debug σ κ c n k rest h f false rc =
    let w = walk σ κ.types (c.folds k) no_states n (behind_phis k.instructions) k.terminator in
    let r = rest (n + length w.fresh) in
    both (block_agrees debug (types_later κ) (record { instructions = phis_of k.instructions ++ w.out; terminator = w.terminator })) _
    (walked_agrees debug κ k w h
    (walk_fine debug σ κ (c.folds k) no_states n (behind_phis k.instructions) k.terminator (behind_known debug κ k h)
    (recorded_l (types_later κ) n w.fresh r.fresh rc)))
    (f (n + length w.fresh) (recorded_r (types_later κ) n w.fresh r.fresh rc))

-- all blocks, for any choice
pub blocks_fine : (debug : Bool) (σ : Settings) (κ : Table) (c : Choice) (ks : List Block) → FineBlocks debug κ ks → (n : ℕ)
    → Recorded (types_later κ) n (all_blocks σ κ.types c n ks).fresh → T (every (block_agrees debug (types_later κ)) (all_blocks σ κ.types c n ks).blocks)
unfolding all_blocks
blocks_fine debug σ κ c [] h n rc = tt
blocks_fine debug σ κ c (k ∷ ks) h n rc =
    block_fine debug σ κ c n k (λ j. all_blocks σ κ.types c j ks) h.0 (λ j rc'. blocks_fine debug σ κ c ks h.1 j rc') (c.skips k) rc
