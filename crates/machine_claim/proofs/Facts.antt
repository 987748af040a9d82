-- The static facts of the runs, from a decoded routine of shelf reason 0.
use Prim.Native.Nat.{ℕ, ◌+◌, ◌≤◌}
use mathlib.Core.Path.{◌≡◌}
use mathlib.Core.Option.{some}
use mathlib.Core.List.{List, [], ◌∷◌}
use mathlib.Core.Bool.{Bool, true, false, cond}
use native.Mathlib.Omega.{arith}
use lib.Dec.{T, ltb}
use lib.ListN.{length, length-replicate}
use Rattle.mir.specs.Syntax.{Instruction, Block}
use Rattle.mir.specs.Reads.{terminator_reads, is_phi}
use Rattle.bytes_field.specs.declared.Bounds.{Bounds}
use Rattle.bytes_block.specs.Decode.{marks, block_marks}
use Rattle.bytes_block.specs.declared.Mosts.{Mosts}
use Rattle.bytes_block.specs.WellFormed.{FitCode}
use Rattle.bytes_block.proofs.Marks.{marks_length, block_length}
use Rattle.mir.specs.Routine.{Routine}
use Rattle.bytes_laws_whole.specs.WellFormed.{FitBlocks, bounds, unmarked, WellFormed}
use Rattle.fold.specs.declared.Settings.{Settings}
use Rattle.mir.specs.Lookup.{Types, recorded_type, is_some, struct_fields_of, types_in}
use Rattle.mir.specs.Phis.{behind_phis}
use Rattle.rewrite.specs.Run.{Choice, rewritten_by}
use Rattle.shelf.specs.Lists.{every, among}
use Rattle.shelf.specs.Reads.{clean, clean_terminator}
use Rattle.shelf.specs.Agrees.{end_agrees, counted_agrees, block_agrees}
use Rattle.shelf.specs.Reason.{types_agree, in_order, kept_apart, no_deep_store, reads_no_dropped, shelf_reason}
use Rattle.machine_simulation.specs.Typing.{typed}
use Rattle.machine_simulation.specs.Static.{below, once, no_phi, fields_once, Static}
use Rattle.machine_simulation.proofs.Tools.{both_l, both_r, both, split, passes, fails, cond_yes, cond_no}
use Rattle.machine_claim.proofs.Typed.{counted_typed}
use Rattle.machine_claim.proofs.Accepted.{instructions_below, end_below, news_low}
use Rattle.machine_claim.proofs.Defined.{types_once, behind_once, phis_first_lem}

-- ---- the byte form

-- what holds of each block of a decoded routine
each_block_lem : (m : Mosts) (b : Bounds) (total : ℕ) (seen : List Bool) (ks : List Block) (p : Block → Bool) → b.next ≤ length seen
    → ((total : ℕ) (seen : List Bool) (k : Block) → b.next ≤ length seen → FitCode m b total seen k → T (p k)) → FitBlocks m b total seen ks → T (every p ks)
each_block_lem m b total seen [] p l f h = tt
each_block_lem m b total seen (k ∷ ks) p l f h =
    both (p k) (every p ks) (f total seen k l h.0)
    (each_block_lem m b (total + length k.instructions) (block_marks seen k.instructions) ks p (rw (block_length seen k.instructions) l) f h.1)

-- what the byte form gives of a decoded routine: refusals 4 to 7
pub record Formed (r : Routine) : Type 0 where
  pub recorded : length r.recorded ≡ r.next
  pub parameters : T (every (λ v. ltb v.0 r.next) r.parameters)
  pub below : T (every (λ k. below r.next k.instructions) r.blocks)
  pub below_ends : T (every (λ k. every (λ v. ltb v.0 r.next) (terminator_reads k.terminator)) r.blocks)
  pub fields : T (every (λ row. fields_once (struct_fields_of (some row))) r.types)
  pub once : T (every (λ k. once (behind_phis k.instructions)) r.blocks)
  pub phis_first : T (every (λ k. no_phi (behind_phis k.instructions)) r.blocks)

-- a routine that has a byte form has them
pub formed : (m : Mosts) (r : Routine) → WellFormed m r → Formed r
formed m r w =
    let b = bounds m r in
    let seen = marks (unmarked r) r.parameters in
    let l : r.next ≤ length seen = rw (marks_length (unmarked r) r.parameters, length-replicate {A = Bool} r.next false) (omega arith) in
    record {
      recorded = w.many_recorded;
      parameters = news_low b (unmarked r) r.parameters w.parameters;
      below = each_block_lem m b 0 seen r.blocks (λ k. below r.next k.instructions) l (λ total seen k l f. instructions_below b seen false k.instructions f.instructions) w.blocks;
      below_ends = each_block_lem m b 0 seen r.blocks (λ k. every (λ v. ltb v.0 r.next) (terminator_reads k.terminator)) l (λ total seen k l f. end_below b k.terminator f.terminator) w.blocks;
      fields = types_once m.list [] r.types w.types;
      once = each_block_lem m b 0 seen r.blocks (λ k. once (behind_phis k.instructions)) l (λ total seen k l f. behind_once b seen false k.instructions l f.instructions) w.blocks;
      phis_first = each_block_lem m b 0 seen r.blocks (λ k. no_phi (behind_phis k.instructions)) l (λ total seen k l f. phis_first_lem b seen false k.instructions f.instructions) w.blocks;
    }

-- ---- reason 0

pub record Passed (a b c d e : Bool) : Type 0 where
  pub types : T a
  pub order : T b
  pub apart : T c
  pub deep : T d
  pub clean : T e

all_passed : (a b c d e : Bool) → ◌≡◌ {A = ℕ} (cond a (cond b (cond c (cond d (cond e 0 5) 4) 3) 2) 1) 0 → Passed a b c d e
all_passed true true true true true h = record { types = tt; order = tt; apart = tt; deep = tt; clean = tt }
all_passed true true true true false h = absurd (ne h)
  where
    ne : ◌≡◌ {A = ℕ} 5 0 → ⊥
    ne e = omega (arith, e)
all_passed true true true false e h = absurd (ne h)
  where
    ne : ◌≡◌ {A = ℕ} 4 0 → ⊥
    ne e = omega (arith, e)
all_passed true true false d e h = absurd (ne h)
  where
    ne : ◌≡◌ {A = ℕ} 3 0 → ⊥
    ne e = omega (arith, e)
all_passed true false c d e h = absurd (ne h)
  where
    ne : ◌≡◌ {A = ℕ} 2 0 → ⊥
    ne e = omega (arith, e)
all_passed false b c d e h = absurd (ne h)
  where
    ne : ◌≡◌ {A = ℕ} 1 0 → ⊥
    ne e = omega (arith, e)

-- types agree behind the phis too
module _ (debug : Bool) (τ : Types) where
  abbrev agree : Instruction → Bool
  agree i = counted_agrees debug τ i.kind

  typed_behind : (is : List Instruction) → T (every agree is) → T (every (λ i. typed τ i.kind) (behind_phis is))
  unfolding behind_phis
  typed_behind [] h = tt
  typed_behind (i ∷ is) h =
      elim (split (is_phi i.kind)) [
        | passes y ↦ rw (cond_yes (is_phi i.kind) (behind_phis is) (i ∷ is) y) (typed_behind is (both_r (agree i) (every agree is) h))
        | fails y ↦ rw (cond_no (is_phi i.kind) (behind_phis is) (i ∷ is) y) (typed_all (i ∷ is) h)
      ]
    where
      typed_all : (is : List Instruction) → T (every agree is) → T (every (λ i. typed τ i.kind) is)
      typed_all [] h = tt
      typed_all (i ∷ is) h =
          both (typed τ i.kind) _ (counted_typed debug τ i.kind (both_l (agree i) (every agree is) h)) (typed_all is (both_r (agree i) (every agree is) h))

  typed_blocks : (ks : List Block) → T (every (block_agrees debug τ) ks) → T (every (λ k. every (λ i. typed τ i.kind) (behind_phis k.instructions)) ks)
  unfolding block_agrees
  typed_blocks [] h = tt
  typed_blocks (k ∷ ks) h =
      both (every (λ i. typed τ i.kind) (behind_phis k.instructions)) _
      (typed_behind k.instructions (both_l (every agree k.instructions) (end_agrees τ k.terminator) (both_l (block_agrees debug τ k) (every (block_agrees debug τ) ks) h)))
      (typed_blocks ks (both_r (block_agrees debug τ k) (every (block_agrees debug τ) ks) h))

-- ---- all of them, for both flags

pub static : (m : Mosts) (debug : Bool) (σ : Settings) (c : Choice) (r : Routine) → WellFormed m r → shelf_reason debug r (rewritten_by σ c r) ≡ 0 → Static debug σ c r
unfolding shelf_reason types_agree in_order kept_apart no_deep_store reads_no_dropped
static m debug σ c r w h =
    let form = formed m r w in
    let z = all_passed (types_agree debug r) (in_order debug r) (kept_apart r) (no_deep_store (rewritten_by σ c r).dropped r) (reads_no_dropped debug (rewritten_by σ c r).dropped (rewritten_by σ c r).blocks) h in
    let reads = every (λ k. clean debug (λ x. among x (rewritten_by σ c r).dropped) k.instructions) (rewritten_by σ c r).blocks in
    let ends = every (λ k. clean_terminator (λ x. among x (rewritten_by σ c r).dropped) k.terminator) (rewritten_by σ c r).blocks in
    record {
      recorded = form.recorded;
      parameters = form.parameters;
      below = form.below;
      below_ends = form.below_ends;
      fields = form.fields;
      once = form.once;
      phis_first = form.phis_first;
      typed = typed_blocks debug (types_in r) r.blocks (both_r (every (λ v. is_some (recorded_type (types_in r) v)) r.parameters) (every (block_agrees debug (types_in r)) r.blocks) z.types);
      ordered = z.order;
      apart = z.apart;
      shallow = z.deep;
      clean = both_l reads ends z.clean;
      clean_ends = both_r reads ends z.clean;
    }
