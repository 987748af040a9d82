-- THE OUTPUT HAS A BYTE FORM, in both editions: a rewritten routine without a fault is well formed under the lifted mosts, by
-- any choice, and so it is what its bytes decode to.
use Prim.Native.Nat.{ℕ, zero, suc, ◌+◌, ◌*◌, ◌≤◌}
use mathlib.Core.Path.{◌≡◌, refl, ap, ◌∙◌, sym}
use mathlib.Core.List.{List, [], ◌∷◌, ◌++◌, map}
use mathlib.Core.Bool.{Bool, true, false, cond, not, ◌||◌}
use mathlib.Core.Option.{Option, none, some, none-ne-some}
use native.Mathlib.Omega.{arith}
use lib.ListN.{length, get_elem?, get_or, length-append, length-replicate}
use Rattle.table.proofs.Elements.{clear_at}
use Rattle.bytes_wire.specs.Parse.{ok}
use Rattle.mir.specs.declared.ValueId.{ValueId}
use Rattle.mir.specs.declared.TypeId.{TypeId}
use Rattle.mir.specs.MirType.{MirType}
use Rattle.bytes_types.specs.WellFormed.{FitMirType, FitTypes}
use Rattle.mir.specs.Syntax.{Instruction, Terminator, Block}
use Rattle.mir.specs.Reads.{dests, is_phi}
use Rattle.bytes_field.specs.declared.Bounds.{Bounds}
use Rattle.bytes_laws.specs.WellFormed.{FitType, FitOption, FitInstruction, FitTerminator}
use Rattle.bytes_block.specs.Decode.{marks, block_marks}
use Rattle.bytes_block.specs.declared.Mosts.{Mosts}
use Rattle.bytes_block.specs.WellFormed.{WideMosts, FitInstructions}
use Rattle.mir.specs.Routine.{Routine}
use Rattle.bytes_sections.specs.Decode.{mosts, whole_of}
use Rattle.bytes_sections.specs.Encode.{encode}
use Rattle.bytes_laws_whole.specs.WellFormed.{FitBlocks, bounds, unmarked, WellFormed}
use Rattle.bytes_laws_whole.proofs.BackWhole.{whole_back}
use Rattle.fold.specs.declared.Edition.{Edition}
use Rattle.fold.specs.declared.Settings.{Settings}
use Rattle.mir.specs.Lists.{Each}
use Rattle.mir.specs.Lookup.{Types, recorded_type, types_in}
use Rattle.mir.specs.Phis.{behind_phis, phis_of}
use Rattle.rewrite.specs.State.{no_states}
use Rattle.rewrite.specs.Run.{Walked, walk, block_then, skip_then, Choice, Rewritten, one_block, all_blocks, rewritten_by, rewrite_with}
use Rattle.rewrite.specs.Sum.{instruction_count}
use Rattle.rewrite.proofs.Lowering.{lowers_walk}
use Rattle.rewrite.proofs.Bound.{bound_blocks, block_count}
use Rattle.rewrite.proofs.Limits.{Short, limited_by}
use Rattle.rewrite_laws.specs.Lifted.{most_numbers, most_instructions, lifted}
use Rattle.rewrite_laws.proofs.Wider.{Wider, kind_wider, end_wider}
use Rattle.rewrite_laws.proofs.Parts.{no_states_lem}
use Rattle.rewrite_laws.proofs.Rebuilt.{Typed}
use Rattle.rewrite_laws.proofs.Steps.{walk_fit}
use Rattle.rewrite_laws.proofs.Marks.{dests_new, Both, news_both, both_kept}
use Rattle.rewrite_laws.proofs.Blocks.{fits_lowers}
use Rattle.rewrite_laws.proofs.Counts.{lists_within, all_most, each_short, lowers_count}
use Rattle.bytes_laws_whole.proofs.Whole.{both_lists}

-- ---- blocks

-- no block has more instructions than one may have, where all blocks together have no more than they may have
abbrev Owned : Mosts → List Block → Type 0
Owned o ks = Each (λ k. length k.instructions ≤ o.all → length k.instructions ≤ o.block) ks

turns : (a x : Bool) → x ≡ false → a || not x ≡ true
turns true x e = refl
turns false x e = ap not e

module _ (b c : Bounds) (w : Wider b c) (τ : Types) (g : Typed c τ) (σ : Settings) where
  -- behind another kind there is no Phi
  no_phis : (seen : List Bool) (late : Bool) (is : List Instruction) → late ≡ true → FitInstructions b seen late is → Each (λ i. is_phi i.kind ≡ false) is
  no_phis seen late [] e f = tt
  no_phis seen late (i ∷ is) e f = (other (is_phi i.kind) f.0.2, no_phis (marks seen (dests i.kind)) (late || not (is_phi i.kind)) is (ap (λ x. x || not (is_phi i.kind)) e) f.1)
    where
      other : (x : Bool) → (x ≡ true → late ≡ false) → x ≡ false
      other true f = sym e ∙ f refl
      other false f = refl

  -- instructions of the output, with the marks behind them
  record Fit (n : ℕ) (seen marked : List Bool) (late : Bool) (os : List Instruction) : Type 0 where
    pub fit : FitInstructions c marked late os
    pub both : Both b.next n seen (block_marks marked os)

  -- one that is kept, a Phi too
  keep_one : (n m : ℕ) (seen end marked : List Bool) (late : Bool) (i : Instruction) (os : List Instruction) → FitInstruction b seen late i → Both b.next n seen marked → Fit m end (marks marked (dests i.kind)) (late || not (is_phi i.kind)) os → Fit m end marked late (i ∷ os)
  keep_one n m seen end marked late i os f h r =
      record {
        fit = ((f.0, kind_wider b c w seen i.kind f.1 marked (news_both b c w.next n seen marked (dests i.kind) h (dests_new b seen i.kind f.1)), f.2), r.fit);
        both = r.both;
      }

  keep_all : (n : ℕ) (seen marked : List Bool) (late : Bool) (is : List Instruction) → FitInstructions b seen late is → Both b.next n seen marked → Fit n (block_marks seen is) marked late is
  keep_all n seen marked late [] f h = record { fit = tt; both = h }
  keep_all n seen marked late (i ∷ is) f h =
      keep_one n n seen (block_marks (marks seen (dests i.kind)) is) marked late i is f.0 h
      (keep_all n (marks seen (dests i.kind)) (marks marked (dests i.kind)) (late || not (is_phi i.kind)) is f.1 (both_kept b c w.next n seen marked (dests i.kind) (dests_new b seen i.kind f.0.1) h))

  -- phis stay, what stands behind them is walked
  record BlockFitWith (n : ℕ) (seen marked : List Bool) (late : Bool) (is phis : List Instruction) (v : Walked) : Type 0 where
    pub fits : Fit (n + length v.fresh) (block_marks seen is) marked late (phis ++ v.out)
    pub terminator : FitTerminator c v.terminator
    pub count : n + length (phis ++ v.out) ≤ length is + (n + length v.fresh)
    pub fresh : Each (FitType c) v.fresh

  abbrev BlockFit : ℕ → List Bool → List Bool → Bool → List Instruction → Walked → Type 0
  BlockFit n seen marked late is v = BlockFitWith n seen marked late is (phis_of is) v

  module _ (folds : ValueId → Bool) where
    walked_fit : (n : ℕ) (seen marked : List Bool) (late : Bool) (is : List Instruction) (t : Terminator) → Each (λ i. is_phi i.kind ≡ false) is → FitInstructions b seen late is → FitTerminator b t → Both b.next n seen marked
        → n + length (walk σ τ folds no_states n is t).fresh ≤ c.next → (Fit (n + length (walk σ τ folds no_states n is t).fresh) (block_marks seen is) marked late (walk σ τ folds no_states n is t).out) × FitTerminator c (walk σ τ folds no_states n is t).terminator × Each (FitType c) (walk σ τ folds no_states n is t).fresh
    walked_fit n seen marked late is t e f q h z =
        let v = walk_fit b c w τ g σ folds no_states (no_states_lem c.list c.next) n seen late is t e f q z in
        let y = fits_lowers b c w.next (lowers_walk σ τ folds no_states n is t) seen marked late z v.out f h in
        (record { fit = y.fit late; both = y.both }, v.terminator, v.fresh)

    block_fit : (n : ℕ) (seen marked : List Bool) (late : Bool) (is : List Instruction) (t : Terminator) → FitInstructions b seen late is → FitTerminator b t → Both b.next n seen marked
        → n + length (walk σ τ folds no_states n (behind_phis is) t).fresh ≤ c.next → BlockFit n seen marked late is (walk σ τ folds no_states n (behind_phis is) t)
    unfolding behind_phis phis_of
    block_fit n seen marked late [] t f q h z =
        let y = walked_fit n seen marked late [] t tt f q h z in
        record { fits = y.0; terminator = y.1; count = lowers_count (lowers_walk σ τ folds no_states n [] t); fresh = y.2 }
    block_fit n seen marked late (i ∷ is) t f q h z =
        by (is_phi i.kind) refl f.0.2 z (λ z. block_fit n (marks seen (dests i.kind)) (marks marked (dests i.kind)) (late || not (is_phi i.kind)) is t f.1 q (both_kept b c w.next n seen marked (dests i.kind) (dests_new b seen i.kind f.0.1) h) z)
      where
        by : (x : Bool) → is_phi i.kind ≡ x → (is_phi i.kind ≡ true → late ≡ false) → n + length (walk σ τ folds no_states n (cond x (behind_phis is) (i ∷ is)) t).fresh ≤ c.next
            → (n + length (walk σ τ folds no_states n (behind_phis is) t).fresh ≤ c.next → BlockFit n (marks seen (dests i.kind)) (marks marked (dests i.kind)) (late || not (is_phi i.kind)) is (walk σ τ folds no_states n (behind_phis is) t))
            → BlockFitWith n seen marked late (i ∷ is) (cond x (i ∷ phis_of is) []) (walk σ τ folds no_states n (cond x (behind_phis is) (i ∷ is)) t)
        by true e p z r =
            let y = r z in
            record { fits = keep_one n _ seen (block_marks (marks seen (dests i.kind)) is) marked late i _ f.0 h y.fits; terminator = y.terminator; count = omega (arith, y.count); fresh = y.fresh }
        by false e p z r =
            let y = walked_fit n seen marked late (i ∷ is) t (e, no_phis (marks seen (dests i.kind)) (late || not (is_phi i.kind)) is (turns late (is_phi i.kind) e) f.1) f q h z in
            record { fits = y.0; terminator = y.1; count = lowers_count (lowers_walk σ τ folds no_states n (i ∷ is) t); fresh = y.2 }

-- ---- all blocks

module _ (b c : Bounds) (w : Wider b c) (τ : Types) (g : Typed c τ) (σ : Settings) (q : Choice) where
  -- `total` instructions of the input and `put` of the output stand before, at the next value n; there were `base` values
  record Upto (base n total put : ℕ) (seen marked : List Bool) : Type 0 where
    pub both : Both b.next n seen marked
    pub sum : put + base ≤ total + n

  record AllFit (o : Mosts) (put : ℕ) (marked : List Bool) (v : Rewritten) : Type 0 where
    pub blocks : FitBlocks o c put marked v.blocks
    pub fresh : Each (FitType c) v.fresh

  blocks_fit : (m o : Mosts) (base n total put : ℕ) (seen marked : List Bool) (ks : List Block) → m.all ≤ 256 → c.next + 256 ≤ base + o.all → Upto base n total put seen marked → FitBlocks m b total seen ks
      → Owned o (all_blocks σ τ q n ks).blocks → n + length (all_blocks σ τ q n ks).fresh ≤ c.next → AllFit o put marked (all_blocks σ τ q n ks)
  unfolding all_blocks one_block skip_then block_then
  blocks_fit m o base n total put seen marked [] a d u f own z = record { blocks = tt; fresh = tt }
  blocks_fit m o base n total put seen marked (k ∷ ks) a d u f own z =
      by (q.skips k) own z (λ n put marked u own z. blocks_fit m o base n (total + length k.instructions) put (block_marks seen k.instructions) marked ks a d u f.1 own z)
    where
      by : (x : Bool) → Owned o (one_block σ τ q n k (λ m. all_blocks σ τ q m ks) x).blocks → n + length (one_block σ τ q n k (λ m. all_blocks σ τ q m ks) x).fresh ≤ c.next
          → ((n put : ℕ) (marked : List Bool) → Upto base n (total + length k.instructions) put (block_marks seen k.instructions) marked → Owned o (all_blocks σ τ q n ks).blocks → n + length (all_blocks σ τ q n ks).fresh ≤ c.next → AllFit o put marked (all_blocks σ τ q n ks))
          → AllFit o put marked (one_block σ τ q n k (λ m. all_blocks σ τ q m ks) x)
      by true own z r =
          let y = keep_all b c w τ g σ n seen marked false k.instructions f.0.instructions u.both in
          let x = r n (put + length k.instructions) (block_marks marked k.instructions) (record { both = y.both; sum = omega (arith, u.sum) }) own.1 z in
          let all : put + length k.instructions ≤ o.all = omega (arith, u.sum, f.0.all, a, d, z) in
          record {
            blocks = (record { own = own.0 (omega (arith, all)); all = all; instructions = y.fit; terminator = end_wider b c w k.terminator f.0.terminator }, x.blocks);
            fresh = x.fresh;
          }
      by false own z r =
          let v = walk σ τ (q.folds k) no_states n (behind_phis k.instructions) k.terminator in
          let rest = all_blocks σ τ q (n + length v.fresh) ks in
          let e : length (v.fresh ++ rest.fresh) ≡ length v.fresh + length rest.fresh = length-append v.fresh rest.fresh in
          let y = block_fit b c w τ g σ (q.folds k) n seen marked false k.instructions k.terminator f.0.instructions f.0.terminator u.both (omega (arith, e, z)) in
          let x = r (n + length v.fresh) (put + length (phis_of k.instructions ++ v.out)) (block_marks marked (phis_of k.instructions ++ v.out)) (record { both = y.fits.both; sum = omega (arith, u.sum, y.count) }) own.1 (omega (arith, e, z)) in
          let all : put + length (phis_of k.instructions ++ v.out) ≤ o.all = omega (arith, u.sum, y.count, f.0.all, a, d, e, z) in
          record {
            blocks = (record { own = own.0 (omega (arith, all)); all = all; instructions = y.fits.fit; terminator = y.terminator }, x.blocks);
            fresh = both_lists (FitType c) v.fresh rest.fresh y.fresh x.fresh;
          }

-- ---- the routine

row_fit : (most : ℕ) (earlier ts : List MirType) (k : ℕ) (t : MirType) → FitTypes most earlier ts → get_elem? ts k ≡ some t → FitMirType most (length earlier + k) t
row_fit most earlier [] k t h e = absurd (none-ne-some t e)
row_fit most earlier (u ∷ ts) zero t h e = let z : length earlier + 0 ≡ length earlier = omega arith in rw z (rw (inj e) at h.0)
  where
    inj : some u ≡ some t → u ≡ t
    inj e = cc
row_fit most earlier (u ∷ ts) (suc k) t h e =
    let z : length (earlier ++ (u ∷ [])) + k ≡ length earlier + suc k = rw (length-append earlier (u ∷ [])) (omega arith) in
    rw z at (row_fit most (earlier ++ (u ∷ [])) ts k t h.2 e)

first_fit : (ts : List MirType) (k : ℕ) (t : MirType) → FitTypes 16 [] ts → get_elem? ts k ≡ some t → FitMirType 16 k t
first_fit ts k t h e = let z : 0 + k ≡ k = omega arith in rw z at (row_fit 16 [] ts k t h e)

recorded_fit : (c : Bounds) (rs : List (Option TypeId)) (v : ℕ) → Each (FitOption (FitType c)) rs → FitOption (FitType c) (get_or rs v none)
recorded_fit c [] v h = tt
recorded_fit c (t ∷ rs) zero h = h.0
recorded_fit c (t ∷ rs) (suc v) h = recorded_fit c rs v h.1

recorded_more : (c : Bounds) (rs : List (Option TypeId)) (ts : List TypeId) → Each (FitOption (FitType c)) rs → Each (FitType c) ts → Each (FitOption (FitType c)) (rs ++ map some ts)
recorded_more c [] [] h k = tt
recorded_more c [] (t ∷ ts) h k = (k.0, recorded_more c [] ts tt k.1)
recorded_more c (r ∷ rs) ts h k = (h.0, recorded_more c rs ts h.1 k)

map_length : (ts : List TypeId) → length (map (λ t. some t) ts) ≡ length ts
map_length [] = refl
map_length (t ∷ ts) = ap (λ z. suc z) (map_length ts)

-- the lifted mosts do not pass their fields
pub most_below : (e : Edition) → most_numbers e ≤ 65535
most_below Edition.First = omega arith
most_below Edition.Second = omega arith

lifted_wide : (σ : Settings) → WideMosts (lifted σ)
lifted_wide σ = record { types = omega arith; next = most_below σ.edition; blocks = omega arith; block = most_below σ.edition; list = omega arith; projections = omega arith }

-- the room that the lifted mosts leave to what is made of a routine's blocks
record Room (e : Edition) (r : Routine) (v : Rewritten) : Type 0 where
  pub next : r.next + length v.fresh ≤ most_numbers e
  pub all : (r.next + length v.fresh) + 256 ≤ r.next + most_instructions e
  pub own : Each (λ k. length k.instructions ≤ most_instructions e → length k.instructions ≤ most_numbers e) v.blocks

-- a block has no more instructions than all blocks together
any_block : (ks : List Block) → Each (λ k. length k.instructions ≤ most_instructions Edition.First → length k.instructions ≤ most_numbers Edition.First) ks
any_block [] = tt
any_block (k ∷ ks) = (λ h. h, any_block ks)

-- in edition 1 an accepted routine has it: "its next value is at most 4,864"
room_first : (σ : Settings) (q : Choice) (r : Routine) → σ.edition ≡ Edition.First → WellFormed mosts r → Room Edition.First r (rewritten_by σ q r)
unfolding rewritten_by
room_first σ q r e h =
    let v = rewritten_by σ q r in
    let few : length v.fresh ≤ 16 * instruction_count r.blocks + 16 * length r.blocks = bound_blocks σ e (types_in r) q r.next r.blocks (lists_within mosts r h) in
    let all : instruction_count r.blocks ≤ 256 = all_most mosts r h in
    record { next = omega (arith, few, all, h.many_blocks, h.next); all = omega (arith, few, all, h.many_blocks); own = any_block v.blocks }

own_blocks : (ks : List Block) → Each Short ks → Each (λ k. length k.instructions ≤ most_instructions Edition.Second → length k.instructions ≤ most_numbers Edition.Second) ks
own_blocks [] h = tt
own_blocks (k ∷ ks) h = (λ z. h.0, own_blocks ks h.1)

-- in edition 2 what is not refused has it
room_second : (σ : Settings) (q : Choice) (r : Routine) → WellFormed mosts r → (rewritten_by σ q r).fault ≡ none → Room Edition.Second r (rewritten_by σ q r)
room_second σ q r h n =
    let l = limited_by σ q r (each_short mosts r (omega arith) h) (omega (arith, h.next)) n in
    record { next = l.next; all = omega (arith, l.next); own = own_blocks (rewritten_by σ q r).blocks l.blocks }

room : (σ : Settings) (q : Choice) (r : Routine) → WellFormed mosts r → (rewritten_by σ q r).fault ≡ none → Room σ.edition r (rewritten_by σ q r)
room σ q r h n = by σ.edition refl
  where
    by : (e : Edition) → σ.edition ≡ e → Room e r (rewritten_by σ q r)
    by Edition.First e = room_first σ q r e h
    by Edition.Second e = room_second σ q r h n

pub well_formed : (σ : Settings) (q : Choice) (r : Routine) → WellFormed mosts r → (rewritten_by σ q r).fault ≡ none → WellFormed (lifted σ) (rewrite_with (rewritten_by σ q r) r)
unfolding rewrite_with rewritten_by types_in recorded_type
well_formed σ q r h n =
    let v = rewritten_by σ q r in
    let s = room σ q r h n in
    let o = rewrite_with v r in
    let b = bounds mosts r in
    let c = bounds (lifted σ) o in
    let τ = types_in r in
    let many : length v.blocks ≡ length r.blocks = block_count σ τ q r.next r.blocks in
    let w : Wider b c = record { types = omega arith; next = omega arith; blocks = omega (arith, many); list = omega arith; projections = omega arith; top = omega (arith, s.next, most_below σ.edition) } in
    let g : Typed c τ = record { rows = λ t T e. first_fit r.types t T h.types e; count = omega arith; recorded = λ x. recorded_fit b r.recorded x.0 h.recorded } in
    let u : Both b.next r.next (unmarked r) (unmarked o) =
    record { long = rw (length-replicate {A = Bool} r.next false) (omega arith); start = omega arith; fewer = λ x l e. clear_at o.next x; above = λ x l. clear_at o.next x } in
    let y = blocks_fit b c w τ g σ q mosts (lifted σ) r.next r.next 0 0 (marks (unmarked r) r.parameters) (marks (unmarked o) r.parameters) r.blocks (omega arith) s.all
    (record { both = both_kept b c w.next r.next (unmarked r) (unmarked o) r.parameters h.parameters u; sum = omega arith }) h.blocks s.own (omega arith) in
    record {
      many_types = h.many_types;
      types = h.types;
      next = s.next;
      many_blocks = omega (arith, many, h.many_blocks);
      entry = omega (arith, many, h.entry);
      many_parameters = h.many_parameters;
      parameters = news_both b c w.next r.next (unmarked r) (unmarked o) r.parameters u h.parameters;
      many_recorded = length-append r.recorded (map some v.fresh) ∙ (ap (λ z. z + length (map some v.fresh)) h.many_recorded ∙ ap (λ z. r.next + z) (map_length v.fresh));
      recorded = recorded_more c r.recorded v.fresh h.recorded y.fresh;
      blocks = y.blocks;
    }

-- and so the output's bytes are read as the rewritten routine
pub output_decodes : (σ : Settings) (q : Choice) (r : Routine) → WellFormed mosts r → (rewritten_by σ q r).fault ≡ none
    → whole_of (lifted σ) (encode (rewrite_with (rewritten_by σ q r) r)) ≡ ok (rewrite_with (rewritten_by σ q r) r) (length (encode (rewrite_with (rewritten_by σ q r) r)))
output_decodes σ q r h n = whole_back (lifted σ) (rewrite_with (rewritten_by σ q r) r) (lifted_wide σ) (well_formed σ q r h n)
