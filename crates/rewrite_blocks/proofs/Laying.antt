-- One block: its slots, its begin, its end, and a skipped one.
use Prim.Native.Nat.{ℕ, suc, ◌+◌, ◌≤◌, ◌<◌}
use mathlib.Core.Path.{◌≡◌, refl, ap, ◌∙◌, sym}
use mathlib.Core.List.{List, [], ◌∷◌}
use mathlib.Core.Bool.{Bool, true, false}
use mathlib.Core.Option.{some}
use native.Mathlib.Omega.{arith}
use native.Mathlib.Nat.{add-zero}
use lib.ListN.{length, get_or, drop}
use lib.Seq.{sets, length-take-le}
use Rattle.bytes_wire.proofs.Canon.{bytes_drop}
use Rattle.mir.specs.Syntax.{Block}
use Rattle.bytes_block.specs.Encode.{block_bytes}
use Rattle.bytes_block.proofs.Canon.{block_canon}
use Rattle.bytes_index.specs.Table.{starts_in, blocks_in}
use Rattle.bytes_index.specs.Code.{no_block, TerminatorIn, SlotsOf}
use Rattle.bytes_sections.specs.Decode.{mosts}
use Rattle.bytes_sections.specs.Index.{BlockAt, standing}
use Rattle.mir.specs.Lookup.{Types}
use Rattle.rewrite.specs.State.{no_states}
use Rattle.rewrite.specs.Run.{Walked, Rewritten, Choice, walk}
use Rattle.rewrite_parts.specs.Rows.{Rep, rows_from, rows_size, rows_in, fresh_in}
use Rattle.rewrite_progress.specs.declared.Progress.{Progress}
use Rattle.std.specs.Prelude.{Result, Ok, Err}
use Rattle.rewrite.specs.declared.Fault.{Fault}
use Rattle.rewrite_progress.specs.declared.Run.{Run}
use Rattle.rewrite_progress.specs.Ground.{Coded}
use Rattle.rewrite_progress.specs.Chosen.{skips_from, Follows}
use Rattle.rewrite_progress.specs.Effect.{behind, further, walked_effect, rewritten_effect, type_numbers, mark_all, Puts, Low, PutLow}
use Rattle.rewrite_arms.specs.declared.Used.{Used}
use Rattle.rewrite_perform.specs.Performed.{moved_to}
use Rattle.rewrite_step.specs.Stepping.{Lent, lent_as, output_in, PutsIn, Numbered, SteppedLow}
use Rattle.rewrite_perform.proofs.Lows.{low_mono, low_moved}
use Rattle.rewrite_progress.proofs.Faults.{puts_effect, puts_fault}
use Rattle.rewrite_perform.specs.Performed.{block_effect, CountPut}
use Rattle.bytes_index.specs.declared.slots.Slots.{Slots}
use Rattle.mir.specs.Most.{most_instructions}
use Rattle.rewrite_blocks.specs.Blocks.{BlockSlots, EndPut, walk_of, Begun, InstructionsPut, rewritten, OnePut}
use Rattle.rewrite_blocks.proofs.Whole.{skip_effect, walk_effect}

transfer : {A : Type 0} (P : A → Type 0) (x y : A) → x ≡ y → P x → P y
transfer P x y e h = rw e at h

-- the slots of the table, where they are no more than a block can have
pub slots_found : (facts : List ℕ) (k : ℕ) (found at : Slots)
    → SlotsOf facts k found
    → at.first ≡ found.first
    → (at.count ≤ most_instructions) × (found.count ≤ most_instructions → at.count ≡ found.count)
    → BlockSlots facts k at
slots_found facts k found at f e m =
    record {
      most = m.0;
      first = λ b s ks c h. e ∙ (f b s ks c h).0;
      count = λ b s ks c h few. let z = (f b s ks c h).1 in m.1 (omega (arith, z, few)) ∙ z;
    }

module _ (run : Run) (k : ℕ) (p : Progress) where
  -- the block is not skipped: its slots are found, no value is tracked, its body begins behind its count
  module _ (off : get_or run.choice.now (skips_from + k) false ≡ false) (at : Slots) (found : BlockSlots run.code.facts.now k at) (l : Lent) (w : Used Progress) (long : rows_size ≤ length l.work) (body : w.value ≡ moved_to p (p.to + 2) 0)
      (clear : (next : ℕ) (input rows : List ℕ) → w.used ≤ length rows → length input < 65536 → Rep next input l.tracked rows w.used no_states) (used : w.used ≡ rows_from) where
    module _ (τ : Types) (c : Choice) (ks : List Block) (co : Coded run.code.bounds run.code.bytes.now run.code.facts.now τ ks) (fo : Follows c run.code.facts.now run.choice.now ks) (h : k < length ks) (en : Numbered run.code.bounds p) where
      abbrev this : Block
      this = get_or ks k no_block

      abbrev own : Progress → Walked
      own q = walk_of run τ (c.folds this) q this

      abbrev alone : Rewritten
      alone = rewritten run τ c p (this ∷ [])

      skip : c.skips this ≡ false
      skip = sym (fo.skip k h) ∙ off

      same : (rewritten_effect alone ≡ block_effect (own p)) × ((alone.fault ≡ (own p).fault 0) × (alone.fresh ≡ (own p).fresh))
      same = walk_effect run.settings τ c (run.code.bounds.next + p.fresh) this skip (omega (arith, co.small k h))

      here : at.first ≡ get_or (starts_in run.code.facts.now) k 0
      here = found.first run.code.bounds run.code.bytes.now ks co.code h

      begun : Begun run at l w τ (c.folds this) this
      begun =
          record {
            ground = co.ground;
            block = rw here (co.code.each k h);
            many = sym (found.count run.code.bounds run.code.bytes.now ks co.code h (co.small k h));
            flags = λ j d m e. ap (λ n. get_or run.choice.now (n + j) false) here ∙ fo.fold k j d h skip m e;
            rep = clear run.code.bounds.next run.code.bytes.now (rows_in l.work) (omega (arith, used, length-take-le rows_size l.work long)) co.short;
            bound = transfer (λ q. Numbered run.code.bounds q) (moved_to p (p.to + 2) 0) w.value (sym body) en;
            lines = transfer (λ q. q.lines ≤ 65535) (moved_to p (p.to + 2) 0) w.value (sym body) (omega arith);
          }

      module _ (l' : Lent) (r : Result (Used Progress) Fault) (put : InstructionsPut run at l w l' r) where
        -- a fault was met
        pub block_fault : (f : Fault) → r ≡ Err f → PutsIn (output_in l p) (rewritten_effect alone) (λ lines. alone.fault) l' (Err f)
        block_fault f e = puts_fault _ _ _ _ _ _ f (same.1.0 ∙ transfer (λ q. (own q).fault q.lines ≡ some f) w.value (moved_to p (p.to + 2) 0) body ((put τ (c.folds this) this begun).refused f e))

        -- its terminator is put out
        ended_as : (v : Used Progress) (work out : List ℕ) (a : Result Progress Fault) → r ≡ Ok v
            → EndPut run.settings.edition run.code (at.first + at.count) l'.tracked l'.work l'.out v.value work out a
            → Puts (output_in l (moved_to p (p.to + 2) 0)) (walked_effect (own (moved_to p (p.to + 2) 0))) (own (moved_to p (p.to + 2) 0)).fault out (fresh_in work) l'.dropped a
        unfolding walk
        ended_as v work out a e ended =
            let left = (put τ (c.folds this) this begun).went v e in
            let line = transfer (λ n. TerminatorIn run.code.bounds run.code.bytes.now run.code.facts.now (at.first + n) this.terminator) (length this.instructions) at.count begun.many begun.block.terminator in
            let end = ended run.settings τ left.states v.used this.terminator l'.dropped refl co.ground left.rep line left.bound in
            let whole : Puts (output_in l w.value) (walked_effect (own w.value)) (own w.value).fault out (fresh_in work) l'.dropped a =
            record { refused = λ f y. sym left.fault ∙ end.refused f y; went = λ q y. (sym left.fault ∙ (end.went q y).0, (end.went q y).1 ∙ left.same) } in
            transfer (λ q. Puts (output_in l q) (walked_effect (own q)) (own q).fault out (fresh_in work) l'.dropped a) w.value (moved_to p (p.to + 2) 0) body whole

        -- then its count is put in front, unless there was a fault
        pub block_end : (v : Used Progress) (work out out' : List ℕ) (a z : Result Progress Fault) → r ≡ Ok v
            → EndPut run.settings.edition run.code (at.first + at.count) l'.tracked l'.work l'.out v.value work out a
            → CountPut p out a out' z
            → p.lines ≡ 0
            → Puts (output_in l p) (rewritten_effect alone) (λ lines. alone.fault) out' (fresh_in work) l'.dropped z
        block_end v work out out' a z e ended counted first =
            let b = counted l.out (fresh_in l.work) (fresh_in work) l.dropped l'.dropped (own p) first (ended_as v work out a e ended) in
            let f : alone.fault ≡ (own p).fault p.lines = same.1.0 ∙ ap (own p).fault (sym first) in
            record { refused = λ g y. f ∙ b.refused g y; went = λ q y. (f ∙ (b.went q y).0, (b.went q y).1 ∙ sym (ap (λ d. behind (output_in l p) d) same.0)) }

  -- a skipped block is copied
  stands_short : (τ : Types) (ks : List Block) → Coded run.code.bounds run.code.bytes.now run.code.facts.now τ ks → k < length ks → length (block_bytes (get_or ks k no_block)) ≤ 65536
  stands_short τ ks co h = by_place (co.blocks.each k h)
    where
      by_place : BlockAt mosts run.code.bounds run.code.bytes.now (get_or (blocks_in run.code.facts.now) k 0) (get_or (blocks_in run.code.facts.now) (suc k) 0) (get_or ks k no_block) → length (block_bytes (get_or ks k no_block)) ≤ 65536
      by_place (standing total seen e) = omega (arith, (block_canon mosts run.code.bounds total seen (drop (get_or (blocks_in run.code.facts.now) k 0) run.code.bytes.now) (bytes_drop run.code.bytes.now (get_or (blocks_in run.code.facts.now) k 0) co.ground.bytes) e).size, co.blocks.within (suc k) (omega (arith, h)), co.short)

  pub skipped_puts : (l : Lent) (skips : Bool) (part out : List ℕ) (r : Progress) → skips ≡ get_or run.choice.now (skips_from + k) false → skips ≡ true
      → ((τ : Types) (ks : List Block) → Coded run.code.bounds run.code.bytes.now run.code.facts.now τ ks → k < length ks → part ≡ block_bytes (get_or ks k no_block))
      → (length part ≤ 65536 → (r ≡ moved_to p (p.to + length part) (p.lines + 0)) × (out ≡ sets l.out p.to part))
      → OnePut run k l p (lent_as l.tracked l.dropped l.work out) (Ok r)
  unfolding behind further type_numbers mark_all
  skipped_puts l skips part out r fs sk stands put τ c ks co fo h z en =
      let x = get_or ks k no_block in
      let y = skip_effect run.settings τ c (run.code.bounds.next + p.fresh) x (sym (fo.skip k h) ∙ sym fs ∙ sk) in
      let e = stands τ ks co h in
      let w = put (omega (arith, ap (λ v. length v) e, stands_short τ ks co h)) in
      puts_effect _ _ _ out (fresh_in l.work) l.dropped r y.1.0 (rw (w.0, w.1, e) (simp (add-zero)) ∙ sym (ap (λ d. behind (output_in l p) d) y.0))

-- its body begins one thing further, its instructions, terminator and count add no more than one thing each
pub low_begun : (n : ℕ) (p w : Progress) → w ≡ moved_to p (p.to + 2) 0 → Low n p → Low (n + 1) w
low_begun n p w e l = low_moved n p l w (p.to + 2) 0 e (omega arith) (omega arith)

pub low_walked : (n j used : ℕ) (v : Used Progress) → j ≤ most_instructions → SteppedLow (n + 1 + j) used (Ok v) → Low (n + 129) v.value
low_walked n j used v h l = low_mono (n + 1 + j) (n + 129) v.value (omega arith) l.0

pub low_end : (n : ℕ) (v : Progress) (q z : Result Progress Fault) → Low (n + 129) v → ((k : ℕ) → Low k v → PutLow (k + 1) q) → ((k : ℕ) → PutLow k q → PutLow k z) → PutLow (n + 130) z
low_end n v q z l f g = g (n + 130) (transfer (λ m. PutLow m q) (n + 129 + 1) (n + 130) (omega arith) (f (n + 129) l))
