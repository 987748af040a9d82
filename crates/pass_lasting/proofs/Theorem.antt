-- THE THEOREM: no new reason 1, and no new reason 2, in what comes out, for every settings and every choice; and of bytes.
use Prim.Native.Nat.{ℕ}
use native.Mathlib.Nat.{le_refl}
use mathlib.Core.Path.{◌≡◌, refl, ◌∙◌}
use mathlib.Core.Option.{some}
use mathlib.Core.List.{List, [], ◌∷◌, ◌++◌, map}
use mathlib.Core.Bool.{Bool, true, false, cond, ◌&&◌}
use lib.Dec.{T, ltb}
use Rattle.bytes_wire.specs.Parse.{ok}
use Rattle.mir.specs.declared.ValueId.{ValueId}
use Rattle.mir.specs.Syntax.{Block}
use Rattle.mir.specs.Reads.{terminator_reads}
use Rattle.mir.specs.Lookup.{recorded_type, is_some, types_in}
use Rattle.mir.specs.Phis.{behind_phis}
use Rattle.mir.specs.Routine.{Routine}
use Rattle.bytes_sections.specs.Decode.{mosts}
use Rattle.bytes_laws_whole.proofs.Whole.{whole_fit}
use Rattle.bytes_laws_whole.proofs.Example.{mosts_wide}
use Rattle.fold.specs.declared.Settings.{Settings}
use Rattle.rewrite.specs.Run.{Choice, choice, rewritten_by, rewritten_blocks, rewrite_with, rewrite}
use Rattle.rewrite_laws.proofs.Whole.{output_decodes}
use Rattle.shelf.specs.Lists.{every}
use Rattle.shelf.specs.Reads.{ordered, with_debug}
use Rattle.shelf.specs.Agrees.{block_agrees}
use Rattle.shelf.specs.Reason.{types_agree, in_order, kept_apart, no_deep_store, reads_no_dropped, shelf_reason}
use Rattle.shelf.specs.Answer.{reason_of}
use Rattle.machine_simulation.specs.Static.{below, no_phi}
use Rattle.machine_simulation.specs.Statement.{rewritten}
use Rattle.machine_simulation.proofs.Tools.{both_l, both_r, both}
use Rattle.machine_simulation.proofs.Theorem.{get_front, fresh_recorded, names_once}
use Rattle.machine_claim.proofs.Facts.{Formed, formed}
use Rattle.machine_claim.proofs.Answered.{from, of_answer}
use Rattle.pass_lasting.specs.Lasting.{TypesLast, OrderLasts, StaysWellTyped}
use Rattle.pass_lasting.proofs.Vocabulary.{Table, types_later}
use Rattle.pass_lasting.proofs.TypedBlocks.{FineBlocks, blocks_fine}
use Rattle.pass_lasting.proofs.OrderBlocks.{OrderedBlocks, blocks_ordered}

-- ---- routines

-- the types of a routine, and as its rewriting records them
unfoldable table : (σ : Settings) (c : Choice) (r : Routine) → Formed r → Table
unfolding types_in recorded_type
table σ c r h =
    record {
      types = types_in r;
      later = r.recorded ++ map some (rewritten_by σ c r).fresh;
      m = r.next;
      alike = λ v t. get_front r.recorded (map some (rewritten_by σ c r).fresh) v.0 (rw h.recorded t);
      names = λ t. names_once (types_in r) t h.fields;
    }

-- what is known of each block, for reason 1
fine_blocks : (debug : Bool) (κ : Table) (ks : List Block) → T (every (λ k. below κ.m k.instructions) ks)
    → T (every (λ k. every (λ v. ltb v.0 κ.m) (terminator_reads k.terminator)) ks) → T (every (block_agrees debug κ.types) ks) → FineBlocks debug κ ks
fine_blocks debug κ [] a b h = tt
fine_blocks debug κ (k ∷ ks) a b h = (
  record {
    lows = both_l (below κ.m k.instructions) _ a;
    low_end = both_l (every (λ v. ltb v.0 κ.m) (terminator_reads k.terminator)) _ b;
    agrees = both_l (block_agrees debug κ.types k) _ h;
  },
  fine_blocks debug κ ks (both_r (below κ.m k.instructions) _ a) (both_r (every (λ v. ltb v.0 κ.m) (terminator_reads k.terminator)) _ b)
      (both_r (block_agrees debug κ.types k) _ h),
)

-- and for reason 2
ordered_blocks : (debug : Bool) (low : ℕ) (ks : List Block) → T (every (λ k. below low k.instructions) ks)
    → T (every (λ k. no_phi (behind_phis k.instructions)) ks) → T (every (λ k. ordered debug (behind_phis k.instructions)) ks) → OrderedBlocks debug low ks
ordered_blocks debug low [] a b h = tt
ordered_blocks debug low (k ∷ ks) a b h = (
  record {
    lows = both_l (below low k.instructions) _ a;
    phis_first = both_l (no_phi (behind_phis k.instructions)) _ b;
    ordered = both_l (ordered debug (behind_phis k.instructions)) _ h;
  },
  ordered_blocks debug low ks (both_r (below low k.instructions) _ a) (both_r (no_phi (behind_phis k.instructions)) _ b)
      (both_r (ordered debug (behind_phis k.instructions)) _ h),
)

-- parameters are below next, so that their types stay
parameters_stay : (κ : Table) (ps : List ValueId) → T (every (λ v. ltb v.0 κ.m) ps) → T (every (λ v. is_some (recorded_type κ.types v)) ps)
    → T (every (λ v. is_some (recorded_type (types_later κ) v)) ps)
parameters_stay κ [] l h = tt
parameters_stay κ (p ∷ ps) l h =
    both (is_some (recorded_type (types_later κ) p)) _
    (rw (κ.alike p (both_l (ltb p.0 κ.m) (every (λ v. ltb v.0 κ.m) ps) l)) at (both_l (is_some (recorded_type κ.types p)) _ h))
    (parameters_stay κ ps (both_r (ltb p.0 κ.m) (every (λ v. ltb v.0 κ.m) ps) l) (both_r (is_some (recorded_type κ.types p)) _ h))

-- a test that passes is true, and back
yes : (b : Bool) → T b → b ≡ true
yes true t = refl
yes false t = absurd t

passed : (b : Bool) → b ≡ true → T b
passed true e = tt
passed false e = absurd (ne e)
  where
    ne : false ≡ true → ⊥
    ne e = cc

-- no new reason 1: for every settings, every choice of builds and blocks, and both values of Debug's flag
pub types_last : (debug : Bool) (σ : Settings) (c : Choice) (r : Routine) → Formed r → TypesLast debug σ c r
unfolding types_agree rewritten rewrite_with table types_in rewritten_by
types_last debug σ c r h e =
    let κ = table σ c r h in
    let ps = every (λ v. is_some (recorded_type (types_in r) v)) r.parameters in
    let ks = every (block_agrees debug (types_in r)) r.blocks in
    let t : T (ps && ks) = passed (ps && ks) e in
    yes _
    (both (every (λ v. is_some (recorded_type (types_later κ) v)) r.parameters) _ (parameters_stay κ r.parameters h.parameters (both_l ps ks t))
    (blocks_fine debug σ κ c r.blocks (fine_blocks debug κ r.blocks h.below h.below_ends (both_r ps ks t)) r.next
    (rw h.recorded at (fresh_recorded (types_in r) r.recorded (rewritten_by σ c r).fresh))))

-- no new reason 2
pub order_lasts : (debug : Bool) (σ : Settings) (c : Choice) (r : Routine) → Formed r → OrderLasts debug σ c r
unfolding in_order rewritten rewrite_with rewritten_by
order_lasts debug σ c r h e =
    yes _
    (blocks_ordered debug σ (types_in r) c r.next r.blocks (ordered_blocks debug r.next r.blocks h.below h.phis_first (passed _ e)) r.next (le_refl r.next))

-- ---- bytes

-- a reason that is not 1 says that types agree
not_first : (a b c d e : Bool) → (◌≡◌ {A = ℕ} (cond a (cond b (cond c (cond d (cond e 0 5) 4) 3) 2) 1) 1 → ⊥) → a ≡ true
not_first true b c d e h = refl
not_first false b c d e h = absurd (h refl)

-- and one that is not 2 either, that they stand in order
not_second : (a b c d e : Bool) → a ≡ true → (◌≡◌ {A = ℕ} (cond a (cond b (cond c (cond d (cond e 0 5) 4) 3) 2) 1) 2 → ⊥) → b ≡ true
not_second true true c d e f h = refl
not_second true false c d e f h = absurd (h refl)
not_second false b c d e f h = absurd (ne f)
  where
    ne : false ≡ true → ⊥
    ne e = cc

-- what a call's reason says of the routine
reason_types : (σ : Settings) (r : Routine) (n : ℕ) → (reason_of σ (ok r n) ≡ 1 → ⊥) → types_agree with_debug r ≡ true
unfolding reason_of shelf_reason
reason_types σ r n h =
    not_first (types_agree with_debug r) (in_order with_debug r) (kept_apart r) (no_deep_store (rewritten_blocks σ r).dropped r)
    (reads_no_dropped with_debug (rewritten_blocks σ r).dropped (rewritten_blocks σ r).blocks) h

reason_order : (σ : Settings) (r : Routine) (n : ℕ) → types_agree with_debug r ≡ true → (reason_of σ (ok r n) ≡ 2 → ⊥) → in_order with_debug r ≡ true
unfolding reason_of shelf_reason
reason_order σ r n e h =
    not_second (types_agree with_debug r) (in_order with_debug r) (kept_apart r) (no_deep_store (rewritten_blocks σ r).dropped r)
    (reads_no_dropped with_debug (rewritten_blocks σ r).dropped (rewritten_blocks σ r).blocks) e h

-- of the bytes that a call leaves, whatever the settings and the room
pub well_typed : StaysWellTyped
unfolding rewrite rewritten_blocks rewrite_with rewritten
well_typed σ room s w c k bytes b h not_1 =
    elim (of_answer σ room s w c k bytes h) [
      | from r n e f l g u ↦
          let fit = whole_fit mosts s mosts_wide b e in
          let z = formed mosts r fit in
          let types = reason_types σ r n (λ q. not_1 (g ∙ q)) in
          record {
            routine = rewrite σ r;
            filed = rw f (output_decodes σ (choice σ r) r fit u);
            agrees = types_last with_debug σ (choice σ r) r z types;
            ordered = λ not_2. order_lasts with_debug σ (choice σ r) r z (reason_order σ r n types (λ q. not_2 (g ∙ q)));
          }
    ]
