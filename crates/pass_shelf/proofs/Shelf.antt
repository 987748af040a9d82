-- What the shelf test looks at, of an accepted routine whose rewriting is written.
use Prim.Native.Nat.{ℕ, suc, ◌+◌, ◌≤◌}
use mathlib.Core.Path.{◌≡◌, ap, ◌∙◌, sym, subst}
use mathlib.Core.List.{List, [], ◌∷◌, ◌++◌, append_assoc}
use mathlib.Core.Bool.{false}
use mathlib.Core.Option.{none}
use native.Mathlib.Omega.{arith}
use lib.ListN.{length, drop, replicate}
use lib.Seq.{sets, sets-eq, drop-append_seam}
use Rattle.bytes_wire.specs.Parse.{ok}
use Rattle.mir.specs.declared.ValueId.{ValueId}
use Rattle.bytes_field.specs.Decode.{defineds_of}
use Rattle.bytes_field.specs.Encode.{each_bytes, list_bytes, value_id_bytes}
use Rattle.bytes_field.specs.declared.Bounds.{Bounds}
use Rattle.bytes_laws.specs.WellFormed.{Wide}
use Rattle.bytes_index.specs.declared.code.Code.{Code}
use Rattle.bytes_laws.proofs.BackFields as B
use Rattle.bytes_block.specs.Decode.{marks}
use Rattle.bytes_block.specs.declared.Mosts.{Mosts}
use Rattle.bytes_block.specs.Encode.{block_bytes}
use Rattle.bytes_types.specs.Encode.{types_bytes}
use Rattle.mir.specs.Routine.{Routine}
use Rattle.bytes_sections.specs.Decode.{mosts, bounds_of}
use Rattle.bytes_sections.specs.Encode.{recorded_bytes, encode}
use Rattle.bytes_laws_whole.specs.WellFormed.{FitBlocks, bounds, unmarked}
use Rattle.fold.specs.declared.Settings.{Settings}
use Rattle.fold.specs.Family.{Marks}
use Rattle.rewrite.specs.Run.{Rewritten, choice, rewritten_by, rewritten_blocks, rewrite_with}
use Rattle.rewrite.proofs.Lowering.{lowers}
use Rattle.rewrite_laws.specs.Lifted.{lifted}
use Rattle.rewrite_laws.proofs.Whole.{most_below, well_formed}
use Rattle.rewrite_progress.specs.Effect.{mark_all}
use Rattle.rewrite_progress.specs.declared.Run.{Run}
use Rattle.shelf_test.specs.Shelved.{output_bounds, Input, Shelved}
use Rattle.rewrite_head.specs.Head.{head_bytes, widened}
use Rattle.pass_input.specs.Accepted.{AcceptedCode, ChosenRun}
use Rattle.pass_input.proofs.Accepted.{many_types, next_is, many_blocks, list_is, projections_is, next_few, canon, fit, types_end, code, coded, few_values}
use Rattle.pass_shelf.proofs.Dropped.{marks_told, dropped_low}

drop_past : (xs ys : List ℕ) (k : ℕ) → drop (length xs + k) (xs ++ ys) ≡ drop k ys
drop_past [] ys k = let e : 0 + k ≡ k = omega arith in rw e
drop_past (x ∷ xs) ys k = let e : suc (length xs) + k ≡ suc (length xs + k) = omega arith in rw e (drop_past xs ys k)

-- the parameters stand behind the types and three numbers
past_types : (r : Routine) → drop (length (types_bytes r.types) + 6) (encode r) ≡ list_bytes value_id_bytes r.parameters ++ (recorded_bytes r.recorded ++ each_bytes block_bytes r.blocks)
unfolding encode
past_types r = drop_past (types_bytes r.types) _ 6

-- the first list of what is stored from the first place on, and what stands behind it
behind_first : (out a b : List ℕ) → length (a ++ b) ≤ length out → drop (length a) (sets out 0 (a ++ b)) ≡ b ++ drop (length (a ++ b)) out
behind_first out a b l =
    let e : sets out 0 (a ++ b) ≡ a ++ (b ++ drop (0 + length (a ++ b)) out) = sets-eq (a ++ b) out 0 (omega (arith, l)) ∙ append_assoc a b (drop (0 + length (a ++ b)) out) in
    let z : 0 + length (a ++ b) ≡ length (a ++ b) = omega arith in
    ap (drop (length a)) e ∙ (drop-append_seam a (b ++ drop (0 + length (a ++ b)) out) ∙ ap (λ k. b ++ drop k out) z)

-- the same under other names
defined_at : (l l' n n' : ℕ) (t t' : List ℕ) (ds : List ValueId) (k : ℕ) → l ≡ l' → n ≡ n' → t ≡ t' → defineds_of l' n' (replicate n' false) t' ≡ ok ds k → defineds_of l n (replicate n false) t ≡ ok ds k
defined_at l l' n n' t t' ds k e f g q = rw (e, f, g) q

bounds_at : (σ : Settings) (b : Bounds) (T N K K' k : ℕ) → b ≡ bounds_of mosts T N K' → K ≡ K' → bounds_of (lifted σ) T (N + k) K ≡ output_bounds b (b.next + k)
bounds_at σ b T N K K' k e f = rw (e, f)

module _ (input : Code) (a : AcceptedCode input) where
  abbrev r : Routine
  r = a.routine

  given : defineds_of input.bounds.list input.bounds.next (replicate input.bounds.next false) (drop (length (types_bytes r.types) + 6) input.bytes.now) ≡ ok r.parameters (length (list_bytes value_id_bytes r.parameters))
  given =
      let e : drop (length (types_bytes r.types) + 6) input.bytes.now ≡ list_bytes value_id_bytes r.parameters ++ (recorded_bytes r.recorded ++ each_bytes block_bytes r.blocks) = ap (drop (length (types_bytes r.types) + 6)) (sym (canon a)) ∙ past_types r in
      let g : defineds_of 16 r.next (replicate r.next false) (list_bytes value_id_bytes r.parameters ++ (recorded_bytes r.recorded ++ each_bytes block_bytes r.blocks)) ≡ ok r.parameters (length (list_bytes value_id_bytes r.parameters)) =
      (B.dests (bounds mosts r) (wide_input) (unmarked r) r.parameters ((fit a).many_parameters, (fit a).parameters)).says _ in
      defined_at input.bounds.list 16 input.bounds.next r.next _ _ r.parameters _ (list_is a) (next_is a) e g
    where
      wide_input : Wide (bounds mosts r)
      wide_input = record { types = omega (arith, (fit a).many_types); next = omega (arith, (fit a).next); blocks = omega (arith, (fit a).many_blocks); list = omega arith; projections = omega arith }

  -- the shelf test sees it with its table
  pub inputs : Input input r
  inputs = record { coded = coded a; used = length (list_bytes value_id_bytes r.parameters); given = rw (types_end a) given }

module _ (run : Run) (h : ChosenRun run) where
  abbrev a : AcceptedCode run.code
  a = h.accepted

  abbrev x : Routine
  x = a.routine

  abbrev w : Rewritten
  w = rewritten_blocks run.settings x

  abbrev mosts_of : Mosts
  mosts_of = lifted run.settings

  wide_output : (next : ℕ) → next ≤ 65535 → Wide (output_bounds run.code.bounds next)
  wide_output next l =
      record { types = omega (arith, many_types a, (fit a).many_types); next = omega (arith, l); blocks = omega (arith, many_blocks a, (fit a).many_blocks); list = omega (arith, list_is a); projections = omega (arith, projections_is a) }

  as_many : length w.blocks ≡ length x.blocks → length w.blocks ≡ run.code.bounds.blocks
  as_many e = e ∙ sym (many_blocks a)

  output_bounds_lem : length w.blocks ≡ length x.blocks → bounds mosts_of (rewrite_with w x) ≡ output_bounds run.code.bounds (run.code.bounds.next + length w.fresh)
  unfolding rewrite_with
  output_bounds_lem e = bounds_at run.settings run.code.bounds (length x.types) x.next (length w.blocks) (length x.blocks) (length w.fresh) a.facts_of.bounded e

  fits : w.fault ≡ none → length w.blocks ≡ length x.blocks → FitBlocks mosts_of (output_bounds run.code.bounds (run.code.bounds.next + length w.fresh)) 0 (marks (unmarked (rewrite_with w x)) x.parameters) w.blocks
  unfolding rewrite_with rewritten_blocks rewritten_by
  fits n e = subst (λ (c : Bounds). FitBlocks mosts_of c 0 (marks (unmarked (rewrite_with w x)) x.parameters) w.blocks) (output_bounds_lem e) (well_formed run.settings (choice run.settings x) x (fit a) n).blocks

  -- all of it
  pub shelved : (to next : ℕ) (out out' : List ℕ) (dropped dropped' : Marks) → to ≡ length (head_bytes (widened x w.fresh)) → next ≡ run.code.bounds.next + length w.fresh → length w.blocks ≡ length x.blocks
      → length (head_bytes (widened x w.fresh) ++ each_bytes block_bytes w.blocks) ≤ length out → out' ≡ sets out 0 (head_bytes (widened x w.fresh) ++ each_bytes block_bytes w.blocks) → dropped ≡ replicate 256 false → dropped' ≡ mark_all dropped w.dropped
      → w.fault ≡ none
      → Shelved run.code out' to next dropped' x w
  shelved to next out out' dropped dropped' et en em l eo ed em' n =
      record {
        input = inputs run.code a;
        rest = drop (length (head_bytes (widened x w.fresh) ++ each_bytes block_bytes w.blocks)) out;
        written = rw (et, eo) (behind_first out (head_bytes (widened x w.fresh)) (each_bytes block_bytes w.blocks) l);
        as_many = as_many em;
        mosts = mosts_of;
        total = 0;
        seen = marks (unmarked (rewrite_with w x)) x.parameters;
        fits = rw en (fits n em);
        counted = most_below run.settings.edition;
        wide = wide_output next (omega (arith, en, few_values a run.settings n));
        marked = λ v. rw (em', ed) (marks_told run.code.bounds.next w.dropped (next_few a) (dropped_low mosts run.code.bounds 0 (marks (unmarked x) x.parameters) (lowers run.settings x) (code a)) v);
      }
