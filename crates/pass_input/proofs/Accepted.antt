-- What an accepted routine gives: what is known of its code, its bytes, and bounds of its numbers.
use Prim.Native.Nat.{ℕ, ◌+◌, ◌≤◌, ◌<◌}
use mathlib.Core.Path.{◌≡◌, ap, ◌∙◌, sym, subst}
use mathlib.Core.List.{List}
use mathlib.Core.Bool.{false}
use mathlib.Core.Option.{none, some}
use native.Mathlib.Omega.{arith}
use lib.ListN.{length, get_or, length-drop}
use Rattle.bytes_wire.specs.Parse.{Parse, ok, bad, map_parse}
use Rattle.bytes_wire.specs.WellFormed.{Bytes}
use Rattle.bytes_wire.specs.declared.Cause.{Cause}
use Rattle.mir.specs.declared.TypeId.{TypeId}
use Rattle.mir.specs.Lists.{Each}
use Rattle.bytes_wire.proofs.Inv.{no_ok, image, map_inv}
use Rattle.bytes_field.specs.Walk.{unit}
use Rattle.bytes_field.specs.declared.Bounds.{Bounds}
use Rattle.bytes_laws.specs.WellFormed.{FitType}
use Rattle.bytes_index.specs.Table.{recorded_in}
use Rattle.bytes_index.specs.Code.{no_block}
use Rattle.bytes_block.specs.Decode.{marks}
use Rattle.bytes_block.specs.WellFormed.{WideMosts}
use Rattle.bytes_types.specs.Encode.{types_bytes}
use Rattle.bytes_types.specs.Index.{TypesAt}
use Rattle.mir.specs.Routine.{Routine}
use Rattle.bytes_sections.specs.Decode.{mosts, whole_of}
use Rattle.bytes_sections.specs.Encode.{encode}
use Rattle.bytes_sections.specs.Index.{as_checked}
use Rattle.bytes_sections.specs.Facts.{RoutineRead}
use Rattle.std.specs.Prelude.{Result, Ok, Err}
use Rattle.bytes_wire.specs.declared.Refusal.{Refusal}
use Rattle.bytes_laws_whole.specs.WellFormed.{FitBlocks, WellFormed, bounds, unmarked}
use Rattle.bytes_laws_whole.proofs.Whole.{whole_canon, whole_fit}
use Rattle.fold.specs.declared.Edition.{Edition}
use Rattle.fold.specs.declared.Settings.{Settings}
use Rattle.rewrite.specs.Sum.{instruction_count}
use Rattle.rewrite.specs.Within.{ListsWithin}
use Rattle.mir.specs.Lookup.{types_in}
use Rattle.rewrite.specs.Run.{choice, rewritten_blocks}
use Rattle.rewrite.proofs.Bound.{bound_blocks}
use Rattle.rewrite.proofs.Calm.{calm}
use Rattle.rewrite.proofs.Limits.{Short, limited}
use Rattle.rewrite_progress.specs.Ground.{Ground, Coded}
use Rattle.fold_choose.specs.Chosen.{Fits}
use Rattle.fold_choose.proofs.Fitted.{routine_fits}
use Rattle.rewrite_laws.proofs.Counts.{lists_within, each_short, all_most}
use Rattle.pass_input.specs.Accepted.{Accepted}
use Rattle.pass_input.proofs.Fit.{each_some, fit_short}
use Rattle.pass_input.proofs.TypesEnd.{types_behind}

-- the mosts do not pass their fields
wide : WideMosts mosts
wide = record { types = omega arith; next = omega arith; blocks = omega arith; block = omega arith; list = omega arith; projections = omega arith }

-- by a choice that keeps to the mosts
fresh_few : (σ : Settings) → σ.edition ≡ Edition.First → (r : Routine) → instruction_count r.blocks ≤ 256 → length r.blocks ≤ 32 → ListsWithin 16 r.blocks → length (rewritten_blocks σ r).fresh ≤ 4608
unfolding rewritten_blocks
fresh_few σ e r i k l = omega (arith, bound_blocks σ e (types_in r) (choice σ r) r.next r.blocks l)

module _ {s facts : List ℕ} {b : Bounds} (a : Accepted s facts b) where
  abbrev r : Routine
  r = a.routine

  pub fit : WellFormed mosts r
  fit = whole_fit mosts s wide a.bytes a.reads

  pub many_types : b.types ≡ length r.types
  many_types = ap (λ (x : Bounds). x.types) a.facts_of.bounded

  pub next_is : b.next ≡ r.next
  next_is = ap (λ (x : Bounds). x.next) a.facts_of.bounded

  pub many_blocks : b.blocks ≡ length r.blocks
  many_blocks = ap (λ (x : Bounds). x.blocks) a.facts_of.bounded

  pub list_is : b.list ≡ 16
  list_is = ap (λ (x : Bounds). x.list) a.facts_of.bounded

  pub projections_is : b.projections ≡ 8
  projections_is = ap (λ (x : Bounds). x.projections) a.facts_of.bounded

  pub next_few : b.next ≤ 256
  next_few = omega (arith, next_is, fit.next)

  pub blocks_few : b.blocks ≤ 32
  blocks_few = omega (arith, many_blocks, fit.many_blocks)

  pub recorded_many : length r.recorded ≡ b.next
  recorded_many = fit.many_recorded ∙ sym next_is

  -- the bytes of the routine are the input
  pub canon : encode r ≡ s
  canon = (whole_canon mosts s a.bytes a.reads).0

  -- the types end where their last place says
  pub types_end : get_or facts b.types 0 ≡ length (types_bytes r.types)
  types_end = ap (λ k. get_or facts k 0) many_types ∙ types_behind 16 s facts r.types a.bytes a.facts_of.types a.facts_of.first

  typed : (v : ℕ) (t : TypeId) → get_or r.recorded v none ≡ some t → t.0 < b.types
  typed v t e = omega (arith, many_types, each_some (FitType (bounds mosts r)) r.recorded fit.recorded v t e)

  ground : Ground b s facts (recorded_in facts) (types_in r)
  unfolding types_in
  ground =
      record {
        bytes = a.bytes;
        known = record {
          rows = subst (λ (n : ℕ). TypesAt n s facts r.types) (sym list_is) a.facts_of.types;
          recorded_types = a.facts_of.recorded;
          long = omega (arith, recorded_many, next_few, a.facts_of.long, length-drop 65 facts);
        };
        rows = sym many_types;
        values = recorded_many;
        typed = typed;
        few = next_few;
        listed = omega (arith, list_is);
        projected = omega (arith, projections_is);
      }

  pub code : FitBlocks mosts b 0 (marks (unmarked r) r.parameters) r.blocks
  code = subst (λ (x : Bounds). FitBlocks mosts x 0 (marks (unmarked r) r.parameters) r.blocks) (sym a.facts_of.bounded) fit.blocks

  few_instructions : instruction_count r.blocks ≤ 256
  few_instructions = all_most mosts r fit

  pub fits : Fits b r.blocks
  fits = subst (λ (x : Bounds). Fits x r.blocks) (sym a.facts_of.bounded) (routine_fits mosts r fit (omega arith))

  short : (k : ℕ) → k < length r.blocks → length (get_or r.blocks k no_block).instructions ≤ 128
  short k l = omega (arith, fit_short fits.mosts b (get_or r.blocks k no_block) (fits.each k l), fits.short)

  -- what every function that goes over the code asks for
  pub coded : Coded b s facts (types_in r) r.blocks
  coded =
      record { ground = ground; code = a.facts_of.code; blocks = a.facts_of.blocks; many = sym many_blocks; few = blocks_few; small = short; short = a.facts_of.short }

  -- "its next value is at most 4,864", in edition 1
  pub few_fresh : (σ : Settings) → σ.edition ≡ Edition.First → length (rewritten_blocks σ r).fresh ≤ 4608
  few_fresh σ e = fresh_few σ e r few_instructions fit.many_blocks (lists_within mosts r fit)

  short_blocks : Each Short r.blocks
  short_blocks = each_short mosts r (omega arith) fit

  -- in any edition what is not refused has no more values than two bytes count
  pub few_values : (σ : Settings) → (rewritten_blocks σ r).fault ≡ none → b.next + length (rewritten_blocks σ r).fresh ≤ 65535
  few_values σ e = omega (arith, next_is, (limited σ r short_blocks (omega (arith, fit.next)) e).next)

  -- and nothing is refused of which nothing changes
  pub none_faulty : (σ : Settings) → (rewritten_blocks σ r).changed ≡ false → (rewritten_blocks σ r).fault ≡ none
  none_faulty σ = calm σ r short_blocks

-- ## From the reader's answer

-- a refusal stays one
bad_unit : {A : Type 0} (d : Parse A) (c : Cause) (o : ℕ) → map_parse unit d ≡ bad c o → d ≡ bad c o
bad_unit (ok x n) c o z = absurd (no_ok (sym z))
bad_unit (bad c' o') c o z = let u : c' ≡ c = cc in let v : o' ≡ o = cc in rw (u, v)

module _ {before : List ℕ} (s facts : List ℕ) (h : Bytes s) (answer : Result Bounds Refusal) (q : RoutineRead s answer before facts) where
  -- what is accepted is a routine
  pub accepted_read : (b : Bounds) → answer ≡ Ok b → Accepted s facts b
  accepted_read b e =
      elim (map_inv unit (whole_of mosts s) (sym q.answers ∙ ap (as_checked (length s)) e)) [
        | image r p c ↦ record { routine = r; used = length s; reads = p; bytes = h; facts_of = q.found b r (length s) h e p }
      ]

  -- what is refused is not
  pub refused_read : (r : Refusal) → answer ≡ Err r → whole_of mosts s ≡ bad r.cause r.offset
  refused_read r e = bad_unit (whole_of mosts s) r.cause r.offset (sym q.answers ∙ ap (as_checked (length s)) e)
