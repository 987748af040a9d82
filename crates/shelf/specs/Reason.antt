-- The shelf test: "Reason 0 is passed; else the lowest that holds". Reasons 1, 2 and 5 take a flag: with it Debug's "values, Error
-- too, count like any other instruction's" (document 02), and that is what a call answers by (`reason_of`); without it Debug is left
-- aside (document 01). What passes with it passes without it (proofs/Flag.antt).
use Rattle.std.specs.Prelude.{ℕ, List, Bool, cond, ◌&&◌}
use Rattle.mir.specs.declared.ValueId.{ValueId}
use Rattle.mir.specs.Syntax.{Block}
use Rattle.mir.specs.Routine.{Routine}
use Rattle.mir.specs.Lookup.{recorded_type, is_some, types_in}
use Rattle.mir.specs.Phis.{behind_phis}
use Rattle.rewrite.specs.Run.{Rewritten}
use Rattle.shelf.specs.Lists.{every, among}
use Rattle.shelf.specs.Reads.{ordered, bases, apart, shallow, clean, clean_terminator}
use Rattle.shelf.specs.Agrees.{block_agrees}

-- 1. "Types disagree". A parameter is defined, so that it has a recorded type
unfoldable pub types_agree : Bool → Routine → Bool
types_agree debug r = every (λ v. is_some (recorded_type (types_in r) v)) r.parameters && every (block_agrees debug (types_in r)) r.blocks

-- 2. "A block reads a value that it defines there or later, phis .. aside". Phis stand in front
unfoldable pub in_order : Bool → Routine → Bool
in_order debug r = every (λ k. ordered debug (behind_phis k.instructions)) r.blocks

-- 3. "An aggregate that is a Store's base is also a build's part, an insert's new value or a Store's value"
unfoldable pub kept_apart : Routine → Bool
kept_apart r = every (λ k. apart (λ x. among x (bases (types_in r) r.blocks)) (behind_phis k.instructions)) r.blocks

-- 4. "A Store of two or more projections has a dropped base"
unfoldable pub no_deep_store : List ValueId → Routine → Bool
no_deep_store dropped r = every (λ k. every (λ i. shallow (λ x. among x dropped) i.kind) (behind_phis k.instructions)) r.blocks

-- 5. "The output reads a dropped value"
unfoldable pub reads_no_dropped : Bool → List ValueId → List Block → Bool
reads_no_dropped debug dropped ks =
    every (λ k. clean debug (λ x. among x dropped) k.instructions) ks && every (λ k. clean_terminator (λ x. among x dropped) k.terminator) ks

-- "Reason 0 is passed; else the lowest that holds"
unfoldable pub shelf_reason : Bool → Routine → Rewritten → ℕ
shelf_reason debug r w =
    cond (types_agree debug r)
    (cond (in_order debug r)
    (cond (kept_apart r)
    (cond (no_deep_store w.dropped r)
    (cond (reads_no_dropped debug w.dropped w.blocks) 0 5) 4) 3) 2) 1
