use Rattle.shelf_place.proofs.Places.{Walking}
use Rattle.shelf_place.specs.Places.{StepsIn}
use Rattle.rewrite_progress.specs.Ground.{Ground}
use Rattle.mir.specs.Lookup.{Types}
use Rattle.shelf_rows.specs.Rows.{Is}
use Rattle.mir.specs.declared.Projection.{Projection}
use Rattle.mir.specs.declared.TypeId.{TypeId}
use mathlib.Core.Option.{Option}
use mathlib.Core.List.{List}
use Rattle.std.proofs.Common.{◌≡◌, ℕ, ◌+◌, ◌*◌, ◌≤◌, length}
use Rattle.shelf.specs.Fits.{place_type}
use Rattle.shelf_place.proofs.end_type.Given as goal

abbrev pub invariant-loop-i : goal.invariant-loop-i
invariant-loop-i l =
    (l.here ≤ l.steps.at + 6 * l.i) × ((l.i ≤ l.steps.count)
    × ((recorded : List ℕ) (τ : Types) (o : Option TypeId) (ps : List Projection) → Ground l.code.bounds l.code.bytes.now l.code.facts.now recorded τ
    → Is l.initial.there o → StepsIn l.code.bounds.next l.steps.bytes.now l.steps.at ps → length ps ≡ l.steps.count
    → Walking τ l.code.bounds.next l.steps.bytes.now (place_type τ o ps) l.steps.count l.here l.there l.i))
