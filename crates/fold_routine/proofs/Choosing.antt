-- The choice that the code makes is the one of the Rust.
use Prim.Native.Nat.{ℕ}
use mathlib.Core.Path.{◌≡◌}
use mathlib.Core.List.{List}
use mathlib.Core.Bool.{Bool}
use Rattle.mir.specs.Routine.{Routine}
use Rattle.fold.specs.declared.Settings.{Settings}
use Rattle.fold.specs.Family.{Marks, cross_block_aggregates}
use Rattle.mir.specs.Lookup.{types_in}
use Rattle.rewrite.specs.Run.{choice}
use Rattle.rewrite_progress.specs.Chosen.{Follows}
use Rattle.fold_choose.specs.Chosen.{chosen_by}

pub follows_choice : (σ : Settings) (r : Routine) (cross : Marks) (facts : List ℕ) (flags : List Bool) → cross ≡ cross_block_aggregates σ (types_in r) r.blocks → Follows (chosen_by σ (types_in r) cross) facts flags r.blocks → Follows (choice σ r) facts flags r.blocks
unfolding choice
follows_choice σ r cross facts flags e h = rw e at h
