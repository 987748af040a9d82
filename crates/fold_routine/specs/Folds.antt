-- What the choice of a routine's builds promises.
use Rattle.std.specs.Prelude.{◌≤◌, List, Bool, length}
use Rattle.mir.specs.Routine.{Routine}
use Rattle.bytes_index.specs.declared.code.Code.{Code}
use Rattle.fold.specs.declared.Settings.{Settings}
use Rattle.fold.specs.Tables.{Coded}
use Rattle.mir.specs.Lookup.{types_in}
use Rattle.rewrite.specs.Run.{choice}
use Rattle.rewrite_progress.specs.Chosen.{Follows}
use Rattle.fold_choose.specs.Chosen.{flags_size, Fits}

-- the flags of a routine whose table of facts is known are those of the Rust's choice
abbrev pub Chooses : Code → Settings → List Bool → List Bool → Routine → Type 0
Chooses code σ before flags r =
    Coded code.bounds code.bytes.now code.facts.now (types_in r) r.blocks
    → Fits code.bounds r.blocks
    → flags_size ≤ length before
    → Follows (choice σ r) code.facts.now flags r.blocks
