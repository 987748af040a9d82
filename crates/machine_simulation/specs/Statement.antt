-- Demand 3, as a statement: both runs give the same record and stand alike.
use Rattle.std.specs.Prelude.{ℕ, ◌≡◌, List}
use Rattle.mir.specs.Routine.{Routine}
use Rattle.fold.specs.declared.Settings.{Settings}
use Rattle.rewrite.specs.Run.{Choice, rewritten_by, rewrite_with}
use Rattle.machine.specs.Values.{Val}
use Rattle.machine.specs.Meaning.{Meaning}
use Rattle.machine.specs.Records.{Cause, no_value, no_source, no_reply, unwritten, missing, too_large, own, Standing, stands_at, ended, stopped, Trace}
use Rattle.machine.specs.Run.{run}

-- the run did not stop at an unwritten value or a missing part, nor at an aggregate too large for the machine (document 01's
-- has none): the build that stops it so may be one that is left out
abbrev pub FineCause : Cause → Type 0
FineCause no_value = Unit {0}
FineCause no_source = Unit {0}
FineCause no_reply = Unit {0}
FineCause unwritten = ⊥
FineCause missing = ⊥
FineCause too_large = ⊥
FineCause (own c) = Unit {0}

-- of a whole run
abbrev pub FineStanding : Standing → Type 0
FineStanding (stands_at b) = Unit {0}
FineStanding (ended e) = Unit {0}
FineStanding (stopped c) = FineCause c

-- the original gets through the n blocks so
abbrev pub Fine : {A : Type 0} → Trace A → Type 0
Fine t = FineStanding t.standing

-- the rewritten routine, its fresh numbers recorded
unfoldable pub rewritten : Settings → Choice → Routine → Routine
rewritten σ c r = rewrite_with (rewritten_by σ c r) r

-- "record and standing of both runs, under the same list and the same meaning of operations, for every list and every n"
unfoldable pub RunsAlike : {A : Type 0} → Meaning A → Routine → Routine → Type 0
RunsAlike {A} M r q = (w : List (Val A)) (n : ℕ) → Fine (run M r w n) → run M r w n ≡ run M q w n
