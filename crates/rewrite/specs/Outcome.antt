-- What a call gives, for every input, every settings and every length of the output: demand 1 and demand 2.
use Rattle.std.specs.Prelude.{ℕ, List, Bool, cond, not, length, ltb, eqb}
use Rattle.std.proofs.Math.Option.{Option, none, some}
use Rattle.bytes_wire.specs.Parse.{Parse, ok, bad, number_of_cause}
use Rattle.mir.specs.Routine.{Routine}
use Rattle.bytes_sections.specs.Decode.{mosts, whole_of}
use Rattle.bytes_sections.specs.Encode.{encode}
use Rattle.fold.specs.declared.Edition.{Edition}
use Rattle.fold.specs.declared.Settings.{Settings}
use Rattle.rewrite.specs.declared.Counts.{Counts}
use Rattle.rewrite.specs.declared.Fault.{Fault}
use Rattle.rewrite.specs.Fault.{number_of_fault}
use Rattle.rewrite.specs.Run.{Rewritten, rewritten_blocks, rewrite_with}

-- a refusal's number and offset, or the result, the counts and the bytes of the rewritten routine
pub data Outcome : Type 0 where
  refused : ℕ → ℕ → Outcome
  lowered : Bool → Counts → List ℕ → Outcome

-- "a flag is on when its number is not 0"; document 01 is edition 1
abbrev pub settings_of : ℕ → ℕ → ℕ → Settings
settings_of tuples structs most = record { tuples = not (eqb tuples 0); structs = not (eqb structs 0); most = most; edition = Edition.First }

-- 11 where the output is longer than the lent buffer
unfoldable pub fitted_in : ℕ → Rewritten → List ℕ → Outcome
fitted_in room w bytes = cond (ltb room (length bytes)) (refused 11 0) (lowered w.changed w.counts bytes)

-- else the first met of 10, 14 and 15
unfoldable pub unless : Option Fault → Outcome → Outcome
unless none o = o
unless (some f) o = refused (number_of_fault f) 0

unfoldable pub rewritten : ℕ → Rewritten → Routine → Outcome
rewritten room w r = unless w.fault (fitted_in room w (encode (rewrite_with w r)))

-- 1 to 9 where the input is no routine
unfoldable pub of_input : Settings → ℕ → Parse Routine → Outcome
of_input σ room (bad c o) = refused (number_of_cause c) o
of_input σ room (ok r n) = rewritten room (rewritten_blocks σ r) r

-- 12 where max_aggregate_size is above 16, tested first
unfoldable pub outcome : Settings → ℕ → List ℕ → Outcome
outcome σ room s = cond (ltb 16 σ.most) (refused 12 0) (of_input σ room (whole_of mosts s))
