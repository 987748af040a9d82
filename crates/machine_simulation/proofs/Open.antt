-- Every definition on the way of a rewriting and of a run, opened for worked examples.
use Prim.Native.Nat.{ℕ}
use mathlib.Core.Bool.{Bool}
use mathlib.Core.List.{List, [], ◌∷◌}
use lib.Dec.{eqb, ltb}
use lib.ListN.{length}
use Rattle.mir.specs.Reads.{terminator_reads}
use Rattle.mir.specs.Routine.{Routine}
use Rattle.fold.specs.declared.Settings.{Settings}
use Rattle.mir.specs.Lookup.{struct_fields_of, types_in}
use Rattle.mir.specs.Phis.{behind_phis}
use Rattle.rewrite.specs.Run.{Choice, rewritten_by}
use Rattle.rewrite.proofs.Open.{all_open}
use Rattle.machine.proofs.Words.{machine, computes}
use Rattle.shelf.specs.Lists.{every, among}
use Rattle.machine_simulation.specs.Static.{fields_once}
use Rattle.machine_simulation.specs.Static as Sc
use Rattle.shelf.specs.Reads as Re
use Rattle.shelf.specs.Fits as Fi
use Rattle.bytes_struct.specs.FindField.{field_type_of}
use Rattle.shelf.specs.Agrees as Ag
use Rattle.machine_simulation.specs.Typing as Ty
use Rattle.machine_simulation.specs.Statement as Sm
use Rattle.rewrite.specs.Run as Rn

-- the pass
unfoldable pub pass : Unit {0}
unfolding all_open Rn.rewritten_by Sm.rewritten
pass = tt

-- the static facts of a routine as answers, in the order of `Static`
unfoldable pub facts : Bool → Settings → Choice → Routine → List Bool
facts debug σ c r =
    let bs = r.blocks in
    let dr : ℕ → Bool = λ x. among x (rewritten_by σ c r).dropped in
    eqb (length r.recorded) r.next
    ∷ every (λ v. ltb v.0 r.next) r.parameters
    ∷ every (λ k. Sc.below r.next k.instructions) bs
    ∷ every (λ k. every (λ v. ltb v.0 r.next) (terminator_reads k.terminator)) bs
    ∷ every (λ row. fields_once (struct_fields_of (mathlib.Core.Option.some row))) r.types
    ∷ every (λ k. Sc.once (behind_phis k.instructions)) bs
    ∷ every (λ k. Sc.no_phi (behind_phis k.instructions)) bs
    ∷ every (λ k. every (λ i. Ty.typed (types_in r) i.kind) (behind_phis k.instructions)) bs
    ∷ every (λ k. Re.ordered debug (behind_phis k.instructions)) bs
    ∷ every (λ k. Re.apart (λ x. among x (Re.bases (types_in r) bs)) (behind_phis k.instructions)) bs
    ∷ every (λ k. every (λ i. Re.shallow dr i.kind) (behind_phis k.instructions)) bs
    ∷ every (λ k. Re.clean debug dr k.instructions) (rewritten_by σ c r).blocks
    ∷ every (λ k. Re.clean_terminator dr k.terminator) (rewritten_by σ c r).blocks
    ∷ []

-- what fits its type
unfoldable typing : Unit {0}
unfolding Fi.literal_kind Fi.scalar_kind Fi.same_type Fi.fits Fi.all_fit Fi.parts_fit field_type_of Fi.step_type Fi.place_type Fi.given_fits Fi.fields_fit Fi.arguments_fit Ag.is_index Ag.index_fits Ty.typed
typing = tt

-- the static facts
unfoldable pub shelf : Unit {0}
unfolding pass facts typing Re.defined_in Sc.below Sc.once Sc.no_phi Sc.unlike Sc.fields_once Re.ordered Re.aggregate_base Re.bases_in Re.bases Re.apart Re.is_deep Re.shallow Re.clean Re.clean_terminator machine
shelf = tt

-- the facts, the pass and the machine on numbers
unfoldable pub everything : Unit {0}
unfolding pass shelf computes
everything = tt
