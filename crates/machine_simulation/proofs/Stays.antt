-- What becomes of an instruction that stays, in either edition.
use mathlib.Core.Path.{◌≡◌, sym, ap, ◌∙◌}
use Prim.Native.Nat.{ℕ, ◌+◌}
use mathlib.Core.Bool.{Bool, not}
use mathlib.Core.Option.{some}
use mathlib.Core.List.{List, [], ◌∷◌, ◌++◌}
use lib.Dec.{T, ltb}
use lib.ListN.{length}
use Rattle.mir.specs.declared.ValueId.{ValueId}
use Rattle.mir.specs.declared.Value.{Value}
use Rattle.mir.specs.Syntax.{Instruction, InstructionKind, Terminator}
use Rattle.mir.specs.Reads.{operands, reads, store_base, counted}
use Rattle.mir.specs.Lookup.{Types}
use Rattle.fold.specs.declared.Edition.{Edition}
use Rattle.rewrite.specs.State.{AggStates}
use Rattle.rewrite.specs.Deep.{wanted_own, rebuild_deep}
use Rattle.rewrite.specs.Readings.{readings, with_readings}
use Rattle.rewrite.specs.Piece.{Piece}
use Rattle.rewrite.specs.Stays.{kept_behind, stays_second, stays_in, stays}
use Rattle.rewrite.specs.Run.{glue}
use Rattle.machine.specs.Values.{Val}
use Rattle.machine.specs.Records.{Env}
use Rattle.machine.specs.Exec.{exec}
use Rattle.shelf.specs.Lists.{every}
use Rattle.shelf.specs.Reads.{counted_reads}
use Rattle.machine_simulation.proofs.Tools.{split, passes, fails, cond_yes}
use Rattle.machine_simulation.proofs.Frame.{changed_base}
use Rattle.machine_simulation.proofs.Retype.{retyped, exec_later}
use Rattle.machine_simulation.proofs.Invariant.{Ctx, Agree}
use Rattle.machine_simulation.proofs.Generic.{Good, ok_later, recorded_l, walks, does, Sim, SimP, clean_l, clean_r, clean_one, reads_low}
use Rattle.machine_simulation.proofs.Cases.{base_read, looks_low}
use Rattle.machine_simulation.proofs.Twins.{Twins, twin_exec, quiet_exec}
use Rattle.machine_simulation.proofs.Deep.{deep_rebuilt, deep_many}
use Rattle.machine_simulation.proofs.Calls.{after_builds}
use Rattle.machine_simulation.proofs.WithReadings.{base_with, kind_with, operands_read, values_read, quiet, base_is_read}
use Rattle.machine_simulation.proofs.StaysFirst.{sim_first}

-- behind its rebuilds the instruction does what it did
behind_does : {A : Type 0} (κ : Ctx A) (i : Instruction) (is : List Instruction) (t : Terminator) (vs : List Value) (E G : Env A) (w : List (Val A)) → Good κ (i ∷ is) t → Agree κ E G
    → length vs ≡ length (readings i.kind)
    → T (every (λ v. not (κ.dr v.0)) (counted_reads κ.mean.debug (with_readings i.kind vs)))
    → (T (every (λ v. not (κ.dr v.0)) (operands vs)) → Twins κ.mean (retyped κ.types κ.later) E G (readings i.kind) vs)
    → exec κ.mean (retyped κ.types κ.later) (with_readings i.kind vs) G w ≡ does κ i E w
behind_does κ i is t vs E G w g ag many cl tw = same ∙ sym (exec_later κ.mean κ.types κ.later i.kind E w (looks_low κ i is t g))
  where
    same : exec κ.mean (retyped κ.types κ.later) (with_readings i.kind vs) G w ≡ exec κ.mean (retyped κ.types κ.later) i.kind E w
    same =
        let j : InstructionKind = with_readings i.kind vs in
        let dq : ValueId → Bool = λ v. not (κ.dr v.0) in
        elim (split (counted κ.mean.debug j)) [
          | passes y ↦
              let cr = rw (cond_yes (counted κ.mean.debug j) (reads j) [] y) at cl in
              twin_exec κ.mean (retyped κ.types κ.later) E G i.kind vs w (tw (values_read dq i.kind vs many cr))
              (λ b e. sym (ag b.0 (base_low b e) (base_is_read dq j b (base_with i.kind vs ∙ e) cr)))
          | fails y ↦ let z = quiet κ.mean.debug j y in quiet_exec κ.mean (retyped κ.types κ.later) E G i.kind vs w (rw (kind_with i.kind vs) at z.0) z.1
        ]
      where
        base_low : (b : ValueId) → store_base i.kind ≡ some b → T (ltb b.0 κ.m)
        base_low b e = base_is_read (λ v. ltb v.0 κ.m) i.kind b e (reads_low κ i is t g)

-- an instruction that stays in edition 2
sim_second : {A : Type 0} (κ : Ctx A) (φ : ValueId → Bool) (i : Instruction) (is : List Instruction) (t : Terminator) (S : AggStates) (n : ℕ) → Sim κ φ is t
    → SimP κ φ i is t S n (stays_second κ.types S n i)
unfolding stays_second kept_behind glue
sim_second κ φ i is t S n sim E F w rec le tk ag g ok fn =
    let τ : Types = κ.types in
    let xs : List Value = readings i.kind in
    let r = rebuild_deep τ S n (wanted_own τ xs) in
    let j : Instruction = record { meta = i.meta; kind = with_readings i.kind r.values } in
    let pc : Piece = kept_behind S i r in
    let q = walks κ φ S (n + length r.fresh) is t in
    let c1 = clean_l κ.mean.debug κ.dr (r.before ++ (j ∷ [])) q.out ok.reads in
    let c2 = clean_one κ.mean.debug κ.dr j [] (clean_r κ.mean.debug κ.dr r.before (j ∷ []) c1) in
    after_builds κ φ i j is t S n (length r.fresh) xs r E F w rec sim le tk ag g (ok_later κ n pc q ok)
    (λ v ys h. rw (ap (changed_base τ) (base_with i.kind r.values)) at (base_read τ j.kind κ.mean.debug κ.dr v (tk v ys h).gone c2))
    (deep_rebuilt κ S E (i ∷ is) tk xs n F le ag (operands_read (λ v. ltb v.0 κ.m) i.kind (reads_low κ i is t g))
    (clean_l κ.mean.debug κ.dr r.before (j ∷ []) c1) (recorded_l (retyped τ κ.later) n r.fresh q.fresh ok.fresh))
    (λ G ag' tw. behind_does κ i is t r.values E G w g ag' (deep_many τ S n xs) c2 tw) fn

-- ---- by the edition

-- an instruction that stays in an edition
sim_in : {A : Type 0} (κ : Ctx A) (φ : ValueId → Bool) (i : Instruction) (is : List Instruction) (t : Terminator) (S : AggStates) (n : ℕ) → Sim κ φ is t
    → (e : Edition) → SimP κ φ i is t S n (stays_in e κ.set κ.types S n i)
unfolding stays_in
sim_in κ φ i is t S n sim Edition.Second = sim_second κ φ i is t S n sim
sim_in κ φ i is t S n sim Edition.First = sim_first κ φ i.meta i.kind is t S n sim

-- in that of the settings
pub sim_stays : {A : Type 0} (κ : Ctx A) (φ : ValueId → Bool) (i : Instruction) (is : List Instruction) (t : Terminator) (S : AggStates) (n : ℕ) → Sim κ φ is t
    → SimP κ φ i is t S n (stays κ.set κ.types S n i)
unfolding stays
sim_stays κ φ i is t S n sim = sim_in κ φ i is t S n sim κ.set.edition
