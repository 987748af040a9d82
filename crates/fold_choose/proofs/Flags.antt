-- The flags of a block's builds: the loop over its instructions.
use Prim.Native.Nat.{ℕ, ◌+◌, ◌≤◌, ◌<◌}
use mathlib.Core.Path.{◌≡◌, refl, ap, ◌∙◌}
use mathlib.Core.List.{List}
use mathlib.Core.Bool.{Bool, true, false}
use mathlib.Core.Option.{some}
use native.Mathlib.Omega.{arith}
use borrow.Author.Tests.{eqb-true, eqb-false}
use lib.ListN.{length, get_or, set, length-set}
use lib.Seq.{get_or-set_same, get_or-set_other}
use lib.Dec.{eqb}
use Rattle.mir.specs.declared.ValueId.{ValueId}
use Rattle.mir.specs.Syntax.{Instruction}
use Rattle.bytes_index.specs.Code.{no_instruction}
use Rattle.fold.specs.declared.Settings.{Settings}
use Rattle.mir.specs.Lookup.{Types}
use Rattle.fold.specs.Family.{Marks, build_dest}
use Rattle.fold.specs.Climb.{build_of}
use Rattle.mir.specs.Phis.{behind_phis}
use Rattle.rewrite.specs.Run.{folds_build, folds_in}
use Rattle.fold_looked.specs.Looked.{ArraysLooked}
use Rattle.bytes_index.specs.declared.code.Code.{Code}
use Rattle.bytes_index.specs.declared.slots.Slots.{Slots}
use Rattle.fold_choose.specs.Chosen.{Seen, Answers, Standing, Flagged, DecidesAll}

-- one flag is set, from `first` on
flag_set : (first j : ℕ) (x : Bool) (before here behind : List Bool) → Flagged first before here → first + j < 288 → behind ≡ set here (first + j) x → Flagged first before behind
flag_set first j x before here behind f l e =
    record {
      size = ap length e ∙ length-set here (first + j) x ∙ f.size;
      old = λ k h. rw e (get_or-set_other here (first + j) k x false (λ z. h (omega arith) (omega arith))) ∙ f.old k h;
    }

module _ (σ : Settings) (shapes graph : List ℕ) (looked : List Bool) (code : Code) (at : Slots) (choice₀ : List Bool) where
  -- what is known of the block
  pub record Known (τ : Types) (cross : Marks) (all : List Instruction) : Type 0 where
    pub standing : Standing σ τ cross code at all
    pub seen : Seen σ τ cross (behind_phis all) shapes graph
    pub arrays : ArraysLooked τ all looked
    pub next : length τ.recorded ≡ code.bounds.next
    pub few : code.bounds.next ≤ 256
    pub room : 288 ≤ length choice₀

  -- the first j flags stand
  pub record Deciding (j : ℕ) (choice : List Bool) : Type 0 where
    pub low : j ≤ at.count
    pub flagged : Flagged at.first choice₀ choice
    pub done : (τ : Types) (cross : Marks) (all : List Instruction) → Known τ cross all → (k : ℕ) (d : ValueId) → k < j → build_dest (get_or all k no_instruction).kind ≡ some d → get_or choice (at.first + k) false ≡ folds_in σ τ cross (behind_phis all) d

  module _ (j : ℕ) (choice : List Bool) (inv : Deciding j choice) where
    pub deciding_on : at.first + at.count ≤ 288 → j < at.count → (flag given : Bool) → given ≡ get_or looked j false → Answers σ shapes graph given code (at.first + j) flag → (choice' : List Bool) → choice' ≡ set choice (at.first + j) flag → Deciding (j + 1) choice'
    unfolding folds_in
    deciding_on small h flag given ey answers choice' e =
        record {
          low = omega arith;
          flagged = flag_set at.first j flag choice₀ choice choice' inv.flagged (omega (arith, small)) e;
          done = λ τ cross all w k d l o. go τ cross all w k d l o (eqb k j) refl;
        }
      where
        go : (τ : Types) (cross : Marks) (all : List Instruction) → Known τ cross all → (k : ℕ) (d : ValueId) → k < j + 1 → build_dest (get_or all k no_instruction).kind ≡ some d → (c : Bool) → eqb k j ≡ c → get_or choice' (at.first + k) false ≡ folds_build σ τ cross (behind_phis all) (build_of σ τ cross d (behind_phis all))
        go τ cross all w k d l o true q =
            let z : k ≡ j = eqb-true k j q in
            let m : j < length all = omega (arith, w.standing.counted) in
            let r : at.first + j < length choice = omega (arith, w.room, inv.flagged.size, small) in
            let o' : build_dest (get_or all j no_instruction).kind ≡ some d = rw z at o in
            let x = answers τ cross (behind_phis all) (get_or all j no_instruction) d w.seen w.next w.few (w.standing.stands j m) o' (w.standing.once j d m o') (λ k. ey ∙ w.arrays.each j d m k o') in
            rw (e, z, get_or-set_same choice (at.first + j) flag false r, w.standing.once j d m o') x
        go τ cross all w k d l o false q =
            let n : k ≡ j → ⊥ = λ z. eqb-false k j q z in
            let m : k < j = omega (arith, n) in
            rw (e, get_or-set_other choice (at.first + j) (at.first + k) flag false (λ z. n (omega arith))) (inv.done τ cross all w k d m o)

    pub decided_all : at.count ≤ j → DecidesAll σ shapes graph looked code at choice₀ choice
    decided_all h τ cross all st seen arrays next few room k d m e =
        inv.done τ cross all (record { standing = st; seen = seen; arrays = arrays; next = next; few = few; room = room }) k d (omega (arith, st.counted)) e
