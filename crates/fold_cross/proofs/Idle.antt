-- A block without a build of an eligible type has nothing that is used across blocks.
use Prim.Native.Nat.{ℕ, suc, ◌+◌, ◌<◌, zero-le}
use mathlib.Core.Path.{◌≡◌, refl, ap, ◌∙◌, subst}
use mathlib.Core.List.{List, [], ◌∷◌}
use mathlib.Core.Bool.{Bool}
use native.Mathlib.Omega.{arith}
use native.Mathlib.Nat.{zero-add}
use lib.ListN.{length, get_or}
use Rattle.std.specs.List.{AllWithin, range_with_len}
use Rattle.std.proofs.lemmas.List.FromFn.{get_or-range_with_len, length-range_with_len}
use Rattle.mir.specs.Syntax.{Instruction, Block}
use Rattle.bytes_index.specs.declared.code.Code.{Code}
use Rattle.bytes_index.specs.declared.slots.Slots.{Slots}
use Rattle.bytes_index.specs.Code.{no_instruction, InstructionIn, InstructionsIn}
use Rattle.mir.specs.Lookup.{Types}
use Rattle.fold.specs.Tables.{ShapesAt}
use Rattle.fold.specs.Family.{Marks, cross_builds}
use Rattle.fold.specs.declared.Settings.{Settings}
use Rattle.fold_cross.specs.Cross.{Idle, IdleAll}
use Rattle.fold_cross.proofs.Builds.{idle_build}

module _ (code : Code) (slots : Slots) (eligible : List Bool) where
  -- instruction k of those in the slots is none
  abbrev pub IdleAt : ℕ → Type 0
  IdleAt k = (i : Instruction) → InstructionIn code.bounds code.bytes.now code.facts.now (slots.first + k) i → Idle eligible code.bounds.next i.kind

  -- where each of them is so, none is one
  pub idle_all : AllWithin IdleAt (range_with_len 0 slots.count) 0 (length (range_with_len 0 slots.count)) → (is : List Instruction)
      → InstructionsIn code.bounds code.bytes.now code.facts.now slots.first is → length is ≡ slots.count → IdleAll eligible code.bounds.next is
  idle_all f is a l =
      record {
        each = λ k h.
            let p : k < slots.count = omega arith in
            let q : get_or (range_with_len 0 slots.count) k 0 ≡ k = get_or-range_with_len 0 slots.count k 0 p ∙ zero-add k in
            subst IdleAt q (f k 0 zero-le (omega (arith, length-range_with_len 0 slots.count))) (get_or is k no_instruction) (a k h);
      }

-- such instructions change nothing
pub idle_builds : (σ : Settings) (τ : Types) (shapes : List ℕ) (eligible : List Bool) (next : ℕ) → ShapesAt σ τ shapes eligible → length τ.recorded ≡ next
    → (ks : List Block) (own : ℕ) (x : Block) (c : Marks) (is : List Instruction) → IdleAll eligible next is → cross_builds σ τ ks own x is c ≡ c
unfolding cross_builds
idle_builds σ τ shapes eligible next a m ks own x c [] h = refl
idle_builds σ τ shapes eligible next a m ks own x c (i ∷ is) h =
    ap (λ y. cross_builds σ τ ks own x is y) (idle_build σ τ shapes eligible next a m ks own x c i.kind (h.each 0 (omega arith)))
    ∙ idle_builds σ τ shapes eligible next a m ks own x c is (record { each = λ k q. h.each (suc k) (omega arith) })
