-- In a routine of one block nothing is used across blocks.
use Prim.Native.Nat.{ℕ, ◌<◌}
use mathlib.Core.Path.{◌≡◌, refl, ap, ◌∙◌, sym}
use mathlib.Core.List.{List, [], ◌∷◌}
use mathlib.Core.Bool.{Bool, true, false, cond}
use mathlib.Core.Option.{Option, none, some}
use native.Mathlib.Omega.{arith}
use lib.ListN.{length, replicate}
use Rattle.mir.specs.declared.ValueId.{ValueId}
use Rattle.mir.specs.Syntax.{Instruction, Block}
use Rattle.mir.specs.Lookup.{Types, value_row}
use Rattle.bytes_index.specs.declared.code.Code.{Code}
use Rattle.fold.specs.declared.Settings.{Settings}
use Rattle.fold.specs.Scalarizable.{is_scalarizable}
use Rattle.fold.specs.Family.{Marks, build_dest, read_elsewhere, cross_family, cross_build, cross_builds, cross_block_aggregates, cross_blocks}
use Rattle.fold_cross.specs.Cross.{CrossMarks}

-- its own reads do not count
module _ (σ : Settings) (τ : Types) (x : Block) where
  family_alone : (v : ValueId) (m : Marks) → cross_family τ (x ∷ []) 0 x v m ≡ m
  unfolding cross_family read_elsewhere
  family_alone v m = refl

  build_alone : (o : Option ValueId) (m : Marks) → cross_build σ τ (x ∷ []) 0 x o m ≡ m
  unfolding cross_build
  build_alone none m = refl
  build_alone (some v) m = go (is_scalarizable σ (value_row τ v))
    where
      go : (b : Bool) → cond b (cross_family τ (x ∷ []) 0 x v m) m ≡ m
      go true = family_alone v m
      go false = refl

  builds_alone : (is : List Instruction) (m : Marks) → cross_builds σ τ (x ∷ []) 0 x is m ≡ m
  unfolding cross_builds
  builds_alone [] m = refl
  builds_alone (i ∷ is) m = ap (λ n. cross_builds σ τ (x ∷ []) 0 x is n) (build_alone (build_dest i.kind) m) ∙ builds_alone is m

pub single_crosses : (code : Code) (shapes : List ℕ) (eligible : List Bool) (clear : Marks) → code.bounds.blocks < 2
    → CrossMarks code shapes eligible clear clear
unfolding cross_block_aggregates cross_blocks
single_crosses code shapes eligible clear h σ τ [] a g e = e
single_crosses code shapes eligible clear h σ τ (x ∷ []) a g e = e ∙ sym (builds_alone σ τ x x.instructions (replicate (length τ.recorded) false))
single_crosses code shapes eligible clear h σ τ (x ∷ y ∷ ks) a g e = absurd (omega (arith, a.many))
