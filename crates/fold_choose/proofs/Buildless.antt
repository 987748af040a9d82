-- Slots without builds: what they say of blocks.
use Prim.Native.Nat.{ℕ, ◌+◌, ◌≤◌}
use mathlib.Core.Path.{◌≡◌, sym}
use mathlib.Core.List.{List}
use native.Mathlib.Nat.{le_refl}
use native.Mathlib.Omega.{arith}
use lib.ListN.{length, get_or}
use Rattle.mir.specs.Syntax.{Instruction}
use Rattle.bytes_field.specs.declared.Bounds.{Bounds}
use Rattle.bytes_index.specs.Table.{starts_in, kind_in}
use Rattle.bytes_index.specs.Code.{no_instruction, no_block, InstructionsIn}
use Rattle.bytes_index.proofs.Rising.{before}
use Rattle.fold_choose.specs.Chosen.{NoneBuilds, Buildless, AllBuildless}
use Rattle.fold_choose.proofs.Folding.{no_build}

-- of a block, and of all
pub none_built : (b : Bounds) (s facts : List ℕ) (first to : ℕ) (is : List Instruction) → NoneBuilds facts first to → InstructionsIn b s facts first is → first + length is ≤ to → Buildless is
none_built b s facts first to is none code l j d h e = no_build (get_or is j no_instruction).kind d (kind_in facts (first + j)) (code j h).kind (none (first + j) (omega arith) (omega arith)) e

pub all_built : (facts : List ℕ) (many to : ℕ) → to ≡ get_or (starts_in facts) many 0 → NoneBuilds facts 0 to → AllBuildless facts many
all_built facts many to e none b s ks code l k h j d m x =
    no_build (get_or (get_or ks k no_block).instructions j no_instruction).kind d (kind_in facts (get_or (starts_in facts) k 0 + j)) ((code.each k h).instructions j m).kind
    (none (get_or (starts_in facts) k 0 + j) (omega arith) (omega (arith, before code k (length ks) j h (le_refl _) m, rw (sym l) at e))) x
