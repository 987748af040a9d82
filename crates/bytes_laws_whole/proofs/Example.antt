-- The mosts and the worked example of document 01 are among those that the laws speak of.
use Prim.Native.Nat.{ℕ, zero, suc}
use mathlib.Core.Path.{◌≡◌, refl}
use mathlib.Core.List.{List, [], ◌∷◌}
use mathlib.Core.Bool.{Bool, true, ◌&&◌}
use native.Mathlib.Omega.{arith}
use borrow.Author.Tests.{ltb-true}
use lib.Dec.{ltb}
use Rattle.bytes_wire.specs.WellFormed.{Bytes}
use Rattle.bytes_block.specs.WellFormed.{WideMosts}
use Rattle.bytes_block.proofs.Canon.{both_true}
use Rattle.bytes_sections.specs.Decode.{mosts}
use Rattle.bytes_sections.proofs.Examples.{example_bytes, example, example_decodes}
use Rattle.bytes_laws_whole.specs.WellFormed.{WellFormed}
use Rattle.bytes_laws_whole.proofs.Whole.{whole_fit}

-- document 01's mosts do not pass their fields
pub mosts_wide : WideMosts mosts
mosts_wide = record { types = omega arith; next = omega arith; blocks = omega arith; block = omega arith; list = omega arith; projections = omega arith }

-- every number is a byte, by computation
abbrev all_bytes : List ℕ → Bool
all_bytes [] = true
all_bytes (x ∷ xs) = ltb x 256 && all_bytes xs

all_bytes_lem : (s : List ℕ) → all_bytes s ≡ true → Bytes s
all_bytes_lem [] e i = omega arith
all_bytes_lem (x ∷ xs) e zero = ltb-true x 256 (both_true (ltb x 256) (all_bytes xs) e).0
all_bytes_lem (x ∷ xs) e (suc i) = all_bytes_lem xs (both_true (ltb x 256) (all_bytes xs) e).1 i

-- the worked example has a byte form
pub example_fit : WellFormed mosts example
example_fit = whole_fit mosts example_bytes mosts_wide (all_bytes_lem example_bytes refl) example_decodes
