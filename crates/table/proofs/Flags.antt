-- Flags of which none stands.
use Prim.Native.Nat.{ℕ, zero, suc}
use mathlib.Core.Path.{◌≡◌, refl, ◌∙◌, sym}
use mathlib.Core.List.{List, [], ◌∷◌}
use mathlib.Core.Bool.{Bool, true, false, true≢false}
use lib.ListN.{get_or}
use Rattle.table.specs.Flags.{any_stands}

-- where none stands, each is false, and what is past the end too
pub none_stands : (fs : List Bool) {r : Bool} → r ≡ any_stands fs → r ≡ false → (v : ℕ) → get_or fs v false ≡ false
unfolding any_stands
none_stands [] e f v = refl
none_stands (true ∷ fs) e f v = absurd (true≢false (sym e ∙ f))
none_stands (false ∷ fs) e f zero = refl
none_stands (false ∷ fs) e f (suc v) = none_stands fs e f v
