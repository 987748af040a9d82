-- What the byte form gives of options, and of a block.
use Prim.Native.Nat.{ℕ, zero, suc, ◌≤◌}
use mathlib.Core.Path.{◌≡◌}
use mathlib.Core.List.{List, [], ◌∷◌}
use mathlib.Core.Option.{Option, none, some, none-ne-some}
use lib.ListN.{length, get_or}
use Rattle.mir.specs.Syntax.{Block}
use Rattle.bytes_field.specs.declared.Bounds.{Bounds}
use Rattle.mir.specs.Lists.{Each}
use Rattle.bytes_laws.specs.WellFormed.{FitOption}
use Rattle.bytes_block.specs.declared.Mosts.{Mosts}
use Rattle.fold_choose.specs.Chosen.{Fitting, fitting}

-- what each has that there is
pub each_some : {A : Type 0} (P : A → Type 0) (os : List (Option A)) → Each (FitOption P) os → (v : ℕ) (a : A) → get_or os v none ≡ some a → P a
each_some P [] h v a e = absurd (none-ne-some _ e)
each_some P (none ∷ os) h zero a e = absurd (none-ne-some _ e)
each_some P (some x ∷ os) h zero a e = let z : x ≡ a = cc in rw (← z) h.0
each_some P (o ∷ os) h (suc v) a e = each_some P os h.1 v a e

-- how many instructions a block has
pub fit_short : (m : Mosts) (b : Bounds) (x : Block) → Fitting m b x → length x.instructions ≤ m.block
fit_short m b x (fitting total seen l h) = h.own
