-- A Call of too few or too many arguments.
use mathlib.Core.Path.{◌≡◌, refl, ap, ◌∙◌}
use mathlib.Core.List.{List, [], ◌∷◌}
use mathlib.Core.Bool.{false, ◌&&◌, and-false}
use mathlib.Core.Option.{some}
use Prim.Native.Nat.{suc}
use lib.ListN.{length}
use Rattle.mir.specs.declared.TypeId.{TypeId}
use Rattle.mir.specs.declared.Value.{Value}
use Rattle.mir.specs.Lookup.{Types}
use Rattle.shelf.specs.Fits.{fits, arguments_fit}

-- as many arguments as parameters, or they do not fit
pub arguments_differ : (τ : Types) (xs : List Value) (ts : List TypeId) → (length xs ≡ length ts → ⊥) → arguments_fit τ xs ts ≡ false
unfolding arguments_fit
arguments_differ τ [] [] f = absurd (f refl)
arguments_differ τ [] (t ∷ ts) f = refl
arguments_differ τ (x ∷ xs) [] f = refl
arguments_differ τ (x ∷ xs) (t ∷ ts) f = ap (λ z. fits τ x (some t) && z) (arguments_differ τ xs ts (λ e. f (ap suc e))) ∙ and-false (fits τ x (some t))
