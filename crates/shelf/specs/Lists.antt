-- Tests on lists that compute.
use Rattle.std.specs.Prelude.{ℕ, Bool, false, not, ◌||◌, List, [], ◌∷◌, get_or, eqb}
use Rattle.mir.specs.declared.ValueId.{ValueId}
pub use Rattle.mir.specs.Lists.{every}

-- the value of that number is in the list
abbrev pub among : ℕ → List ValueId → Bool
among x [] = false
among x (v ∷ vs) = eqb x v.0 || among x vs

-- none of the values is marked; past the marks none is
abbrev pub clear : List Bool → List ValueId → Bool
clear marks vs = every (λ v. not (get_or marks v.0 false)) vs
