-- Two tests of which both pass, and a test over a list.
use mathlib.Core.List.{List, [], ◌∷◌}
use mathlib.Core.Bool.{Bool, ◌&&◌}
use lib.Dec.{T}
use Rattle.std.proofs.Math.Facts.{and_yes, yes_and}
use Rattle.shelf.specs.Lists.{every}

pub both_l : (a b : Bool) → T (a && b) → T a
both_l a b t = (and_yes a b t).0

pub both_r : (a b : Bool) → T (a && b) → T b
both_r a b t = (and_yes a b t).1

pub both : (a b : Bool) → T a → T b → T (a && b)
both = yes_and

-- a weaker test passes where the other does
pub every_imp : {A : Type 0} (p q : A → Bool) → ((x : A) → T (p x) → T (q x)) → (xs : List A) → T (every p xs) → T (every q xs)
every_imp p q f [] t = tt
every_imp p q f (x ∷ xs) t = both (q x) (every q xs) (f x (both_l (p x) (every p xs) t)) (every_imp p q f xs (both_r (p x) (every p xs) t))
