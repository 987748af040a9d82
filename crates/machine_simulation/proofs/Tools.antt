-- What passed tests say.
use mathlib.Core.Path.{◌≡◌, refl}
use Prim.Native.Nat.{ℕ, zero, suc}
use mathlib.Core.Bool.{Bool, true, false, cond, not, ◌||◌}
use mathlib.Core.Option.{Option, none, some, none-ne-some}
use mathlib.Core.List.{List, [], ◌∷◌, ◌++◌}
use lib.Dec.{T, T_not, eqb, eqb→eq, eqb_refl}
use lib.ListN.{get_elem?}
use Rattle.mir.specs.declared.ValueId.{ValueId}
use Rattle.mir.specs.Lists.{Each}
use Rattle.shelf.specs.Lists.{every, among}
pub use Rattle.shelf.proofs.Both.{both_l, both_r, both}

-- neither
pub nor_i : (a b : Bool) → T (not a) → T (not b) → T (not (a || b))
nor_i true b s t = s
nor_i false b s t = t

-- neither, so not the first
pub nor_l : (a b : Bool) → T (not (a || b)) → T (not a)
nor_l true b t = t
nor_l false b t = tt

-- neither, so not the second
pub nor_r : (a b : Bool) → T (not (a || b)) → T (not b)
nor_r true b t = absurd t
nor_r false b t = t

-- the first, so one of them
pub or_l : (a b : Bool) → T a → T (a || b)
or_l true b t = tt
or_l false b t = absurd t

-- the second, so one of them
pub or_r : (a b : Bool) → T b → T (a || b)
or_r true b t = tt
or_r false b t = t

-- twice no
pub not_not : (b : Bool) → T b → T (not (not b))
not_not true t = tt
not_not false t = absurd t

-- nothing is not something
pub none_some : {A : Type 0} {a : A} → none ≡ some a → ⊥
none_some {a} e = none-ne-some a e

-- ---- a test with its answer, an option with its equation

-- a test with its answer
pub data Split (b : Bool) : Type 0 where
  passes : T b → Split b
  fails : T (not b) → Split b

-- each test has one
pub split : (b : Bool) → Split b
split true = passes tt
split false = fails tt

-- an option with its equation
pub data Opt {A : Type 0} (o : Option A) : Type 0 where
  is_none : o ≡ none → Opt o
  is_some : (a : A) → o ≡ some a → Opt o

-- each option has one
pub opt : {A : Type 0} (o : Option A) → Opt o
opt none = is_none refl
opt (some a) = is_some a refl

-- the first where the test passes
pub cond_yes : {A : Type 0} (b : Bool) (p q : A) → T b → cond b p q ≡ p
cond_yes true p q t = refl
cond_yes false p q t = absurd t

-- else the second
pub cond_no : {A : Type 0} (b : Bool) (p q : A) → T (not b) → cond b p q ≡ q
cond_no true p q t = absurd t
cond_no false p q t = refl

-- one entry changed: elsewhere and there
pub change_other : {A : Type 0} (f : ℕ → Option A) (d : ℕ) (a : A) (x : ℕ) → T (not (eqb x d)) → cond (eqb x d) (some a) (f x) ≡ f x
change_other f d a x t = cond_no (eqb x d) (some a) (f x) t

-- there
pub change_same : {A : Type 0} (f : ℕ → Option A) (d : ℕ) (a : A) → cond (eqb d d) (some a) (f d) ≡ some a
change_same f d a = cond_yes (eqb d d) (some a) (f d) (eqb_refl d)

-- ---- tests over lists

-- a test over a list, as a statement of each element
pub every→Each : {A : Type 0} (p : A → Bool) (P : A → Type 0) → ((x : A) → T (p x) → P x) → (xs : List A) → T (every p xs) → Each P xs
every→Each p P f [] t = tt
every→Each p P f (x ∷ xs) t = (f x (both_l (p x) (every p xs) t), every→Each p P f xs (both_r (p x) (every p xs) t))

-- of the first of two lists
pub every_l : {A : Type 0} (p : A → Bool) (a b : List A) → T (every p (a ++ b)) → T (every p a)
every_l p [] b t = tt
every_l p (x ∷ a) b t = both (p x) (every p a) (both_l (p x) (every p (a ++ b)) t) (every_l p a b (both_r (p x) (every p (a ++ b)) t))

-- of the second
pub every_r : {A : Type 0} (p : A → Bool) (a b : List A) → T (every p (a ++ b)) → T (every p b)
every_r p [] b t = t
every_r p (x ∷ a) b t = every_r p a b (both_r (p x) (every p (a ++ b)) t)

-- of both
pub every_append : {A : Type 0} (p : A → Bool) (xs ys : List A) → T (every p xs) → T (every p ys) → T (every p (xs ++ ys))
every_append p [] ys s t = t
every_append p (x ∷ xs) ys s t = both (p x) _ (both_l (p x) (every p xs) s) (every_append p xs ys (both_r (p x) (every p xs) s) t)

-- two tests, as a statement of each element
pub every_two→Each : {A : Type 0} (p q : A → Bool) (P : A → Type 0) → ((x : A) → T (p x) → T (q x) → P x) → (xs : List A) → T (every p xs)
    → T (every q xs) → Each P xs
every_two→Each p q P f [] s t = tt
every_two→Each p q P f (x ∷ xs) s t =
    (f x (both_l (p x) (every p xs) s) (both_l (q x) (every q xs) t), every_two→Each p q P f xs (both_r (p x) (every p xs) s) (both_r (q x) (every q xs) t))

-- of the element at k
pub every_at : {A : Type 0} (p : A → Bool) (xs : List A) (k : ℕ) (x : A) → T (every p xs) → get_elem? xs k ≡ some x → T (p x)
every_at p [] k x t h = absurd (none_some h)
every_at p (y ∷ xs) zero x t h = let q : y ≡ x = cc in rw (← q) (both_l (p y) (every p xs) t)
every_at p (y ∷ xs) (suc k) x t h = every_at p xs k x (both_r (p y) (every p xs) t) h

-- a statement of the first of two lists
pub all_l : {A : Type 0} (P : A → Type 0) (a b : List A) → Each P (a ++ b) → Each P a
all_l P [] b h = tt
all_l P (x ∷ a) b h = (h.0, all_l P a b h.1)

-- of the second
pub all_r : {A : Type 0} (P : A → Type 0) (a b : List A) → Each P (a ++ b) → Each P b
all_r P [] b h = h
all_r P (x ∷ a) b h = all_r P a b h.1

-- ---- membership

-- not in two lists, so not in the first
pub among_l : (x : ℕ) (a b : List ValueId) → T (not (among x (a ++ b))) → T (not (among x a))
among_l x [] b t = tt
among_l x (y ∷ a) b t = nor_i (eqb x y.0) (among x a) (nor_l (eqb x y.0) (among x (a ++ b)) t) (among_l x a b (nor_r (eqb x y.0) (among x (a ++ b)) t))

-- nor in the second
pub among_r : (x : ℕ) (a b : List ValueId) → T (not (among x (a ++ b))) → T (not (among x b))
among_r x [] b t = t
among_r x (y ∷ a) b t = among_r x a b (nor_r (eqb x y.0) (among x (a ++ b)) t)

-- a number that a test tells from the members of a list is none of them
pub differ : (p : ℕ → Bool) (x y : ℕ) → T (p y) → T (not (p x)) → T (not (eqb x y))
differ p x y t u = elim (split (eqb x y)) [ passes e ↦ absurd (T_not (p y) (rw (eqb→eq x y e) at u) t) | fails n ↦ n ]

-- the other way round
pub differ' : (p : ℕ → Bool) (x y : ℕ) → T (not (p y)) → T (p x) → T (not (eqb x y))
differ' p x y t u = differ (λ z. not (p z)) x y t (not_not (p x) u)

-- so it is not in the list
pub none_of : (p : ℕ → Bool) (x : ℕ) (ys : List ValueId) → T (every (λ v. p v.0) ys) → T (not (p x)) → T (not (among x ys))
none_of p x [] t u = tt
none_of p x (y ∷ ys) t u =
    nor_i (eqb x y.0) (among x ys) (differ p x y.0 (both_l (p y.0) (every (λ v. p v.0) ys) t) u) (none_of p x ys (both_r (p y.0) (every (λ v. p v.0) ys) t) u)

-- what holds of the members holds of each
pub all_among : (q : ℕ → Bool) (l : List ValueId) → ((x : ℕ) → T (among x l) → T (q x)) → T (every (λ v. q v.0) l)
all_among q [] h = tt
all_among q (v ∷ l) h =
    both (q v.0) (every (λ u. q u.0) l) (h v.0 (or_l (eqb v.0 v.0) (among v.0 l) (eqb_refl v.0)))
    (all_among q l (λ y t. h y (or_r (eqb y v.0) (among y l) t)))

-- a statement as a test
pub all→every : {A : Type 0} (p : A → Bool) (xs : List A) → Each (λ x. T (p x)) xs → T (every p xs)
all→every p [] h = tt
all→every p (x ∷ xs) h = both (p x) (every p xs) h.0 (all→every p xs h.1)

-- and back
pub every→all : {A : Type 0} (p : A → Bool) (xs : List A) → T (every p xs) → Each (λ x. T (p x)) xs
every→all p xs t = every→Each p (λ x. T (p x)) (λ x h. h) xs t
