-- A member that is looked into by an index that is not known is one that has both marks.
use Prim.Native.Nat.{ℕ, zero, suc, ◌≤◌}
use mathlib.Core.Path.{◌≡◌, refl, ap, ◌∙◌, sym}
use mathlib.Core.List.{List, [], ◌∷◌}
use mathlib.Core.Bool.{Bool, true, false, cond, ◌&&◌, ◌||◌, and-true, and-false, or-false, or_assoc, true≢false}
use mathlib.Core.Option.{Option, none, some}
use native.Mathlib.Omega.{arith}
use lib.ListN.{length, get_or, set, take, drop, replicate, length-set, length-replicate}
use Rattle.std.specs.List.{list_any, zip}
use Rattle.mir.specs.declared.ValueId.{ValueId}
use Rattle.mir.specs.Syntax.{Place, Instruction}
use Rattle.mir.specs.Lookup.{Types, any}
use Rattle.fold.specs.Family.{Marks, marked, family, accessed, dynamic_first, dynamic_at, has_dynamic_index}
use Rattle.fold_family.specs.Copies.{meets, dynamic_place, dynamics}
use Rattle.fold_family.specs.Search.{DynamicIndex}
use Rattle.fold_family.proofs.Sweeps.{family_length}

-- nothing is marked
pub meets_clear : (m : Marks) (n : ℕ) → meets m (replicate n false) ≡ false
unfolding meets
meets_clear [] n = refl
meets_clear (a ∷ m) zero = refl
meets_clear (a ∷ m) (suc n) = ap (λ x. x || meets m (replicate n false)) (and-false a) ∙ meets_clear m n

-- one more mark
pub meets_set : (m d : Marks) (v : ℕ) → length d ≡ length m → meets m (set d v true) ≡ (meets m d || get_or m v false)
unfolding meets
meets_set [] d v h = refl
meets_set (a ∷ m) [] v h = absurd (omega arith)
meets_set (a ∷ m) (b ∷ d) zero h = go a b (meets m d)
  where
    go : (a b c : Bool) → ((a && true) || c) ≡ (((a && b) || c) || a)
    go true true c = refl
    go true false true = refl
    go true false false = refl
    go false b c = sym (or-false c)
meets_set (a ∷ m) (b ∷ d) (suc v) h = ap (λ x. (a && b) || x) (meets_set m d v (omega arith)) ∙ sym (or_assoc (a && b) (meets m d) (get_or m v false))

-- the base of a place, if it is looked into so
place_length : (d : Marks) (o : Option Place) → length (dynamic_place d o) ≡ length d
place_length d none = refl
place_length d (some p) = go (dynamic_first p.projections)
  where
    go : (b : Bool) → length (cond b (set d p.base.0 true) d) ≡ length d
    go true = length-set d p.base.0 true
    go false = refl

-- there are as many marks behind all
pub dynamics_length : (d : Marks) (is : List Instruction) → length (dynamics d is) ≡ length d
unfolding dynamics
dynamics_length d [] = refl
dynamics_length d (i ∷ is) = dynamics_length (dynamic_place d (accessed i.kind)) is ∙ place_length d (accessed i.kind)

meets_place : (m d : Marks) (o : Option Place) → length d ≡ length m → meets m (dynamic_place d o) ≡ (meets m d || dynamic_at m o)
unfolding dynamic_at
meets_place m d none h = sym (or-false (meets m d))
meets_place m d (some p) h = go (dynamic_first p.projections)
  where
    go : (b : Bool) → meets m (cond b (set d p.base.0 true) d) ≡ (meets m d || (marked m p.base && b))
    go true = meets_set m d p.base.0 h ∙ ap (λ x. meets m d || x) (sym (and-true (marked m p.base)))
    go false = sym (ap (λ x. meets m d || x) (and-false (marked m p.base)) ∙ or-false (meets m d))

-- the bases of all
meets_dynamics : (m d : Marks) (is : List Instruction) → length d ≡ length m → meets m (dynamics d is) ≡ (meets m d || any (λ i. dynamic_at m (accessed i.kind)) is)
unfolding dynamics any
meets_dynamics m d [] h = sym (or-false (meets m d))
meets_dynamics m d (i ∷ is) h =
    meets_dynamics m (dynamic_place d (accessed i.kind)) is (place_length d (accessed i.kind) ∙ h)
    ∙ ap (λ x. x || any (λ i. dynamic_at m (accessed i.kind)) is) (meets_place m d (accessed i.kind) h)
    ∙ or_assoc (meets m d) (dynamic_at m (accessed i.kind)) (any (λ i. dynamic_at m (accessed i.kind)) is)

-- the definition's answer
pub dynamic_family : (τ : Types) (v : ValueId) (is : List Instruction) → meets (family τ v is) (dynamics (replicate (length τ.recorded) false) is) ≡ has_dynamic_index τ v is
unfolding has_dynamic_index
dynamic_family τ v is =
    let n = length τ.recorded in
    let m = family τ v is in
    meets_dynamics m (replicate n false) is (length-replicate n false ∙ sym (family_length τ v is))
    ∙ ap (λ x. x || any (λ i. dynamic_at m (accessed i.kind)) is) (meets_clear m n)

-- k marks are behind, and none of them was met
pub record Meeting (m d : Marks) (k : ℕ) : Type 0 where
  pub under : k ≤ length m
  pub left : meets m d ≡ meets (drop k m) (drop k d)

-- those that `any` has passed
pub meeting : (m d : Marks) (k : ℕ) → k ≤ length m → list_any (λ (x, y). x && y) (take k (zip m d)) ≡ false → Meeting m d k
unfolding meets
meeting m d k h e = record { under = h; left = go m d k h e }
  where
    none : (m : Marks) → false ≡ meets m []
    none [] = refl
    none (a ∷ m) = refl

    go : (m d : Marks) (k : ℕ) → k ≤ length m → list_any (λ (x, y). x && y) (take k (zip m d)) ≡ false → meets m d ≡ meets (drop k m) (drop k d)
    go m d zero h e = refl
    go [] d (suc k) h e = absurd (omega arith)
    go (a ∷ m) [] (suc k) h e = none (drop k m)
    go (a ∷ m) (b ∷ d) (suc k) h e = both (a && b) e (go m d k (omega arith))
      where
        both : (c : Bool) → (c || list_any (λ (x, y). x && y) (take k (zip m d))) ≡ false
            → (list_any (λ (x, y). x && y) (take k (zip m d)) ≡ false → meets m d ≡ meets (drop k m) (drop k d))
            → (c || meets m d) ≡ meets (drop k m) (drop k d)
        both true z r = absurd (true≢false z)
        both false z r = r z

-- mark by mark
pub zip_meets : (m d : Marks) → list_any (λ (x, y). x && y) (zip m d) ≡ meets m d
unfolding meets
zip_meets [] d = refl
zip_meets (a ∷ m) [] = refl
zip_meets (a ∷ m) (b ∷ d) = ap (λ x. (a && b) || x) (zip_meets m d)

-- and so the code's answer is the definition's
pub dynamic_found : (m d : Marks) {r : Bool} → r ≡ meets m d → (r ≡ meets m d) × DynamicIndex m d r
dynamic_found m d e = (e, λ τ v is f g. e ∙ rw (f, g) (dynamic_family τ v is))
