-- A place that can be walked: no projection is an Index by a Boolean literal.
use Prim.Native.Nat.{ℕ, zero, suc, ◌+◌, ◌≤◌}
use mathlib.Core.Path.{◌≡◌, refl, ap, ◌∙◌, sym}
use mathlib.Core.List.{List, [], ◌∷◌}
use mathlib.Core.Bool.{Bool, true, false}
use mathlib.Core.Option.{Option}
use native.Mathlib.Omega.{arith}
use lib.ListN.{length, get_elem?, drop}
use Rattle.mir.specs.declared.Projection.{Projection}
use Rattle.mir.specs.Syntax.{Place}
use Rattle.mir.specs.Lookup.{any}
use Rattle.bytes_field.specs.declared.Bounds.{Bounds}
use Rattle.fold.specs.declared.Edition.{Edition}
use Rattle.rewrite.specs.Step.{is_boolean, walkable}
use Rattle.rewrite_chains.specs.Chained.{StepsAt, boolean_step}
use Rattle.rewrite_chains.proofs.Ends.{StepsRead}

-- no projection
any_none : (k : ℕ) → any is_boolean (drop k []) ≡ false
unfolding any
any_none zero = refl
any_none (suc k) = refl

-- a projection that is one
any_here : (ps : List Projection) (k : ℕ) → boolean_step (get_elem? ps k) ≡ true → any is_boolean (drop k ps) ≡ true
unfolding any
any_here [] k e = absurd (let z : ◌≡◌ {A = ℕ} 0 1 = cc in omega arith)
any_here (p ∷ ps) zero e = rw e refl
any_here (p ∷ ps) (suc k) e = any_here ps k e

-- one that is none
any_behind : (ps : List Projection) (k : ℕ) → boolean_step (get_elem? ps k) ≡ false → any is_boolean (drop k ps) ≡ any is_boolean (drop (k + 1) ps)
unfolding any
any_behind [] k e = any_none k ∙ sym (any_none (k + 1))
any_behind (p ∷ ps) zero e = rw e refl
any_behind (p ∷ ps) (suc k) e =
    let z : suc k + 1 ≡ suc (k + 1) = omega arith in
    any_behind ps k e ∙ ap (λ j. any is_boolean (drop j (p ∷ ps))) (sym z)

any_past : (ps : List Projection) (k : ℕ) → length ps ≤ k → any is_boolean (drop k ps) ≡ false
unfolding any
any_past [] k h = any_none k
any_past (p ∷ ps) zero h = absurd (omega (arith, h))
any_past (p ∷ ps) (suc k) h = any_past ps k (omega (arith, h))

-- the first k projections are passed
pub record Passed (b : Bounds) (t : List ℕ) (k : ℕ) : Type 0 where
  pub left : (ps : List Projection) → StepsAt b t ps → any is_boolean ps ≡ any is_boolean (drop k ps)

pub passed_none : {b : Bounds} {t : List ℕ} → Passed b t 0
passed_none = record { left = λ ps a. refl }

module _ {b : Bounds} {t : List ℕ} {k : ℕ} (h : Passed b t k) where
  module _ {found : Bool} {p : Option Projection} (e : found ≡ boolean_step p) (look : (ps : List Projection) → StepsAt b t ps → p ≡ get_elem? ps k) where
    -- one more
    pub passed_more : found ≡ false → Passed b t (k + 1)
    passed_more f = record { left = λ ps a. h.left ps a ∙ any_behind ps k (ap boolean_step (sym (look ps a)) ∙ sym e ∙ f) }

    -- a Boolean
    pub passed_met : {q : Place} {many : ℕ} → found ≡ true → StepsRead b t q many → false ≡ walkable Edition.Second q
    unfolding walkable
    passed_met {q} f r =
        let ps = q.projections in
        let z : any is_boolean ps ≡ true = h.left ps r.steps ∙ any_here ps k (ap boolean_step (sym (look ps r.steps)) ∙ sym e ∙ f) in
        rw z refl

  -- all of them
  pub passed_all : {q : Place} {many : ℕ} → many ≤ k → StepsRead b t q many → true ≡ walkable Edition.Second q
  unfolding walkable
  passed_all {q} m r =
      let ps = q.projections in
      let z : any is_boolean ps ≡ false = h.left ps r.steps ∙ any_past ps k (omega (arith, r.long, m)) in
      rw z refl

-- in edition 1 any place can
pub walks_first : (p : Place) → true ≡ walkable Edition.First p
unfolding walkable
walks_first p = refl
