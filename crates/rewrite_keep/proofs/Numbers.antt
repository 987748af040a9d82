-- The numbers of values that are rebuilt.
use Prim.Native.Nat.{ℕ, zero, suc, ◌+◌, ◌<◌}
use mathlib.Core.Path.{◌≡◌, refl, ap, ◌∙◌}
use mathlib.Core.List.{List, [], ◌∷◌}
use mathlib.Core.Bool.{Bool, true, false}
use native.Mathlib.Nat.{add-zero}
use native.Mathlib.Omega.{arith}
use borrow.Author.Tests.{eq-eqb, ne_eqb, eqb-true, eqb-false}
use lib.ListN.{length, get_or, set}
use lib.Dec.{eqb}
use Rattle.std.proofs.lemmas.List.{get_or-set_same, get_or-set_other}
use Rattle.std.specs.Prelude.{is_some, Option as Answered}
use Rattle.mir.specs.Operand.{operand_of}
use Rattle.mir.specs.declared.Value.{Value}
use Rattle.mir.specs.Lookup.{Types}
use Rattle.fold.specs.Family.{Marks}
use Rattle.rewrite.specs.State.{AggStates}
use Rattle.rewrite.specs.Rebuild.{Rebuilt}
use Rattle.rewrite.specs.Deep.{own_type}
use Rattle.rewrite_wanted.specs.declared.Build.{Build}
use Rattle.rewrite_wanted.specs.Asked.{Told, stays, build}
use Rattle.rewrite_build.specs.Written.{numbered_part, renumbered}
use Rattle.rewrite_patch.specs.Chunks.{or_number, numbered}
use Rattle.rewrite_descent.specs.Descent.{deep_own, number_taken}
use Rattle.rewrite_descent.proofs.Deepening.{deep_stays}

-- values with numbers put in, as they are patched and as they are written
one_same : (n : ℕ) (x : Value) → or_number x n ≡ numbered_part n x
unfolding numbered_part
one_same zero x = refl
one_same (suc n) x = rw (ne_eqb (suc n) 0 (λ o. omega arith)) refl

none_same : (xs : List Value) → numbered xs [] ≡ xs
unfolding numbered
none_same [] = refl
none_same (x ∷ xs) = ap (λ (ys : List Value). x ∷ ys) (none_same xs)

pub same_numbered : (ns : List ℕ) (xs : List Value) → numbered xs ns ≡ renumbered ns xs
unfolding numbered renumbered
same_numbered [] xs = none_same xs
same_numbered (n ∷ ns) [] = refl
same_numbered (n ∷ ns) (x ∷ xs) = rw (one_same n x, same_numbered ns xs) refl

-- those of the first k values replace operands
abbrev pub Replacing : List Value → List ℕ → ℕ → Type 0
Replacing xs nums k = (i : ℕ) → i < k → (get_or nums i 0 ≡ 0 → ⊥) → is_some (operand_of (get_or xs i Value.Error)) ≡ true

-- one more
pub replacing_more : (xs : List Value) (nums : List ℕ) (k number : ℕ) → k < length nums → Replacing xs nums k → ((number ≡ 0 → ⊥) → is_some (operand_of (get_or xs k Value.Error)) ≡ true) → Replacing xs (set nums k number) (k + 1)
replacing_more xs nums k number l f g i h e = go (eqb i k) refl
  where
    go : (b : Bool) → eqb i k ≡ b → is_some (operand_of (get_or xs i Value.Error)) ≡ true
    go true q =
        let z : i ≡ k = eqb-true i k q in
        let s : get_or (set nums k number) i 0 ≡ number = rw z (get_or-set_same nums k number 0 l) in
        rw z (g (λ y. e (s ∙ y)))
    go false q =
        let d : (i ≡ k → ⊥) = eqb-false i k q in
        let s : get_or (set nums k number) i 0 ≡ get_or nums i 0 = get_or-set_other nums k i number 0 d in
        f i (omega (arith, h, d)) (λ y. e (s ∙ y))

-- a value that took a number is an operand
pub taken_operand : (τ : Types) (S : AggStates) (path : Marks) (next b a number : ℕ) (x : Value) {w : Answered Build} → Told τ S x (own_type τ x) w → a ≡ b + length (deep_own τ S path (next + b) (x ∷ [])).fresh → number ≡ number_taken next b a → (number ≡ 0 → ⊥) → is_some (operand_of x) ≡ true
taken_operand τ S path next b a number x (stays f) e n h =
    let z : a ≡ b = e ∙ ap (λ (R : Rebuilt). b + length R.fresh) (deep_stays τ S path (next + b) x (stays f) refl) ∙ add-zero b in
    absurd (h (n ∙ ap (number_taken next b) z ∙ rw (eq-eqb b b refl) refl))
taken_operand τ S path next b a number x (build v t xs p q r l) e n h = rw p refl
