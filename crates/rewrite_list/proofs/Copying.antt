-- Bytes that are copied.
use Prim.Native.Nat.{ℕ}
use mathlib.Core.Path.{◌≡◌, refl, ap, ◌∙◌, sym}
use mathlib.Core.List.{List, ◌++◌}
use mathlib.Core.Bool.{Bool, true, false, cond, not}
use mir.Val.{bool_byte}
use native.Mathlib.Omega.{arith}
use borrow.Author.Tests.{eqb-true, eq-eqb}
use lib.ListN.{length-append}
use lib.Seq.{sets}
use lib.Dec.{eqb}
use Rattle.bytes_emit.proofs.Sets.{sets_append}
use Rattle.bytes_emit.specs.Written.{Writes}
use Rattle.rewrite_list.specs.Lists.{line_count}

-- one run behind another
pub writes_and : (a b out out₁ out₂ : List ℕ) (to p q : ℕ) → Writes a out out₁ to p → Writes b out₁ out₂ p q → Writes (a ++ b) out out₂ to q
writes_and a b out out₁ out₂ to p q v w =
    (omega (arith, v.0, w.0, length-append a b), w.1 ∙ ap (λ l. sets l p b) v.1 ∙ ap (λ k. sets (sets out to a) k b) v.0 ∙ sym (sets_append out to a b))

-- no line, and one
pub line_none : (a b : ℕ) → a ≡ b → line_count a b ≡ 0
line_none a b e = rw (eq-eqb a b e) refl

pub line_one : (a b : ℕ) → (a ≡ b → ⊥) → line_count a b ≡ 1
line_one a b f = go (eqb a b) refl
  where
    go : (c : Bool) → eqb a b ≡ c → ◌≡◌ {A = ℕ} (cond c 0 1) 1
    go true e = absurd (f (eqb-true a b e))
    go false e = refl

-- where a place moved is 1 as a number
pub moved : (a b : ℕ) → bool_byte (not (eqb a b)) ≡ line_count a b
moved a b = go (eqb a b)
  where
    go : (c : Bool) → bool_byte (not c) ≡ cond c 0 1
    go true = refl
    go false = refl
