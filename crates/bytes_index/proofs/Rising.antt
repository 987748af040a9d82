-- The slots of blocks: how they stand one behind another, and how many there are.
use Prim.Native.Nat.{ℕ, zero, suc, ◌+◌, ◌≤◌, ◌<◌}
use mathlib.Core.Path.{◌≡◌, refl}
use mathlib.Core.List.{List}
use mathlib.Core.Bool.{Bool, true, false}
use native.Mathlib.Nat.{le_refl, le_trans}
use native.Mathlib.Omega.{arith}
use borrow.Author.Tests.{eqb-true, eqb-false}
use lib.ListN.{length, get_or}
use lib.Dec.{eqb}
use Rattle.mir.specs.Syntax.{Block}
use Rattle.bytes_field.specs.declared.Bounds.{Bounds}
use Rattle.bytes_index.specs.Table.{starts_in}
use Rattle.bytes_index.specs.Code.{no_block, CodeIn}

module _ {b : Bounds} {s facts : List ℕ} {ks : List Block} (code : CodeIn b s facts ks) where
  -- a later block begins later
  pub rises : (j k : ℕ) → j ≤ k → k ≤ length ks → get_or (starts_in facts) j 0 ≤ get_or (starts_in facts) k 0
  rises j zero h l = let z : j ≡ 0 = omega arith in rw z (le_refl _)
  rises j (suc k) h l = go (λ m. rises j k m (omega arith)) (eqb j (suc k)) refl
    where
      go : (j ≤ k → get_or (starts_in facts) j 0 ≤ get_or (starts_in facts) k 0) → (c : Bool) → eqb j (suc k) ≡ c → get_or (starts_in facts) j 0 ≤ get_or (starts_in facts) (suc k) 0
      go ih true e = let z : j ≡ suc k = eqb-true j (suc k) e in rw z (le_refl _)
      go ih false e =
          let n : j ≡ suc k → ⊥ = λ z. eqb-false j (suc k) e z in
          let m : j ≤ k = omega (arith, n) in
          le_trans (ih m) (omega (arith, code.next k (omega arith)))

  -- the slots of a block stand before those of a later one
  pub before : (j k i : ℕ) → j < k → k ≤ length ks → i < length (get_or ks j no_block).instructions → get_or (starts_in facts) j 0 + i < get_or (starts_in facts) k 0
  before j k i h l m = omega (arith, code.next j (omega arith), rises (suc j) k (omega arith) l)

  -- and there are no more than there can be
  pub roomy : (k : ℕ) → k < length ks → get_or (starts_in facts) k 0 + length (get_or ks k no_block).instructions < 288
  roomy k h = omega (arith, code.next k h, rises (suc k) (length ks) (omega arith) (le_refl _), code.within)
