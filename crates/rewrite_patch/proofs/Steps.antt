-- Loops over the projections of a place.
use Prim.Native.Nat.{ℕ, suc, ◌+◌, ◌-◌, ◌*◌, ◌≤◌, ◌<◌}
use mathlib.Core.Path.{◌≡◌, refl, sym}
use mathlib.Core.List.{List}
use mathlib.Core.Bool.{Bool, true, false, cond, ◌&&◌}
use native.Mathlib.Omega.{arith}
use lib.Dec.{eqb}
use mir.Val.{bool_byte}
use Rattle.bytes_operands.specs.Fields.{projection_end}
use Rattle.rewrite_patch.specs.Places.{index_at, index_count, index_place}

-- a flag as a number
pub flag_number : (b : Bool) → bool_byte b ≡ cond b 1 0
flag_number true = refl
flag_number false = refl

-- of k projections i are behind, `count` of them Index
pub record Counting (t : List ℕ) (k at here count i : ℕ) : Type 0 where
  pub under : i ≤ k
  pub few : count ≤ i
  pub near : here ≤ at + 6 * i
  pub left : index_count t k at ≡ count + index_count t (k - i) here

-- one more
pub counted : {t : List ℕ} {k at here count i : ℕ} {there : ℕ} (b : Bool) → Counting t k at here count i → i < k → b ≡ index_at t here → there ≡ projection_end t here → there ≤ here + 6 → Counting t k at there (count + bool_byte b) (i + 1)
unfolding index_count
counted {t} {k} {at} {here} {count} {i} {there} b g h e f m =
    let l : bool_byte b ≤ 1 = small b in
    let z : k - i ≡ suc (k - (i + 1)) = omega arith in
    record {
      under = omega arith;
      few = omega (arith, g.few);
      near = omega (arith, g.near);
      left = rw (flag_number b, e, f) (omega (arith, rw z at g.left));
    }
  where
    small : (b : Bool) → bool_byte b ≤ 1
    small true = omega arith
    small false = omega arith

-- all
pub counted_all : {t : List ℕ} {k at here count i : ℕ} → Counting t k at here count i → k ≤ i → count ≡ index_count t k at
unfolding index_count
counted_all {t} {k} {at} {here} {count} {i} g h = let z : k - i ≡ 0 = omega arith in omega (arith, rw z at g.left)

-- of k projections i are behind, and `left` Index are still to be passed
pub record Placing (t : List ℕ) (k j at here left i : ℕ) : Type 0 where
  pub under : i ≤ k
  pub near : here ≤ at + 6 * i
  pub same : index_place t k j at ≡ index_place t (k - i) left here

-- it stands here
pub placed : {t : List ℕ} {k j at here left i : ℕ} → Placing t k j at here left i → i < k → (b : Bool) → b ≡ index_at t here → b && eqb left 0 ≡ true → here + 1 ≡ index_place t k j at
unfolding index_place
placed {t} {k} {j} {at} {here} {left} {i} g h b q e =
    let z : k - i ≡ suc (k - (i + 1)) = omega arith in
    sym (rw (z, rw q at e) at g.same)

-- one more is behind
pub passed : {t : List ℕ} {k j at here left i : ℕ} {left' there : ℕ} (b : Bool) → Placing t k j at here left i → i < k → b ≡ index_at t here → b && eqb left 0 ≡ false → left' ≡ left - bool_byte b → there ≡ projection_end t here → there ≤ here + 6 → Placing t k j at there left' (i + 1)
unfolding index_place
passed {t} {k} {j} {at} {here} {left} {i} {left'} {there} b g h q e f d m =
    let z : k - i ≡ suc (k - (i + 1)) = omega arith in
    record {
      under = omega arith;
      near = omega (arith, g.near);
      same = rw (f, d, flag_number b, q) (rw (z, rw q at e) at g.same);
    }

-- all are
pub passed_all : {t : List ℕ} {k j at here left i : ℕ} → Placing t k j at here left i → k ≤ i → here ≡ index_place t k j at
unfolding index_place
passed_all {t} {k} {j} {at} {here} {left} {i} g h = let z : k - i ≡ 0 = omega arith in sym (rw z at g.same)
