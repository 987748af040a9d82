-- Bytes that are copied to the output one by one, where there is room for them.
use Prim.Native.Nat.{ℕ, suc, ◌+◌, ◌≤◌, ◌<◌}
use mathlib.Core.Path.{◌≡◌, refl, ap, ◌∙◌, sym}
use mathlib.Core.List.{List}
use native.Mathlib.Omega.{arith}
use lib.ListN.{length, get_or, set, drop, length-set, drop_of_length-le}
use lib.Seq.{sets, drop-cons}

-- i bytes are copied: with what is left of them, it is the whole
pub record Copied (s out₀ out : List ℕ) (to i : ℕ) : Type 0 where
  pub low : i ≤ length s
  pub size : length out ≡ length out₀
  pub left : sets out (to + i) (drop i s) ≡ sets out₀ to s

pub copied_start : (s out : List ℕ) (to : ℕ) → Copied s out out to 0
copied_start s out to = let z : to + 0 ≡ to = omega arith in record { low = omega arith; size = refl; left = rw z }

pub copied_on : (s out₀ out out' : List ℕ) (to i : ℕ) → Copied s out₀ out to i → i < length s → out' ≡ set out (to + i) (get_or s i 0) → Copied s out₀ out' to (i + 1)
copied_on s out₀ out out' to i u h e =
    let z : i + 1 ≡ suc i = omega arith in
    let y : to + suc i ≡ suc (to + i) = omega arith in
    record {
      low = omega arith;
      size = ap length e ∙ length-set out (to + i) (get_or s i 0) ∙ u.size;
      left = rw (e, z, y) (sym (ap (sets out (to + i)) (drop-cons s i 0 h)) ∙ u.left);
    }

pub copied_all : (s out₀ out : List ℕ) (to i : ℕ) → Copied s out₀ out to i → length s ≤ i → out ≡ sets out₀ to s
copied_all s out₀ out to i u h = sym (ap (sets out (to + i)) (drop_of_length-le s h)) ∙ u.left
