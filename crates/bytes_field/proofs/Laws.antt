-- Laws of walks in general: what a step behind a place tells, and walks over several things.
use Prim.Native.Nat.{ℕ, suc, ◌+◌, ◌-◌, ◌≤◌, ◌<◌, zero-le}
use mathlib.Core.Path.{◌≡◌, refl, ap, ◌∙◌, sym}
use mathlib.Core.List.{List}
use mathlib.Core.Bool.{Bool}
use native.Mathlib.Nat.{add-zero, sub-zero}
use native.Mathlib.Omega.{arith}
use lib.ListN.{length, get_or, drop, length-drop}
use lib.Seq.{drop-drop, get_or-drop}
use Rattle.std.specs.Prelude.{Result, Ok, Err}
use Rattle.bytes_wire.specs.declared.Refusal.{Refusal}
use Rattle.bytes_wire.specs.Parse.{Parse, ok, bad, later, and_then}
use Rattle.bytes_wire.proofs.Laws.{size, size_later, later_later, assoc, and_nothing}
use Rattle.bytes_field.specs.Walk.{Walk, times, as_scan, bytes_of}
use Rattle.bytes_field.specs.declared.Scan.{Scan}

-- the byte at a place is the first behind it
pub head : (s : List ℕ) (at : ℕ) → get_or (drop at s) 0 0 ≡ get_or s at 0
head s at = get_or-drop at s 0 0 ∙ ap (λ i. get_or s i 0) (add-zero at)

-- a scan of the bytes t behind `at` answered r, which was counted from the start: that is what f says there
pub stepped : (s : List ℕ) (at : ℕ) (f : List ℕ → Parse Walk) (seen : List Bool) (buffer : List ℕ) (r : Result Scan Refusal) {t : List ℕ} {d : Parse Walk} → t ≡ drop at s → as_scan r seen buffer ≡ f t → d ≡ later at (as_scan r seen buffer) → d ≡ later at (f (drop at s))
stepped s at f seen buffer r h e g = g ∙ ap (later at) (e ∙ ap f h)

-- how many bytes the answer of a reader of t speaks of, where t are the bytes behind `at`
pub bytes_within : (s : List ℕ) (at : ℕ) (r : Result Scan Refusal) (seen : List Bool) (buffer : List ℕ) {t : List ℕ} (d : List ℕ → Parse Walk) → t ≡ drop at s → as_scan r seen buffer ≡ d t → ((u : List ℕ) → size (d u) ≤ length u) → bytes_of r ≤ length s - at
bytes_within s at r seen buffer d h e l = omega (arith, spoken r seen buffer, ap size (e ∙ ap d h), l (drop at s), length-drop at s)
  where
    spoken : (r : Result Scan Refusal) (seen : List Bool) (buffer : List ℕ) → bytes_of r ≡ size (as_scan r seen buffer)
    spoken (Ok x) seen buffer = refl
    spoken (Err e) seen buffer = refl

-- a step behind an answer that is counted from `n`
pub and_later : {A B : Type 0} (s : List ℕ) (n : ℕ) (d : Parse A) (g : A → List ℕ → Parse B) → and_then s (later n d) g ≡ later n (and_then (drop n s) d g)
and_later s n (ok a m) g = sym (rw (drop-drop, later_later))
and_later s n (bad c o) g = refl

-- of `count` things i are behind
pub record Upto (f : Walk → List ℕ → Parse Walk) (s : List ℕ) (all : Parse Walk) (count i : ℕ) (p : Parse Walk) : Type 0 where
  pub under : i ≤ count
  pub left : all ≡ and_then s p (λ w t. times f (count - i) w t)

module _ (f : Walk → List ℕ → Parse Walk) (s : List ℕ) (all : Parse Walk) (count i : ℕ) (p : Parse Walk) (u : Upto f s all count i p) where
  -- one more is behind
  pub again : (q : Parse Walk) → i < count → q ≡ and_then s p f → Upto f s all count (i + 1) q
  unfolding times
  again q h e =
      let z : count - i ≡ suc (count - (i + 1)) = omega arith in
      record { under = omega arith; left = u.left ∙ rw (z, e) (sym (assoc s p f (λ v t. times f (count - (i + 1)) v t))) }

  -- all are behind
  pub done : count ≤ i → p ≡ all
  unfolding times
  done h = let z : count - i ≡ 0 = omega arith in sym (u.left ∙ rw z (and_nothing s p))
