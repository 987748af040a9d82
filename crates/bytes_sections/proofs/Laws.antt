-- What the answers of the parts tell: counted from a place, and one part behind another.
use Prim.Native.Nat.{ℕ, ◌+◌}
use mathlib.Core.Path.{◌≡◌, ap, ◌∙◌, sym}
use mathlib.Core.List.{List}
use lib.ListN.{drop}
use lib.Seq.{drop-drop}
use Rattle.bytes_wire.specs.Parse.{Parse, ok, bad, later, and_then, map_parse}
use Rattle.bytes_wire.specs.declared.Cause.{Cause}
use Rattle.bytes_wire.proofs.Laws.{map_later, later_later}
use Rattle.bytes_wire.proofs.Inv.{no_ok}
use Rattle.bytes_field.specs.Walk.{unit}
use Rattle.bytes_field.proofs.Laws.{and_later}

-- a refusal that is counted from m
pub data Refused {A : Type 0} (m : ℕ) (d : Parse A) (c : Cause) (o : ℕ) : Type 0 where
  refused : (k : ℕ) → d ≡ bad c k → o ≡ m + k → Refused m d c o

-- so an answer tells
pub refusal : {A : Type 0} (m : ℕ) (d : Parse A) {c : Cause} {o : ℕ} → bad c o ≡ later m (map_parse unit d) → Refused m d c o
refusal m (ok a n) e = absurd (no_ok e)
refusal m (bad k n) {c} {o} e = let p : k ≡ c = cc in let q : o ≡ m + n = cc in refused n (ap (λ x. bad x n) p) q

-- where the answer is a refusal there is no value
pub no_value : {A : Type 0} (m : ℕ) (d : Parse A) {c : Cause} {o : ℕ} → bad c o ≡ later m (map_parse unit d) → (a : A) (n : ℕ) → d ≡ ok a n → ⊥
no_value m d e a n f = no_ok (e ∙ ap (λ x. later m (map_parse unit x)) f)

-- a part at a place, what follows it, and what follows all of these
module _ {A B C : Type 0} (s : List ℕ) (at : ℕ) (d : List ℕ → Parse A) (f : A → List ℕ → Parse B) (g : B → List ℕ → Parse C) where
  -- the part is refused
  pub part_bad : {c : Cause} {o : ℕ} → d (drop at s) ≡ bad c o → bad c (at + o) ≡ later at (map_parse unit (and_then (drop at s) (and_then (drop at s) (d (drop at s)) f) g))
  part_bad e = sym (rw e)

  -- it is passed
  pub part_some : {a : A} {n : ℕ} → d (drop at s) ≡ ok a n → later at (map_parse unit (and_then (drop at s) (and_then (drop at s) (d (drop at s)) f) g)) ≡ later (at + n) (map_parse unit (and_then (drop (at + n) s) (f a (drop (at + n) s)) g))
  part_some {a} {n} e = rw e (simp (and_later, map_later, later_later, drop-drop))
