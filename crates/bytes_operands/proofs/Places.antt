-- Where the fields of a thing stand: how places are put together.
use Prim.Native.Nat.{ℕ, zero, suc, ◌+◌, ◌*◌, ◌≤◌, ◌<◌}
use mathlib.Core.Path.{◌≡◌, refl, ap, ◌∙◌}
use mathlib.Core.List.{List, [], ◌∷◌, map}
use mathlib.Core.Bool.{Bool}
use mathlib.Core.Option.{Option, none, some}
use native.Mathlib.Omega.{arith}
use lib.ListN.{length, get_or, get_elem?, drop}
use lib.Seq.{drop-drop}
use lib.Dec.{leb}
use Rattle.bytes_wire.specs.Parse.{Parse, ok, bad, later, and_then, map_parse, checked, tagged, seq_of}
use Rattle.bytes_wire.specs.Number.{number_of, u8_of}
use Rattle.bytes_wire.specs.declared.Cause.{Cause}
use Rattle.bytes_wire.proofs.Laws.{from_8}
use Rattle.bytes_wire.proofs.Inv.{no_ok, both, behind, image, later_inv, and_inv, map_inv, checked_inv, number_inv, tagged_inv}
use Rattle.bytes_field.specs.Decode.{count_of, list_of}
use Rattle.bytes_operands.specs.Fields.{after}

-- what holds of all that a decoder reads at a place of t, and of the place behind it
pub record Stand {A : Type 0} (t : List ℕ) (at : ℕ) (dec : List ℕ → Parse A) (P : A → ℕ → Type 0) : Type 0 where
  pub each : (a : A) (n : ℕ) → dec (drop at t) ≡ ok a n → P a (at + n)

-- a field, with the place behind it
abbrev pub Field : {A : Type 0} → List ℕ → ℕ → (List ℕ → Parse A) → (A → Type 0) → ℕ → Type 0
Field t at dec Q end = Stand t at dec (λ a e. Q a × (e ≡ end))

-- a field, and the rest behind it
pub then : {A B : Type 0} {t : List ℕ} {at end : ℕ} {dec : List ℕ → Parse A} {f : A → List ℕ → Parse B} {Q : A → Type 0} {P : B → ℕ → Type 0} → Field t at dec Q end → ((a : A) → Q a → Stand t end (f a) P) → Stand t at (λ s. and_then s (dec s) f) P
then {A} {B} {t} {at} {end} {dec} {f} {Q} {P} x y =
    record {
      each = λ b n e.
          elim (and_inv (drop at t) (dec (drop at t)) f e) [
            | both a m j p q r ↦
                let h = x.each a m p in
                let k : f a (drop end t) ≡ ok b j = rw (drop-drop, h.1) at q in
                let z : at + n ≡ end + j = omega (arith, h.1) in
                rw z ((y a h.0).each b j k)
          ];
    }

-- the last field, and what is made of it
pub last : {A B : Type 0} {t : List ℕ} {at end : ℕ} {dec : List ℕ → Parse A} {Q : A → Type 0} {P : B → ℕ → Type 0} (g : A → B) → Field t at dec Q end → ((a : A) → Q a → P (g a) end) → Stand t at (λ s. map_parse g (dec s)) P
last {A} {B} {t} {at} {end} {dec} g x y =
    record {
      each = λ b n e.
          elim (map_inv g (dec (drop at t)) e) [ image a p q ↦ let h = x.each a n p in rw (q, h.1) (y a h.0) ];
    }

-- the last field, of which nothing is known, and what is made of it
pub made : {A B : Type 0} {t : List ℕ} {at : ℕ} {P : B → ℕ → Type 0} (dec : List ℕ → Parse A) (g : A → B) → ((a : A) (e : ℕ) → P (g a) e) → Stand t at (λ s. map_parse g (dec s)) P
made {A} {B} {t} {at} dec g y = record { each = λ b n e. elim (map_inv g (dec (drop at t)) e) [ image a p q ↦ rw q (y a (at + n)) ] }

-- no field
pub alone : {A : Type 0} {t : List ℕ} {at : ℕ} {a : A} {P : A → ℕ → Type 0} → P a at → Stand t at (λ s. ok a 0) P
alone {A} {t} {at} {a} {P} h =
    record {
      each = λ b n e.
          let p : b ≡ a = cc in
          let q : at + n ≡ at = let z : n ≡ 0 = cc in omega arith in
          rw (p, q) h;
    }

-- what follows holds too
pub because : {A : Type 0} {t : List ℕ} {at : ℕ} {dec : List ℕ → Parse A} {P R : A → ℕ → Type 0} → Stand t at dec P → ((a : A) (e : ℕ) → P a e → R a e) → Stand t at dec R
because {at} x f = record { each = λ a n e. f a (at + n) (x.each a n e) }

-- a decoder that always takes w bytes
pub record Takes {A : Type 0} (dec : List ℕ → Parse A) (w : ℕ) : Type 0 where
  pub each : (s : List ℕ) (a : A) (n : ℕ) → dec s ≡ ok a n → n ≡ w

-- a number does
pub takes_number : (w : ℕ) → Takes (number_of w) w
takes_number w = record { each = λ s a n e. (number_inv w s e).2 }

-- so does what is made of such a thing
pub takes_map : {A B : Type 0} {dec : List ℕ → Parse A} {w : ℕ} (g : A → B) → Takes dec w → Takes (λ s. map_parse g (dec s)) w
takes_map {dec} g x = record { each = λ s b n e. elim (map_inv g (dec s) e) [ image a p q ↦ x.each s a n p ] }

-- a tested one
pub takes_checked : {A : Type 0} {dec : List ℕ → Parse A} {w : ℕ} (c : Cause) (p : A → Bool) → Takes dec w → Takes (λ s. checked c p (dec s)) w
takes_checked {dec} c p x = record { each = λ s a n e. x.each s a n (checked_inv c p (dec s) e).0 }

-- and two in sequence
pub takes_and : {A B : Type 0} {dec : List ℕ → Parse A} {f : A → List ℕ → Parse B} {v w : ℕ} → Takes dec v → ((a : A) → Takes (f a) w) → Takes (λ s. and_then s (dec s) f) (v + w)
takes_and {dec} {f} x y = record { each = λ s b n e. elim (and_inv s (dec s) f e) [ both a m j p q r ↦ omega (arith, x.each s a m p, (y a).each (drop m s) b j q) ] }

-- such a field, at any place
pub fixed : {A : Type 0} {t : List ℕ} {at w : ℕ} {dec : List ℕ → Parse A} → Takes dec w → Field t at dec (λ a. Unit {0}) (at + w)
fixed {A} {t} {at} {w} {dec} x = record { each = λ a n e. (tt, ap (λ m. at + m) (x.each (drop at t) a n e)) }

-- things one behind another from a place on, each of which has Q where it stands
infixr 67 ◌&◌
pub data Listed {A : Type 0} (Q : ℕ → A → Type 0) (end : ℕ → ℕ) : ℕ → List A → Type 0 where
  empty : {at : ℕ} → Listed Q end at []
  ◌&◌ : {at : ℕ} {x : A} {xs : List A} → Q at x → Listed Q end (end at) xs → Listed Q end at (x ∷ xs)

-- the k-th of them
pub listed_at : {A : Type 0} {Q : ℕ → A → Type 0} {end : ℕ → ℕ} {at : ℕ} {xs : List A} → Listed Q end at xs → (k : ℕ) {r : Option A} → ((x : A) → Q (after end k at) x → r ≡ some x) → k < length xs → r ≡ get_elem? xs k
unfolding after
listed_at empty k f h = absurd (omega arith)
listed_at (p & ps) zero f h = f _ p
listed_at (p & ps) (suc k) f h = listed_at ps k f (omega arith)

-- where the k-th stands, each w bytes behind the one before
pub apart : (w k p : ℕ) → after (λ q. q + w) k p ≡ p + w * k
unfolding after
apart w zero p = omega arith
apart w (suc k) p = apart w k (p + w) ∙ (let z : w * suc k ≡ w + w * k = omega arith in omega arith)

-- what holds of the k-th of them
pub listed_each : {A : Type 0} {Q : ℕ → A → Type 0} {end : ℕ → ℕ} {at : ℕ} {xs : List A} (d : A) → Listed Q end at xs → (k : ℕ) → k < length xs → Q (after end k at) (get_or xs k d)
unfolding after
listed_each d empty k h = absurd (omega arith)
listed_each d (q & qs) zero h = q
listed_each d (q & qs) (suc k) h = listed_each d qs k (omega arith)

-- and there is none past their number
pub listed_past : {A : Type 0} (xs : List A) (k : ℕ) → length xs ≤ k → none ≡ get_elem? xs k
listed_past [] k h = refl
listed_past (x ∷ xs) zero h = absurd (omega arith)
listed_past (x ∷ xs) (suc k) h = listed_past xs k (omega arith)

-- what is made of each has what is known of it
pub listed_map : {A B : Type 0} {Q : ℕ → A → Type 0} {R : ℕ → B → Type 0} {end : ℕ → ℕ} {at : ℕ} {xs : List A} (g : A → B) → ((p : ℕ) (x : A) → Q p x → R p (g x)) → Listed Q end at xs → Listed R end at (map g xs)
listed_map g f empty = empty
listed_map g f (p & ps) = f _ _ p & listed_map g f ps

-- k things, one after another
pub sequence : {A : Type 0} {t : List ℕ} {dec : List ℕ → Parse A} {Q : ℕ → A → Type 0} {end : ℕ → ℕ} → ((p : ℕ) → Field t p dec (Q p) (end p)) → (k at : ℕ) → Field t at (seq_of dec k) (λ xs. Listed Q end at xs × (length xs ≡ k)) (after end k at)
unfolding seq_of after
sequence x zero at = alone ((empty, refl), refl)
sequence {end} x (suc k) at = then (x at) (λ a q. last (λ xs. a ∷ xs) (sequence x k (end at)) (λ xs r. ((q & r.0, ap suc r.1), refl)))

-- a count is the byte that stands there
pub count : {t : List ℕ} (most at : ℕ) → Field t at (count_of most) (λ k. k ≡ get_or t at 0) (at + 1)
count {t} most at =
    record {
      each = λ k n e.
          let h = number_inv 1 (drop at t) (checked_inv Cause.TooMany (λ n. leb n most) (u8_of (drop at t)) e).0 in
          (h.1 ∙ from_8 t at, ap (λ m. at + m) h.2);
    }

-- "lists u8 count first"
pub list : {A : Type 0} {t : List ℕ} {dec : List ℕ → Parse A} {Q : ℕ → A → Type 0} {end : ℕ → ℕ} → ((p : ℕ) → Field t p dec (Q p) (end p)) → (most at : ℕ) → Field t at (list_of most dec) (λ xs. Listed Q end (at + 1) xs × (length xs ≡ get_or t at 0)) (after end (get_or t at 0) (at + 1))
unfolding list_of
list {t} {end} x most at =
    then (count most at) (λ k p. because (sequence x k (at + 1)) (λ xs e q. ((q.0.0, q.0.1 ∙ p), q.1 ∙ ap (λ m. after end m (at + 1)) p)))

-- each decoder of a table takes as many bytes of t as its row says, the kind byte included
pub data Sizes {A : Type 0} (t : List ℕ) : List (List ℕ → Parse A) → List ℕ → Type 0 where
  over : Sizes t [] []
  row : {f : List ℕ → Parse A} {fs : List (List ℕ → Parse A)} {w : ℕ} {ws : List ℕ} → ((a : A) (n : ℕ) → f t ≡ ok a n → 1 + n ≡ w) → Sizes t fs ws → Sizes t (f ∷ fs) (w ∷ ws)

-- so does the one that a kind byte chooses
sizes_at : {A : Type 0} {t : List ℕ} {fs : List (List ℕ → Parse A)} {ws : List ℕ} → Sizes t fs ws → (j d : ℕ) {a : A} {n : ℕ} → get_or (map (λ f. later 1 (f t)) fs) j (bad Cause.Undefined 0) ≡ ok a n → n ≡ get_or ws j d
sizes_at over j d e = absurd (no_ok e)
sizes_at {t} (row {f} x r) zero d {a} e = elim (later_inv 1 (f t) e) [ behind k p q ↦ q ∙ x a k p ]
sizes_at (row x r) (suc j) d e = sizes_at r j d e

-- and a tagged thing takes what its kind's row says
pub tagged_size : {A : Type 0} {fs : List (List ℕ → Parse A)} {ws : List ℕ} (s : List ℕ) → Sizes (drop 1 s) fs ws → (d : ℕ) {a : A} {n : ℕ} → tagged fs s ≡ ok a n → n ≡ get_or ws (get_or s 0 0) d
tagged_size {fs} s r d e = sizes_at r (get_or s 0 0) d (tagged_inv fs s e).1
