-- What a decoder's success says of its parts.
use Prim.Native.Nat.{ℕ, zero, suc, ◌+◌, ◌≤◌, ◌<◌}
use mathlib.Core.Path.{◌≡◌, refl, ap, ◌∙◌, sym}
use mathlib.Core.List.{List, [], ◌∷◌, map}
use mathlib.Core.Bool.{Bool, true, false, cond}
use native.Mathlib.Omega.{arith}
use borrow.Author.Tests.{leb-true, ltb-true}
use lib.ListN.{length, get_or, take, drop}
use lib.Dec.{leb, ltb}
use Rattle.bytes_wire.specs.Parse.{Parse, ok, bad, later, and_then, map_parse, checked, tagged, seq_of}
use Rattle.bytes_wire.specs.Number.{from_bytes, number_of, u16_of, below}
use Rattle.bytes_wire.specs.declared.Cause.{Cause}

-- a refusal is no success
pub no_ok : {A : Type 0} {c : Cause} {o n : ℕ} {a : A} → bad c o ≡ ok a n → ⊥
no_ok {A} {c} {o} {n} {a} e = let z : ◌≡◌ {A = ℕ} 0 1 = cc in omega arith

-- the value of the first part, and the two parts' counts
pub data Then {A B : Type 0} (s : List ℕ) (d : Parse A) (f : A → List ℕ → Parse B) (b : B) (n : ℕ) : Type 0 where
  both : (a : A) (m k : ℕ) → d ≡ ok a m → f a (drop m s) ≡ ok b k → n ≡ m + k → Then s d f b n

-- the count from the later place
pub data Behind {A : Type 0} (m : ℕ) (d : Parse A) (a : A) (n : ℕ) : Type 0 where
  behind : (k : ℕ) → d ≡ ok a k → n ≡ m + k → Behind m d a n

-- the value it was made of
pub data Image {A B : Type 0} (f : A → B) (d : Parse A) (b : B) (n : ℕ) : Type 0 where
  image : (a : A) → d ≡ ok a n → b ≡ f a → Image f d b n

-- counted from earlier
pub later_inv : {A : Type 0} (m : ℕ) (d : Parse A) {a : A} {n : ℕ} → later m d ≡ ok a n → Behind m d a n
later_inv m (ok b k) {a} {n} e = let p : b ≡ a = cc in let q : n ≡ m + k = cc in behind k (ap (λ x. ok x k) p) q
later_inv m (bad c o) e = absurd (no_ok e)

-- two decoders, one behind the other
pub and_inv : {A B : Type 0} (s : List ℕ) (d : Parse A) (f : A → List ℕ → Parse B) {b : B} {n : ℕ} → and_then s d f ≡ ok b n → Then s d f b n
and_inv s (ok a m) f e = elim (later_inv m (f a (drop m s)) e) [ behind k p q ↦ both a m k refl p q ]
and_inv s (bad c o) f e = absurd (no_ok e)

-- made of another value
pub map_inv : {A B : Type 0} (f : A → B) (d : Parse A) {b : B} {n : ℕ} → map_parse f d ≡ ok b n → Image f d b n
map_inv f (ok a m) {b} {n} e = let p : b ≡ f a = cc in let q : m ≡ n = cc in image a (ap (ok a) q) p
map_inv f (bad c o) e = absurd (no_ok e)

-- what is made of the value does not move a refusal
pub map_bad : {A B : Type 0} (f : A → B) (d : Parse A) {c : Cause} {o : ℕ} → map_parse f d ≡ bad c o → d ≡ bad c o
map_bad f (ok a n) e = absurd (no_ok (sym e))
map_bad f (bad k m) {c} {o} e = let p : k ≡ c = cc in let q : m ≡ o = cc in rw (p, q)

-- a refusal unless a test holds
pub cond_inv : {A : Type 0} (t : Bool) (x : Parse A) (c : Cause) (o : ℕ) {a : A} {n : ℕ} → cond t x (bad c o) ≡ ok a n → (t ≡ true) × (x ≡ ok a n)
cond_inv true x c o e = (refl, e)
cond_inv false x c o e = absurd (no_ok e)

-- a tested field
pub checked_inv : {A : Type 0} (c : Cause) (p : A → Bool) (d : Parse A) {a : A} {n : ℕ} → checked c p d ≡ ok a n → (d ≡ ok a n) × (p a ≡ true)
checked_inv c p (ok b m) {a} {n} e =
    let h = cond_inv (p b) (ok b m) c 0 e in
    let q : b ≡ a = cc in
    (h.1, rw q at h.0)
checked_inv c p (bad k o) e = absurd (no_ok e)

-- a number
pub number_inv : (w : ℕ) (s : List ℕ) {x n : ℕ} → number_of w s ≡ ok x n → (w ≤ length s) × (x ≡ from_bytes (take w s)) × (n ≡ w)
unfolding number_of
number_inv w s {x} {n} e =
    let h = cond_inv (leb w (length s)) (ok (from_bytes (take w s)) w) Cause.Truncated 0 e in
    let f = h.1 in
    let p : x ≡ from_bytes (take w s) = cc in
    let q : n ≡ w = cc in
    (leb-true _ _ h.0, p, q)

-- a number below a bound
pub below_inv : (bound : ℕ) (s : List ℕ) {x n : ℕ} → below bound s ≡ ok x n → (u16_of s ≡ ok x n) × (x < bound)
below_inv bound s {x} e = let h = checked_inv Cause.OutOfRange (λ y. ltb y bound) (u16_of s) e in (h.0, ltb-true x bound h.1)

-- the kind byte is there, and the decoder it chose gave the value
pub tagged_inv : {A : Type 0} (fs : List (List ℕ → Parse A)) (s : List ℕ) {a : A} {n : ℕ} → tagged fs s ≡ ok a n → (1 ≤ length s) × (get_or (map (λ f. later 1 (f (drop 1 s))) fs) (get_or s 0 0) (bad Cause.Undefined 0) ≡ ok a n)
tagged_inv fs s e = let h = cond_inv (leb 1 (length s)) _ Cause.Truncated 0 e in (leb-true _ _ h.0, h.1)

-- a sequence has as many as are asked for
pub seq_length : {A : Type 0} (dec : List ℕ → Parse A) (k : ℕ) (s : List ℕ) {xs : List A} {n : ℕ} → seq_of dec k s ≡ ok xs n → length xs ≡ k
unfolding seq_of
seq_length dec zero s {xs} e = let p : xs ≡ [] = cc in ap length p
seq_length dec (suc k) s e =
    elim (and_inv s (dec s) (λ a t. map_parse (λ xs. a ∷ xs) (seq_of dec k t)) e) [
      | both a m j p q r ↦ elim (map_inv (λ xs. a ∷ xs) (seq_of dec k (drop m s)) q) [ image xs f g ↦ ap length g ∙ ap suc (seq_length dec k (drop m s) f) ]
    ]
