-- Laws of the decoders' combinators: how far an answer reaches, and how decoders in sequence regroup.
use Prim.Native.Nat.{ℕ, zero, suc, ◌+◌, ◌-◌, ◌*◌, ◌≤◌, ◌<◌, zero-le}
use mathlib.Core.Path.{◌≡◌, refl, ap, ◌∙◌, sym}
use mathlib.Core.List.{List, [], ◌∷◌, map}
use mathlib.Core.Bool.{Bool, true, false, cond}
use native.Mathlib.Nat.{le_trans, le_refl, add-zero, zero-add, add_assoc}
use native.Mathlib.Omega.{arith}
use borrow.Author.Tests.{leb-true, lt-leb, le-leb}
use lib.ListN.{length, get_or, take, drop, length-drop}
use lib.Seq.{take-nil, drop-drop, get_or-drop}
use lib.Dec.{leb, ltb}
use Rattle.std.specs.Prelude.{Result, Err}
use Rattle.std.proofs.lemmas.List.{take_rest}
use Rattle.bytes_wire.specs.declared.Refusal.{Refusal}
use Rattle.bytes_wire.specs.Parse.{Parse, as_answer, ok, bad, later, and_then, map_parse, checked, tagged, seq_of}
use Rattle.bytes_wire.specs.Number.{from_bytes, number_of, below, at16, at32}
use Rattle.bytes_wire.specs.Value.{bool_of, value_id_of, value_of, value_kinds}
use Rattle.bytes_wire.specs.declared.Cause.{Cause}

-- the count, or the offset
abbrev pub size : {A : Type 0} → Parse A → ℕ
size (ok a n) = n
size (bad c o) = o

-- counted from earlier, it reaches further
pub size_later : {A : Type 0} (n : ℕ) (d : Parse A) → size (later n d) ≡ n + size d
size_later n (ok a m) = refl
size_later n (bad c o) = refl

-- what is made of the value does not move the count
pub size_map : {A B : Type 0} (f : A → B) (d : Parse A) → size (map_parse f d) ≡ size d
size_map f (ok a m) = refl
size_map f (bad c o) = refl

-- both arms within a bound, the first where the test holds
pub size_cond : {A : Type 0} (b : Bool) (x y : Parse A) (len : ℕ) → (b ≡ true → size x ≤ len) → size y ≤ len → size (cond b x y) ≤ len
size_cond true x y len f g = f refl
size_cond false x y len f g = g

-- a test moves no count further
pub size_checked : {A : Type 0} (c : Cause) (p : A → Bool) (d : Parse A) → size (checked c p d) ≤ size d
size_checked c p (ok a n) = size_cond (p a) (ok a n) (bad c 0) n (λ e. le_refl n) zero-le
size_checked c p (bad k o) = le_refl o

-- a decoder, then one that stays within what is left
pub size_and : {A B : Type 0} (s : List ℕ) (d : Parse A) (f : A → List ℕ → Parse B) → size d ≤ length s → ((a : A) (t : List ℕ) → size (f a t) ≤ length t) → size (and_then s d f) ≤ length s
size_and s (ok a n) f h g = omega (arith, size_later n (f a (drop n s)), g a (drop n s), length-drop n s)
size_and s (bad c o) f h g = h

-- a number stays within its bytes
pub size_number : (w : ℕ) (s : List ℕ) → size (number_of w s) ≤ length s
unfolding number_of
size_number w s = size_cond (leb w (length s)) _ _ _ (λ e. leb-true _ _ e) zero-le

-- each of the decoders stays within its bytes
infixr 67 ◌&◌
pub data Sized {A : Type 0} : List (List ℕ → Parse A) → Type 0 where
  none : Sized []
  ◌&◌ : {f : List ℕ → Parse A} {fs : List (List ℕ → Parse A)} → ((t : List ℕ) → size (f t) ≤ length t) → Sized fs → Sized (f ∷ fs)

-- and so does the one that a kind byte chooses, with that byte
size_kind : {A : Type 0} (fs : List (List ℕ → Parse A)) → Sized fs → (t : List ℕ) (k : ℕ) → size (get_or (map (λ f. later 1 (f t)) fs) k (bad Cause.Undefined 0)) ≤ 1 + length t
size_kind [] none t k = zero-le
size_kind (f ∷ fs) (h & hs) t zero = omega (arith, size_later 1 (f t), h t)
size_kind (f ∷ fs) (h & hs) t (suc k) = size_kind fs hs t k

-- a kind byte and the decoder it chooses stay within the bytes
pub size_tagged : {A : Type 0} (fs : List (List ℕ → Parse A)) → Sized fs → (s : List ℕ) → size (tagged fs s) ≤ length s
size_tagged fs h s = size_cond (leb 1 (length s)) _ _ _ (λ e. omega (arith, size_kind fs h (drop 1 s) (get_or s 0 0), length-drop 1 s, leb-true 1 (length s) e)) zero-le

-- a sequence stays within the bytes
pub size_seq : {A : Type 0} (dec : List ℕ → Parse A) → ((t : List ℕ) → size (dec t) ≤ length t) → (k : ℕ) (s : List ℕ) → size (seq_of dec k s) ≤ length s
unfolding seq_of
size_seq dec h zero s = zero-le
size_seq dec h (suc k) s = size_and s (dec s) (λ a t. map_parse (λ xs. a ∷ xs) (seq_of dec k t)) (h s) (λ a t. rw (size_map (λ xs. a ∷ xs) (seq_of dec k t)) (size_seq dec h k t))

-- the fields and the value stay within their bytes
pub size_below : (bound : ℕ) (s : List ℕ) → size (below bound s) ≤ length s
size_below bound s = le_trans (size_checked Cause.OutOfRange (λ x. ltb x bound) (number_of 2 s)) (size_number 2 s)

pub size_id : (next : ℕ) (s : List ℕ) → size (value_id_of next s) ≤ length s
size_id next s = rw size_map (size_below next s)

pub size_bool : (s : List ℕ) → size (bool_of s) ≤ length s
size_bool s = rw size_map (le_trans (size_checked Cause.Undefined (λ x. ltb x 2) (number_of 1 s)) (size_number 1 s))

pub size_value : (next : ℕ) (s : List ℕ) → size (value_of next s) ≤ length s
unfolding value_of
size_value next s =
    size_tagged (value_kinds next)
    ((λ t. rw size_map (size_number 4 t))
    & (λ t. rw size_map (size_bool t))
    & (λ t. zero-le)
    & (λ t. rw size_map (size_id next t))
    & (λ t. zero-le)
    & none)
    s

-- what a reader of the bytes behind n answered, and which variant that was, tell what the definition gives there
pub told : {R A : Type 0} (view : R → Parse A) (dec : List ℕ → Parse A) (n : ℕ) (s : List ℕ) {r r' : R} → view r ≡ dec (take (length s - n) (drop n s)) → r ≡ r' → dec (drop n s) ≡ view r'
told view dec n s p q = sym (ap dec (take_rest s n)) ∙ sym p ∙ ap view q

-- what a reader of the bytes behind n answered
pub there : {R A : Type 0} (view : R → Parse A) (dec : List ℕ → Parse A) (n : ℕ) (s : List ℕ) {r : R} → view r ≡ dec (take (length s - n) (drop n s)) → view r ≡ dec (drop n s)
there view dec n s p = p ∙ ap dec (take_rest s n)

-- such an answer reaches no further than the bytes do
pub told_size : {R A : Type 0} (view : R → Parse A) (dec : List ℕ → Parse A) (n : ℕ) (s : List ℕ) {r r' : R} → ((t : List ℕ) → size (dec t) ≤ length t) → n ≤ length s → view r ≡ dec (take (length s - n) (drop n s)) → r ≡ r' → n + size (view r') ≤ length s
told_size view dec n s h l p q = omega (arith, ap size (told view dec n s p q), h (drop n s), length-drop n s)

-- which variant a reader's answer was
pub was : {X A : Type 0} (f : X → Parse A) {r r' : Result X Refusal} {d : Parse A} → as_answer f r ≡ d → r ≡ r' → as_answer f r' ≡ d
was f p q = sym (ap (as_answer f) q) ∙ p

-- the offset of its refusal is within the bytes
pub refused_within : {X A : Type 0} (f : X → Parse A) {r : Result X Refusal} {d : Parse A} {e : Refusal} {n : ℕ} → as_answer f r ≡ d → size d ≤ n → r ≡ Err e → e.offset ≤ n
refused_within f p h q = omega (arith, ap size (was f p q), h)

-- a refusal that was passed on, as it is, and by `behind`: counted from n bytes earlier
abbrev pub Passed : {X Y : Type 0} → Result X Refusal → Result Y Refusal → Type 0
Passed r q = (e : Refusal) × ((r ≡ Err e) × (q ≡ Err e))

abbrev pub Behind : {X Y : Type 0} → ℕ → Result X Refusal → Result Y Refusal → Type 0
Behind n r q = (e : Refusal) × ((r ≡ Err e) × (q ≡ Err (record { cause = e.cause; offset = n + e.offset })))

-- where the definition h makes such a refusal of one, the answer is what it makes of the reader's
module _ {X Y A B : Type 0} (f : X → Parse A) (g : Y → Parse B) (h : Parse A → Parse B) {r : Result X Refusal} {q : Result Y Refusal} {d : Parse A} where
  pub passed_as : ((c : Cause) (o : ℕ) → h (bad c o) ≡ bad c o) → Passed r q → as_answer f r ≡ d → as_answer g q ≡ h d
  passed_as l (e, (p, z)) k = ap (as_answer g) z ∙ sym (l e.cause e.offset) ∙ ap h (was f k p)

  pub behind_as : (n : ℕ) → ((c : Cause) (o : ℕ) → h (bad c o) ≡ bad c (n + o)) → Behind n r q → as_answer f r ≡ d → as_answer g q ≡ h d
  behind_as n l (e, (p, z)) k = ap (as_answer g) z ∙ sym (l e.cause e.offset) ∙ ap h (was f k p)

-- the same, where what a refusal gives is told by an equation
module _ {X Y A B : Type 0} (f : X → Parse A) (g : Y → Parse B) {r : Result X Refusal} {q : Result Y Refusal} {d : Parse A} {t : Parse B} where
  pub passed_bad : Passed r q → as_answer f r ≡ d → ((c : Cause) (o : ℕ) → d ≡ bad c o → bad c o ≡ t) → as_answer g q ≡ t
  passed_bad (e, (p, z)) k h = ap (as_answer g) z ∙ h e.cause e.offset (sym (was f k p))

  pub behind_bad : (n : ℕ) → Behind n r q → as_answer f r ≡ d → ((c : Cause) (o : ℕ) → d ≡ bad c o → bad c (n + o) ≡ t) → as_answer g q ≡ t
  behind_bad n (e, (p, z)) k h = ap (as_answer g) z ∙ h e.cause e.offset (sym (was f k p))

-- nothing was before
pub later_zero : {A : Type 0} (d : Parse A) → later 0 d ≡ d
later_zero (ok a m) = ap (ok a) (zero-add m)
later_zero (bad c o) = ap (bad c) (zero-add o)

-- two distances are their sum
pub later_later : {A : Type 0} (m n : ℕ) (d : Parse A) → later m (later n d) ≡ later (m + n) d
later_later m n (ok a k) = ap (ok a) (sym (add_assoc m n k))
later_later m n (bad c o) = ap (bad c) (sym (add_assoc m n o))

-- what is made of the value, and the distance, in either order
pub map_later : {A B : Type 0} (f : A → B) (n : ℕ) (d : Parse A) → map_parse f (later n d) ≡ later n (map_parse f d)
map_later f n (ok a m) = refl
map_later f n (bad c o) = refl

-- nothing is made of the value
pub map_id : {A : Type 0} (d : Parse A) → map_parse (λ a. a) d ≡ d
map_id (ok a n) = refl
map_id (bad c o) = refl

-- two things made of the value, one after the other
pub map_map : {A B C : Type 0} (f : B → C) (g : A → B) (d : Parse A) → map_parse f (map_parse g d) ≡ map_parse (λ a. f (g a)) d
map_map f g (ok a m) = refl
map_map f g (bad c o) = refl

-- what is made of the last value is made behind
pub map_and : {A B C : Type 0} (s : List ℕ) (d : Parse A) (g : A → List ℕ → Parse B) (f : B → C) → map_parse f (and_then s d g) ≡ and_then s d (λ a t. map_parse f (g a t))
map_and s (ok a n) g f = map_later f n (g a (drop n s))
map_and s (bad c o) g f = refl

-- what is made of the first value is passed on
pub and_map : {A B C : Type 0} (s : List ℕ) (f : A → B) (d : Parse A) (g : B → List ℕ → Parse C) → and_then s (map_parse f d) g ≡ and_then s d (λ a t. g (f a) t)
and_map s f (ok a n) g = refl
and_map s f (bad c o) g = refl

-- three decoders, grouped either way
pub assoc : {A B C : Type 0} (s : List ℕ) (d : Parse A) (f : A → List ℕ → Parse B) (g : B → List ℕ → Parse C) → and_then s (and_then s d f) g ≡ and_then s d (λ a t. and_then t (f a t) g)
assoc s (ok a n) f g = inner (f a (drop n s))
  where
    inner : (e : Parse _) → and_then s (later n e) g ≡ later n (and_then (drop n s) e g)
    inner (ok b m) = sym (rw (drop-drop, later_later))
    inner (bad c o) = refl
assoc s (bad c o) f g = refl

-- nothing is read behind
pub and_ok : {A B : Type 0} (s : List ℕ) (d : Parse A) (f : A → B) → and_then s d (λ a t. ok (f a) 0) ≡ map_parse f d
and_ok s (ok a n) f = ap (ok (f a)) (add-zero n)
and_ok s (bad c o) f = refl

-- the same behind what was read, whatever it was
pub and_same : {A B : Type 0} (s : List ℕ) (d : Parse A) (f g : A → List ℕ → Parse B) → ((a : A) (t : List ℕ) → f a t ≡ g a t) → and_then s d f ≡ and_then s d g
and_same s (ok a n) f g h = ap (later n) (h a (drop n s))
and_same s (bad c o) f g h = refl

-- nothing is read behind, and nothing is made
pub and_nothing : {A : Type 0} (s : List ℕ) (d : Parse A) → and_then s d (λ a t. ok a 0) ≡ d
and_nothing s (ok a n) = ap (ok a) (add-zero n)
and_nothing s (bad c o) = refl

-- the test holds
pub checked_true : {A : Type 0} (c : Cause) (p : A → Bool) (a : A) (n : ℕ) → p a ≡ true → checked c p (ok a n) ≡ ok a n
checked_true c p a n h = rw h

-- the kind of a value chooses its decoder
pub kind_chooses : (next : ℕ) (s : List ℕ) {k : ℕ} → 1 ≤ length s → get_or s 0 0 ≡ k → get_or (map (λ f. later 1 (f (drop 1 s))) (value_kinds next)) k (bad Cause.Undefined 0) ≡ value_of next s
unfolding value_of
kind_chooses next s h e = sym (rw (le-leb _ _ h, e))

-- too few bytes
pub number_short : (w : ℕ) (s : List ℕ) → length s < w → number_of w s ≡ bad Cause.Truncated 0
unfolding number_of
number_short w s h = rw (lt-leb _ _ h)

-- enough bytes
pub number_some : (w : ℕ) (s : List ℕ) → w ≤ length s → number_of w s ≡ ok (from_bytes (take w s)) w
unfolding number_of
number_some w s h = rw (le-leb _ _ h)

-- the first byte at a place, and those behind it
from_step : (w : ℕ) (s : List ℕ) (at : ℕ) → from_bytes (take (suc w) (drop at s)) ≡ get_or s at 0 + 256 * from_bytes (take w (drop (at + 1) s))
from_step w s at = head (drop at s) ∙ rw (get_or-drop, drop-drop, add-zero)
  where
    head : (t : List ℕ) → from_bytes (take (suc w) t) ≡ get_or t 0 0 + 256 * from_bytes (take w (drop 1 t))
    head [] = rw take-nil
    head (a ∷ t) = refl

-- the bytes at a place make the number at it
pub from_8 : (s : List ℕ) (at : ℕ) → from_bytes (take 1 (drop at s)) ≡ get_or s at 0
from_8 s at = rw (from_step 0 s at) (omega arith)

pub from_16 : (s : List ℕ) (at : ℕ) → from_bytes (take 2 (drop at s)) ≡ at16 s at
from_16 s at = rw (from_step 1 s at, from_8 s (at + 1))

pub from_32 : (s : List ℕ) (at : ℕ) → from_bytes (take 4 (drop at s)) ≡ at32 s at
from_32 s at = let e : at + 1 + 1 ≡ at + 2 = omega arith in rw (from_step 3 s at, from_step 2 s (at + 1), e, from_16 s (at + 2)) (omega arith)
