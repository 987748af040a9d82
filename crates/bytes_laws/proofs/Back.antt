-- What is written is read back: how decoders that do so are put together.
use Prim.Native.Nat.{ℕ, zero, suc, ◌^◌, ◌≤◌, ◌<◌}
use mathlib.Core.Path.{◌≡◌, refl, ap, ◌∙◌, sym}
use mathlib.Core.List.{List, [], ◌∷◌, ◌++◌, map, append_assoc}
use mathlib.Core.Bool.{Bool, true}
use native.Mathlib.Nat.{mod-eq_of_lt}
use native.Mathlib.Omega.{arith}
use borrow.Author.Tests.{le-leb}
use lib.ListN.{length, get_or, length-append}
use lib.Seq.{drop_at}
use lib.Dec.{leb}
use Rattle.bytes_wire.specs.Parse.{Parse, ok, bad, later, and_then, map_parse, checked, tagged, seq_of}
use Rattle.bytes_wire.specs.Number.{to_bytes, number_of, u8_of}
use Rattle.bytes_wire.specs.declared.Cause.{Cause}
use Rattle.bytes_wire.proofs.Laws.{checked_true}
use Rattle.bytes_wire.proofs.Inv.{no_ok}
use Rattle.bytes_wire.proofs.RoundTrip.{length_to_bytes, number_back}
use Rattle.bytes_field.specs.Decode.{count_of, list_of}
use Rattle.bytes_field.specs.Encode.{each_bytes, list_bytes}
use Rattle.mir.specs.Lists.{Each}
use Rattle.bytes_laws.specs.WellFormed.{FitList}

-- from w, whatever follows, the decoder reads a and takes all of w
pub record Back {A : Type 0} (dec : List ℕ → Parse A) (w : List ℕ) (a : A) : Type 0 where
  pub says : (t : List ℕ) → dec (w ++ t) ≡ ok a (length w)

-- a field, and the rest behind it
pub then : {A B : Type 0} {dec : List ℕ → Parse A} {v w : List ℕ} {a : A} {b : B} (f : A → List ℕ → Parse B) → Back dec v a → Back (f a) w b → Back (λ s. and_then s (dec s) f) (v ++ w) b
then {dec} {v} {w} {a} {b} f x y = record { says = λ t. rw (append_assoc v w t, x.says (w ++ t), drop_at v (w ++ t) (length v) refl, y.says t, length-append v w) }

-- the last field, and what is made of it
pub last : {A B : Type 0} {dec : List ℕ → Parse A} {w : List ℕ} {a : A} (g : A → B) → Back dec w a → Back (λ s. map_parse g (dec s)) w (g a)
last g x = record { says = λ t. rw (x.says t) }

-- no field
pub alone : {A : Type 0} {a : A} → Back (λ s. ok a 0) [] a
alone = record { says = λ t. refl }

-- a tested field
pub tested : {A : Type 0} {dec : List ℕ → Parse A} {w : List ℕ} {a : A} (c : Cause) (p : A → Bool) → p a ≡ true → Back dec w a → Back (λ s. checked c p (dec s)) w a
tested {w} {a} c p h x = record { says = λ t. rw (x.says t) (checked_true c p a (length w) h) }

-- a number of w bytes, and a byte
pub number : (w x : ℕ) → x < 256 ^ w → Back (number_of w) (to_bytes w x) x
number w x h = record { says = λ t. number_back w x t h ∙ ap (ok x) (sym (length_to_bytes w x)) }

pub byte : (x : ℕ) → x < 256 → Back u8_of (x ∷ []) x
byte x h = rw (mod-eq_of_lt h) at (number 1 x h)

-- all of a list, one after another
pub sequence : {A : Type 0} {dec : List ℕ → Parse A} {enc : A → List ℕ} {P : A → Type 0} → ((a : A) → P a → Back dec (enc a) a) → (xs : List A) → Each P xs → Back (seq_of dec (length xs)) (each_bytes enc xs) xs
unfolding seq_of
sequence x [] h = alone
sequence x (a ∷ xs) h = then _ (x a h.0) (last _ (sequence x xs h.1))

-- a count, then as many things as it says
pub counted : {A : Type 0} {w : List ℕ} {xs : List A} (f : ℕ → List ℕ → Parse (List A)) (most n : ℕ) → n ≤ most → most ≤ 255 → Back (f n) w xs → Back (λ s. and_then s (count_of most s) f) (n ∷ w) xs
counted f most n l h x = then f (tested Cause.TooMany (λ n. leb n most) (le-leb n most l) (byte n (omega arith))) x

-- "lists u8 count first"
pub list : {A : Type 0} {dec : List ℕ → Parse A} {enc : A → List ℕ} {P : A → Type 0} (most : ℕ) → most ≤ 255 → ((a : A) → P a → Back dec (enc a) a) → (xs : List A) → FitList most P xs → Back (list_of most dec) (list_bytes enc xs) xs
unfolding list_of
list most m x xs h = counted _ most (length xs) h.0 m (sequence x xs h.1)

-- a kind byte, then the fields of its kind
past : {A : Type 0} (fs : List (List ℕ → Parse A)) (t : List ℕ) (j : ℕ) {a : A} {n : ℕ} → get_or (map (λ f. f t) fs) j (bad Cause.Undefined 0) ≡ ok a n → get_or (map (λ f. later 1 (f t)) fs) j (bad Cause.Undefined 0) ≡ ok a (suc n)
past [] t j e = absurd (no_ok e)
past (f ∷ fs) t zero {a} e = ap (later 1) e ∙ ap (ok a) (omega arith)
past (f ∷ fs) t (suc j) e = past fs t j e

pub tag : {A : Type 0} {w : List ℕ} {a : A} (fs : List (List ℕ → Parse A)) (j : ℕ) → Back (λ s. get_or (map (λ f. f s) fs) j (bad Cause.Undefined 0)) w a → Back (tagged fs) (j ∷ w) a
tag {w} fs j x = record { says = λ t. rw (le-leb 1 (length (j ∷ (w ++ t))) (omega arith)) (past fs (w ++ t) j (x.says t)) }
