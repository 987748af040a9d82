-- Decoders that give back what stood there: how they are put together.
use Prim.Native.Nat.{ℕ, zero, suc, ◌+◌, ◌*◌, ◌^◌, ◌≤◌, ◌<◌, zero-le}
use mathlib.Core.Path.{◌≡◌, refl, ap}
use mathlib.Core.List.{List, [], ◌∷◌, ◌++◌}
use mathlib.Core.Bool.{Bool, true}
use native.Mathlib.Nat.{le_refl, le_trans, mod-eq_of_lt, suc-mul, mul-le-mul_right}
use native.Mathlib.Omega.{arith}
use borrow.Author.Tests.{leb-true}
use lib.ListN.{length, drop}
use lib.Dec.{leb}
use Rattle.bytes_wire.specs.Parse.{Parse, ok, and_then, map_parse, checked, seq_of}
use Rattle.bytes_wire.specs.Number.{to_bytes, number_of, u8_of}
use Rattle.bytes_wire.specs.WellFormed.{Bytes}
use Rattle.bytes_wire.specs.declared.Cause.{Cause}
use Rattle.bytes_field.specs.Decode.{count_of, list_of}
use Rattle.bytes_field.specs.Encode.{each_bytes, list_bytes}
use Rattle.mir.specs.Lists.{Each}
use Rattle.bytes_laws.specs.WellFormed.{FitList}
use Rattle.bytes_wire.proofs.Inv.{both, image, and_inv, map_inv, checked_inv, number_inv}
use Rattle.bytes_wire.proofs.Canon.{Canon, bytes_drop, canon_and, number_canon, number_fit}

-- what was read is written as the n bytes that stood there, is good, and took at most `most`
pub record Read {A : Type 0} (enc : A → List ℕ) (Good : A → Type 0) (most : ℕ) (a : A) (s : List ℕ) (n : ℕ) : Type 0 where
  pub canon : Canon (enc a) s n
  pub good : Good a
  pub small : n ≤ most

-- so for all that a decoder reads from bytes
pub record Exact {A : Type 0} (dec : List ℕ → Parse A) (enc : A → List ℕ) (Good : A → Type 0) (most : ℕ) : Type 0 where
  pub each : (s : List ℕ) (a : A) (n : ℕ) → Bytes s → dec s ≡ ok a n → Read enc Good most a s n

-- the same of the last part of a thing: w stood there, and k says how the whole is written around it
pub data Ends {A : Type 0} (k : List ℕ → List ℕ) (enc : A → List ℕ) (Good : A → Type 0) (most : ℕ) (a : A) (s : List ℕ) (n : ℕ) : Type 0 where
  ends : (w : List ℕ) → Canon w s n → enc a ≡ k w → Good a → n ≤ most → Ends k enc Good most a s n

-- so for all that a decoder of the last part reads
pub record After {A : Type 0} (k : List ℕ → List ℕ) (dec : List ℕ → Parse A) (enc : A → List ℕ) (Good : A → Type 0) (most : ℕ) : Type 0 where
  pub each : (s : List ℕ) (a : A) (n : ℕ) → Bytes s → dec s ≡ ok a n → Ends k enc Good most a s n

-- a field, and the rest behind it
pub then : {A B : Type 0} {k : List ℕ → List ℕ} {dec : List ℕ → Parse A} {f : A → List ℕ → Parse B} {enc₁ : A → List ℕ} {enc : B → List ℕ} {G₁ : A → Type 0} {G : B → Type 0} {m₁ m : ℕ} → Exact dec enc₁ G₁ m₁ → ((a : A) → G₁ a → After (λ w. k (enc₁ a ++ w)) (f a) enc G m) → After k (λ s. and_then s (dec s) f) enc G (m₁ + m)
then {dec} {f} {enc₁} x y =
    record {
      each = λ s b n h e.
          elim (and_inv s (dec s) f e) [
            | both a m j p q r ↦
                let c = x.each s a m h p in
                elim ((y a c.good).each (drop m s) b j (bytes_drop s m h) q) [
                  | ends w u v g l ↦ ends (enc₁ a ++ w) (rw r (canon_and c.canon u)) v g (omega (arith, c.small))
                ]
          ];
    }

-- the last field, and what is made of it
pub last : {A B : Type 0} {k : List ℕ → List ℕ} {dec : List ℕ → Parse A} {enc₁ : A → List ℕ} {enc : B → List ℕ} {G₁ : A → Type 0} {G : B → Type 0} {m : ℕ} (g : A → B) → Exact dec enc₁ G₁ m → ((a : A) → G₁ a → (enc (g a) ≡ k (enc₁ a)) × G (g a)) → After k (λ s. map_parse g (dec s)) enc G m
last {k} {dec} {enc₁} {enc} {G₁} {G} {m} g x y =
    record {
      each = λ s b n h e.
          elim (map_inv g (dec s) e) [
            | image a p q ↦
                let c = x.each s a n h p in
                let z = y a c.good in
                rw q (ends (enc₁ a) c.canon z.0 z.1 c.small)
          ];
    }

-- the last part as it stands
pub just : {A : Type 0} {k : List ℕ → List ℕ} {dec : List ℕ → Parse A} {enc₁ enc : A → List ℕ} {G₁ G : A → Type 0} {m : ℕ} → Exact dec enc₁ G₁ m → ((a : A) → G₁ a → (enc a ≡ k (enc₁ a)) × G a) → After k dec enc G m
just {enc₁} x y =
    record {
      each = λ s a n h e.
          let c = x.each s a n h e in
          let z = y a c.good in
          ends (enc₁ a) c.canon z.0 z.1 c.small;
    }

-- no field
pub alone : {A : Type 0} {k : List ℕ → List ℕ} {a : A} {enc : A → List ℕ} {G : A → Type 0} → enc a ≡ k [] → G a → After k (λ s. ok a 0) enc G 0
alone {A} {k} {a} {enc} {G} p q =
    record {
      each = λ s b n h e.
          let u : b ≡ a = cc in
          let v : n ≡ 0 = cc in
          rw (u, v) (ends [] (record { same = refl; size = refl }) p q zero-le);
    }

-- a whole thing
pub whole : {A : Type 0} {dec : List ℕ → Parse A} {enc : A → List ℕ} {G : A → Type 0} {m most : ℕ} → After (λ w. w) dec enc G m → m ≤ most → Exact dec enc G most
whole {A} {dec} {enc} {G} {m} {most} x l =
    record {
      each = λ s a n h e.
          elim (x.each s a n h e) [ ends w u v g l' ↦ record { canon = rw v u; good = g; small = le_trans l' l } ];
    }

-- a part that takes more at most
pub within : {A : Type 0} {k : List ℕ → List ℕ} {dec : List ℕ → Parse A} {enc : A → List ℕ} {G : A → Type 0} {m most : ℕ} → After k dec enc G m → m ≤ most → After k dec enc G most
within x l = record { each = λ s a n h e. elim (x.each s a n h e) [ ends w u v g l' ↦ ends w u v g (le_trans l' l) ] }

-- a tested field
pub tested : {A : Type 0} {dec : List ℕ → Parse A} {enc : A → List ℕ} {G : A → Type 0} {m : ℕ} (c : Cause) (p : A → Bool) → Exact dec enc G m → Exact (λ s. checked c p (dec s)) enc (λ a. G a × (p a ≡ true)) m
tested {dec} c p x =
    record {
      each = λ s a n h e.
          let i = checked_inv c p (dec s) e in
          let r = x.each s a n h i.0 in
          record { canon = r.canon; good = (r.good, i.1); small = r.small };
    }

-- what is good for another reason
pub because : {A : Type 0} {dec : List ℕ → Parse A} {enc : A → List ℕ} {G G' : A → Type 0} {m : ℕ} → Exact dec enc G m → ((a : A) → G a → G' a) → Exact dec enc G' m
because x f = record { each = λ s a n h e. let r = x.each s a n h e in record { canon = r.canon; good = f a r.good; small = r.small } }

-- a number of w bytes
pub number : (w : ℕ) → Exact (number_of w) (to_bytes w) (λ x. x < 256 ^ w) w
number w = record { each = λ s a n h e. record { canon = number_canon w s h e; good = number_fit w s h e; small = rw (number_inv w s e).2 (le_refl w) } }

-- a byte
pub byte : Exact u8_of (λ x. x ∷ []) (λ x. x < 256) 1
byte =
    record {
      each = λ s a n h e.
          let r = (number 1).each s a n h e in
          let l : a < 256 = r.good in
          record { canon = rw (mod-eq_of_lt l) at r.canon; good = l; small = r.small };
    }

-- k things
pub sequence : {A : Type 0} {dec : List ℕ → Parse A} {enc : A → List ℕ} {G : A → Type 0} {m : ℕ} → Exact dec enc G m → (k : ℕ) → Exact (seq_of dec k) (each_bytes enc) (λ xs. (length xs ≡ k) × Each G xs) (k * m)
unfolding seq_of
sequence x zero = whole (alone refl (refl, tt)) zero-le
sequence {m} x (suc k) = whole (then x (λ a p. last (λ xs. a ∷ xs) (sequence x k) (λ xs q. (refl, (ap suc q.0, (p, q.1)))))) (omega (arith, suc-mul k m))

-- a count, at most so many, then as many things as it says
pub counted : {A : Type 0} (enc : A → List ℕ) {P : ℕ → List A → Type 0} {f : ℕ → List ℕ → Parse (List A)} (most m : ℕ) → ((k : ℕ) → Exact (f k) (each_bytes enc) (λ xs. (length xs ≡ k) × P k xs) (k * m)) → Exact (λ s. and_then s (count_of most s) f) (list_bytes enc) (λ xs. (length xs ≤ most) × P (length xs) xs) (1 + most * m)
counted {A} enc {P} {f} most m x =
    whole
    (then (tested Cause.TooMany (λ n. leb n most) byte) (λ k p.
    let l : k ≤ most = leb-true k most p.1 in
    within (just (x k) (λ xs q. (ap (λ n. n ∷ each_bytes enc xs) q.0, rw q.0 (l, q.1)))) (mul-le-mul_right m l)))
    (le_refl (1 + most * m))

-- "lists u8 count first"
pub list : {A : Type 0} {dec : List ℕ → Parse A} {enc : A → List ℕ} {G : A → Type 0} {m : ℕ} (most : ℕ) → Exact dec enc G m → Exact (list_of most dec) (list_bytes enc) (FitList most G) (1 + most * m)
unfolding list_of
list {A} {dec} {enc} {G} {m} most x = counted enc most m (λ k. sequence x k)
