-- A row of classes, one field after another.
use Prim.Native.Nat.{ℕ, zero, suc, ◌+◌, ◌-◌, ◌*◌, ◌/◌, ◌%◌, ◌<◌, ◌≤◌}
use mathlib.Core.Path.{◌≡◌, refl, ap, ◌∙◌, sym}
use mathlib.Core.List.{List, [], ◌∷◌}
use native.Mathlib.Omega.{arith}
use lib.ListN.{length, get_or, drop}
use Rattle.std.proofs.lemmas.List.{at_drop_more, drop_all}
use Rattle.bytes_wire.specs.Parse.{Parse, ok, later, and_then}
use Rattle.bytes_wire.proofs.Laws.{assoc, and_same, and_nothing}
use Rattle.bytes_field.specs.Walk.{Walk, simple_walk, field_walk, row_walk}
use Rattle.bytes_field.specs.declared.Bounds.{Bounds}
use Rattle.bytes_row.specs.declared.class.Class.{Class}
use Rattle.bytes_row.specs.declared.class.Class.TheVariants.{Dest, Value, Name, Number, Block, Place, Binary, Unary, Values, Types, Dests, Named, Sources, Returns}
use Rattle.bytes_row.specs.Class.{number_of_class, number_of_row}

-- a class is a hexadecimal digit
is_digit : (c : Class) → number_of_class c < 16
is_digit Dest = omega arith
is_digit Value = omega arith
is_digit Class.Type = omega arith
is_digit Name = omega arith
is_digit Number = omega arith
is_digit Block = omega arith
is_digit Place = omega arith
is_digit Binary = omega arith
is_digit Unary = omega arith
is_digit Values = omega arith
is_digit Types = omega arith
is_digit Dests = omega arith
is_digit Named = omega arith
is_digit Sources = omega arith
is_digit Returns = omega arith

-- a row's first field, then those of the others
step : (b : Bounds) (many k r : ℕ) (c : Class) (w : Walk) (s : List ℕ) → row_walk b many (suc k) (number_of_class c + 16 * r) w s ≡ and_then s (field_walk b many (number_of_class c) w s) (λ v t. row_walk b many k r v t)
unfolding row_walk
step b many k r c w s =
    let n = number_of_class c in
    let h = is_digit c in
    let e : (n + 16 * r) % 16 ≡ n = omega (arith, h) in
    let f : (n + 16 * r) / 16 ≡ r = omega (arith, h) in
    rw (e, f) refl

-- no digits, no fields
no_digits : (b : Bounds) (many k : ℕ) (w : Walk) (s : List ℕ) → row_walk b many k 0 w s ≡ ok w 0
unfolding row_walk field_walk simple_walk
no_digits b many zero w s = refl
no_digits b many (suc k) w s = ap (later 0) (no_digits b many k w s)

-- more fields than a row has are no more fields
more_fields : (b : Bounds) (many : ℕ) (row : List Class) (m : ℕ) (w : Walk) (s : List ℕ) → length row ≤ m → row_walk b many (length row) (number_of_row row) w s ≡ row_walk b many m (number_of_row row) w s
more_fields b many [] m w s h = no_digits b many 0 w s ∙ sym (no_digits b many m w s)
more_fields b many (c ∷ cs) zero w s h = absurd (omega (arith, h))
more_fields b many (c ∷ cs) (suc m) w s h =
    let r = number_of_row cs in
    step b many (length cs) r c w s
    ∙ and_same s (field_walk b many (number_of_class c) w s) _ _ (λ v t. more_fields b many cs m v t (omega (arith, h)))
    ∙ sym (step b many m r c w s)

-- so of a row behind what was read
pub at_most : (b : Bounds) (many : ℕ) (s : List ℕ) (p : Parse Walk) (row : List Class) (m : ℕ) {q : Parse Walk} → length row ≤ m → q ≡ and_then s p (λ w t. row_walk b many (length row) (number_of_row row) w t) → q ≡ and_then s p (λ w t. row_walk b many m (number_of_row row) w t)
at_most b many s p row m h e = e ∙ and_same s p _ _ (λ w t. more_fields b many row m w t h)

-- the fields from the i-th on are left
pub record Left (b : Bounds) (many : ℕ) (s : List ℕ) (row : List Class) (all : Parse Walk) (i : ℕ) (p : Parse Walk) : Type 0 where
  pub left : all ≡ and_then s p (λ w t. row_walk b many (length (drop i row)) (number_of_row (drop i row)) w t)

module _ (b : Bounds) (many : ℕ) (s : List ℕ) (row : List Class) (all : Parse Walk) (i : ℕ) (p : Parse Walk) (l : Left b many s row all i p) where
  -- one more is behind
  pub row_again : (d : Class) (q : Parse Walk) → i < length row → q ≡ and_then s p (λ w t. field_walk b many (number_of_class (get_or row i d)) w t) → Left b many s row all (i + 1) q
  row_again d q h e =
      let c = get_or row i d in
      let cs = drop (i + 1) row in
      let r = number_of_row cs in
      let f = at_drop_more (λ x. and_then s p (λ w t. row_walk b many (length x) (number_of_row x) w t)) row i d h in
      record {
        left =
            l.left ∙ f ∙ and_same s p _ _ (λ w t. step b many (length cs) r c w t)
            ∙ sym (assoc s p (λ w t. field_walk b many (number_of_class c) w t) (λ v t. row_walk b many (length cs) r v t))
            ∙ ap (λ x. and_then s x (λ v t. row_walk b many (length cs) r v t)) (sym e);
      }

  -- all are behind
  pub row_done : length row ≤ i → p ≡ all
  row_done h =
      let e : drop i row ≡ [] = drop_all i row h in
      sym (l.left ∙ rw e (and_same s p _ _ (λ w t. no_digits b many 0 w t) ∙ and_nothing s p))

-- of the five digits of a row's number i are behind, and those of `rest` are left
pub record Digits (b : Bounds) (many : ℕ) (s : List ℕ) (all : Parse Walk) (rest i : ℕ) (p : Parse Walk) : Type 0 where
  pub digits : all ≡ and_then s p (λ w t. row_walk b many (5 - i) rest w t)

module _ (b : Bounds) (many : ℕ) (s : List ℕ) (all : Parse Walk) (rest i : ℕ) (p : Parse Walk) (r : Digits b many s all rest i p) where
  -- one more is behind
  pub digit_again : (q : Parse Walk) → i < 5 → q ≡ and_then s p (λ w t. field_walk b many (rest % 16) w t) → Digits b many s all (rest / 16) (i + 1) q
  unfolding row_walk
  digit_again q h e =
      let z : 5 - i ≡ suc (5 - (i + 1)) = omega arith in
      record { digits = r.digits ∙ rw (z, e) (sym (assoc s p (λ w t. field_walk b many (rest % 16) w t) (λ v t. row_walk b many (5 - (i + 1)) (rest / 16) v t))) }

  -- all are behind
  pub digits_done : 5 ≤ i → p ≡ all
  unfolding row_walk
  digits_done h = let z : 5 - i ≡ 0 = omega arith in sym (r.digits ∙ rw z (and_nothing s p))
