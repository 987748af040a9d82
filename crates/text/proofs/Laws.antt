-- Laws of numbers in decimal, and of bytes in hexadecimal.
use Prim.Native.Nat.{ℕ, zero, suc, ◌+◌, ◌*◌, ◌/◌, ◌%◌, ◌^◌, ◌≤◌, ◌<◌}
use mathlib.Core.Path.{◌≡◌, refl, ap, ◌∙◌, sym}
use mathlib.Core.List.{List, [], ◌∷◌, ◌++◌}
use mathlib.Core.Bool.{Bool, true, false}
use native.Mathlib.Nat.{pow-suc}
use native.Mathlib.Omega.{arith}
use lib.ListN.{length, length-append}
use lib.Seq.{sets}
use lib.Dec.{ltb}
use borrow.Author.Tests.{lt-ltb, le-ltb, ltb-true, ltb-false}
use Rattle.bytes_emit.proofs.Sets.{sets_append}
use Rattle.text.specs.Digits.{digit_of, front, digits_of, decimal, hexadecimal}
use Rattle.text.specs.Written.{Written}

-- what is in front of the last digit, by two bounds
front_same : (m n x : ℕ) (b : Bool) → ltb x 10 ≡ b → (10 ≤ x → digits_of m (x / 10) ≡ digits_of n (x / 10)) → front b (λ _. digits_of m (x / 10)) ≡ front b (λ _. digits_of n (x / 10))
front_same m n x true e f = refl
front_same m n x false e f = f (ltb-false x 10 e)

-- any bound above the number gives all its digits
bound_free : (m n x : ℕ) → x < m → x < n → digits_of m x ≡ digits_of n x
unfolding digits_of
bound_free zero n x h k = absurd (omega arith)
bound_free (suc m) zero x h k = absurd (omega arith)
bound_free (suc m) (suc n) x h k = ap (λ l. l ++ (digit_of (x % 10) ∷ [])) (front_same m n x (ltb x 10) refl (λ g. bound_free m n (x / 10) (omega arith) (omega arith)))

-- a number below ten is its digit
decimal_one : (x : ℕ) → x < 10 → decimal x ≡ digit_of x ∷ []
unfolding decimal digits_of
decimal_one x h =
    let e : x % 10 ≡ x = omega arith in
    rw (lt-ltb x 10 h, e)

-- any other is its tenth and its last digit
decimal_more : (x : ℕ) → 10 ≤ x → decimal x ≡ decimal (x / 10) ++ (digit_of (x % 10) ∷ [])
unfolding decimal digits_of
decimal_more x h =
    let e : digits_of x (x / 10) ≡ digits_of (suc (x / 10)) (x / 10) = bound_free x (suc (x / 10)) (x / 10) (omega arith) (omega arith) in
    rw (le-ltb x 10 h) (ap (λ l. l ++ (digit_of (x % 10) ∷ [])) e)

-- and has one digit more than it
longer : (x : ℕ) → 10 ≤ x → length (decimal x) ≡ length (decimal (x / 10)) + 1
longer x h = ap length (decimal_more x h) ∙ length-append (decimal (x / 10)) (digit_of (x % 10) ∷ [])

-- a digit more than its tenth at most
digits_by : (k x : ℕ) (b : Bool) → ltb x 10 ≡ b → (10 ≤ x → length (decimal (x / 10)) ≤ k) → length (decimal x) ≤ suc k
digits_by k x true e f = omega (arith, ap length (decimal_one x (ltb-true x 10 e)))
digits_by k x false e f = omega (arith, longer x (ltb-false x 10 e), f (ltb-false x 10 e))

-- a number below a power of ten has no more digits than the power says
most_digits : (k x : ℕ) → x < 10 ^ suc k → length (decimal x) ≤ suc k
most_digits zero x h = digits_by zero x (ltb x 10) refl (λ g. absurd (omega arith))
most_digits (suc k) x h = digits_by (suc k) x (ltb x 10) refl (λ g. most_digits k (x / 10) (omega (arith, h, pow-suc 10 (suc k))))

-- the digits of a u64
pub decimal_short : (x : ℕ) → x < 18446744073709551616 → length (decimal x) ≤ 20
decimal_short x h = most_digits 19 x (omega arith)

-- what stands below ten is written at once
pub one_written : (text text' : List ℕ) (to x d : ℕ) → x < 10 → d ≡ digit_of x → text' ≡ sets text to (d ∷ []) → Written (decimal x) to text text' (to + 1)
one_written text text' to x d h e f =
    let k : decimal x ≡ d ∷ [] = decimal_one x h ∙ ap (λ n. n ∷ []) (sym e) in
    record { place = ap (λ l. to + length l) (sym k); stored = f ∙ ap (sets text to) (sym k) }

-- any other behind its tenth
pub more_written : (text mid text' : List ℕ) (to at x d : ℕ) → 10 ≤ x → d ≡ digit_of (x % 10) → Written (decimal (x / 10)) to text mid at → text' ≡ sets mid at (d ∷ []) → Written (decimal x) to text text' (at + 1)
more_written text mid text' to at x d h e w f =
    let a : at + 1 ≡ to + length (decimal x) = omega (arith, w.place, longer x h) in
    let k : decimal x ≡ decimal (x / 10) ++ (d ∷ []) = decimal_more x h ∙ ap (λ n. decimal (x / 10) ++ (n ∷ [])) (sym e) in
    record { place = a; stored = rw (f, w.place, w.stored) (sym (ap (sets text to) k ∙ sets_append text to (decimal (x / 10)) (d ∷ []))) }

-- two digits a byte
pub length_hexadecimal : (bytes : List ℕ) → length (hexadecimal bytes) ≡ 2 * length bytes
unfolding hexadecimal
length_hexadecimal [] = refl
length_hexadecimal (b ∷ bytes) = omega (arith, length_hexadecimal bytes)
