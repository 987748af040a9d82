-- Numbers and bytes as text. A text is the list of its characters' codes: plain ASCII, so that a character is a byte.
use Rattle.std.specs.Prelude.{ℕ, zero, suc, ◌/◌, ◌%◌, List, [], ◌∷◌, ◌++◌, Bool, true, false, get_or, ltb}
use Prim.Native.Char.{code}
use Prim.Native.String.{String, [] as []ˢ, ◌∷◌ as ◌∷ˢ◌}

-- the codes of the characters
abbrev pub letters : String → List ℕ
letters []ˢ = []
letters (c ∷ˢ s) = code c ∷ letters s

-- a digit below 16, in lower case
unfoldable pub digit_of : ℕ → ℕ
digit_of d = get_or (letters "0123456789abcdef") d 0

-- what stands in front of a number's last digit: nothing where the number is below ten
abbrev pub front : Bool → (Unit {0} → List ℕ) → List ℕ
front true rest = []
front false rest = rest tt

-- at most so many digits of a number: those of its tenth, and the last one
unfoldable pub digits_of : ℕ → ℕ → List ℕ
digits_of zero x = []
digits_of (suc most) x = front (ltb x 10) (λ _. digits_of most (x / 10)) ++ (digit_of (x % 10) ∷ [])

-- a number in decimal, without leading zeros. It has fewer digits than x + 1, so that none is left out
unfoldable pub decimal : ℕ → List ℕ
decimal x = digits_of (suc x) x

-- bytes in hexadecimal, two digits a byte
unfoldable pub hexadecimal : List ℕ → List ℕ
hexadecimal [] = []
hexadecimal (b ∷ bs) = digit_of (b / 16) ∷ digit_of (b % 16) ∷ hexadecimal bs
