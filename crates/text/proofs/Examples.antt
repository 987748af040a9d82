-- The definitions, computed.
use mathlib.Core.Path.{◌≡◌, refl}
use mathlib.Core.List.{[], ◌∷◌}
use Rattle.text.specs.Digits.{letters, digit_of, digits_of, decimal, hexadecimal}

nothing : decimal 0 ≡ letters "0"
unfolding decimal digits_of digit_of
nothing = refl

zeros_inside : decimal 90010 ≡ letters "90010"
unfolding decimal digits_of digit_of
zeros_inside = refl

largest : decimal 18446744073709551615 ≡ letters "18446744073709551615"
unfolding decimal digits_of digit_of
largest = refl

bytes : hexadecimal (0 ∷ 10 ∷ 175 ∷ 255 ∷ []) ≡ letters "000aafff"
unfolding hexadecimal digit_of
bytes = refl
