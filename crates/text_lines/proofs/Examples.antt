-- The definitions, computed: document 01's lines.
use mathlib.Core.Path.{◌≡◌, refl}
use mathlib.Core.List.{[], ◌∷◌}
use Rattle.text.specs.Digits.{letters, digit_of, digits_of, decimal, hexadecimal}
use Rattle.text_lines.specs.Lines.{refused_line, checked_line, numbers_line, lowered_lines, answer_lines}

rewritten : answer_lines (0 ∷ 0 ∷ 1 ∷ 1 ∷ 1 ∷ 0 ∷ 0 ∷ 0 ∷ 0 ∷ 2 ∷ []) (2 ∷ 10 ∷ 0 ∷ []) ≡ letters "1 1 1 0 0 0 0\n020a\n"
unfolding answer_lines lowered_lines numbers_line hexadecimal decimal digits_of digit_of
rewritten = refl

no_room : answer_lines (11 ∷ 0 ∷ 0 ∷ 0 ∷ 0 ∷ 0 ∷ 0 ∷ 0 ∷ 0 ∷ 0 ∷ []) [] ≡ letters "refused 11 0\n"
unfolding answer_lines refused_line decimal digits_of digit_of
no_room = refl

cut_off : checked_line 1 54 ≡ letters "refused 1 54\n"
unfolding checked_line refused_line decimal digits_of digit_of
cut_off = refl
