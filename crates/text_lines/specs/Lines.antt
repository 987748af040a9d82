-- The lines that the programs print.
use Rattle.std.specs.Prelude.{ℕ, zero, suc, List, [], ◌∷◌, ◌++◌, cond, length, get_or, take, drop, eqb}
use Rattle.text.specs.Digits.{letters, decimal, hexadecimal}

-- a refusal: the word, its number and its offset
unfoldable pub refused_line : ℕ → ℕ → List ℕ
refused_line number offset = letters "refused " ++ (decimal number ++ (letters " " ++ (decimal offset ++ letters "\n")))

-- whether bytes are a routine: refusal number 0 is none
unfoldable pub checked_line : ℕ → ℕ → List ℕ
checked_line number offset = cond (eqb number 0) (letters "accepted\n") (refused_line number offset)

-- what stands behind a number of a line: a blank where more follow, and a newline behind the last
abbrev pub behind : ℕ → List ℕ
behind zero = letters "\n"
behind (suc more) = letters " "

-- numbers in decimal with single blanks
unfoldable pub numbers_line : List ℕ → List ℕ
numbers_line [] = []
numbers_line (x ∷ xs) = (decimal x ++ behind (length xs)) ++ numbers_line xs

-- what is rewritten: a line of numbers, and the bytes in hexadecimal
unfoldable pub lowered_lines : List ℕ → List ℕ → List ℕ
lowered_lines numbers bytes = numbers_line numbers ++ (hexadecimal bytes ++ letters "\n")

-- the ten numbers of an answer and the output: refusal number and offset; result, five counts, shelf reason; how much of the output is meant
unfoldable pub answer_lines : List ℕ → List ℕ → List ℕ
answer_lines ns out =
    cond (eqb (get_or ns 0 0) 0)
    (lowered_lines (take 7 (drop 2 ns)) (take (get_or ns 9 0) out))
    (refused_line (get_or ns 0 0) (get_or ns 1 0))

-- what was replayed
unfoldable pub replayed_line : ℕ → ℕ → List ℕ
replayed_line rows others = decimal rows ++ (letters " stored answers, " ++ (decimal others ++ letters " otherwise\n"))

-- How long the lines are: the characters of a number of 64 bits with what stands behind it; of the two lines beside the digits of the bytes; of the
-- others at most
abbrev pub number_width : ℕ
number_width = 21

abbrev pub lowered_width : ℕ
lowered_width = 148

abbrev pub checked_width : ℕ
checked_width = 50

abbrev pub replayed_width : ℕ
replayed_width = 69

-- a line has fewer numbers than this, and fewer bytes are written
abbrev pub numbers_room : ℕ
numbers_room = 1048576

abbrev pub bytes_room : ℕ
bytes_room = 268435456
