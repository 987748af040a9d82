-- Lines of numbers, one number after another.
use Prim.Native.Nat.{ℕ, zero, suc, ◌+◌, ◌-◌, ◌≤◌, ◌<◌, min}
use mathlib.Core.Path.{◌≡◌, refl, ap, ◌∙◌, sym}
use mathlib.Core.List.{List, ◌++◌}
use mathlib.Core.Bool.{Bool, true, false}
use native.Mathlib.Nat.{min-eq_left, min-eq_right, le_of_lt}
use native.Mathlib.Numerals.{add-one}
use lib.ListN.{length, get_or, take, drop, length-drop, drop_of_length-le}
use lib.Seq.{drop-cons, take-length, take_all}
use lib.Dec.{ltb}
use borrow.Author.Tests.{ltb-true, ltb-false, eq-eqb, ne_eqb}
use Rattle.text.specs.Digits.{letters, decimal}
use Rattle.text.specs.Written.{Written}
use Rattle.text.proofs.Writing.{Writing, writing_on, writing_done, written_behind}
use Rattle.text_lines.specs.Lines.{refused_line, checked_line, behind, numbers_line, lowered_lines, answer_lines}

-- it is one character
pub behind_one : (more : ℕ) → length (behind more) ≡ 1
behind_one zero = refl
behind_one (suc more) = refl

-- the number at i comes first of those that are left
first_left : (ns : List ℕ) (i : ℕ) → i < length ns → numbers_line (drop i ns) ≡ (decimal (get_or ns i 0) ++ behind (length ns - (i + 1))) ++ numbers_line (drop (i + 1) ns)
unfolding numbers_line
first_left ns i h =
    let e : numbers_line (drop i ns) ≡ (decimal (get_or ns i 0) ++ behind (length (drop (suc i) ns))) ++ numbers_line (drop (suc i) ns) = ap numbers_line (drop-cons ns i 0 h) in
    rw (add-one i, ← length-drop (suc i) ns) e

-- one number more is written
pub numbers_on : (ns text₀ text mid text' : List ℕ) (at end at' i : ℕ) → i < length ns → Writing (numbers_line ns) (numbers_line (drop i ns)) text₀ text 0 at → Written (decimal (get_or ns i 0)) at text mid end → Written (behind (length ns - (i + 1))) end mid text' at' → Writing (numbers_line ns) (numbers_line (drop (i + 1) ns)) text₀ text' 0 at'
numbers_on ns text₀ text mid text' at end at' i h w p q =
    writing_on _ _ _ _ _ _ w (decimal (get_or ns i 0) ++ behind (length ns - (i + 1))) _ text' at' (first_left ns i h) (written_behind p q)

-- all are written
pub numbers_done : (ns text₀ text : List ℕ) (at i : ℕ) → length ns ≤ i → Writing (numbers_line ns) (numbers_line (drop i ns)) text₀ text 0 at → Written (numbers_line ns) 0 text₀ text at
unfolding numbers_line
numbers_done ns text₀ text at i h w = writing_done _ _ _ _ _ _ w (ap numbers_line (drop_of_length-le ns h))

-- what is accepted, and what is refused
pub line_accepted : (number offset : ℕ) → number ≡ 0 → letters "accepted\n" ≡ checked_line number offset
unfolding checked_line
line_accepted number offset e = rw e refl

pub line_refused : (number offset : ℕ) → (number ≡ 0 → ⊥) → refused_line number offset ≡ checked_line number offset
unfolding checked_line
line_refused number offset h = rw (ne_eqb number 0 h) refl

-- so much of a list, or all of it
least_by : (n : ℕ) (l : List ℕ) (b : Bool) → ltb n (length l) ≡ b → take (min n (length l)) l ≡ take n l
least_by n l true e = ap (λ k. take k l) (min-eq_left (le_of_lt (ltb-true n (length l) e)))
least_by n l false e = ap (λ k. take k l) (min-eq_right (ltb-false n (length l) e)) ∙ take-length l ∙ sym (take_all n l (ltb-false n (length l) e))

take_least : (n : ℕ) (l : List ℕ) → take (min n (length l)) l ≡ take n l
take_least n l = least_by n l (ltb n (length l)) refl

-- the lines of a refusal, and of a routine
pub answer_refused : (ns out : List ℕ) → (get_or ns 0 0 ≡ 0 → ⊥) → refused_line (get_or ns 0 0) (get_or ns 1 0) ≡ answer_lines ns out
unfolding answer_lines
answer_refused ns out h = rw (ne_eqb (get_or ns 0 0) 0 h) refl

pub answer_lowered : (ns out : List ℕ) → get_or ns 0 0 ≡ 0 → lowered_lines (take 7 (drop 2 ns)) (take (get_or ns 9 0) out) ≡ answer_lines ns out
unfolding answer_lines
answer_lowered ns out e = rw (eq-eqb (get_or ns 0 0) 0 e) refl

-- as the code takes the bytes
pub answer_taken : (ns out : List ℕ) (n : ℕ) → get_or ns 0 0 ≡ 0 → n ≡ min (get_or ns 9 0) (length out) → lowered_lines (take 7 (drop 2 ns)) (take n out) ≡ answer_lines ns out
answer_taken ns out n e f = ap (lowered_lines (take 7 (drop 2 ns))) (ap (λ k. take k out) f ∙ take_least (get_or ns 9 0) out) ∙ answer_lowered ns out e
