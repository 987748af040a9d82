-- What is written at the head of a text's last part is written at the part's place.
use Prim.Native.Nat.{ℕ, zero, suc, ◌+◌, ◌-◌, ◌≤◌}
use mathlib.Core.Path.{◌≡◌, refl, ap, ◌∙◌, sym}
use mathlib.Core.List.{List, [], ◌∷◌, ◌++◌, append-nil}
use native.Mathlib.Omega.{arith}
use lib.ListN.{length, set, take, drop, length-drop, drop_of_length-le}
use lib.Seq.{sets, take_all}
use borrow.Rule.Slice.PartMut.{mid_of, put_mid}
use Rattle.text.specs.Written.{Written}

sets_nothing : (i : ℕ) (bytes : List ℕ) → sets [] i bytes ≡ []
sets_nothing i [] = refl
sets_nothing i (b ∷ bytes) = sets_nothing (suc i) bytes

sets_behind : (x : ℕ) (l : List ℕ) (i : ℕ) (bytes : List ℕ) → sets (x ∷ l) (suc i) bytes ≡ x ∷ sets l i bytes
sets_behind x l i [] = refl
sets_behind x l i (b ∷ bytes) = sets_behind x (set l i b) (suc i) bytes

sets_part : (at : ℕ) (text bytes : List ℕ) → take at text ++ sets (drop at text) 0 bytes ≡ sets text at bytes
sets_part zero text bytes = refl
sets_part (suc at) [] bytes = rw (sets_nothing 0 bytes, sets_nothing (suc at) bytes) refl
sets_part (suc at) (x ∷ text) bytes = ap (λ l. x ∷ l) (sets_part at text bytes) ∙ sym (sets_behind x text at bytes)

-- so long is that part
pub part_length : (text : List ℕ) (at : ℕ) → length (mid_of at (length text - at) text) ≡ length text - at
part_length text at =
    let e = length-drop at text in
    ap length (take_all (length text - at) (drop at text) (omega arith)) ∙ e

pub part_written : (bytes text part : List ℕ) (at k r : ℕ) → k ≡ length text - at → Written bytes 0 (mid_of at k text) part r
    → Written bytes at text (put_mid at k text part) (at + r)
part_written bytes text part at k r e w =
    let long : length (drop at text) ≤ k = omega (arith, length-drop at text) in
    let all : mid_of at k text ≡ drop at text = take_all k (drop at text) long in
    let none : drop k (drop at text) ≡ [] = drop_of_length-le (drop at text) long in
    let so : part ≡ sets (drop at text) 0 bytes = w.stored ∙ ap (λ l. sets l 0 bytes) all in
    record {
      place = omega (arith, w.place);
      stored = ap (λ l. take at text ++ (part ++ l)) none ∙ ap (λ l. take at text ++ l) (append-nil part ∙ so) ∙ sets_part at text bytes;
    }
