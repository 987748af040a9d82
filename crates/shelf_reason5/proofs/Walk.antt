-- The walk over a block's bytes, instruction after instruction.
use Prim.Native.Nat.{ℕ, ◌+◌, ◌≤◌, ◌<◌, zero-le}
use mathlib.Core.Path.{◌≡◌, refl, ap, ◌∙◌, sym}
use mathlib.Core.List.{List, [], ◌∷◌, ◌++◌, append_assoc}
use mathlib.Core.Bool.{Bool, true, false, ◌&&◌}
use native.Mathlib.Omega.{arith}
use lib.ListN.{length, drop, take, length-drop, length-append}
use lib.Seq.{drop-drop, drop_at}
use Rattle.bytes_wire.specs.Parse.{ok, as_parse}
use Rattle.bytes_wire.specs.declared.Read.{Read}
use Rattle.bytes_wire.specs.declared.Refusal.{Refusal}
use Rattle.bytes_wire.specs.Number.{from_bytes, to_bytes, u16_of, at16}
use Rattle.bytes_wire.proofs.Laws.{from_16}
use Rattle.bytes_wire.proofs.Inv.{no_ok, number_inv}
use Rattle.bytes_wire.proofs.RoundTrip.{length_to_bytes, number_back}
use Rattle.mir.specs.Syntax.{Instruction, Terminator, Block}
use Rattle.mir.specs.Reads.{reads, terminator_reads}
use Rattle.bytes_field.specs.Decode.{instruction_of, terminator_of}
use Rattle.bytes_field.specs.Encode.{each_bytes, instruction_bytes, terminator_bytes}
use Rattle.bytes_field.specs.declared.Bounds.{Bounds}
use Rattle.mir.specs.Lists.{Each}
use Rattle.bytes_block.specs.Encode.{block_bytes}
use Rattle.shelf.specs.Reads.{clean, clean_terminator, with_debug}
use Rattle.shelf_reason5.specs.Unread.{marked, clean_block, walked, Alone, Legible}
use Rattle.std.specs.Prelude.{Option, Some, None, Result, Ok, Err}
use Rattle.std.specs.Result.{result_ok}
use Rattle.std.proofs.lemmas.Option.{none-some, same_Some}
use Rattle.shelf.specs.Lists.{clear}

-- the instructions `is` of a block are left, and stand at `here`
pub record Left (b : Bounds) (s : List ℕ) (at : ℕ) (ms : List Bool) (count k here : ℕ) (x : Block) (rest : List ℕ) (is : List Instruction) : Type 0 where
  pub many : length is + k ≡ count
  pub sound : Each (Alone b) is
  pub bytes : drop here s ≡ each_bytes instruction_bytes is ++ (terminator_bytes x.terminator ++ rest)
  pub end : here + length (each_bytes instruction_bytes is) + length (terminator_bytes x.terminator) ≡ at + length (block_bytes x)
  pub same : clean_block ms x ≡ (clean with_debug (marked ms) is && clean_terminator (marked ms) x.terminator)

pub data SomeLeft (b : Bounds) (s : List ℕ) (at : ℕ) (ms : List Bool) (count k here : ℕ) (x : Block) (rest : List ℕ) : Type 0 where
  some_left : (is : List Instruction) → Left b s at ms count k here x rest is → SomeLeft b s at ms count k here x rest

-- k instructions were walked, and read no marked value
pub record Walking (b : Bounds) (s : List ℕ) (at : ℕ) (ms : List Bool) (count k here : ℕ) : Type 0 where
  pub under : k ≤ count
  pub left : (x : Block) (rest : List ℕ) → drop at s ≡ block_bytes x ++ rest → Legible b x → SomeLeft b s at ms count k here x rest

-- a u16 at a place
word_at : (s : List ℕ) (at x : ℕ) (rest : List ℕ) → x < 65536 → drop at s ≡ to_bytes 2 x ++ rest → (at16 s at ≡ x) × (drop (at + 2) s ≡ rest)
word_at s at x rest h e =
    let n = number_inv 2 (to_bytes 2 x ++ rest) (number_back 2 x rest h) in
    (sym (n.1 ∙ ap (λ t. from_bytes (take 2 t)) (sym e) ∙ from_16 s at), sym (drop-drop 2 at s) ∙ ap (λ t. drop 2 t) e ∙ drop_at (to_bytes 2 x) rest 2 (length_to_bytes 2 x))

-- what is left behind bytes that are known
behind : (s : List ℕ) (here n : ℕ) (a t : List ℕ) → drop here s ≡ a ++ t → n ≡ length a → drop (here + n) s ≡ t
behind s here n a t e h = sym (drop-drop n here s) ∙ ap (λ q. drop n q) e ∙ drop_at a t n (sym h)

-- the block's bytes, its count in front
block_split : (x : Block) (rest : List ℕ) → block_bytes x ++ rest ≡ to_bytes 2 (length x.instructions) ++ (each_bytes instruction_bytes x.instructions ++ (terminator_bytes x.terminator ++ rest))
unfolding block_bytes
block_split x rest =
    let c = to_bytes 2 (length x.instructions) in
    let i = each_bytes instruction_bytes x.instructions in
    let t = terminator_bytes x.terminator in
    append_assoc c (i ++ t) rest ∙ ap (λ q. c ++ q) (append_assoc i t rest)

block_length : (x : Block) → length (block_bytes x) ≡ 2 + (length (each_bytes instruction_bytes x.instructions) + length (terminator_bytes x.terminator))
unfolding block_bytes
block_length x =
    let c = to_bytes 2 (length x.instructions) in
    let i = each_bytes instruction_bytes x.instructions in
    let t = terminator_bytes x.terminator in
    omega (arith, length-append c (i ++ t), length-append i t, length_to_bytes 2 (length x.instructions))

-- the count in front is read: nothing is walked yet
module _ (b : Bounds) (s : List ℕ) (at : ℕ) (ms : List Bool) {t : List ℕ} (r : Result (Read ℕ) Refusal) (e : as_parse r ≡ u16_of t) (h : t ≡ drop at s) where
  count_found : {x : Read ℕ} (q : Result (Read ℕ) Refusal) → as_parse q ≡ u16_of t → result_ok q ≡ Some x → u16_of t ≡ ok x.value x.size
  count_found (Ok y) f z = let p : y ≡ _ = same_Some _ _ z in sym f ∙ ap (λ (v : Read ℕ). ok v.value v.size) p
  count_found (Err y) f z = absurd (none-some _ z)

  pub count_within : {c : Read ℕ} → result_ok r ≡ Some c → at + c.size ≤ length s
  count_within z = let f = number_inv 2 t (count_found r e z) in omega (arith, f.0, f.2, ap (λ (q : List ℕ). length q) h, length-drop at s)

  pub walk_start : {c : Read ℕ} → result_ok r ≡ Some c → Walking b s at ms c.value 0 (at + c.size)
  walk_start {c} z =
      let f = number_inv 2 t (count_found r e z) in
      let n : c.value ≡ at16 s at = f.1 ∙ ap (λ q. from_bytes (take 2 q)) h ∙ from_16 s at in
      let l : at + c.size ≡ at + 2 = omega (arith, f.2) in
      record {
        under = zero-le;
        left = λ x rest g k.
            let w = word_at s at (length x.instructions) _ k.many (g ∙ block_split x rest) in
            some_left x.instructions (record { many = omega (arith, n, w.0); sound = k.each; bytes = rw l w.1; end = omega (arith, l, block_length x); same = refl });
      }

  -- it is always read where a block stands
  unread : (q : Result (Read ℕ) Refusal) → as_parse q ≡ u16_of t → result_ok q ≡ None → {c n : ℕ} → u16_of t ≡ ok c n → ⊥
  unread (Ok y) f z g = none-some _ (sym z)
  unread (Err y) f z g = no_ok (f ∙ g)

  pub no_count : result_ok r ≡ None → (x : Block) (rest : List ℕ) → drop at s ≡ block_bytes x ++ rest → Legible b x → None ≡ walked (clean_block ms x) (at + length (block_bytes x))
  no_count z x rest g k = absurd (unread r e z (ap (λ q. u16_of q) (h ∙ g ∙ block_split x rest) ∙ number_back 2 (length x.instructions) _ k.many))

-- what an answer says
pub end_told : (c : Bool) (e end : ℕ) → Some end ≡ walked c e → (c ≡ true) × (end ≡ e)
end_told true e end h = (refl, same_Some _ _ h)
end_told false e end h = absurd (none-some _ (sym h))

pub reads_told : (c : Bool) (e : ℕ) → None ≡ walked c e → c ≡ false
reads_told true e h = absurd (none-some _ h)
reads_told false e h = refl

-- the next instruction
module _ (b : Bounds) (s : List ℕ) (at : ℕ) (ms : List Bool) (count k here : ℕ) (u : Walking b s at ms count k here) (h : k < count) (r : Option ℕ) (says : (i : Instruction) (n : ℕ) → instruction_of b [] false (drop here s) ≡ ok i n → length (reads i.kind) ≤ 32 → r ≡ walked (clear ms (reads i.kind)) (here + n)) where
  split_left : (i : Instruction) (is : List Instruction) {x : Block} {rest : List ℕ} → Left b s at ms count k here x rest (i ∷ is) → drop here s ≡ instruction_bytes i ++ (each_bytes instruction_bytes is ++ (terminator_bytes x.terminator ++ rest))
  split_left i is {x} {rest} l = l.bytes ∙ append_assoc (instruction_bytes i) (each_bytes instruction_bytes is) (terminator_bytes x.terminator ++ rest)

  says_left : (i : Instruction) (is : List Instruction) {x : Block} {rest : List ℕ} → Left b s at ms count k here x rest (i ∷ is) → r ≡ walked (clear ms (reads i.kind)) (here + length (instruction_bytes i))
  says_left i is l = says i (length (instruction_bytes i)) (ap (λ q. instruction_of b [] false q) (split_left i is l) ∙ l.sound.0.read _) l.sound.0.few

  -- reads a marked value
  reads_left : {x : Block} {rest : List ℕ} (is : List Instruction) → Left b s at ms count k here x rest is → r ≡ None → clean_block ms x ≡ false
  unfolding clean
  reads_left [] l z = absurd (omega (arith, l.many))
  reads_left {x} (i ∷ is) l z =
      let w = reads_told (clear ms (reads i.kind)) _ (sym z ∙ says_left i is l) in
      l.same ∙ ap (λ q. (q && clean with_debug (marked ms) is) && clean_terminator (marked ms) x.terminator) w

  pub walk_reads : r ≡ None → (x : Block) (rest : List ℕ) → drop at s ≡ block_bytes x ++ rest → Legible b x → None ≡ walked (clean_block ms x) (at + length (block_bytes x))
  walk_reads z x rest e f =
      elim (u.left x rest e f) [
        | some_left is l ↦ rw (reads_left is l z)
      ]

  -- reads none: it is left behind
  one_less : {x : Block} {rest : List ℕ} (is : List Instruction) → Left b s at ms count k here x rest is → (end : ℕ) → r ≡ Some end → SomeLeft b s at ms count (k + 1) end x rest
  unfolding clean
  one_less [] l end z = absurd (omega (arith, l.many))
  one_less {x} {rest} (i ∷ is) l end z =
      let a = instruction_bytes i in
      let w = end_told (clear ms (reads i.kind)) (here + length a) end (sym z ∙ says_left i is l) in
      some_left is (record {
        many = omega (arith, l.many);
        sound = l.sound.1;
        bytes = rw w.1 (behind s here (length a) a (each_bytes instruction_bytes is ++ (terminator_bytes x.terminator ++ rest)) (split_left i is l) refl);
        end = omega (arith, l.end, w.1, length-append a (each_bytes instruction_bytes is));
        same = l.same ∙ ap (λ q. (q && clean with_debug (marked ms) is) && clean_terminator (marked ms) x.terminator) w.0;
      })

  pub walk_again : (end : ℕ) → r ≡ Some end → Walking b s at ms count (k + 1) end
  walk_again end z =
      record {
        under = omega arith;
        left = λ x rest e f.
            elim (u.left x rest e f) [
              | some_left is l ↦ one_less is l end z
            ];
      }

-- the terminator
module _ (b : Bounds) (s : List ℕ) (at : ℕ) (ms : List Bool) (count k here : ℕ) (u : Walking b s at ms count k here) (h : count ≤ k) (r : Option ℕ) (says : (x : Terminator) (n : ℕ) → terminator_of b (drop here s) ≡ ok x n → length (terminator_reads x) ≤ 32 → r ≡ walked (clean_terminator (marked ms) x) (here + n)) where
  none_left : {x : Block} {rest : List ℕ} (is : List Instruction) → Left b s at ms count k here x rest is → Legible b x → r ≡ walked (clean_block ms x) (at + length (block_bytes x))
  unfolding clean
  none_left {x} {rest} [] l f =
      let a = terminator_bytes x.terminator in
      let p : terminator_of b (drop here s) ≡ ok x.terminator (length a) = ap (λ q. terminator_of b q) l.bytes ∙ f.last rest in
      let v : here + length a ≡ at + length (block_bytes x) = omega (arith, l.end) in
      rw (l.same, ← v) (says x.terminator (length a) p f.few)
  none_left (i ∷ is) l f = absurd (omega (arith, l.many))

  pub walk_done : (x : Block) (rest : List ℕ) → drop at s ≡ block_bytes x ++ rest → Legible b x → r ≡ walked (clean_block ms x) (at + length (block_bytes x))
  walk_done x rest e f =
      elim (u.left x rest e f) [
        | some_left is l ↦ none_left is l f
      ]
