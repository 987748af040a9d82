-- The loops over the instructions of a block and over the blocks.
use Prim.Native.Nat.{ℕ, suc, ◌+◌, ◌≤◌, ◌<◌}
use mathlib.Core.Path.{◌≡◌, ap, ◌∙◌, sym}
use mathlib.Core.List.{List, ◌∷◌}
use native.Mathlib.Numerals.{add-one}
use native.Mathlib.Omega.{arith}
use lib.ListN.{length, get_or, drop}
use lib.Seq.{drop-cons, drop-length}
use Rattle.mir.specs.declared.ValueId.{ValueId}
use Rattle.mir.specs.Syntax.{Instruction, Block}
use Rattle.mir.specs.Reads.{terminator_reads}
use Rattle.bytes_field.specs.declared.Bounds.{Bounds}
use Rattle.bytes_index.specs.Table.{ReadsIn}
use Rattle.bytes_index.specs.declared.slots.Slots.{Slots}
use Rattle.bytes_index.specs.Code.{no_instruction, no_block, InstructionIn, InstructionsIn, BlockIn, CodeIn, SlotsOf}
use Rattle.fold_readers.specs.Readers.{read_via, read_instruction, read_instructions, read_block, read_blocks}

-- k instructions of a block have noted their reads
module _ (own : ℕ) (facts : List ℕ) (slots : Slots) where
  pub record Reading (r₀ r : List ℕ) (k : ℕ) : Type 0 where
    pub under : k ≤ slots.count
    pub left : (b : Bounds) (s : List ℕ) (is : List Instruction) → InstructionsIn b s facts slots.first is → length is ≡ slots.count → read_instructions own r₀ is ≡ read_instructions own r (drop k is)

  pub reading_again : (r₀ r r' : List ℕ) (k : ℕ) → Reading r₀ r k → k < slots.count → ((b : Bounds) (s : List ℕ) (i : Instruction) → InstructionIn b s facts (slots.first + k) i → r' ≡ read_instruction own r i.kind) → Reading r₀ r' (k + 1)
  unfolding read_instructions
  reading_again r₀ r r' k u h f =
      record {
        under = omega arith;
        left = λ b s is a m.
            let p : k < length is = omega arith in
            let q : drop k is ≡ get_or is k no_instruction ∷ drop (k + 1) is = rw (add-one k) (drop-cons is k no_instruction p) in
            u.left b s is a m ∙ ap (λ y. read_instructions own r y) q ∙ ap (λ y. read_instructions own y (drop (k + 1) is)) (sym (f b s _ (a k p)));
      }

  pub reading_done : (r₀ r r' : List ℕ) (k : ℕ) → Reading r₀ r k → slots.count ≤ k → ((vs : List ValueId) → ReadsIn facts (slots.first + slots.count) vs → r' ≡ read_via own r vs) → (b : Bounds) (s : List ℕ) (x : Block) → BlockIn b s facts slots.first x → length x.instructions ≡ slots.count → r' ≡ read_block own r₀ x
  unfolding read_instructions
  reading_done r₀ r r' k u h f b s x a m =
      let is = x.instructions in
      let q : k ≡ length is = omega (arith, u.under) in
      let e : r ≡ read_instructions own r₀ is = sym (u.left b s is a.instructions m ∙ ap (λ y. read_instructions own r (drop y is)) q ∙ ap (λ y. read_instructions own r y) (drop-length is)) in
      f (terminator_reads x.terminator) (rw (← m) a.terminator.reads_in) ∙ ap (λ y. read_via own y (terminator_reads x.terminator)) e

-- k blocks have noted their reads
module _ (facts : List ℕ) (many : ℕ) where
  pub record Noting (r₀ r : List ℕ) (k : ℕ) : Type 0 where
    pub under : k ≤ many
    pub left : (b : Bounds) (s : List ℕ) (xs : List Block) → CodeIn b s facts xs → length xs ≡ many → many < 254 → read_blocks 0 r₀ xs ≡ read_blocks k r (drop k xs)

  pub noting_again : (r₀ r r' : List ℕ) (k own : ℕ) (slots : Slots)
      → Noting r₀ r k
      → k < many
      → (k < 254 → own ≡ k)
      → SlotsOf facts k slots
      → ((b : Bounds) (s : List ℕ) (x : Block) → BlockIn b s facts slots.first x → length x.instructions ≡ slots.count → r' ≡ read_block own r x)
      → Noting r₀ r' (k + 1)
  unfolding read_blocks
  noting_again r₀ r r' k own slots u h eo es g =
      record {
        under = omega arith;
        left = λ b s xs a l f.
            let x = get_or xs k no_block in
            let p : k < length xs = omega arith in
            let (ef, ec) = es b s xs a p in
            let q : drop k xs ≡ x ∷ drop (k + 1) xs = rw (add-one k) (drop-cons xs k no_block p) in
            let z : r' ≡ read_block k r x = g b s x (rw ef (a.each k p)) (sym ec) ∙ ap (λ y. read_block y r x) (eo (omega arith)) in
            u.left b s xs a l f ∙ ap (λ y. read_blocks k r y) q ∙ ap (λ y. read_blocks (suc k) y (drop (k + 1) xs)) (sym z) ∙ ap (λ y. read_blocks y r' (drop (k + 1) xs)) (sym (add-one k));
      }

  pub noting_done : (r₀ r : List ℕ) (k : ℕ) → Noting r₀ r k → many ≤ k → (b : Bounds) (s : List ℕ) (xs : List Block) → CodeIn b s facts xs → length xs ≡ many → many < 254 → r ≡ read_blocks 0 r₀ xs
  unfolding read_blocks
  noting_done r₀ r k u h b s xs a l f =
      let q : k ≡ length xs = omega (arith, u.under) in
      sym (u.left b s xs a l f ∙ ap (λ y. read_blocks k r (drop y xs)) q ∙ ap (λ y. read_blocks k r y) (drop-length xs))
