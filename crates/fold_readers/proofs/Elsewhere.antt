-- A family is read elsewhere where some member's reader is another block, or several are.
use Prim.Native.Nat.{ℕ, zero, suc, ◌+◌, ◌<◌}
use mathlib.Core.Path.{◌≡◌, refl, ap, ◌∙◌, sym}
use mathlib.Core.List.{List, [], ◌∷◌}
use mathlib.Core.Bool.{Bool, true, false, cond, not, ◌&&◌, ◌||◌, or-false, or_assoc}
use native.Mathlib.Omega.{arith}
use borrow.Author.Tests.{eqb-true, eqb-false, eq-eqb, ne_eqb}
use lib.ListN.{length, get_or, set, replicate, length-set, length-replicate}
use lib.Dec.{eqb}
use Rattle.std.specs.List.{list_any, zip}
use Rattle.std.proofs.lemmas.List.{length-map}
use Rattle.mir.specs.declared.ValueId.{ValueId}
use Rattle.mir.specs.Syntax.{InstructionKind, Instruction, Block}
use Rattle.mir.specs.Reads.{reads, counted, terminator_reads}
use Rattle.mir.specs.Lookup.{any}
use Rattle.fold.specs.Family.{Marks, marked, reads_one, read_elsewhere}
use Rattle.fold_family.specs.Copies.{meets}
use Rattle.fold_family.specs.Search.{Members}
use Rattle.fold_family.proofs.Dynamic.{meets_clear, meets_set}
use Rattle.fold_readers.specs.Readers.{seen_by, note_reader, read_via, read_instruction, read_instructions, read_block, read_blocks, foreign, foreigners, ReadElsewhere, MemberAbroad}

-- what a read in block k makes of a number, as block own sees it
seen_foreign : (own k x : ℕ) → own < 254 → foreign own (seen_by k x) ≡ cond (eqb k own) (foreign own x) true
seen_foreign own k x l = zeros (eqb x 0) refl
  where
    next : (k ≡ own → ⊥) → foreign own (k + 1) ≡ true
    next h = let a : (k + 1 ≡ 0 → ⊥) = λ z. omega arith in let b : (k + 1 ≡ own + 1 → ⊥) = λ z. h (omega arith) in rw (ne_eqb (k + 1) 0 a, ne_eqb (k + 1) (own + 1) b)

    zeros : (b : Bool) → eqb x 0 ≡ b → foreign own (cond b (k + 1) (cond (eqb x (k + 1)) x 255)) ≡ cond (eqb k own) (foreign own x) true
    zeros true e = side (eqb k own) refl
      where
        side : (c : Bool) → eqb k own ≡ c → foreign own (k + 1) ≡ cond c (foreign own x) true
        side true f = let z : k ≡ own = eqb-true k own f in let a : (own + 1 ≡ 0 → ⊥) = λ y. omega arith in rw (z, e, ne_eqb (own + 1) 0 a, eq-eqb (own + 1) (own + 1) refl)
        side false f = next (eqb-false k own f)
    zeros false e = same (eqb x (k + 1)) refl
      where
        same : (c : Bool) → eqb x (k + 1) ≡ c → foreign own (cond c x 255) ≡ cond (eqb k own) (foreign own x) true
        same true f = side (eqb k own) refl
          where
            side : (d : Bool) → eqb k own ≡ d → foreign own x ≡ cond d (foreign own x) true
            side true g = refl
            side false g = let z : x ≡ k + 1 = eqb-true x (k + 1) f in rw z (next (eqb-false k own g))
        same false f = many (eqb k own) refl
          where
            several : foreign own 255 ≡ true
            several = let a : (255 ≡ own + 1 → ⊥) = λ z. omega arith in rw (ne_eqb 255 (own + 1) a)

            many : (d : Bool) → eqb k own ≡ d → foreign own 255 ≡ cond d (foreign own x) true
            many true g = let z : k ≡ own = eqb-true k own g in let b : eqb x (own + 1) ≡ false = rw z at f in several ∙ sym (rw (e, b))
            many false g = several

-- what it makes of the table
note_foreign : (own k : ℕ) (r : List ℕ) (v : ℕ) → own < 254 → foreigners own (note_reader k r v) ≡ cond (eqb k own) (foreigners own r) (set (foreigners own r) v true)
note_foreign own k [] v l = go (eqb k own)
  where
    go : (b : Bool) → ◌≡◌ {A = List Bool} [] (cond b [] [])
    go true = refl
    go false = refl
note_foreign own k (x ∷ r) zero l = ap (λ y. y ∷ foreigners own r) (seen_foreign own k x l) ∙ go (eqb k own)
  where
    go : (b : Bool) → cond b (foreign own x) true ∷ foreigners own r ≡ cond b (foreigners own (x ∷ r)) (true ∷ foreigners own r)
    go true = refl
    go false = refl
note_foreign own k (x ∷ r) (suc v) l = ap (λ y. foreign own x ∷ y) (note_foreign own k r v l) ∙ go (eqb k own)
  where
    go : (b : Bool) → foreign own x ∷ cond b (foreigners own r) (set (foreigners own r) v true) ≡ cond b (foreigners own (x ∷ r)) (foreign own x ∷ set (foreigners own r) v true)
    go true = refl
    go false = refl

-- reads keep the table's length
via_length : (own : ℕ) (r : List ℕ) (vs : List ValueId) → length (read_via own r vs) ≡ length r
unfolding read_via
via_length own r [] = refl
via_length own r (v ∷ vs) = via_length own (note_reader own r v.0) vs ∙ length-set r v.0 (seen_by own (get_or r v.0 0))

instruction_length : (own : ℕ) (r : List ℕ) (i : InstructionKind) → length (read_instruction own r i) ≡ length r
instruction_length own r i = go (counted false i)
  where
    go : (b : Bool) → length (cond b (read_via own r (reads i)) r) ≡ length r
    go true = via_length own r (reads i)
    go false = refl

instructions_length : (own : ℕ) (r : List ℕ) (is : List Instruction) → length (read_instructions own r is) ≡ length r
unfolding read_instructions
instructions_length own r [] = refl
instructions_length own r (i ∷ is) = instructions_length own (read_instruction own r i.kind) is ∙ instruction_length own r i.kind

-- a law of and, or
spread : (x g a b : Bool) → ((x || (g && a)) || (g && b)) ≡ (x || (g && (a || b)))
spread x true a b = or_assoc x a b
spread x false a b = or_assoc x false false

-- whether a member is read elsewhere, behind each of these
module _ (m : Marks) (own : ℕ) (l : own < 254) where
  abbrev seen : List ℕ → Bool
  seen r = meets m (foreigners own r)

  one_read : (k : ℕ) (r : List ℕ) (v : ValueId) → length r ≡ length m → seen (note_reader k r v.0) ≡ (seen r || (not (eqb k own) && marked m v))
  one_read k r v h = ap (λ d. meets m d) (note_foreign own k r v.0 l) ∙ go (eqb k own)
    where
      go : (b : Bool) → meets m (cond b (foreigners own r) (set (foreigners own r) v.0 true)) ≡ (seen r || (not b && marked m v))
      go true = sym (or-false (seen r))
      go false = meets_set m (foreigners own r) v.0 (length-map r (λ x. foreign own x) ∙ h)

  via_read : (k : ℕ) (r : List ℕ) (vs : List ValueId) → length r ≡ length m → seen (read_via k r vs) ≡ (seen r || (not (eqb k own) && any (marked m) vs))
  unfolding read_via any
  via_read k r [] h = go (not (eqb k own))
    where
      go : (b : Bool) → seen r ≡ (seen r || (b && false))
      go true = sym (or-false (seen r))
      go false = sym (or-false (seen r))
  via_read k r (v ∷ vs) h =
      via_read k (note_reader k r v.0) vs (length-set r v.0 (seen_by k (get_or r v.0 0)) ∙ h)
      ∙ ap (λ x. x || (not (eqb k own) && any (marked m) vs)) (one_read k r v h)
      ∙ spread (seen r) (not (eqb k own)) (marked m v) (any (marked m) vs)

  instruction_read : (k : ℕ) (r : List ℕ) (i : InstructionKind) → length r ≡ length m → seen (read_instruction k r i) ≡ (seen r || (not (eqb k own) && (counted false i && any (marked m) (reads i))))
  instruction_read k r i h = go (counted false i) (via_read k r (reads i) h)
    where
      go : (b : Bool) → seen (read_via k r (reads i)) ≡ (seen r || (not (eqb k own) && any (marked m) (reads i))) → seen (cond b (read_via k r (reads i)) r) ≡ (seen r || (not (eqb k own) && (b && any (marked m) (reads i))))
      go true e = e
      go false e = side (not (eqb k own))
        where
          side : (c : Bool) → seen r ≡ (seen r || (c && false))
          side true = sym (or-false (seen r))
          side false = sym (or-false (seen r))

  instructions_read : (k : ℕ) (r : List ℕ) (is : List Instruction) → length r ≡ length m → seen (read_instructions k r is) ≡ (seen r || (not (eqb k own) && any (λ i. counted false i.kind && any (marked m) (reads i.kind)) is))
  unfolding read_instructions any
  instructions_read k r [] h = go (not (eqb k own))
    where
      go : (b : Bool) → seen r ≡ (seen r || (b && false))
      go true = sym (or-false (seen r))
      go false = sym (or-false (seen r))
  instructions_read k r (i ∷ is) h =
      instructions_read k (read_instruction k r i.kind) is (instruction_length k r i.kind ∙ h)
      ∙ ap (λ x. x || (not (eqb k own) && any (λ i. counted false i.kind && any (marked m) (reads i.kind)) is)) (instruction_read k r i.kind h)
      ∙ spread (seen r) (not (eqb k own)) (counted false i.kind && any (marked m) (reads i.kind)) (any (λ i. counted false i.kind && any (marked m) (reads i.kind)) is)

  block_read : (k : ℕ) (r : List ℕ) (x : Block) → length r ≡ length m → seen (read_block k r x) ≡ (seen r || (not (eqb k own) && reads_one m x))
  unfolding reads_one
  block_read k r x h =
      via_read k (read_instructions k r x.instructions) (terminator_reads x.terminator) (instructions_length k r x.instructions ∙ h)
      ∙ ap (λ y. y || (not (eqb k own) && any (marked m) (terminator_reads x.terminator))) (instructions_read k r x.instructions h)
      ∙ spread (seen r) (not (eqb k own)) (any (λ i. counted false i.kind && any (marked m) (reads i.kind)) x.instructions) (any (marked m) (terminator_reads x.terminator))

  blocks_read : (at : ℕ) (r : List ℕ) (ks : List Block) → length r ≡ length m → seen (read_blocks at r ks) ≡ (seen r || read_elsewhere m own at ks)
  unfolding read_blocks read_elsewhere
  blocks_read at r [] h = sym (or-false (seen r))
  blocks_read at r (x ∷ ks) h =
      blocks_read (suc at) (read_block at r x) ks (via_length at (read_instructions at r x.instructions) (terminator_reads x.terminator) ∙ instructions_length at r x.instructions ∙ h)
      ∙ ap (λ y. y || read_elsewhere m own (suc at) ks) (block_read at r x h)
      ∙ or_assoc (seen r) (not (eqb at own) && reads_one m x) (read_elsewhere m own (suc at) ks)

-- at first no value is read
foreign_none : (own n : ℕ) → foreigners own (replicate n 0) ≡ replicate n false
foreign_none own zero = refl
foreign_none own (suc n) = ap (λ y. false ∷ y) (foreign_none own n)

-- the table of all blocks says where a family is read
elsewhere : (m : Marks) (own n : ℕ) (ks : List Block) → own < 254 → length m ≡ n → meets m (foreigners own (read_blocks 0 (replicate n 0) ks)) ≡ read_elsewhere m own 0 ks
elsewhere m own n ks l h =
    blocks_read m own l 0 (replicate n 0) ks (length-replicate n 0 ∙ sym h)
    ∙ ap (λ d. meets m d || read_elsewhere m own 0 ks) (foreign_none own n)
    ∙ ap (λ b. b || read_elsewhere m own 0 ks) (meets_clear m n)

-- a stand-in for what there is no number for
foreign_of : (own : ℕ) (r : List ℕ) (k : ℕ) → get_or (foreigners own r) k false ≡ foreign own (get_or r k 0)
foreign_of own [] k = refl
foreign_of own (x ∷ r) zero = refl
foreign_of own (x ∷ r) (suc k) = foreign_of own r k

-- what the code looks up for each member: its number, and what it says
pub any_foreign : (own : ℕ) (reader : List ℕ) (member : ℕ → ℕ) (places : List ℕ)
    → list_any (λ k. foreign own (get_or reader (member k) 0)) places ≡ list_any (λ k. get_or (foreigners own reader) (member k) false) places
any_foreign own reader member [] = refl
any_foreign own reader member (k ∷ ks) = rw (foreign_of own reader (member k), any_foreign own reader member ks) refl

-- and for each mark
pub zip_foreign : (own : ℕ) (m : Marks) (reader : List ℕ) → list_any (λ p. p.0 && foreign own p.1) (zip m reader) ≡ meets m (foreigners own reader)
unfolding meets
zip_foreign own [] reader = refl
zip_foreign own (a ∷ m) [] = refl
zip_foreign own (a ∷ m) (x ∷ reader) = ap (λ y. (a && foreign own x) || y) (zip_foreign own m reader)

-- what it looks up for value k, by its mark
pub abroad_meets : (m : Marks) (own : ℕ) (reader : List ℕ) (k : ℕ) {r : Bool}
    → r ≡ (get_or m k false && foreign own (get_or reader k 0)) → r ≡ (get_or m k false && get_or (foreigners own reader) k false)
abroad_meets m own reader k e = e ∙ ap (λ y. get_or m k false && y) (sym (foreign_of own reader k))

-- and so the code's answers are the definition's
pub elsewhere_found : (m : Marks) (own : ℕ) (reader : List ℕ) {r : Bool}
    → own < 254 → r ≡ meets m (foreigners own reader) → (r ≡ meets m (foreigners own reader)) × ReadElsewhere m own reader r
elsewhere_found m own reader l e = (e, λ n ks f h. e ∙ ap (λ q. meets m (foreigners own q)) f ∙ elsewhere m own n ks l h)

pub abroad_found : (members : List ℕ) (n own : ℕ) (reader : List ℕ) {r : Bool}
    → own < 254 → ((m : Marks) → Members members n m → r ≡ meets m (foreigners own reader)) → MemberAbroad members n own reader r
abroad_found members n own reader l f m ks a e = f m a ∙ ap (λ q. meets m (foreigners own q)) e ∙ elsewhere m own (length m) ks l refl
