-- The row of an instruction and of a terminator: the reads are noted in it, then it is ended.
use Prim.Native.Nat.{ℕ, zero, suc, ◌+◌, ◌-◌, ◌*◌, ◌%◌, ◌≤◌, ◌<◌}
use mathlib.Core.Path.{◌≡◌, refl, ap, ◌∙◌, sym}
use mathlib.Core.List.{List, [], ◌∷◌}
use mathlib.Core.Bool.{Bool, true, false, cond}
use native.Mathlib.Nat.{add-zero, le_refl, mod-eq_of_lt}
use native.Mathlib.Omega.{arith}
use borrow.Author.Tests.{lt-ltb}
use lib.ListN.{length, get_or, drop, set, length-set, length-drop}
use lib.Seq.{get_or-set_same, get_or-set_other, get_or-take}
use lib.Dec.{ltb}
use Rattle.bytes_wire.specs.Parse.{ok}
use Rattle.bytes_wire.specs.WellFormed.{Bytes}
use Rattle.mir.specs.declared.ValueId.{ValueId}
use Rattle.bytes_wire.proofs.Laws.{size}
use Rattle.bytes_wire.proofs.Canon.{bytes_drop}
use Rattle.mir.specs.Syntax.{Instruction, Terminator, Block}
use Rattle.mir.specs.Reads.{reads, dests, kind_number, terminator_reads}
use Rattle.bytes_field.specs.Decode.{instruction_of, terminator_of}
use Rattle.bytes_field.specs.Encode.{instruction_bytes}
use Rattle.bytes_field.specs.Walk.{Walk, walk_of, fold, defines, uses, passes, leaves}
use Rattle.bytes_field.specs.declared.Bounds.{Bounds}
use Rattle.bytes_laws.proofs.Instruction.{instruction_canon}
use Rattle.bytes_index.specs.Table.{place_in, end_in, kind_in, ReadsIn}
use Rattle.bytes_index.specs.Code.{InstructionIn, TerminatorIn, InstructionsIn, BlockIn, no_instruction}
use Rattle.bytes_block.specs.Rows.{row_ended, Kept, Tabular, Room}
use Rattle.bytes_block.proofs.Relax.{relax}
use Rattle.bytes_block.proofs.Few.{instruction_few, terminator_few}
use Rattle.bytes_block.proofs.Sizes.{size_instruction, size_terminator}

-- what notes of values leave: nothing before them is changed, and where there is room they stand one behind another
pub record Noted (w : Walk) (vs : List ValueId) (v : Walk) : Type 0 where
  pub long : length v.buffer ≡ length w.buffer
  pub grows : w.count ≤ v.count
  pub same : (j : ℕ) → j < w.count → get_or v.buffer j 0 ≡ get_or w.buffer j 0
  pub many : w.count + length vs ≤ length w.buffer → v.count ≡ w.count + length vs
  pub each : w.count + length vs ≤ length w.buffer → (k : ℕ) → k < length vs → get_or v.buffer (w.count + k) 0 ≡ (get_or vs k (record { 0 = 0 })).0

-- a note takes a place, or none
note_grows : (n : ℕ) (f : Bool) → n ≤ cond f (n + 1) n
note_grows n true = omega arith
note_grows n false = le_refl n

pub noted : (w : Walk) (vs : List ValueId) → Noted w vs (fold uses w vs)
noted w [] = record { long = refl; grows = le_refl w.count; same = λ j h. refl; many = λ h. sym (add-zero w.count); each = λ h k l. absurd (omega arith) }
noted w (v ∷ vs) =
    let l = w.buffer in
    let n = w.count in
    let r = noted (uses w v) vs in
    let up : n ≤ (uses w v).count = note_grows n (ltb n (length l)) in
    let next : n + suc (length vs) ≤ length l → (uses w v).count ≡ n + 1 = λ h. ap (λ f. cond f (n + 1) n) (lt-ltb n (length l) (omega arith)) in
    let room : n + suc (length vs) ≤ length l → (uses w v).count + length vs ≤ length (set l n v.0) = λ h. omega (arith, next h, length-set l n v.0) in
    record {
      long = r.long ∙ length-set l n v.0;
      grows = omega (arith, r.grows);
      same = λ j h. r.same j (omega arith) ∙ get_or-set_other l n j v.0 0 (λ q. omega arith);
      many = λ h. omega (arith, r.many (room h), next h);
      each = λ h. first (fold uses (uses w v) vs).buffer n
          (r.same n (omega (arith, next h)) ∙ get_or-set_same l n v.0 0 (omega arith))
          (λ k q. let z : n + suc k ≡ (uses w v).count + k = omega (arith, next h) in rw z (r.each (room h) k q));
    }
  where
    first : (l : List ℕ) (n : ℕ) → get_or l n 0 ≡ v.0 → ((k : ℕ) → k < length vs → get_or l (n + suc k) 0 ≡ (get_or vs k (record { 0 = 0 })).0) → (k : ℕ) → k < suc (length vs) → get_or l (n + k) 0 ≡ (get_or (v ∷ vs) k (record { 0 = 0 })).0
    first l n e f zero q = rw (add-zero n) e
    first l n e f (suc k) q = f k (omega arith)

-- definitions note nothing
defines_notes : (w : Walk) (ds : List ValueId) (vs : List ValueId) (v : Walk) → Noted (fold defines w ds) vs v → Noted w vs v
defines_notes w [] vs v h = h
defines_notes w (d ∷ ds) vs v h = let r = defines_notes (defines w d) ds vs v h in record { long = r.long; grows = r.grows; same = r.same; many = r.many; each = r.each }

-- so an instruction notes its reads
pub passes_notes : (w : Walk) (i : Instruction) → Noted w (reads i.kind) (passes w i)
passes_notes w i =
    let r = defines_notes w (dests i.kind) (reads i.kind) _ (noted (fold defines w (dests i.kind)) (reads i.kind)) in
    record { long = r.long; grows = r.grows; same = r.same; many = r.many; each = r.each }

-- the four numbers in front of a row's reads
module _ (l : List ℕ) (p a b c d : ℕ) where
  abbrev one : List ℕ
  one = set l p a

  abbrev two : List ℕ
  two = set one (p + 1) b

  abbrev three : List ℕ
  three = set two (p + 2) c

  abbrev four : List ℕ
  four = set three (p + 3) d

  long_four : length four ≡ length l
  long_four = length-set three (p + 3) d ∙ length-set two (p + 2) c ∙ length-set one (p + 1) b ∙ length-set l p a

  -- the others stay
  other_four : (j : ℕ) → ((k : ℕ) → k < 4 → j ≡ p + k → ⊥) → get_or four j 0 ≡ get_or l j 0
  other_four j h =
      get_or-set_other three (p + 3) j d 0 (h 3 (omega arith)) ∙ get_or-set_other two (p + 2) j c 0 (h 2 (omega arith))
      ∙ get_or-set_other one (p + 1) j b 0 (h 1 (omega arith)) ∙ get_or-set_other l p j a 0 (λ q. h 0 (omega arith) (q ∙ sym (add-zero p)))

  module _ (room : p + 4 ≤ length l) where
    four_0 : get_or four (p + 0) 0 ≡ a
    four_0 =
        rw (add-zero p) (get_or-set_other three (p + 3) p d 0 (λ q. omega arith) ∙ get_or-set_other two (p + 2) p c 0 (λ q. omega arith)
        ∙ get_or-set_other one (p + 1) p b 0 (λ q. omega arith) ∙ get_or-set_same l p a 0 (omega arith))

    four_1 : get_or four (p + 1) 0 ≡ b
    four_1 = get_or-set_other three (p + 3) (p + 1) d 0 (λ q. omega arith) ∙ get_or-set_other two (p + 2) (p + 1) c 0 (λ q. omega arith) ∙ get_or-set_same one (p + 1) b 0 (omega (arith, length-set l p a))

    four_2 : get_or four (p + 2) 0 ≡ c
    four_2 = get_or-set_other three (p + 3) (p + 2) d 0 (λ q. omega arith) ∙ get_or-set_same two (p + 2) c 0 (omega (arith, length-set l p a, length-set one (p + 1) b))

    four_3 : get_or four (p + 3) 0 ≡ d
    four_3 = get_or-set_same three (p + 3) d 0 (omega (arith, length-set l p a, length-set one (p + 1) b, length-set two (p + 2) c))

-- so a row is ended
pub ended : (facts l₁ l₂ l₃ l₄ : List ℕ) (slot n from to kind behind : ℕ) → n ≡ 387 + 20 * slot + 0 → l₁ ≡ set facts n (from % 65536) → l₂ ≡ set l₁ (n + 1) (to % 65536) → l₃ ≡ set l₂ (n + 2) kind → l₄ ≡ set l₃ (n + 3) ((behind - (n + 4)) % 65536) → l₄ ≡ row_ended facts (387 + 20 * slot) from to kind (behind - (391 + 20 * slot))
ended facts l₁ l₂ l₃ l₄ slot n from to kind behind e a b c d =
    let z : n ≡ 387 + 20 * slot = omega arith in
    let y : behind - (n + 4) ≡ behind - (391 + 20 * slot) = omega arith in
    d ∙ rw (y, c, b, a, z) refl

-- a row whose values were noted behind its four numbers, and which was ended
module _ (before ended : List ℕ) (seen : List Bool) (late : Bool) (slot from to kind : ℕ) (vs : List ValueId) (v : Walk) (r : Noted (walk_of seen before (387 + 20 * slot + 4) late) vs v) (e : ended ≡ row_ended v.buffer (387 + 20 * slot) from to kind (v.count - (391 + 20 * slot))) where
  abbrev p : ℕ
  p = 387 + 20 * slot

  abbrev many : ℕ
  many = v.count - (391 + 20 * slot)

  -- nothing in front of it is changed
  pub row_kept : Kept (387 + 20 * slot) before ended
  row_kept =
      rw e record {
        long = long_four v.buffer p (from % 65536) (to % 65536) kind (many % 65536) ∙ r.long;
        same = λ j h. other_four v.buffer p (from % 65536) (to % 65536) kind (many % 65536) j (λ k l q. omega arith) ∙ r.same j (omega arith);
      }

  module _ (room : Room before slot 1) (few : length vs ≤ 16) (f : from < 65536) (t : to < 65536) where
    fits : p + 4 ≤ length v.buffer
    fits = omega (arith, r.long)

    noted_many : many ≡ length vs
    noted_many = omega (arith, r.many (omega arith))

    pub row_place : place_in ended slot ≡ from
    row_place = rw e (four_0 v.buffer p (from % 65536) (to % 65536) kind (many % 65536) fits ∙ mod-eq_of_lt f)

    pub row_end : end_in ended slot ≡ to
    row_end = rw e (four_1 v.buffer p (from % 65536) (to % 65536) kind (many % 65536) fits ∙ mod-eq_of_lt t)

    pub row_kind : kind_in ended slot ≡ kind
    row_kind = rw e (four_2 v.buffer p (from % 65536) (to % 65536) kind (many % 65536) fits)

    pub row_reads : ReadsIn ended slot vs
    row_reads =
        rw e record {
          many = four_3 v.buffer p (from % 65536) (to % 65536) kind (many % 65536) fits ∙ mod-eq_of_lt (omega (arith, noted_many)) ∙ noted_many;
          each = λ k h.
              let z : p + (4 + k) ≡ p + 4 + k = omega arith in
              other_four v.buffer p (from % 65536) (to % 65536) kind (many % 65536) (p + (4 + k)) (λ l g q. omega arith) ∙ ap (λ j. get_or v.buffer j 0) z ∙ r.each (omega arith) k h;
        }

-- the kind is the second byte
kind_byte : (b : Bounds) (seen : List Bool) (late : Bool) (s : List ℕ) {i : Instruction} {n : ℕ} → Bytes s → instruction_of b seen late s ≡ ok i n → get_or s 1 0 ≡ kind_number i.kind
unfolding instruction_bytes
kind_byte b seen late s {i} {n} h e =
    let c = instruction_canon b seen late s h e in
    sym (ap (λ l. get_or l 1 0) c.same ∙ get_or-take n s 1 0 (omega (arith, c.size)))

-- an instruction's row
pub instruction_row : (b : Bounds) (s before ended : List ℕ) (seen : List Bool) (late : Bool) (slot at n : ℕ) (i : Instruction)
    (v : Walk) → v ≡ passes (walk_of seen before (387 + 20 * slot + 4) late) i → ended ≡ row_ended v.buffer (387 + 20 * slot) at
    (at + n) (get_or (drop at s) 1 0) (v.count - (391 + 20 * slot)) → instruction_of b seen late (drop at s) ≡ ok i n → at ≤ length s → Tabular b s → Room before slot 1 → InstructionIn b s ended slot i
instruction_row b s before ended seen late slot at n i v g e f h t room =
    let w = walk_of seen before (387 + 20 * slot + 4) late in
    let bytes = bytes_drop s at t.bytes in
    let r : Noted w (reads i.kind) v = rw g (passes_notes w i) in
    let few = instruction_few b t.listed t.projected t.wide (drop at s) bytes seen late f in
    let in_s : at + n ≤ length s = omega (arith, ap (λ d. size d) f, size_instruction b seen late (drop at s), length-drop at s) in
    let a : at < 65536 = omega (arith, t.short) in
    let c : at + n < 65536 = omega (arith, t.short) in
    let place = row_place before ended seen late slot at (at + n) _ (reads i.kind) v r e room few a c in
    let end = row_end before ended seen late slot at (at + n) _ (reads i.kind) v r e room few a c in
    let z : at + n - at ≡ n = omega arith in
    record {
      read = rw (place, end, z) (relax b seen late (drop at s) f);
      rises = rw (place, end) (omega arith);
      within = rw end in_s;
      kind = row_kind before ended seen late slot at (at + n) _ (reads i.kind) v r e room few a c ∙ kind_byte b seen late (drop at s) bytes f;
      reads_in = row_reads before ended seen late slot at (at + n) _ (reads i.kind) v r e room few a c;
    }

-- a terminator's
pub terminator_row : (b : Bounds) (s before ended : List ℕ) (seen : List Bool) (slot at n : ℕ) (x : Terminator) (v : Walk) → v ≡ leaves
    (walk_of seen before (387 + 20 * slot + 4) false) x → ended ≡ row_ended v.buffer (387 + 20 * slot) at (at + n) 0 (v.count -
    (391 + 20 * slot)) → terminator_of b (drop at s) ≡ ok x n → at ≤ length s → Tabular b s → Room before slot 1 → TerminatorIn b s ended slot x
terminator_row b s before ended seen slot at n x v g e f h t room =
    let w = walk_of seen before (387 + 20 * slot + 4) false in
    let vs = terminator_reads x in
    let r : Noted w (terminator_reads x) v = rw g (noted w (terminator_reads x)) in
    let few = terminator_few b t.listed t.projected t.wide (drop at s) (bytes_drop s at t.bytes) f in
    let in_s : at + n ≤ length s = omega (arith, ap (λ d. size d) f, size_terminator b (drop at s), length-drop at s) in
    let a : at < 65536 = omega (arith, t.short) in
    let c : at + n < 65536 = omega (arith, t.short) in
    let place = row_place before ended seen false slot at (at + n) 0 vs v r e room few a c in
    let end = row_end before ended seen false slot at (at + n) 0 vs v r e room few a c in
    let z : at + n - at ≡ n = omega arith in
    record {
      read = rw (place, end, z) f;
      rises = rw (place, end) (omega arith);
      within = rw end in_s;
      reads_in = row_reads before ended seen false slot at (at + n) 0 vs v r e room few a c;
    }

-- the rows of the slots from `first` on are the same in another table
abbrev pub SameRows : ℕ → ℕ → List ℕ → List ℕ → Type 0
SameRows first slots facts facts' = (j : ℕ) → 387 + 20 * first ≤ j → j < 387 + 20 * (first + slots) → get_or facts' j 0 ≡ get_or facts j 0

-- so they tell the same
module _ (b : Bounds) (s facts facts' : List ℕ) (t : Tabular b s) where
  reads_same : (slot : ℕ) (vs : List ValueId) → length vs ≤ 16 → SameRows slot 1 facts facts' → ReadsIn facts slot vs → ReadsIn facts' slot vs
  reads_same slot vs few h r =
      record {
        many = h (387 + 20 * slot + 3) (omega arith) (omega arith) ∙ r.many;
        each = λ k l. h (387 + 20 * slot + (4 + k)) (omega arith) (omega arith) ∙ r.each k l;
      }

  instruction_same : (slot : ℕ) (i : Instruction) → SameRows slot 1 facts facts' → InstructionIn b s facts slot i → InstructionIn b s facts' slot i
  instruction_same slot i h a =
      let place : place_in facts' slot ≡ place_in facts slot = h (387 + 20 * slot + 0) (omega arith) (omega arith) in
      let end : end_in facts' slot ≡ end_in facts slot = h (387 + 20 * slot + 1) (omega arith) (omega arith) in
      let bytes = bytes_drop s (place_in facts slot) t.bytes in
      record {
        read = rw (place, end) a.read;
        rises = rw (place, end) a.rises;
        within = rw end a.within;
        kind = h (387 + 20 * slot + 2) (omega arith) (omega arith) ∙ a.kind;
        reads_in = reads_same slot (reads i.kind) (instruction_few b t.listed t.projected t.wide (drop (place_in facts slot) s) bytes [] false a.read) h a.reads_in;
      }

  terminator_same : (slot : ℕ) (e : Terminator) → SameRows slot 1 facts facts' → TerminatorIn b s facts slot e → TerminatorIn b s facts' slot e
  terminator_same slot e h a =
      let place : place_in facts' slot ≡ place_in facts slot = h (387 + 20 * slot + 0) (omega arith) (omega arith) in
      let end : end_in facts' slot ≡ end_in facts slot = h (387 + 20 * slot + 1) (omega arith) (omega arith) in
      record {
        read = rw (place, end) a.read;
        rises = rw (place, end) a.rises;
        within = rw end a.within;
        reads_in = reads_same slot (terminator_reads e) (terminator_few b t.listed t.projected t.wide (drop (place_in facts slot) s) (bytes_drop s (place_in facts slot) t.bytes) a.read) h a.reads_in;
      }

  pub instructions_same : (first : ℕ) (is : List Instruction) → SameRows first (length is) facts facts' → InstructionsIn b s facts first is → InstructionsIn b s facts' first is
  instructions_same first is h a k l = instruction_same (first + k) (get_or is k no_instruction) (λ j p q. h j (omega arith) (omega arith)) (a k l)

  pub block_same : (first : ℕ) (x : Block) → SameRows first (suc (length x.instructions)) facts facts' → BlockIn b s facts first x → BlockIn b s facts' first x
  block_same first x h a =
      record {
        instructions = instructions_same first x.instructions (λ j p q. h j (omega arith) (omega arith)) a.instructions;
        terminator = terminator_same (first + length x.instructions) x.terminator (λ j p q. h j (omega arith) (omega arith)) a.terminator;
      }
