-- The lines of one instruction, of a block and of a routine.
use Prim.Native.Nat.{ℕ, ◌+◌, ◌-◌, ◌≤◌, ◌<◌}
use mathlib.Core.Path.{◌≡◌, refl, ap, ◌∙◌, sym}
use mathlib.Core.List.{List, [], ◌++◌}
use mathlib.Core.Bool.{Bool, true, false, ◌||◌}
use mathlib.Core.Logic.{◌⊎◌, inl, inr, ⊎_elim}
use mathlib.Core.Option.{Option, none, some, none-ne-some}
use native.Mathlib.Numerals.{add-one}
use native.Mathlib.Omega.{arith}
use lib.ListN.{length, get_or, drop, replicate, length-replicate, drop_of_length-le}
use lib.Dec.{eqb}
use lib.Seq.{drop-cons}
use borrow.Author.Tests.{eqb-true}
use borrow.Rule.Slice.PartMut.{mid_of, put_mid}
use Rattle.bytes_wire.specs.Parse.{bad, number_of_cause}
use Rattle.bytes_wire.specs.declared.Cause.{Cause}
use Rattle.mir.specs.declared.ValueId.{ValueId}
use Rattle.mir.specs.Syntax.{Instruction, InstructionKind, Block}
use Rattle.mir.specs.Kind.{build_kind}
use Rattle.mir.specs.Reads.{kind_number}
use Rattle.mir.specs.Lookup.{Types, types_in}
use Rattle.bytes_field.specs.declared.Bounds.{Bounds}
use Rattle.bytes_index.specs.Table.{place_in, kind_in, starts_in}
use Rattle.bytes_index.specs.declared.code.Code.{Code}
use Rattle.bytes_index.specs.declared.slots.Slots.{Slots}
use Rattle.bytes_index.specs.Code.{no_instruction, no_block, InstructionsIn, SlotsOf}
use Rattle.bytes_sections.specs.Decode.{mosts, whole_of}
use Rattle.fold.specs.declared.Settings.{Settings}
use Rattle.fold.specs.Family.{Marks, build_dest}
use Rattle.fold.specs.Tables.{ShapesAt}
use Rattle.fold_family.specs.Copies.{dynamics}
use Rattle.fold_copies.specs.Found.{ScanCopies}
use Rattle.fold_climb.proofs.Found.{DestAt, dest, tuple_place, struct_place, array_place}
use Rattle.fold_scan.proofs.Placed.{build_kind_lem}
use Rattle.bytes_index.proofs.Rising.{roomy}
use Rattle.text.specs.Written.{Written}
use Rattle.text.proofs.Writing.{Writing, writing_start, writing_on, writing_done}
use Rattle.text_lines.specs.Lines.{checked_line}
use Rattle.text_lines.proofs.Laws.{line_refused}
use Rattle.bytes_text.proofs.Laws.{cause_told}
use Rattle.pass_input.specs.Accepted.{Accepted}
use Rattle.pass_input.proofs.Accepted.{coded}
use Rattle.pass_families.specs.Lines.{build_line, instruction_lines, block_lines, families_of}
use Rattle.pass_families.specs.Shown.{Prepared, PutsBuild, PutsOne, PutsAll, PutsBlock, PutsBlocks}
use Rattle.fold_looked.specs.declared.tables.Tables.{Tables}
use Rattle.pass_families.proofs.Parts.{part_written}

-- a number that is that of a build's kind, and one that is not
one_of_three : (n : ℕ) → build_kind n ≡ true → (n ≡ 10) ⊎ ((n ≡ 12) ⊎ (n ≡ 16))
one_of_three n h = go (eqb n 10) (eqb n 12) (eqb n 16) refl refl refl h
  where
    go : (x y z : Bool) → eqb n 10 ≡ x → eqb n 12 ≡ y → eqb n 16 ≡ z → x || (y || z) ≡ true → (n ≡ 10) ⊎ ((n ≡ 12) ⊎ (n ≡ 16))
    go true y z e f g h = inl (eqb-true n 10 e)
    go false true z e f g h = inr (inl (eqb-true n 12 f))
    go false false true e f g h = inr (inr (eqb-true n 16 g))
    go false false false e f g h = cc

other : (m : ℕ) {n : ℕ} → build_kind m ≡ true → n ≡ m → build_kind n ≡ false → ⊥
other m {n} on e off = cc (ap build_kind e)

-- a build has a dest
has_dest : {next : ℕ} {t : List ℕ} {i : InstructionKind} → DestAt next t i → build_dest i ≡ none → ⊥
has_dest (dest d e a low) h = none-ne-some _ (sym h ∙ e)

module _ (named : Bool) (code : Code) (k : ℕ) (tables : Tables) where
  module _ (j slot : ℕ) (text : List ℕ) where
    -- what is no build has no line,
    no_line : ((i : InstructionKind) (d : ValueId) → kind_in code.facts.now slot ≡ kind_number i → build_dest i ≡ some d → ⊥) → PutsOne named code k j slot tables text text 0
    no_line h τ is i p at = go (build_dest i.kind) refl
      where
        go : (o : Option ValueId) → build_dest i.kind ≡ o → Written (build_line named τ is k j o) 0 text text 0
        go none e = record { place = omega arith; stored = refl }
        go (some d) e = absurd (h i.kind d at.kind e)

    pub puts_none : build_kind (kind_in code.facts.now slot) ≡ false → PutsOne named code k j slot tables text text 0
    puts_none h =
        no_line (λ i d z e. build_kind_lem i d e (λ q. other 10 refl (z ∙ q) h) (λ q. other 12 refl (z ∙ q) h) (λ q. other 16 refl (z ∙ q) h))

    -- and a build has its line
    pub puts_one : (after : List ℕ) (n : ℕ) → build_kind (kind_in code.facts.now slot) ≡ true → PutsBuild named code k j slot tables text after n → PutsOne named code k j slot tables text after n
    puts_one after n h puts τ is i p at = go (build_dest i.kind) refl
      where
        t : List ℕ
        t = drop (place_in code.facts.now slot) code.bytes.now

        built : build_dest i.kind ≡ none → ⊥
        built e =
            ⊎_elim (λ q. has_dest (tuple_place code.bounds [] false t i _ at.read (sym at.kind ∙ q)) e)
            (⊎_elim (λ q. has_dest (struct_place code.bounds [] false t i _ at.read (sym at.kind ∙ q)) e)
            (λ q. has_dest (array_place code.bounds [] false t i _ at.read (sym at.kind ∙ q)) e)) (one_of_three _ h)

        go : (o : Option ValueId) → build_dest i.kind ≡ o → Written (build_line named τ is k j o) 0 text after n
        go none e = absurd (built e)
        go (some d) e = puts τ is i d p at e

  -- instruction j's line comes first of those that are left
  first_line : (τ : Types) (is all : List Instruction) (j : ℕ) → j < length all
      → instruction_lines named τ is k j (drop j all)
      ≡ build_line named τ is k j (build_dest (get_or all j no_instruction).kind) ++ instruction_lines named τ is k (j + 1) (drop (j + 1) all)
  unfolding instruction_lines
  first_line τ is all j h = rw (drop-cons all j no_instruction h, add-one j) refl

  module _ (slots : Slots) (text₀ : List ℕ) where
    -- the lines of the first j instructions stand
    pub record Putting (text : List ℕ) (to j : ℕ) : Type 0 where
      pub left : (τ : Types) (is : List Instruction) → Prepared code tables τ is → InstructionsIn code.bounds code.bytes.now code.facts.now slots.first is
          → length is ≡ slots.count → Writing (instruction_lines named τ is k 0 is) (instruction_lines named τ is k j (drop j is)) text₀ text 0 to

    pub putting : Putting text₀ 0 0
    putting = record { left = λ τ is p stands c. writing_start (instruction_lines named τ is k 0 is) text₀ 0 }

    module _ (text : List ℕ) (to j : ℕ) (inv : Putting text to j) where
      pub putting_on : j < slots.count → (part : List ℕ) (n : ℕ)
          → PutsOne named code k j (slots.first + j) tables (mid_of to (length text - to) text) part n
          → Putting (put_mid to (length text - to) text part) (to + n) (j + 1)
      putting_on h part n puts =
          record {
            left = λ τ is p stands c.
                let w = puts τ is (get_or is j no_instruction) p (stands j (omega arith)) in
                writing_on _ _ _ _ _ _ (inv.left τ is p stands c) _ _ _ _ (first_line τ is is j (omega arith)) (part_written _ text part to _ n refl w);
          }

      pub puts_all : slots.count ≤ j → PutsAll named code k slots tables text₀ text to
      unfolding instruction_lines
      puts_all h τ is p stands c =
          writing_done _ _ _ _ _ _ (inv.left τ is p stands c) (ap (instruction_lines named τ is k j) (drop_of_length-le is (omega arith)))

-- a block is scanned for its copies first
pub puts_block : (named : Bool) (code : Code) (k : ℕ) (slots : Slots) (zeros : List ℕ) (tables : Tables)
    → (clear : Marks) (text after : List ℕ) (n : ℕ)
    → ScanCopies code slots.first slots.count zeros tables.copies.now clear tables.dynamic.now → zeros ≡ replicate 640 0 → clear ≡ replicate code.bounds.next false
    → PutsAll named code k slots tables text after n
    → PutsBlock named code k slots tables.shapes.now text after n
puts_block named code k slots zeros tables clear text after n scans z cl puts σ τ is eligible g sh stands c few =
    let x = scans code.bounds.list τ is g.known.rows g.rows stands c few z in
    let e : clear ≡ replicate (length τ.recorded) false = cl ∙ ap (λ (m : ℕ). replicate m false) (sym g.values) in
    puts τ is
    (record {
      settings = σ;
      eligible = eligible;
      clear = clear;
      room = replicate 256 0;
      looking = record {
        rows = x.copied_all;
        short = omega arith;
        few = omega (arith, g.values, g.few);
        wide = omega (arith, length-replicate {A = ℕ} 256 0);
        cleared = e;
        dynamic_all = x.dynamic_all ∙ ap (λ m. dynamics m is) e;
      };
      shaped = sh;
      values = g.values;
    }) stands c

-- the slots of a block are among those of the table
pub slots_few : {s facts : List ℕ} {b : Bounds} (a : Accepted s facts b) {k : ℕ} (slots : Slots) → SlotsOf facts k slots → k < b.blocks
    → (slots.first ≡ get_or (starts_in facts) k 0) × (slots.first + slots.count < 288)
slots_few {s} {facts} {b} a {k} slots so h =
    let x = coded a in
    let l : k < length a.routine.blocks = omega (arith, x.many) in
    let w = so b s a.routine.blocks x.code l in
    (w.0, omega (arith, w.0, w.1, roomy x.code k l))

-- the next block begins behind its terminator
pub next_start : {s facts : List ℕ} {b : Bounds} (a : Accepted s facts b) {k : ℕ} (slots : Slots) → SlotsOf facts k slots → k < b.blocks
    → get_or (starts_in facts) (k + 1) 0 ≡ slots.first + slots.count + 1
next_start {s} {facts} {b} a {k} slots so h =
    let x = coded a in
    let l : k < length a.routine.blocks = omega (arith, x.many) in
    let w = so b s a.routine.blocks x.code l in
    rw (add-one k) (omega (arith, x.code.next k l, w.0, w.1))

module _ (named : Bool) (code : Code) (shapes : List ℕ) (text₀ : List ℕ) where
  -- the lines of the first k blocks stand
  pub record PuttingBlocks (text : List ℕ) (to k : ℕ) : Type 0 where
    pub left : (σ : Settings) (a : Accepted code.bytes.now code.facts.now code.bounds) (eligible : List Bool) → ShapesAt σ (types_in a.routine) shapes eligible
        → Writing (block_lines named (types_in a.routine) 0 a.routine.blocks) (block_lines named (types_in a.routine) k (drop k a.routine.blocks))
        text₀ text 0 to

  pub putting_blocks : PuttingBlocks text₀ 0 0
  putting_blocks = record { left = λ σ a eligible sh. writing_start _ text₀ 0 }

  -- block k's lines come first of those that are left
  first_block : (τ : Types) (all : List Block) (k : ℕ) → k < length all
      → block_lines named τ k (drop k all)
      ≡ instruction_lines named τ (get_or all k no_block).instructions k 0 (get_or all k no_block).instructions ++ block_lines named τ (k + 1) (drop (k + 1) all)
  unfolding block_lines
  first_block τ all k h = rw (drop-cons all k no_block h, add-one k) refl

  -- one block more
  pub putting_on_blocks : (text : List ℕ) (to k : ℕ) (slots : Slots) → PuttingBlocks text to k → k < code.bounds.blocks → SlotsOf code.facts.now k slots
      → (part : List ℕ) (n : ℕ) → PutsBlock named code k slots shapes (mid_of to (length text - to) text) part n
      → PuttingBlocks (put_mid to (length text - to) text part) (to + n) (k + 1)
  putting_on_blocks text to k slots inv h so part n puts =
      record {
        left = λ σ a eligible sh.
            let x = coded a in
            let l : k < length a.routine.blocks = omega (arith, x.many) in
            let w = so code.bounds code.bytes.now a.routine.blocks x.code l in
            let stands : InstructionsIn code.bounds code.bytes.now code.facts.now slots.first (get_or a.routine.blocks k no_block).instructions = rw w.0 (x.code.each k l).instructions in
            let y = puts σ (types_in a.routine) _ eligible x.ground sh stands (sym w.1) (omega (arith, w.1, x.small k l)) in
            writing_on _ _ _ _ _ _ (inv.left σ a eligible sh) _ _ _ _ (first_block _ _ k l) (part_written _ text part to _ n refl y);
      }

  pub puts_blocks : (text : List ℕ) (to k : ℕ) → PuttingBlocks text to k → code.bounds.blocks ≤ k → PutsBlocks named code shapes text₀ text to
  unfolding block_lines
  puts_blocks text to k inv h σ a eligible sh =
      writing_done _ _ _ _ _ _ (inv.left σ a eligible sh)
      (ap (block_lines named (types_in a.routine) k) (drop_of_length-le a.routine.blocks (omega (arith, (coded a).many))))

-- what is accepted, and what is refused
pub lines_accepted : (named : Bool) (s facts : List ℕ) (b : Bounds) (a : Accepted s facts b)
    → block_lines named (types_in a.routine) 0 a.routine.blocks ≡ families_of named (whole_of mosts s)
unfolding families_of
lines_accepted named s facts b a = sym (ap (families_of named) a.reads)

pub lines_refused : (named : Bool) (s : List ℕ) (c : Cause) (o number : ℕ) → number ≡ number_of_cause c → whole_of mosts s ≡ bad c o
    → checked_line number o ≡ families_of named (whole_of mosts s)
unfolding families_of
lines_refused named s c o number e h =
    ap (λ n. checked_line n o) e ∙ sym (line_refused (number_of_cause c) o (cause_told c)) ∙ sym (ap (families_of named) h)
