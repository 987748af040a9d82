-- The builds of a block, one after another, and those of the blocks.
use Prim.Native.Nat.{ℕ, suc, ◌+◌, ◌≤◌, ◌<◌}
use mathlib.Core.Path.{◌≡◌, ap, ◌∙◌, sym}
use mathlib.Core.List.{List, ◌∷◌}
use mathlib.Core.Bool.{false, cond}
use native.Mathlib.Numerals.{add-one}
use native.Mathlib.Omega.{arith}
use lib.ListN.{length, get_or, drop, replicate, length-replicate}
use lib.Seq.{drop-cons, drop-length}
use Rattle.mir.specs.Syntax.{Instruction, Block}
use Rattle.bytes_field.specs.declared.Bounds.{Bounds}
use Rattle.bytes_index.specs.declared.slots.Slots.{Slots}
use Rattle.bytes_index.specs.Code.{no_instruction, no_block, InstructionIn, InstructionsIn, CodeIn, SlotsOf}
use Rattle.mir.specs.Lookup.{Types}
use Rattle.mir.specs.Most.{most_values}
use Rattle.fold.specs.Family.{Marks, union, build_dest, read_elsewhere, cross_build, cross_builds, cross_blocks, cross_block_aggregates}
use Rattle.fold.specs.declared.Settings.{Settings}
use Rattle.fold_family.specs.Copies.{copies, table_size, RowsAt}
use Rattle.fold_family.specs.Search.{Members, ClearsMembers}
use Rattle.fold_copies.specs.Found.{ScanCopies}
use Rattle.fold_readers.specs.Readers.{read_blocks}
use Rattle.std.specs.Prelude.{Option as Answered}
use Rattle.mir.specs.declared.ValueId.{ValueId}
use Rattle.fold_family.proofs.Listed.{listed_few}
use Rattle.fold_cross.specs.declared.cross_facts.CrossFacts.{CrossFacts}
use Rattle.fold_cross.specs.Cross.{Ready, Built, IdleAll, cross_block, family_read, MembersCrossed, FamilyRead, CrossMarks}
use Rattle.fold_cross.proofs.Builds.{read_crossed, read_length}
use Rattle.fold_cross.proofs.Idle.{idle_builds}

module _ (known : CrossFacts) where
  abbrev b : Bounds
  b = known.code.bounds

  abbrev facts : List ℕ
  facts = known.code.facts.now

  -- some instructions in these slots
  abbrev Here : Slots → List Instruction → Type 0
  Here slots is = InstructionsIn b known.code.bytes.now facts slots.first is

  -- block k, and the slots of its instructions
  module _ (k : ℕ) (slots : Slots) (es : SlotsOf facts k slots) where
    standing : (σ : Settings) (τ : Types) (ks : List Block) → Ready known σ τ ks → k < length ks → Here slots (get_or ks k no_block).instructions
    standing σ τ ks a h = rw (es b _ ks a.coded.code h).0 (a.coded.code.each k h).instructions

    counted : (σ : Settings) (τ : Types) (ks : List Block) → Ready known σ τ ks → k < length ks → slots.count ≡ length (get_or ks k no_block).instructions
    counted σ τ ks a h = (es b _ ks a.coded.code h).1

    -- it has no root
    pub block_idle : (c : Marks)
        → ((is : List Instruction) → Here slots is → length is ≡ slots.count → IdleAll known.eligible.now b.next is)
        → (σ : Settings) (τ : Types) (ks : List Block) → Ready known σ τ ks → k < length ks → c ≡ cross_block σ τ ks k c
    block_idle c f σ τ ks a h =
        let x = get_or ks k no_block in
        sym (idle_builds σ τ known.shapes.now known.eligible.now b.next a.given a.coded.ground.values ks k x c x.instructions
        (f x.instructions (standing σ τ ks a h) (sym (counted σ τ ks a h))))

    -- its copies
    pub block_copies : (room table : List ℕ) (before after : Marks) → ScanCopies known.code slots.first slots.count room table before after → room ≡ replicate table_size 0
        → (σ : Settings) (τ : Types) (ks : List Block) → Ready known σ τ ks → k < length ks
        → RowsAt table (copies τ (get_or ks k no_block).instructions)
    block_copies room table before after f clear σ τ ks a h =
        let e = counted σ τ ks a h in
        let g = a.coded.ground in
        (f b.list τ (get_or ks k no_block).instructions g.known.rows g.rows (standing σ τ ks a h) (sym e) (omega (arith, a.coded.small k h)) clear).copied_all

  module _ (table : List ℕ) (k : ℕ) (slots : Slots) where
    -- what is given of block k: a routine that stands so, its copies in the table, clear marks for a family, and a mark for each value
    pub record Given (f₀ c₀ : Marks) (σ : Settings) (τ : Types) (ks : List Block) : Type 0 where
      pub ready : Ready known σ τ ks
      pub inside : k < length ks
      pub rows : RowsAt table (copies τ (get_or ks k no_block).instructions)
      pub clear : f₀ ≡ replicate b.next false
      pub each : length c₀ ≡ b.next

    -- j instructions of it are behind, and the marks for a family are clear again
    pub record Building (f₀ f c₀ c : Marks) (members : List ℕ) (j : ℕ) : Type 0 where
      pub under : j ≤ slots.count
      pub long : length c ≡ length c₀
      pub wide : most_values ≤ length members
      pub left :
          (σ : Settings) (τ : Types) (ks : List Block)
          → Given f₀ c₀ σ τ ks
          → cross_block σ τ ks k c₀ ≡ cross_builds σ τ ks k (get_or ks k no_block) (drop j (get_or ks k no_block).instructions) c
      pub clear : (σ : Settings) (τ : Types) (ks : List Block) → Given f₀ c₀ σ τ ks → f ≡ replicate b.next false

    module _ (own : ℕ) (eo : k < 254 → own ≡ k) (es : SlotsOf facts k slots) (f₀ c₀ : Marks) where
      -- one more: its build d, the family f' of that, and its n members
      module _ (f c : Marks) (members : List ℕ) (j : ℕ) (u : Building f₀ f c₀ c members j) (h : j < slots.count) (d : Answered ValueId)
          (eb : (i : Instruction) → InstructionIn b known.code.bytes.now facts (slots.first + j) i → Built known.eligible.now b.next d i.kind)
          (f' : Marks) (members' : List ℕ) (n : ℕ) (em : FamilyRead d table known.shapes.now f f' members members' n)
          (lm : length members' ≡ length members) where
        -- of a routine that stands so
        module _ (σ : Settings) (τ : Types) (ks : List Block) (a : Given f₀ c₀ σ τ ks) where
          abbrev x : Block
          x = get_or ks k no_block

          many : slots.count ≡ length x.instructions
          many = counted k slots es σ τ ks a.ready a.inside

          abbrev i : Instruction
          i = get_or x.instructions j no_instruction

          valued : length τ.recorded ≡ b.next
          valued = a.ready.coded.ground.values

          built : Built known.eligible.now b.next d i.kind
          built = eb i (standing k slots es σ τ ks a.ready a.inside j (omega (arith, many)))

          found : (f' ≡ family_read τ x.instructions d) × Members members' n f'
          found =
              em σ τ x.instructions i.kind known.eligible.now b.next a.rows (a.ready.coded.small k a.inside) a.ready.given built (sym valued)
              a.ready.coded.ground.few u.wide (u.clear σ τ ks a)

          sized : length f' ≡ b.next
          sized = ap (λ y. length y) found.0 ∙ read_length τ x.instructions d ∙ valued

          -- they are all in the list
          inside_list : n ≤ length members'
          inside_list = omega (arith, listed_few members' n f' found.1, sized, valued, lm, u.wide, a.ready.coded.ground.few)

          step : {c' : Marks} → (n ≤ length members' → MembersCrossed own members' n known.readers.now c c') → c' ≡ cross_build σ τ ks k x (build_dest i.kind) c
          step g =
              let o : own ≡ k = eo (omega (arith, a.ready.coded.many, a.ready.coded.few)) in
              let l : length c ≡ b.next = u.long ∙ a.each in
              g inside_list f' ks found.1 (sized ∙ sym l) (a.ready.readers ∙ ap (λ y. read_blocks 0 (replicate y 0) ks) (sym sized))
              ∙ ap (λ y. cond (read_elsewhere y own 0 ks) (union y c) c) found.0
              ∙ read_crossed σ τ known.shapes.now known.eligible.now b.next a.ready.given valued ks own x c i.kind d built l
              ∙ ap (λ y. cross_build σ τ ks y x (build_dest i.kind) c) o

        pub building_again : (c' f'' : Marks) → (n ≤ length members' → MembersCrossed own members' n known.readers.now c c') → length c' ≡ length c
            → ClearsMembers members' n f' f'' → Building f₀ f'' c₀ c' members' (j + 1)
        unfolding cross_builds
        building_again c' f'' g lc w =
            record {
              under = omega arith;
              long = lc ∙ u.long;
              wide = omega (arith, u.wide);
              left = λ σ τ ks a.
                  let is = (x σ τ ks a).instructions in
                  let z : drop j is ≡ i σ τ ks a ∷ drop (j + 1) is = rw (add-one j) (drop-cons is j no_instruction (omega (arith, many σ τ ks a))) in
                  u.left σ τ ks a
                  ∙ ap (λ y. cross_builds σ τ ks k (x σ τ ks a) y c) z
                  ∙ ap (λ y. cross_builds σ τ ks k (x σ τ ks a) (drop (j + 1) is) y) (sym (step σ τ ks a g));
              clear = λ σ τ ks a. w (found σ τ ks a).1 ∙ ap (λ y. replicate y false) (sized σ τ ks a);
            }

      pub building_done : (f c : Marks) (members : List ℕ) (j : ℕ) → Building f₀ f c₀ c members j → slots.count ≤ j
          → (σ : Settings) (τ : Types) (ks : List Block) → Given f₀ c₀ σ τ ks → c ≡ cross_block σ τ ks k c₀
      unfolding cross_builds
      building_done f c members j u h σ τ ks a =
          let x = get_or ks k no_block in
          let is = x.instructions in
          let q : j ≡ length is = omega (arith, u.under, counted k slots es σ τ ks a.ready a.inside) in
          sym (u.left σ τ ks a ∙ ap (λ y. cross_builds σ τ ks k x (drop y is) c) q ∙ ap (λ y. cross_builds σ τ ks k x y c) (drop-length is))

  -- k blocks are behind
  pub record Crossing (c₀ c : Marks) (k : ℕ) : Type 0 where
    pub under : k ≤ b.blocks
    pub long : length c ≡ length c₀
    pub left :
        (σ : Settings) (τ : Types) (ks : List Block)
        → Ready known σ τ ks
        → length c₀ ≡ b.next
        → cross_blocks σ τ ks 0 ks c₀ ≡ cross_blocks σ τ ks k (drop k ks) c

  pub crossing_again : (c₀ c c' : Marks) (k : ℕ)
      → Crossing c₀ c k
      → k < b.blocks
      → ((σ : Settings) (τ : Types) (ks : List Block) → Ready known σ τ ks → k < length ks → length c ≡ b.next
      → c' ≡ cross_block σ τ ks k c)
      → length c' ≡ length c
      → Crossing c₀ c' (k + 1)
  unfolding cross_blocks
  crossing_again c₀ c c' k u h f lc =
      record {
        under = omega arith;
        long = lc ∙ u.long;
        left = λ σ τ ks a l.
            let x = get_or ks k no_block in
            let p : k < length ks = omega (arith, a.coded.many) in
            let q : drop k ks ≡ x ∷ drop (k + 1) ks = rw (add-one k) (drop-cons ks k no_block p) in
            u.left σ τ ks a l
            ∙ ap (λ y. cross_blocks σ τ ks k y c) q
            ∙ ap (λ y. cross_blocks σ τ ks (suc k) (drop (k + 1) ks) y) (sym (f σ τ ks a p (u.long ∙ l)))
            ∙ ap (λ y. cross_blocks σ τ ks y (drop (k + 1) ks) c') (sym (add-one k));
      }

  pub crossing_done : (c₀ c : Marks) (k : ℕ) → Crossing c₀ c k → b.blocks ≤ k
      → (σ : Settings) (τ : Types) (ks : List Block) → Ready known σ τ ks → length c₀ ≡ b.next → c ≡ cross_blocks σ τ ks 0 ks c₀
  unfolding cross_blocks
  crossing_done c₀ c k u h σ τ ks a l =
      let q : k ≡ length ks = omega (arith, u.under, a.coded.many) in
      sym (u.left σ τ ks a l ∙ ap (λ y. cross_blocks σ τ ks k (drop y ks) c) q ∙ ap (λ y. cross_blocks σ τ ks k y c) (drop-length ks))

  -- the whole: the readers are noted, then the builds of all blocks are held to them
  pub crossed_all : (r₀ : List ℕ) (c₀ c : Marks)
      → r₀ ≡ replicate b.next 0
      → ((b' : Bounds) (s : List ℕ) (ks : List Block) → CodeIn b' s facts ks → length ks ≡ b.blocks → b.blocks < 254 → known.readers.now ≡ read_blocks 0 r₀ ks)
      → ((σ : Settings) (τ : Types) (ks : List Block) → Ready known σ τ ks → length c₀ ≡ b.next → c ≡ cross_blocks σ τ ks 0 ks c₀)
      → CrossMarks known.code known.shapes.now known.eligible.now c₀ c
  unfolding cross_block_aggregates
  crossed_all r₀ c₀ c e0 er f σ τ ks a g ec =
      let l : length c₀ ≡ b.next = ap (λ y. length y) ec ∙ length-replicate (length τ.recorded) false ∙ a.ground.values in
      let r : known.readers.now ≡ read_blocks 0 (replicate b.next 0) ks = er b _ ks a.code a.many (omega (arith, a.few)) ∙ ap (λ y. read_blocks 0 y ks) e0 in
      f σ τ ks (record { coded = a; given = g; readers = r }) l ∙ ap (λ y. cross_blocks σ τ ks 0 ks y) ec
