-- Which block reads each value: one table for all blocks. proofs/Elsewhere.antt ties it to the definition.
use Rattle.std.specs.Prelude.{ℕ, suc, ◌+◌, ◌≡◌, List, [], ◌∷◌, map, Bool, false, cond, not, ◌&&◌, length, get_or, set, replicate, eqb}
use Rattle.mir.specs.declared.ValueId.{ValueId}
use Rattle.mir.specs.Syntax.{InstructionKind, Instruction, Block}
use Rattle.mir.specs.Reads.{reads, counted, terminator_reads}
use Rattle.fold.specs.Family.{Marks, read_elsewhere}
use Rattle.fold_family.specs.Search.{Members}
use Rattle.fold_readers.specs.declared.Readers.{Readers}

-- the number of a value that several blocks read; blocks below the limit have one of their own
abbrev pub several : ℕ
several = 255

abbrev pub block_limit : ℕ
block_limit = 254

-- what a value's number in the table says: 0 for none, k + 1 for block k alone
abbrev pub readers_number : Readers → ℕ
readers_number Readers.None = 0
readers_number (Readers.One k) = k + 1
readers_number Readers.Several = several

-- a value's number in the table, behind a read in block own
abbrev pub seen_by : ℕ → ℕ → ℕ
seen_by own x = cond (eqb x 0) (own + 1) (cond (eqb x (own + 1)) x several)

-- a read of value v in block own
abbrev pub note_reader : ℕ → List ℕ → ℕ → List ℕ
note_reader own r v = set r v (seen_by own (get_or r v 0))

-- some reads
unfoldable pub read_via : ℕ → List ℕ → List ValueId → List ℕ
read_via own r [] = r
read_via own r (v ∷ vs) = read_via own (note_reader own r v.0) vs

-- an instruction's, but not a Debug's
abbrev pub read_instruction : ℕ → List ℕ → InstructionKind → List ℕ
read_instruction own r i = cond (counted false i) (read_via own r (reads i)) r

unfoldable pub read_instructions : ℕ → List ℕ → List Instruction → List ℕ
read_instructions own r [] = r
read_instructions own r (i ∷ is) = read_instructions own (read_instruction own r i.kind) is

-- a block's
abbrev pub read_block : ℕ → List ℕ → Block → List ℕ
read_block own r k = read_via own (read_instructions own r k.instructions) (terminator_reads k.terminator)

-- those of all blocks, counted from `at`
unfoldable pub read_blocks : ℕ → List ℕ → List Block → List ℕ
read_blocks at r [] = r
read_blocks at r (k ∷ ks) = read_blocks (suc at) (read_block at r k) ks

-- the number says that another block than own reads the value
abbrev pub foreign : ℕ → ℕ → Bool
foreign own x = not (eqb x 0) && not (eqb x (own + 1))

abbrev pub foreigners : ℕ → List ℕ → Marks
foreigners own r = map (λ x. foreign own x) r

-- the promise of the answer that another block than own reads a member, which is marked, `reader` being the table of all blocks,
abbrev pub ReadElsewhere : Marks → ℕ → List ℕ → Bool → Type 0
ReadElsewhere m own reader r =
    (n : ℕ) (ks : List Block)
    → reader ≡ read_blocks 0 (replicate n 0) ks
    → length m ≡ n
    → r ≡ read_elsewhere m own 0 ks

-- and of that it reads one of the n members
abbrev pub MemberAbroad : List ℕ → ℕ → ℕ → List ℕ → Bool → Type 0
MemberAbroad members n own reader r =
    (m : Marks) (ks : List Block)
    → Members members n m
    → reader ≡ read_blocks 0 (replicate (length m) 0) ks
    → r ≡ read_elsewhere m own 0 ks
