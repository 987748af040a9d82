-- What the program prints of bytes: a line for each build of a routine, or the refusal.
use Rattle.std.specs.Prelude.{ℕ, suc, List, [], ◌∷◌, ◌++◌, Bool, cond}
use Rattle.std.proofs.Math.Option.{Option, none, some}
use Rattle.bytes_wire.specs.Parse.{Parse, ok, bad, number_of_cause}
use Rattle.mir.specs.declared.ValueId.{ValueId}
use Rattle.mir.specs.Syntax.{Instruction, Block}
use Rattle.mir.specs.Routine.{Routine}
use Rattle.mir.specs.Lookup.{Types, types_in}
use Rattle.fold.specs.Family.{Marks, family, build_dest, has_dynamic_index}
use Rattle.fold_family.specs.Turns.{one, size, turns_of}
use Rattle.text_lines.specs.Lines.{refused_line, numbers_line}

-- the marked values, the least first, where the first mark is value v's
unfoldable pub marked_from : ℕ → Marks → List ℕ
marked_from v [] = []
marked_from v (b ∷ m) = cond b (v ∷ marked_from (suc v) m) (marked_from (suc v) m)

-- the numbers of a line: the block, the number there of the instruction that builds d, d, how many members its family has among the block's
-- instructions, how many turns the search for them takes, and 1 where a member is looked into by an index that is not known, else 0; where `named`,
-- then the members
abbrev pub line_numbers : Bool → Types → List Instruction → ℕ → ℕ → ValueId → List ℕ
line_numbers named τ is k j d =
    let m = family τ d is in
    k ∷ j ∷ d.0 ∷ size m ∷ turns_of τ d is ∷ one (has_dynamic_index τ d is) ∷ cond named (marked_from 0 m) []

-- the line of instruction j of block k, if it is a build
abbrev pub build_line : Bool → Types → List Instruction → ℕ → ℕ → Option ValueId → List ℕ
build_line named τ is k j none = []
build_line named τ is k j (some d) = numbers_line (line_numbers named τ is k j d)

-- the lines of the last of a block's instructions, from number j on
unfoldable pub instruction_lines : Bool → Types → List Instruction → ℕ → ℕ → List Instruction → List ℕ
instruction_lines named τ is k j [] = []
instruction_lines named τ is k j (i ∷ rest) = build_line named τ is k j (build_dest i.kind) ++ instruction_lines named τ is k (suc j) rest

-- of the last blocks, from number k on
unfoldable pub block_lines : Bool → Types → ℕ → List Block → List ℕ
block_lines named τ k [] = []
block_lines named τ k (x ∷ rest) = instruction_lines named τ x.instructions k 0 x.instructions ++ block_lines named τ (suc k) rest

-- and of a routine, as the decoder finds it
unfoldable pub families_of : Bool → Parse Routine → List ℕ
families_of named (ok r n) = block_lines named (types_in r) 0 r.blocks
families_of named (bad c o) = refused_line (number_of_cause c) o
