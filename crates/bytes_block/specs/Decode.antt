-- "The blocks: u16 instruction count, instructions, terminator."
use Rattle.std.specs.Prelude.{ℕ, zero, suc, List, [], ◌∷◌, Bool, false, cond, not, ◌||◌, length, Result}
use Rattle.bytes_wire.specs.Parse.{Parse, as_answer, ok, and_then, map_parse}
use Rattle.bytes_wire.specs.declared.Refusal.{Refusal}
use Rattle.bytes_wire.specs.Number.{number_of, u16_of}
use Rattle.mir.specs.declared.ValueId.{ValueId}
use Rattle.mir.specs.Syntax.{Instruction, Block}
use Rattle.mir.specs.Reads.{dests, is_phi}
use Rattle.bytes_field.specs.Decode.{mark, instruction_of, terminator_of, bits_of, kind_of}
use Rattle.bytes_field.specs.Walk.{fold}
use Rattle.bytes_field.specs.declared.Bounds.{Bounds}
use Rattle.bytes_count.specs.Count.{counted_twice}
use Rattle.bytes_block.specs.declared.Mosts.{Mosts}
use Rattle.bytes_block.specs.declared.Head.{Head as ReadHead}
use Rattle.mir.specs.Kind.{number_of_kind}
use Rattle.bytes_block.specs.declared.BlockEnd.{BlockEnd}

-- the marks behind values that are defined
abbrev pub marks : List Bool → List ValueId → List Bool
marks seen ds = fold mark seen ds

-- `late` turns true behind the first kind that is not Phi
unfoldable pub instructions_of : Bounds → List Bool → Bool → ℕ → List ℕ → Parse (List Instruction)
instructions_of b seen late zero s = ok [] 0
instructions_of b seen late (suc k) s =
    and_then s (instruction_of b seen late s) (λ i t.
    map_parse (λ is. i ∷ is) (instructions_of b (marks seen (dests i.kind)) (late || not (is_phi i.kind)) k t))

-- a block's count has two mosts: its own, and that of all blocks, of which `total` stand before it
abbrev pub block_count_of : Mosts → ℕ → List ℕ → Parse ℕ
block_count_of m total s = counted_twice m.block m.all total (u16_of s)

unfoldable pub block_of : Mosts → Bounds → ℕ → List Bool → List ℕ → Parse Block
block_of m b total seen s =
    and_then s (block_count_of m total s) (λ n s.
    and_then s (instructions_of b seen false n s) (λ is s.
    map_parse (λ e. record { instructions = is; terminator = e }) (terminator_of b s)))

-- what a block leaves: the marks behind it, and how many instructions stand before the next block
abbrev pub block_marks : List Bool → List Instruction → List Bool
block_marks seen [] = seen
block_marks seen (i ∷ is) = block_marks (marks seen (dests i.kind)) is

-- an instruction's bit map, and its kind's number
pub record Head : Type 0 where
  pub bits : ℕ
  pub kind : ℕ

unfoldable pub head_of : Bool → List ℕ → Parse Head
head_of late s = and_then s (bits_of s) (λ x t. map_parse (λ k. record { bits = x; kind = k }) (kind_of late t))

-- a number of w bytes, where it stands at all
abbrev pub skipped : Bool → ℕ → List ℕ → Parse ℕ
skipped on w s = cond on (number_of w s) (ok 0 0)

-- what the code's answers say
abbrev pub as_head : Result ReadHead Refusal → Parse Head
as_head r = as_answer (λ x. ok (record { bits = x.bits; kind = number_of_kind x.kind }) 2) r

-- what is left behind a block: the marks, and its number of instructions
pub record Passed : Type 0 where
  pub seen : List Bool
  pub count : ℕ

abbrev pub passed : List Bool → Block → Passed
passed seen k = record { seen = block_marks seen k.instructions; count = length k.instructions }

abbrev pub as_block : Result BlockEnd Refusal → List Bool → Parse Passed
as_block r seen = as_answer (λ x. ok (record { seen = seen; count = x.count }) x.end) r
