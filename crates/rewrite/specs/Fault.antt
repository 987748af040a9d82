-- Why a rewriting is refused: "of 10, 14 and 15 the first met is given".
use Rattle.std.specs.Prelude.{ℕ, suc, List, [], ◌∷◌, cond, ltb}
use Rattle.std.proofs.Math.Option.{Option, none, some}
use Rattle.mir.specs.Syntax.{Instruction}
use Rattle.rewrite.specs.declared.Fault.{Fault}

-- document 01's row 10, and 14 and 15 of document 02, wish 5
abbrev pub number_of_fault : Fault → ℕ
number_of_fault Fault.Clash = 10
number_of_fault Fault.Looped = 14
number_of_fault Fault.Overfull = 15

-- of two, the first met
unfoldable pub first_met : Option Fault → Option Fault → Option Fault
first_met none b = b
first_met (some a) b = some a

-- the last number that two bytes have: neither the next value nor a block's count of instructions passes it
abbrev pub last_number : ℕ
last_number = 65535

-- "15 when the next value or a block's instruction count would pass 65,535": one more number, or one more instruction, where there are n
unfoldable pub full_fault : ℕ → Option Fault
full_fault n = cond (ltb n last_number) none (some Fault.Overfull)

-- instructions are added to a block that has l, one after another
unfoldable pub lines_fault : ℕ → List Instruction → Option Fault
lines_fault l [] = none
lines_fault l (i ∷ is) = first_met (full_fault l) (lines_fault (suc l) is)
