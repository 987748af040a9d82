use Rattle.std.proofs.Common.{◌*◌, ◌≤◌, length, drop}
use Rattle.text_lines.specs.Lines.{numbers_line}
use Rattle.text.proofs.Writing.{Writing}
use Rattle.text_lines.proofs.numbers_line.Given as goal

abbrev pub invariant-loop-i : goal.invariant-loop-i
invariant-loop-i l =
    (l.i ≤ length l.numbers) × (l.at ≤ 21 * l.i) × Writing (numbers_line l.numbers) (numbers_line (drop l.i l.numbers)) l.initial.text l.text 0 l.at
