-- How long the text is at most: a line has six numbers and those of all values, with 21 characters at most for each (text_lines/specs/Lines), and there is
-- at most a line for each slot of the table of facts. (src/lib.rt has the same.)
use Rattle.std.specs.Prelude.{ℕ, ◌+◌, ◌*◌}
use Rattle.mir.specs.Most.{most_values, most_slots}
use Rattle.text_lines.specs.Lines.{number_width}

abbrev pub line_width : ℕ
line_width = number_width * (6 + most_values)

abbrev pub longest_text : ℕ
longest_text = line_width * most_slots
