-- What the program prints: "result, five counts in Stats order, shelf reason, in decimal with single blanks; on the next line the routine in
-- lower-case hexadecimal. For a refusal, one line: refused, number, offset."
use Rattle.std.specs.Prelude.{ℕ, List, [], ◌∷◌}
use Rattle.bytes_wire.specs.Value.{bool_byte}
use Rattle.shelf.specs.Answer.{Answer, refused, lowered}
use Rattle.text_lines.specs.Lines.{refused_line, lowered_lines}

-- the text of an answer
unfoldable pub text_of : Answer → List ℕ
text_of (refused n o) = refused_line n o
text_of (lowered w c k bytes) = lowered_lines (bool_byte w ∷ c.builds ∷ c.extracts ∷ c.inserts ∷ c.assigns ∷ c.materializations ∷ k ∷ []) bytes

-- "keeps the first 65,536 bytes of standard input and lends 65,536 for output"
abbrev pub lent_bytes : ℕ
lent_bytes = 65536

-- the most characters of a text
abbrev pub longest_text : ℕ
longest_text = 131328
