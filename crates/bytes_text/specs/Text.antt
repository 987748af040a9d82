-- What the checker prints: `accepted`, or the refusal.
use Rattle.std.specs.Prelude.{ℕ, List}
use Rattle.bytes_wire.specs.Parse.{Parse, ok, bad, number_of_cause}
use Rattle.text.specs.Digits.{letters}
use Rattle.text_lines.specs.Lines.{refused_line}

-- the text of what the decoder makes of bytes
unfoldable pub text_of : {A : Type 0} → Parse A → List ℕ
text_of (ok a n) = letters "accepted\n"
text_of (bad c o) = refused_line (number_of_cause c) o
