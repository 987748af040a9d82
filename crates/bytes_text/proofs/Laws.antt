-- A verdict and its text.
use Prim.Native.Nat.{ℕ}
use mathlib.Core.Path.{◌≡◌, refl, ap, sym, ◌∙◌}
use native.Mathlib.Omega.{arith}
use Rattle.bytes_wire.specs.Parse.{Parse, ok, bad, number_of_cause}
use Rattle.bytes_wire.specs.declared.Cause.{Cause}
use Rattle.bytes_sections.specs.Index.{answered, verdict}
use Rattle.text_lines.specs.Lines.{checked_line}
use Rattle.text_lines.proofs.Laws.{line_accepted, line_refused}
use Rattle.bytes_text.specs.Text.{text_of}

-- every cause has a number, and none is 0
pub cause_told : (c : Cause) → number_of_cause c ≡ 0 → ⊥
cause_told Cause.Truncated e = omega arith
cause_told Cause.TooMany e = omega arith
cause_told Cause.Undefined e = omega arith
cause_told Cause.OutOfRange e = omega arith
cause_told Cause.Repeated e = omega arith
cause_told Cause.Redefined e = omega arith
cause_told Cause.LatePhi e = omega arith
cause_told Cause.CallCounts e = omega arith
cause_told Cause.Trailing e = omega arith

-- so that the number tells what is accepted
text_of_lem : {A : Type 0} (d : Parse A) → checked_line (verdict d).number (verdict d).offset ≡ text_of d
unfolding text_of
text_of_lem (ok a n) = sym (line_accepted 0 0 refl)
text_of_lem (bad c o) = sym (line_refused (number_of_cause c) o (cause_told c))

pub verdict_text : {A : Type 0} (d : Parse A) (number offset : ℕ) → answered number offset ≡ verdict d → checked_line number offset ≡ text_of d
verdict_text d number offset e = ap (λ v. checked_line v.number v.offset) e ∙ text_of_lem d
