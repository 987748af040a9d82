-- The first bytes as a number.
use Rattle.std.proofs.Common.{ℕ, List, ◌≡◌, ◌<◌, ◌∙◌, ap, sym, length, Option, Some, None, MatchOption, Bor}
use Rattle.std.specs.Prelude.{ok_or}
use Rattle.std.specs.Array.{IsFirstChunk}
use Rattle.bytes_wire.specs.Parse.{as_answer, ok}
use Rattle.bytes_wire.specs.Number.{from_bytes, number_of}
use Rattle.bytes_wire.specs.declared.Cause.{Cause}
use Rattle.bytes_wire.proofs.Laws.{number_short, number_some}

-- what is read of the first n bytes, where there are so many
pub chunk_read : (n : ℕ) (s : List ℕ) (r : Option (Bor (List ℕ))) → MatchOption r (length s < n) (λ y. IsFirstChunk s y.now n) → as_answer (λ bs. ok (from_bytes bs.now) n) (ok_or r (record { cause = Cause.Truncated; offset = 0 })) ≡ number_of n s
chunk_read n s (Some y) h = ap (λ t. ok (from_bytes t) n) h.same ∙ sym (number_some n s h.enough)
chunk_read n s None h = sym (number_short n s h)
