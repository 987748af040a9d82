-- What a writer promises, and how far into the output it begins at most.
use Rattle.std.specs.Prelude.{ℕ, ◌+◌, ◌≡◌, List, length}
use Rattle.std.proofs.lemmas.List.Edits.{sets}

-- `bytes` are written from `to` on, and r is the place behind them
abbrev pub Writes : List ℕ → List ℕ → List ℕ → ℕ → ℕ → Type 0
Writes bytes out out' to r = (r ≡ to + length bytes) × (out' ≡ sets out to bytes)

-- No place wraps: each writer begins before a bound that is far below 2^64, and twice as low as that of the writers it calls. Bytes that
-- are copied, and a number of two bytes:
abbrev pub number_room : ℕ
number_room = 4398046511104

-- a number of four bytes, or of a value, a type, a name
abbrev pub word_room : ℕ
word_room = 2199023255552

-- a value
abbrev pub value_room : ℕ
value_room = 1099511627776

-- an instruction, and a list of values
abbrev pub instruction_room : ℕ
instruction_room = 549755813888

-- a build
abbrev pub build_room : ℕ
build_room = 274877906944

-- builds and what needs them
abbrev pub rebuilt_room : ℕ
rebuilt_room = 137438953472

-- a Call behind its kind
abbrev pub call_room : ℕ
call_room = 68719476736
