-- Little-endian numbers: "u8, u16, u32, u64 give widths".
use Rattle.std.specs.Prelude.{ℕ, zero, suc, ◌+◌, ◌*◌, ◌/◌, ◌%◌, List, [], ◌∷◌, cond, length, get_or, take, leb, ltb}
use Rattle.bytes_wire.specs.Parse.{Parse, ok, bad, checked}
use Rattle.bytes_wire.specs.declared.Cause.{Cause}

-- the number whose bytes these are, the lowest first
abbrev pub from_bytes : List ℕ → ℕ
from_bytes [] = 0
from_bytes (b ∷ bs) = b + 256 * from_bytes bs

-- the w bytes of a number, the lowest first
abbrev pub to_bytes : ℕ → ℕ → List ℕ
to_bytes zero x = []
to_bytes (suc w) x = x % 256 ∷ to_bytes w (x / 256)

-- a number of w bytes; where the bytes end before it does, that is refused at the number
unfoldable pub number_of : ℕ → List ℕ → Parse ℕ
number_of w s = cond (leb w (length s)) (ok (from_bytes (take w s)) w) (bad Cause.Truncated 0)

abbrev pub u8_of : List ℕ → Parse ℕ
u8_of s = number_of 1 s

abbrev pub u16_of : List ℕ → Parse ℕ
u16_of s = number_of 2 s

abbrev pub u32_of : List ℕ → Parse ℕ
u32_of s = number_of 4 s

-- a u16 that has to stay below a bound: a type, value or block number
abbrev pub below : ℕ → List ℕ → Parse ℕ
below bound s = checked Cause.OutOfRange (λ x. ltb x bound) (u16_of s)

-- a count that passes its most is refused at its offset
abbrev pub counted : ℕ → Parse ℕ → Parse ℕ
counted most d = checked Cause.TooMany (λ n. leb n most) d

-- the numbers that stand at a place, a byte past the end being 0
abbrev pub at16 : List ℕ → ℕ → ℕ
at16 s at = get_or s at 0 + 256 * get_or s (at + 1) 0

abbrev pub at32 : List ℕ → ℕ → ℕ
at32 s at = at16 s at + 65536 * at16 s (at + 2)
