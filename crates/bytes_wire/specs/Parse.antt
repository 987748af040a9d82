-- What a decoder answers, and how decoders are put together.
use Rattle.std.specs.Prelude.{ℕ, zero, suc, ◌+◌, List, [], ◌∷◌, map, Bool, cond, length, get_or, drop, leb, Result, Ok, Err}
use Rattle.bytes_wire.specs.declared.Cause.{Cause}
use Rattle.bytes_wire.specs.declared.Read.{Read}
use Rattle.bytes_wire.specs.declared.Refusal.{Refusal}

-- A value and how many bytes it took, or a refusal's cause and the offset of its field.
-- Both numbers count from where the decoder began.
pub data Parse (A : Type 0) : Type 0 where
  ok : A → ℕ → Parse A
  bad : Cause → ℕ → Parse A

-- the same answer, counted from n bytes earlier
abbrev pub later : {A : Type 0} → ℕ → Parse A → Parse A
later n (ok a m) = ok a (n + m)
later n (bad c o) = bad c (n + o)

-- where d gave a value, the decoder f of it reads on behind
abbrev pub and_then : {A B : Type 0} → List ℕ → Parse A → (A → List ℕ → Parse B) → Parse B
and_then s (ok a n) f = later n (f a (drop n s))
and_then s (bad c o) f = bad c o

abbrev pub map_parse : {A B : Type 0} → (A → B) → Parse A → Parse B
map_parse f (ok a n) = ok (f a) n
map_parse f (bad c o) = bad c o

-- a field that fails its test is refused at its own offset
abbrev pub checked : {A : Type 0} → Cause → (A → Bool) → Parse A → Parse A
checked c p (ok a n) = cond (p a) (ok a n) (bad c 0)
checked c p (bad k o) = bad k o

-- a kind byte, then the fields of its kind; a kind that is not among them is undefined
abbrev pub tagged : {A : Type 0} → List (List ℕ → Parse A) → List ℕ → Parse A
tagged fs s =
    cond (leb 1 (length s))
    (get_or (map (λ f. later 1 (f (drop 1 s))) fs) (get_or s 0 0) (bad Cause.Undefined 0))
    (bad Cause.Truncated 0)

-- k things, one after another
unfoldable pub seq_of : {A : Type 0} → (List ℕ → Parse A) → ℕ → List ℕ → Parse (List A)
seq_of dec zero s = ok [] 0
seq_of dec (suc k) s = and_then s (dec s) (λ a t. map_parse (λ xs. a ∷ xs) (seq_of dec k t))

-- what the code's answers say, where f says what was read
abbrev pub as_answer : {X A : Type 0} → (X → Parse A) → Result X Refusal → Parse A
as_answer f (Ok x) = f x
as_answer f (Err e) = bad e.cause e.offset

abbrev pub as_read : {A : Type 0} → Read A → Parse A
as_read r = ok r.value r.size

abbrev pub as_parse : {A : Type 0} → Result (Read A) Refusal → Parse A
as_parse r = as_answer as_read r

-- how many numbers 64 bits tell apart
abbrev pub places : ℕ
places = 18446744073709551616

-- document 01's number of each cause of a refusal
abbrev pub number_of_cause : Cause → ℕ
number_of_cause Cause.Truncated = 1
number_of_cause Cause.TooMany = 2
number_of_cause Cause.Undefined = 3
number_of_cause Cause.OutOfRange = 4
number_of_cause Cause.Repeated = 5
number_of_cause Cause.Redefined = 6
number_of_cause Cause.LatePhi = 7
number_of_cause Cause.CallCounts = 8
number_of_cause Cause.Trailing = 9
