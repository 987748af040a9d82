-- Names and bytes that stand before others.
use Rattle.std.specs.Prelude.{ℕ, zero, suc, ◌+◌, ◌-◌, ◌*◌, List, [], ◌∷◌, Bool, true, false, ◌&&◌, ◌||◌, get_or, take, drop, eqb}
use Rattle.bytes_wire.specs.Number.{at16}
use Rattle.mir.specs.declared.NameId.{NameId}

-- the name is one of these
abbrev pub has_name : NameId → List NameId → Bool
has_name x [] = false
has_name x (n ∷ ns) = eqb x.0 n.0 || has_name x ns

-- the names of the first k fields that begin at `from`, four bytes each, the last one first
abbrev pub names_at : List ℕ → ℕ → ℕ → List NameId
names_at s from zero = []
names_at s from (suc k) = record { 0 = at16 s (from + 4 * k) } ∷ names_at s from k

-- the bytes are the same
abbrev pub same_bytes : List ℕ → List ℕ → Bool
same_bytes [] [] = true
same_bytes [] (y ∷ ys) = false
same_bytes (x ∷ xs) [] = false
same_bytes (x ∷ xs) (y ∷ ys) = eqb x y && same_bytes xs ys

-- the bytes from one place to another
abbrev pub part : List ℕ → ℕ → ℕ → List ℕ
part s from to = take (to - from) (drop from s)

-- x is one of k parts from part j on; part j stands from place j of `starts` to place j + 1
unfoldable pub among_parts : List ℕ → List ℕ → List ℕ → ℕ → ℕ → Bool
among_parts x s starts j zero = false
among_parts x s starts j (suc k) = same_bytes x (part s (get_or starts j 0) (get_or starts (suc j) 0)) || among_parts x s starts (suc j) k
