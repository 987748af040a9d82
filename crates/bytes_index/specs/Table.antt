-- The table of facts that the reader leaves of a routine: numbers of 16 bits, in sections.
-- From 0 the places of the types and the place behind the last; from 65 the recorded types by value; from 321 the places of
-- the blocks and the place behind the last; from 354 the slot of each block's first instruction and the slot behind the last;
-- from 387 a row of 20 numbers for each slot. A slot is an instruction's, or behind a block's instructions its terminator's.
-- (src/lib.rt has the same numbers.)
use Rattle.std.specs.Prelude.{ℕ, ◌+◌, ◌*◌, ◌%◌, ◌<◌, ◌≡◌, List, length, get_or, drop, set}
use Rattle.mir.specs.declared.ValueId.{ValueId}

-- how long it is
abbrev pub facts_size : ℕ
facts_size = 6147

abbrev pub recorded_in : List ℕ → List ℕ
recorded_in facts = drop 65 facts

abbrev pub blocks_in : List ℕ → List ℕ
blocks_in facts = drop 321 facts

abbrev pub starts_in : List ℕ → List ℕ
starts_in facts = drop 354 facts

-- storing that block k begins at a place, and that `total` instructions stand before it: its first slot is behind theirs
-- and those of the k terminators before it
abbrev pub block_set : List ℕ → ℕ → ℕ → ℕ → List ℕ
block_set facts k place total = set (set facts (321 + k) (place % 65536)) (354 + k) (total + k)

-- a place in a row can be added to where the row begins
abbrev pub columns_below : ℕ
columns_below = 1048576

-- where a slot's row begins, and where its reads do
abbrev pub row_at : ℕ → ℕ
row_at slot = 387 + 20 * slot

abbrev pub reads_at : ℕ → ℕ
reads_at slot = 391 + 20 * slot

-- number k of a slot's row
abbrev pub row_number : List ℕ → ℕ → ℕ → ℕ
row_number facts slot k = get_or facts (row_at slot + k) 0

-- from which place to which the slot's instruction or terminator stands, its kind, how many values it reads, and which
abbrev pub place_in : List ℕ → ℕ → ℕ
place_in facts slot = row_number facts slot 0

abbrev pub end_in : List ℕ → ℕ → ℕ
end_in facts slot = row_number facts slot 1

abbrev pub kind_in : List ℕ → ℕ → ℕ
kind_in facts slot = row_number facts slot 2

abbrev pub read_count : List ℕ → ℕ → ℕ
read_count facts slot = row_number facts slot 3

abbrev pub read_in : List ℕ → ℕ → ℕ → ℕ
read_in facts slot k = row_number facts slot (4 + k)

-- the slot's reads are these, in the order of the bytes
pub record ReadsIn (facts : List ℕ) (slot : ℕ) (vs : List ValueId) : Type 0 where
  pub many : read_count facts slot ≡ length vs
  pub each : (k : ℕ) → k < length vs → read_in facts slot k ≡ (get_or vs k (record { 0 = 0 })).0
