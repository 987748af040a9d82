-- Where the readings of an instruction stand, as lookups in its own fields find them: class by class, by bytes_operands' tables.
use Rattle.std.specs.Prelude.{ℕ, zero, suc, ◌+◌, ◌-◌, Bool, ◌&&◌, not, cond, eqb, List, get_or}
use Rattle.bytes_operands.specs.Fields.{projection_end, value_step, after, operand_row, list_row, list_at, list_count}
use Rattle.rewrite_patch.specs.declared.Row.{Row}

-- whether the kind's readings are its list: a Phi's sources are none
abbrev pub listed : ℕ → Bool
listed kind = (list_row kind).listed && not (eqb kind 9)

-- its list, or its operand fields
abbrev pub list_readings : List ℕ → ℕ → Row
list_readings t kind = record { count = list_count t kind; first = list_at t kind + 1; before = (list_row kind).before; apart = 0 }

abbrev pub field_readings : ℕ → Row
field_readings kind = record { count = (operand_row kind).count; first = (operand_row kind).first; before = 0; apart = (operand_row kind).apart }

abbrev pub row_of : List ℕ → ℕ → Row
row_of t kind = cond (listed kind) (list_readings t kind) (field_readings kind)

-- where value j of a row begins
abbrev pub value_place : List ℕ → Row → ℕ → ℕ
value_place t r j = after (value_step t r.before r.apart) j r.first + r.before

-- of k projections from a place on: how many are Index, and where the value of the j-th of these begins; behind them all where there
-- are no more
abbrev pub index_at : List ℕ → ℕ → Bool
index_at t at = eqb (get_or t at 0) 0

unfoldable pub index_count : List ℕ → ℕ → ℕ → ℕ
index_count t zero at = 0
index_count t (suc k) at = cond (index_at t at) 1 0 + index_count t k (projection_end t at)

unfoldable pub index_place : List ℕ → ℕ → ℕ → ℕ → ℕ
index_place t zero j at = at
index_place t (suc k) j at =
    cond (index_at t at && eqb j 0) (at + 1) (index_place t k (j - cond (index_at t at) 1 0) (projection_end t at))

-- how many readings there are
abbrev pub count_in : List ℕ → ℕ → ℕ
count_in t kind =
    cond (eqb kind 5) (index_count t (get_or t 4 0) 5 + 1)
    (cond (eqb kind 6) (index_count t (get_or t 2 0) 3 + 1) (row_of t kind).count)

-- where the number of reading j stands if it is an operand: a Load's base comes first, a Store's value last
abbrev pub number_in : List ℕ → ℕ → ℕ → ℕ
number_in t kind j =
    cond (eqb kind 5) (cond (eqb j 0) 2 (index_place t (get_or t 4 0) (j - 1) 5 + 1))
    (cond (eqb kind 6) (index_place t (get_or t 2 0) j 3 + 1) (value_place t (row_of t kind) j + 1))

-- which reading has no kind byte: the first of a Load
abbrev pub is_base : ℕ → ℕ → Bool
is_base kind j = eqb kind 5 && eqb j 0
