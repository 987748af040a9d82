-- What all runs of one caller counted, and what counts add.
use Rattle.std.specs.Prelude.{ℕ, ◌+◌, cond, ltb}
use Rattle.rewrite.specs.declared.Counts.{Counts}
use Rattle.pass_numbers.specs.declared.Totals.{Totals}

-- how many numbers have 64 bits, and the largest of them
abbrev pub numbers64 : ℕ
numbers64 = 18446744073709551616

abbrev pub highest64 : ℕ
highest64 = 18446744073709551615

-- the counts of one run alone
abbrev pub totals_of : Counts → Totals
totals_of c =
    record {
      builds = c.builds;
      extracts = c.extracts;
      inserts = c.inserts;
      assigns = c.assigns;
      materializations = c.materializations;
    }

-- nothing is counted
abbrev pub no_totals : Totals
no_totals = record { builds = 0; extracts = 0; inserts = 0; assigns = 0; materializations = 0 }

-- a sum that stays at the largest number
unfoldable pub added : ℕ → ℕ → ℕ
added total n = cond (ltb (total + n) numbers64) (total + n) highest64

-- each total with its count
unfoldable pub with_counts : Totals → Counts → Totals
with_counts t c =
    record {
      builds = added t.builds c.builds;
      extracts = added t.extracts c.extracts;
      inserts = added t.inserts c.inserts;
      assigns = added t.assigns c.assigns;
      materializations = added t.materializations c.materializations;
    }
