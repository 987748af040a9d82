-- The numbers of an answer: ten, or eleven with the length of the page.
use Rattle.std.specs.Prelude.{ℕ, List, [], ◌∷◌, ◌++◌}
use Rattle.pass_numbers.specs.declared.Numbers.{Numbers}

-- the numbers in the order in which the entry gives them
abbrev pub ten_numbers : Numbers → List ℕ
ten_numbers n =
    n.number
    ∷ n.offset
    ∷ n.result
    ∷ n.counts.builds
    ∷ n.counts.extracts
    ∷ n.counts.inserts
    ∷ n.counts.assigns
    ∷ n.counts.materializations
    ∷ n.reason
    ∷ n.size
    ∷ []

-- no page is made yet, so its length is 0
abbrev pub page_length : ℕ
page_length = 0

abbrev pub eleven_numbers : Numbers → List ℕ
eleven_numbers n = ten_numbers n ++ (page_length ∷ [])
