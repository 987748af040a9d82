-- The number of a shelf reason.
use Rattle.std.specs.Prelude.{ℕ, Result, Ok, Err, ⊤}
use Rattle.shelf_test.specs.declared.ShelfReason.{ShelfReason}

-- document 01's number of each reason: "Reason 0 is passed; else the lowest that holds"
abbrev pub number_of_reason : Result ⊤ ShelfReason → ℕ
number_of_reason (Ok _) = 0
number_of_reason (Err ShelfReason.TypesDisagree) = 1
number_of_reason (Err ShelfReason.ReadsEarly) = 2
number_of_reason (Err ShelfReason.BaseAsPart) = 3
number_of_reason (Err ShelfReason.DeepStore) = 4
number_of_reason (Err ShelfReason.ReadsDropped) = 5
