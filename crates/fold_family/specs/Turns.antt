-- How many turns a search for a family takes: one for each member, and one for each of its copies.
use Rattle.std.specs.Prelude.{ℕ, zero, suc, ◌+◌, List, [], ◌∷◌, Bool, true, false, length, get_or}
use Rattle.mir.specs.declared.ValueId.{ValueId}
use Rattle.mir.specs.Syntax.{Instruction}
use Rattle.mir.specs.Lookup.{Types}
use Rattle.fold.specs.Family.{Marks, family}
use Rattle.fold_family.specs.Copies.{Copy, no_copy, copies}

-- one for a mark
abbrev pub one : Bool → ℕ
one true = 1
one false = 0

-- how many values are marked
abbrev pub size : Marks → ℕ
size [] = 0
size (b ∷ m) = one b + size m

-- how many of the first e copies have a marked source
unfoldable pub copied_from : Marks → List Copy → ℕ → ℕ
copied_from m cs zero = 0
copied_from m cs (suc j) = one (get_or m (get_or cs j no_copy).source false) + copied_from m cs j

-- one turn for each member of a value's family, and one for each of the members' copies
unfoldable pub turns_of : Types → ValueId → List Instruction → ℕ
turns_of τ v is = let m = family τ v is in size m + copied_from m (copies τ is) (length (copies τ is))
