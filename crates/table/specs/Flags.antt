-- Tables of flags.
use Rattle.std.specs.Prelude.{List, Bool}
use Rattle.std.specs.List.{list_any}

-- whether a flag stands
unfoldable pub any_stands : List Bool → Bool
any_stands fs = list_any (λ f. f) fs
