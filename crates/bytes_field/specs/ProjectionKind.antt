-- The kinds of projections as the code has them, and their numbers.
use Rattle.std.specs.Prelude.{ℕ, ◌≡◌, ◌<◌, Result, MatchResult}
use Rattle.bytes_field.specs.declared.projection_kind.ProjectionKind.{ProjectionKind}
use Rattle.bytes_field.specs.declared.projection_kind.ProjectionKind.TheVariants.{Index, Field, Tuple}
use Rattle.mir.specs.declared.UnknownNumber.{UnknownNumber}

-- a kind's number
abbrev pub number_of_projection_kind : ProjectionKind → ℕ
number_of_projection_kind Index = 0
number_of_projection_kind Field = 1
number_of_projection_kind Tuple = 2

-- the kind of a number; past the last there is none
abbrev pub DecodesProjectionKind : ℕ → Result ProjectionKind UnknownNumber → Type 0
DecodesProjectionKind n r = MatchResult r (λ k. number_of_projection_kind k ≡ n) (λ e. 2 < n)
