-- The kinds of terminators as the code has them, and their numbers.
use Rattle.std.specs.Prelude.{ℕ, ◌≡◌, ◌<◌, Result, MatchResult}
use Rattle.mir.specs.declared.terminator.TerminatorKind.{TerminatorKind}
use Rattle.mir.specs.declared.terminator.TerminatorKind.TheVariants.{Jump, If, BranchCmp, Return, Unreachable}
use Rattle.mir.specs.declared.UnknownNumber.{UnknownNumber}

-- a kind's number
abbrev pub number_of_terminator_kind : TerminatorKind → ℕ
number_of_terminator_kind Jump = 0
number_of_terminator_kind If = 1
number_of_terminator_kind BranchCmp = 2
number_of_terminator_kind Return = 3
number_of_terminator_kind Unreachable = 4

-- the kind of a number; past the last there is none
abbrev pub DecodesTerminatorKind : ℕ → Result TerminatorKind UnknownNumber → Type 0
DecodesTerminatorKind n r = MatchResult r (λ k. number_of_terminator_kind k ≡ n) (λ e. 4 < n)
