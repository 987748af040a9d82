-- What is promised of an instruction and of a Return that are put out behind the rebuilds of what they read.
use Rattle.std.specs.Prelude.{ℕ, ◌<◌, ◌≤◌, ◌≡◌, List, length, get_or, Result, Ok, Err}
use Rattle.bytes_wire.specs.WellFormed.{FitValue}
use Rattle.mir.specs.declared.Value.{Value}
use Rattle.mir.specs.Syntax.{Instruction, Return}
use Rattle.mir.specs.Lookup.{Types}
use Rattle.bytes_index.specs.declared.code.Code.{Code}
use Rattle.bytes_index.specs.Code.{TerminatorIn}
use Rattle.fold.specs.declared.Edition.{Edition}
use Rattle.fold.specs.declared.Settings.{Settings}
use Rattle.fold.specs.Family.{Marks}
use Rattle.fold.specs.Tables.{CodeGround}
use Rattle.rewrite.specs.declared.Fault.{Fault}
use Rattle.rewrite.specs.State.{AggStates}
use Rattle.rewrite.specs.Rebuild.{Rebuilt}
use Rattle.rewrite.specs.Deep.{rebuild_deep, wanted_own}
use Rattle.rewrite.specs.Readings.{readings}
use Rattle.rewrite.specs.Piece.{Piece}
use Rattle.rewrite.specs.Stays.{kept_behind}
use Rattle.rewrite.specs.Run.{Walked, finish}
use Rattle.rewrite_parts.specs.Rows.{Rep, rows_in, fresh_in}
use Rattle.rewrite_parts.specs.Here.{Here}
use Rattle.rewrite_progress.specs.declared.Progress.{Progress}
use Rattle.rewrite_progress.specs.Effect.{output_of, piece_effect, walked_effect, Puts, fresh_from, Numbered}
use Rattle.rewrite_wanted.specs.Asked.{Setting}
use Rattle.rewrite_list.specs.Lists.{BuildsPut}
use Rattle.rewrite_patch.specs.Reach.{most_readings}
use Rattle.rewrite_patch.specs.Chunks.{numbered, Replaces}
use Rattle.rewrite_patch.specs.Kept.{Kept}
use Rattle.rewrite_patch.specs.Returned.{Given}
use Rattle.rewrite_before.specs.declared.Site.{Site}
use Rattle.rewrite_keep.specs.declared.Reader.{Reader}

-- an instruction of an accepted routine that reads these values
pub record Reading (code : Code) (slot : ℕ) (xs : List Value) : Type 0 where
  pub instruction : Instruction
  pub kept : Kept code slot instruction
  pub values : readings instruction.kind ≡ xs

-- the values xs are read in a slot
abbrev pub ReadBy : Code → ℕ → Reader → List Value → Type 0
ReadBy code slot Reader.Instruction xs = Reading code slot xs
ReadBy code slot Reader.Return xs = Given code slot xs

-- so many they are, and that is at most so many
abbrev pub CountRead : Code → ℕ → Reader → ℕ → Type 0
CountRead code slot reader r = (xs : List Value) → ReadBy code slot reader xs → (r ≡ length xs) × (r ≤ most_readings)

-- value j is this, and it has a byte form
abbrev pub ValueRead : Code → ℕ → Reader → ℕ → Value → Type 0
ValueRead code slot reader j x =
    (xs : List Value)
    → ReadBy code slot reader xs
    → j < length xs
    → (x ≡ get_or xs j Value.Error) × FitValue code.bounds.next x

-- the numbers stand for the values of R, and replace operands
pub record Taken (xs : List Value) (nums : List ℕ) (R : Rebuilt) : Type 0 where
  pub made : numbered xs nums ≡ R.values
  pub replaces : Replaces xs nums

abbrev pub TakenIn : List Value → List ℕ → Rebuilt → Result Progress Fault → Type 0
TakenIn xs nums R (Err f) = Unit {0}
TakenIn xs nums R (Ok q) = Taken xs nums R

-- what becomes of values from a number on, each at its own type
abbrev pub rebuilt_own : Types → AggStates → ℕ → List Value → Rebuilt
rebuilt_own τ S n xs = rebuild_deep τ S n (wanted_own τ xs)

-- the rebuilds of what is read in a slot are put out, and these are their numbers
abbrev pub ReadingsPut : Site → Reader → List ℕ → List ℕ → Progress → List ℕ → List ℕ → List ℕ → Result Progress Fault → Type 0
ReadingsPut site reader out work p out' work' nums r =
    (τ : Types) (S : AggStates) (xs : List Value)
    → Setting site.code site.tracked.now (rows_in work) τ S
    → ReadBy site.code site.slot reader xs
    → Numbered site.code.bounds p
    → BuildsPut (rebuilt_own τ S (fresh_from site.code.bounds p) xs) out work p out' work' r
    × TakenIn xs nums (rebuilt_own τ S (fresh_from site.code.bounds p) xs) r

-- an instruction that stays is put out, in edition 2
abbrev pub BehindPut : Code → ℕ → Marks → List ℕ → List ℕ → Progress → List ℕ → List ℕ → Result Progress Fault → Type 0
BehindPut code slot tracked out work p out' work' r =
    (τ : Types) (S : AggStates) (used : ℕ) (i : Instruction) (dropped : Marks) (q : Piece)
    → Here code.bounds code.bytes.now code.facts.now slot tracked (rows_in work) used τ S i
    → q ≡ kept_behind S i (rebuilt_own τ S (fresh_from code.bounds p) (readings i.kind))
    → Numbered code.bounds p
    → Puts (output_of out (fresh_in work) dropped p) (piece_effect q) q.fault out' (fresh_in work') dropped r

-- a Return, in edition 2
abbrev pub ReturnBehindPut : Code → ℕ → Marks → List ℕ → List ℕ → Progress → List ℕ → List ℕ → Result Progress Fault → Type 0
ReturnBehindPut code slot tracked out work p out' work' r =
    (σ : Settings) (τ : Types) (S : AggStates) (used : ℕ) (xs : List Value) (dropped : Marks) (w : Walked)
    → σ.edition ≡ Edition.Second
    → CodeGround code τ
    → Rep code.bounds.next code.bytes.now tracked (rows_in work) used S
    → TerminatorIn code.bounds code.bytes.now code.facts.now slot (Return xs)
    → w ≡ finish σ τ S (fresh_from code.bounds p) (Return xs)
    → Numbered code.bounds p
    → Puts (output_of out (fresh_in work) dropped p) (walked_effect w) w.fault out' (fresh_in work') dropped r
