-- What a run over the blocks of a routine gives.
use Rattle.std.specs.Prelude.{ℕ, ◌+◌, ◌≡◌, List, length, Result, Ok, Err}
use Rattle.std.proofs.Math.Option.{none, some}
use Rattle.std.proofs.lemmas.List.Edits.{sets}
use Rattle.bytes_field.specs.Encode.{each_bytes}
use Rattle.bytes_block.specs.Encode.{block_bytes}
use Rattle.fold.specs.Family.{Marks}
use Rattle.rewrite.specs.Piece.{no_counts}
use Rattle.rewrite.specs.Run.{Rewritten}
use Rattle.rewrite_parts.specs.Rows.{rows_size}
use Rattle.rewrite_progress.specs.Effect.{type_numbers, mark_all}
use Rattle.rewrite_progress.specs.declared.Progress.{Progress}
use Rattle.rewrite.specs.declared.Fault.{Fault}

-- the last place at which a run may begin: far behind any head, and so that no place passes a number
abbrev pub highest_start : ℕ
highest_start = 67108864

-- the places of the rows in the working table
abbrev pub row_places : ℕ
row_places = rows_size

-- the bytes of rewritten blocks
abbrev pub body_of : Rewritten → List ℕ
body_of w = each_bytes block_bytes w.blocks

-- where a run begins
abbrev pub start_at : ℕ → Progress
start_at to = record { to = to; lines = 0; fresh = 0; counts = no_counts }

-- a run that met no fault: all blocks are written from `to` on
pub record Ran (w : Rewritten) (to : ℕ) (out fresh : List ℕ) (dropped : Marks)
    (out' fresh' : List ℕ) (dropped' : Marks) (p : Progress) : Type 0 where
  pub calm : w.fault ≡ none
  pub written : out' ≡ sets out to (body_of w)
  pub taken : fresh' ≡ sets fresh 0 (type_numbers w.fresh)
  pub place : p.to ≡ to + length (body_of w)
  pub many : p.fresh ≡ length w.fresh
  pub counted : p.counts ≡ w.counts
  pub marks : dropped' ≡ mark_all dropped w.dropped

-- a run's answer: the fault of the rewriting, or else all of it is written
pub record Runs (w : Rewritten) (to : ℕ) (out fresh : List ℕ) (dropped : Marks)
    (out' fresh' : List ℕ) (dropped' : Marks) (r : Result Progress Fault) : Type 0 where
  pub refused : (f : Fault) → r ≡ Err f → w.fault ≡ some f
  pub went : (p : Progress) → r ≡ Ok p → Ran w to out fresh dropped out' fresh' dropped' p

-- the blocks have `size` bytes, and `body` begins with them, as far as it has room
pub record Begun (w : Rewritten) (body : List ℕ) (size : ℕ) : Type 0 where
  pub calm : w.fault ≡ none
  pub buffer : List ℕ
  pub written : body ≡ sets buffer 0 (body_of w)
  pub place : size ≡ length (body_of w)
