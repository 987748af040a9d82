-- What an instruction, a terminator, a block or a routine adds to the output.
use Rattle.std.specs.Prelude.{ℕ, ◌+◌, ◌*◌, ◌≤◌, ◌<◌, ◌≡◌, List, [], ◌∷◌, ◌++◌, length, Result, Ok, Err, ⊤}
use Rattle.std.proofs.Math.Option.{Option, none, some}
use Rattle.std.proofs.lemmas.List.Edits.{sets}
use Rattle.table.specs.Number.{numbers_below}
use Rattle.mir.specs.declared.ValueId.{ValueId}
use Rattle.mir.specs.declared.TypeId.{TypeId}
use Rattle.bytes_field.specs.declared.Bounds.{Bounds}
use Rattle.bytes_field.specs.Encode.{each_bytes, instruction_bytes, terminator_bytes}
use Rattle.bytes_block.specs.Encode.{block_bytes}
use Rattle.fold.specs.Family.{Marks, mark}
use Rattle.rewrite.specs.declared.Fault.{Fault}
use Rattle.rewrite.specs.declared.Counts.{Counts}
use Rattle.rewrite.specs.Fault.{last_number}
use Rattle.rewrite.specs.Rebuild.{Rebuilt}
use Rattle.rewrite.specs.Piece.{Piece, no_counts}
use Rattle.rewrite.specs.Run.{Walked, Rewritten, add_counts}
use Rattle.rewrite_progress.specs.declared.Progress.{Progress}

pub record Effect : Type 0 where
  pub bytes : List ℕ
  pub lines : ℕ  -- how many instructions of the present block
  pub dropped : List ValueId
  pub fresh : List TypeId
  pub counts : Counts

-- the lent buffer, the types of the fresh numbers by number, the marks of the dropped values, and how far all is written
pub record Output : Type 0 where
  pub buffer : List ℕ
  pub types : List ℕ
  pub dropped : Marks
  pub progress : Progress

abbrev pub output_of : List ℕ → List ℕ → Marks → Progress → Output
output_of buffer types dropped p = record { buffer = buffer; types = types; dropped = dropped; progress = p }

-- the values are marked, one after another
unfoldable pub mark_all : Marks → List ValueId → Marks
mark_all m [] = m
mark_all m (d ∷ ds) = mark_all (mark m d) ds

-- types by their numbers
unfoldable pub type_numbers : List TypeId → List ℕ
type_numbers [] = []
type_numbers (t ∷ ts) = t.0 ∷ type_numbers ts

-- how far the output is behind an effect
unfoldable pub further : Progress → Effect → Progress
further p e =
    record {
      to = p.to + length e.bytes;
      lines = p.lines + e.lines;
      fresh = p.fresh + length e.fresh;
      counts = add_counts p.counts e.counts;
    }

-- the output behind an effect
unfoldable pub behind : Output → Effect → Output
behind o e =
    record {
      buffer = sets o.buffer o.progress.to e.bytes;
      types = sets o.types o.progress.fresh (type_numbers e.fresh);
      dropped = mark_all o.dropped e.dropped;
      progress = further o.progress e;
    }

-- one effect, then another
unfoldable pub then_effect : Effect → Effect → Effect
then_effect e f =
    record {
      bytes = e.bytes ++ f.bytes;
      lines = e.lines + f.lines;
      dropped = e.dropped ++ f.dropped;
      fresh = e.fresh ++ f.fresh;
      counts = add_counts e.counts f.counts;
    }

-- nothing at all
abbrev pub no_effect : Effect
no_effect = record { bytes = []; lines = 0; dropped = []; fresh = []; counts = no_counts }

-- what one instruction gives
unfoldable pub piece_effect : Piece → Effect
piece_effect p =
    record {
      bytes = each_bytes instruction_bytes p.out;
      lines = length p.out;
      dropped = p.dropped;
      fresh = p.fresh;
      counts = p.counts;
    }

-- the builds before what needs them
unfoldable pub rebuilt_effect : Rebuilt → Effect
rebuilt_effect r =
    record {
      bytes = each_bytes instruction_bytes r.before;
      lines = length r.before;
      dropped = [];
      fresh = r.fresh;
      counts = no_counts;
    }

-- what is left of a block, its terminator too
unfoldable pub walked_effect : Walked → Effect
walked_effect w =
    record {
      bytes = each_bytes instruction_bytes w.out ++ terminator_bytes w.terminator;
      lines = length w.out;
      dropped = w.dropped;
      fresh = w.fresh;
      counts = w.counts;
    }

-- whole blocks
unfoldable pub rewritten_effect : Rewritten → Effect
rewritten_effect w =
    record {
      bytes = each_bytes block_bytes w.blocks;
      lines = 0;
      dropped = w.dropped;
      fresh = w.fresh;
      counts = w.counts;
    }

-- the fault that was met, if any
abbrev pub met : Result ⊤ Fault → Option Fault
met (Ok _) = none
met (Err f) = some f

-- what a writer answers, where the fault is by how many instructions the block has before: a fault only where it is the first met,
-- else there is none, and how far the output is written then is the output behind the effect
pub record Puts (o : Output) (e : Effect) (fault : ℕ → Option Fault) (buffer types : List ℕ) (dropped : Marks) (r : Result Progress Fault) : Type 0 where
  pub refused : (f : Fault) → r ≡ Err f → fault o.progress.lines ≡ some f
  pub went : (p : Progress) → r ≡ Ok p → (fault o.progress.lines ≡ none) × (output_of buffer types dropped p ≡ behind o e)

-- no rebuild has more bytes; each takes a number, of which there are as many as two bytes count
abbrev pub number_bytes : ℕ
number_bytes = 2048

-- the numbers of a progress are at most these: beside its rebuilds one thing put out adds at most 2^20 bytes and 1,024 of anything else; lines and
-- materializations rise with its rebuilds too
pub record Low (k : ℕ) (p : Progress) : Type 0 where
  pub to : p.to ≤ k * 1048576 + p.fresh * number_bytes
  pub lines : p.lines ≤ k * 65536
  pub fresh : p.fresh ≤ last_number
  pub builds : p.counts.builds ≤ k * 1024
  pub extracts : p.counts.extracts ≤ k * 1024
  pub inserts : p.counts.inserts ≤ k * 1024
  pub assigns : p.counts.assigns ≤ k * 1024
  pub materializations : p.counts.materializations ≤ k * 65536

-- as many instructions as are put out at once
abbrev pub most_lines : ℕ
most_lines = 1024

-- as low as a writer needs it; a whole routine stays below
abbrev pub low_enough : ℕ
low_enough = 8000

-- before the blocks, before a block, behind a block and behind all of them
abbrev pub start_low : ℕ
start_low = 64

abbrev pub block_low : ℕ
block_low = 4800

abbrev pub block_rise : ℕ
block_rise = 130

abbrev pub routine_low : ℕ
routine_low = 4300

-- a count, or a place within an instruction, to which another can be added
abbrev pub counts_below : ℕ
counts_below = 1073741824

-- a writer's answer stays low
abbrev pub PutLow : ℕ → Result Progress Fault → Type 0
PutLow k (Err x) = Unit {0}
PutLow k (Ok p) = Low k p

-- the fresh numbers begin with the next one, which is a number
abbrev pub fresh_from : Bounds → Progress → ℕ
fresh_from b p = b.next + p.fresh

abbrev pub Numbered : Bounds → Progress → Type 0
Numbered b p = fresh_from b p < numbers_below
