-- What an action and the end of a block add to the output.
use Rattle.std.specs.Prelude.{ℕ, ◌+◌, ◌≤◌, ◌<◌, ◌≡◌, List, length}
use Rattle.std.proofs.lemmas.List.Edits.{sets}
use Rattle.mir.specs.Syntax.{Instruction}
use Rattle.bytes_index.specs.declared.code.Code.{Code}
use Rattle.bytes_block.specs.Encode.{block_bytes}
use Rattle.bytes_index.specs.Code.{InstructionIn}
use Rattle.mir.specs.Lookup.{Types}
use Rattle.fold.specs.Family.{Marks}
use Rattle.rewrite.specs.declared.Counts.{Counts}
use Rattle.rewrite.specs.State.{AggStates}
use Rattle.rewrite.specs.Piece.{Piece, kept}
use Rattle.rewrite.specs.Run.{Walked, add_counts}
use Rattle.rewrite_parts.specs.Rows.{most_bytes}
use Rattle.rewrite_progress.specs.declared.Progress.{Progress}
use Rattle.std.specs.Prelude.{Result}
use Rattle.rewrite.specs.declared.Fault.{Fault}
use Rattle.fold.specs.Tables.{CodeGround}
use Rattle.rewrite_progress.specs.Effect.{Effect, output_of, piece_effect, walked_effect, Puts}
use Rattle.rewrite_arms.specs.declared.Action.{Action}
use Rattle.rewrite_arms.specs.Decided.{Does}

-- a progress at another place and number of instructions
abbrev pub moved_to : Progress → ℕ → ℕ → Progress
moved_to p to lines = record { to = to; lines = lines; fresh = p.fresh; counts = p.counts }

-- a progress with other counts
abbrev pub raised_by : Progress → Counts → Progress
raised_by p c = record { to = p.to; lines = p.lines; fresh = p.fresh; counts = add_counts p.counts c }

-- a part that is no longer than an input is copied, with so many instructions
abbrev pub PartPut : Progress → List ℕ → ℕ → List ℕ → List ℕ → Progress → Type 0
PartPut p part lines out out' r =
    length part ≤ most_bytes →
    (r ≡ moved_to p (p.to + length part) (p.lines + lines)) × (out' ≡ sets out p.to part)

-- one more of each count does not overflow
pub record CountsLow (c : Counts) : Type 0 where
  pub builds : c.builds < 2147483648
  pub extracts : c.extracts < 2147483648
  pub inserts : c.inserts < 2147483648
  pub assigns : c.assigns < 2147483648

-- an action is done: the piece is put out, or the block is full; where the instruction stays, itself stands there
abbrev pub Performs : Code → ℕ → Action → Progress → List ℕ → Marks → List ℕ → Marks → Result Progress Fault → Type 0
Performs code slot action p out dropped out' dropped' r =
    (τ : Types) (S : AggStates) (i : Instruction) (q : Piece) (types : List ℕ) →
    CodeGround code τ →
    InstructionIn code.bounds code.bytes.now code.facts.now slot i →
    Does code.bounds.next code.bytes.now S (kept S i) q action →
    Puts (output_of out types dropped p) (piece_effect q) q.fault out' types dropped' r

-- a walked block: its count in front, no instruction of the next block yet
unfoldable pub block_effect : Walked → Effect
block_effect w =
    record {
      bytes = block_bytes (record { instructions = w.out; terminator = w.terminator });
      lines = 0;
      dropped = w.dropped;
      fresh = w.fresh;
      counts = w.counts;
    }

-- a block whose body begins two bytes behind p gets its count in front
abbrev pub CountPut : Progress → List ℕ → Result Progress Fault → List ℕ → Result Progress Fault → Type 0
CountPut p out r out' r' =
    (out₀ types₀ types : List ℕ) (dropped₀ dropped : Marks) (w : Walked) →
    p.lines ≡ 0 →
    Puts (output_of out₀ types₀ dropped₀ (moved_to p (p.to + 2) 0)) (walked_effect w) w.fault out types dropped r →
    Puts (output_of out₀ types₀ dropped₀ p) (block_effect w) w.fault out' types dropped r'
