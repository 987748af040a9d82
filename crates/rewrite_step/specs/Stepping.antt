-- What a step through a block leaves behind, and what is left of the block.
use Rattle.std.specs.Prelude.{ℕ, ◌≤◌, ◌≡◌, List, [], Bool, true, Result, Ok, Err}
use Rattle.std.proofs.Math.Option.{Option, none, some}
use Rattle.mir.specs.declared.TypeId.{TypeId}
use Rattle.mir.specs.declared.Value.{Value}
use Rattle.mir.specs.declared.ValueId.{ValueId}
use Rattle.mir.specs.Syntax.{Place, Instruction, Call, Store}
use Rattle.mir.specs.Reads.{kind_number}
use Rattle.bytes_index.specs.declared.code.Code.{Code}
use Rattle.fold.specs.declared.Edition.{Edition}
use Rattle.fold.specs.declared.Settings.{Settings}
use Rattle.mir.specs.Lookup.{Types, on_some}
use Rattle.fold.specs.Family.{Marks, build_dest}
use Rattle.rewrite.specs.State.{AggStates, state_of}
use Rattle.rewrite.specs.Rebuild.{rebuild_all, wanted_arguments, aggregate_type}
use Rattle.rewrite.specs.Piece.{Piece, kept, left, one_insert}
use Rattle.rewrite.specs.Stays.{step_call, store_kept, stays_second}
use Rattle.rewrite.specs.Step.{step}
use Rattle.rewrite_parts.specs.Rows.{Rep, Room, rows_in, fresh_in}
use Rattle.rewrite_parts.specs.Here.{Here}
use Rattle.rewrite_progress.specs.declared.Progress.{Progress}
use Rattle.rewrite.specs.declared.Fault.{Fault}
use Rattle.rewrite_progress.specs.Effect.{Effect, Output, output_of, behind, piece_effect, Puts, Low}
pub use Rattle.rewrite_progress.specs.Effect.{fresh_from, Numbered}
use Rattle.rewrite_arms.specs.Decided.{store_kind, Does}
use Rattle.rewrite_arms.specs.declared.Action.{Action}
use Rattle.rewrite_step.specs.declared.Rewrite.{Rewrite}
use Rattle.rewrite_arms.specs.declared.Used.{Used}

-- the tables that a walk is lent: the marks of the tracked and of the dropped values, the working table, the output
pub record Lent : Type 0 where
  pub tracked : Marks
  pub dropped : Marks
  pub work : List ℕ
  pub out : List ℕ

abbrev pub lent_as : Marks → Marks → List ℕ → List ℕ → Lent
lent_as tracked dropped work out = record { tracked = tracked; dropped = dropped; work = work; out = out }

-- the output in them
abbrev pub output_in : Lent → Progress → Output
output_in l p = output_of l.out (fresh_in l.work) l.dropped p

-- what a writer into them answers
abbrev pub PutsIn : Output → Effect → (ℕ → Option Fault) → Lent → Result Progress Fault → Type 0
PutsIn o e fault l r = Puts o e fault l.out (fresh_in l.work) l.dropped r

-- the flag of a build says whether it is folded
abbrev pub FoldsAs : Bool → (ValueId → Bool) → Instruction → Type 0
FoldsAs fold folds i = (d : ValueId) → build_dest i.kind ≡ some d → fold ≡ folds d

-- what stays is put behind the rebuilds of what it reads in edition 2; in edition 1 it is r
abbrev pub staying : Edition → Rewrite → Rewrite
staying Edition.First r = r
staying Edition.Second r = Rewrite.Behind

-- what is decided of an instruction: where it is kept, it stays
abbrev pub as_decided : Edition → Action → Rewrite
as_decided e Action.Keep = staying e (Rewrite.Does Action.Keep)
as_decided e (Action.Track d c) = Rewrite.Does (Action.Track d c)
as_decided e (Action.Assign d place t) = Rewrite.Does (Action.Assign d place t)

-- the piece q of a Call, and of a Store that is not forwarded
pub data CallPiece (τ : Types) (S : AggStates) (n : ℕ) (i : Instruction) (q : Piece) : Type 0 where
  call_piece : (ds : List ValueId) (f : ℕ) (xs : List Value) (ps rs : List TypeId)
      → i.kind ≡ Call ds f xs ps rs
      → q ≡ step_call S i ds f ps rs (rebuild_all τ S n (wanted_arguments τ xs ps)) (rebuild_all τ S n (wanted_arguments τ xs ps)).fresh
      → CallPiece τ S n i q

pub data StorePiece (τ : Types) (S : AggStates) (n : ℕ) (i : Instruction) (q : Piece) : Type 0 where
  store_piece : (p : Place) (x : Value) (t : TypeId)
      → i.kind ≡ Store p x t
      → q ≡ store_kept τ S n i p x t (on_some (aggregate_type τ t) (λ u. state_of S x))
      → StorePiece τ S n i q

-- what becomes of an instruction is the piece q; where it stays in edition 1, itself stands there
abbrev pub Becomes : Types → ℕ → List ℕ → AggStates → ℕ → Instruction → Piece → Rewrite → Type 0
Becomes τ next s S n i q (Rewrite.Does a) = Does next s S (kept S i) q a
Becomes τ next s S n i q Rewrite.Forwarded = q ≡ left one_insert [] q.states
Becomes τ next s S n i q Rewrite.Call = CallPiece τ S n i q
Becomes τ next s S n i q Rewrite.Store = StorePiece τ S n i q
Becomes τ next s S n i q Rewrite.Behind = q ≡ stays_second τ S n i

-- the tables hold the states behind the piece q, and the answer is what becomes of the instruction
pub record Settles (τ : Types) (next : ℕ) (s : List ℕ) (tracked : Marks) (rows : List ℕ) (S : AggStates) (n : ℕ)
    (i : Instruction) (q : Piece) (r : Used Rewrite) : Type 0 where
  pub rep : Rep next s tracked rows r.used q.states
  pub becomes : Becomes τ next s S n i q r.value

-- a step's answer stays low
abbrev pub SteppedLow : ℕ → ℕ → Result (Used Progress) Fault → Type 0
SteppedLow k used (Err f) = Unit {0}
SteppedLow k used (Ok w) = Low k w.value × (w.used ≤ used)

-- a piece is put out, without a fault, and the tables hold its states
pub record Gone (next : ℕ) (s : List ℕ) (o : Output) (q : Piece) (l : Lent) (w : Used Progress) : Type 0 where
  pub safe : q.fault o.progress.lines ≡ none
  pub out : output_in l w.value ≡ behind o (piece_effect q)
  pub rep : Rep next s l.tracked (rows_in l.work) w.used q.states

-- what a step answers
pub record Steps (next : ℕ) (s : List ℕ) (o : Output) (q : Piece) (l : Lent) (r : Result (Used Progress) Fault) : Type 0 where
  pub refused : (f : Fault) → r ≡ Err f → q.fault o.progress.lines ≡ some f
  pub went : (w : Used Progress) → r ≡ Ok w → Gone next s o q l w

-- what is settled of a Store, where the setting for tuples is on
abbrev pub SettlesStore : Code → Settings → ℕ → Marks → List ℕ → ℕ → Marks → List ℕ → Used Rewrite → Type 0
SettlesStore code σ slot tracked rows used tracked' rows' r =
    (τ : Types) (S : AggStates) (folds : ValueId → Bool) (n : ℕ) (i : Instruction) →
    Here code.bounds code.bytes.now code.facts.now slot tracked rows used τ S i →
    Room rows used →
    kind_number i.kind ≡ store_kind →
    σ.tuples ≡ true →
    Settles τ code.bounds.next code.bytes.now tracked' rows' S n i (step σ τ folds S n i) r

-- what is settled of an instruction, whatever its kind
abbrev pub SettlesAll : Code → Settings → ℕ → Bool → Marks → List ℕ → ℕ → Marks → List ℕ → Used Rewrite → Type 0
SettlesAll code σ slot fold tracked rows used tracked' rows' r =
    (τ : Types) (S : AggStates) (folds : ValueId → Bool) (n : ℕ) (i : Instruction) →
    Here code.bounds code.bytes.now code.facts.now slot tracked rows used τ S i →
    Room rows used →
    FoldsAs fold folds i →
    Settles τ code.bounds.next code.bytes.now tracked' rows' S n i (step σ τ folds S n i) r

-- what was settled is put out
abbrev pub PutsPiece : Code → ℕ → Rewrite → Lent → Progress → Lent → Result Progress Fault → Type 0
PutsPiece code slot rewrite l p l' r =
    (τ : Types) (S : AggStates) (used : ℕ) (i : Instruction) (q : Piece) →
    Here code.bounds code.bytes.now code.facts.now slot l.tracked (rows_in l.work) used τ q.states i →
    Becomes τ code.bounds.next code.bytes.now S (fresh_from code.bounds p) i q rewrite →
    Numbered code.bounds p →
    PutsIn (output_in l p) (piece_effect q) q.fault l' r

-- a whole step: one instruction is settled and put out
abbrev pub StepsOn : Code → Settings → ℕ → Bool → Lent → Used Progress → Lent → Result (Used Progress) Fault → Type 0
StepsOn code σ slot fold l w l' r =
    (τ : Types) (S : AggStates) (folds : ValueId → Bool) (i : Instruction) →
    Here code.bounds code.bytes.now code.facts.now slot l.tracked (rows_in l.work) w.used τ S i →
    Room (rows_in l.work) w.used →
    FoldsAs fold folds i →
    Numbered code.bounds w.value →
    Steps code.bounds.next code.bytes.now (output_in l w.value) (step σ τ folds S (fresh_from code.bounds w.value) i) l' r
