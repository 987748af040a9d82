-- What a block adds to the output, and what the writers of blocks answer.
use Rattle.std.specs.Prelude.{ℕ, ◌+◌, ◌≤◌, ◌<◌, ◌≡◌, List, [], ◌∷◌, Bool, false, length, get_or, Result, Ok, Err}
use Rattle.std.proofs.Math.Option.{some}
use Rattle.mir.specs.declared.ValueId.{ValueId}
use Rattle.mir.specs.Syntax.{Instruction, Terminator, Block}
use Rattle.bytes_field.specs.declared.Bounds.{Bounds}
use Rattle.bytes_index.specs.declared.code.Code.{Code}
use Rattle.bytes_index.specs.Table.{starts_in}
use Rattle.bytes_index.specs.Code.{no_instruction, no_block, TerminatorIn, BlockIn, CodeIn}
use Rattle.fold.specs.declared.Edition.{Edition}
use Rattle.fold.specs.declared.Settings.{Settings}
use Rattle.mir.specs.Lookup.{Types}
use Rattle.fold.specs.Family.{Marks, build_dest}
use Rattle.rewrite.specs.State.{AggStates, no_states}
use Rattle.rewrite.specs.Fault.{last_number}
use Rattle.rewrite.specs.Run.{Walked, Rewritten, Choice, finish, walk, all_blocks}
use Rattle.mir.specs.Most.{most_values, most_instructions}
use Rattle.rewrite_parts.specs.Rows.{Rep, rows_from, rows_size, rows_in, fresh_in}
use Rattle.rewrite_progress.specs.declared.Progress.{Progress}
use Rattle.rewrite.specs.declared.Fault.{Fault}
use Rattle.rewrite_progress.specs.declared.Run.{Run}
use Rattle.fold.specs.Tables.{CodeGround}
use Rattle.rewrite_progress.specs.Ground.{Coded}
use Rattle.rewrite_progress.specs.Chosen.{Follows}
use Rattle.rewrite_progress.specs.Effect.{Output, output_of, behind, walked_effect, rewritten_effect, Puts, Low}
use Rattle.rewrite_arms.specs.declared.Used.{Used}
use Rattle.rewrite_step.specs.Stepping.{Lent, output_in, PutsIn, fresh_from, Numbered}
use Rattle.bytes_index.specs.declared.slots.Slots.{Slots}

-- the slots of block k: those that the table of facts has, no more than a block can have
pub record BlockSlots (facts : List ℕ) (k : ℕ) (at : Slots) : Type 0 where
  pub most : at.count ≤ most_instructions
  pub first : (b : Bounds) (s : List ℕ) (ks : List Block) → CodeIn b s facts ks → k < length ks → at.first ≡ get_or (starts_in facts) k 0
  pub count : (b : Bounds) (s : List ℕ) (ks : List Block) → CodeIn b s facts ks → k < length ks
      → length (get_or ks k no_block).instructions ≤ most_instructions → at.count ≡ length (get_or ks k no_block).instructions

-- the terminator behind a block's instructions is put out, in an edition
abbrev pub EndPut : Edition → Code → ℕ → Marks → List ℕ → List ℕ → Progress → List ℕ → List ℕ → Result Progress Fault → Type 0
EndPut edition code slot tracked work out p work' out' r =
    (σ : Settings) (τ : Types) (S : AggStates) (used : ℕ) (t : Terminator) (dropped : Marks) →
    σ.edition ≡ edition →
    CodeGround code τ →
    Rep code.bounds.next code.bytes.now tracked (rows_in work) used S →
    TerminatorIn code.bounds code.bytes.now code.facts.now slot t →
    Numbered code.bounds p →
    let w = finish σ τ S (fresh_from code.bounds p) t in
    Puts (output_of out (fresh_in work) dropped p) (walked_effect w) w.fault out' (fresh_in work') dropped r

-- a block's walk from a progress on: the instructions `is` and the terminator t, where the states S are tracked
abbrev pub walk_from : Run → Types → (ValueId → Bool) → AggStates → Progress → List Instruction → Terminator → Walked
walk_from run τ folds S p is t = walk run.settings τ folds S (fresh_from run.code.bounds p) is t

-- all of it: nothing is tracked where a block begins
abbrev pub walk_of : Run → Types → (ValueId → Bool) → Progress → Block → Walked
walk_of run τ folds p x = walk_from run τ folds no_states p x.instructions x.terminator

-- Of a block whose walk is `whole` from the output o on, the instructions `rest` and the terminator t are left at w: what
-- they give from the states that the tables hold is what the whole walk gives.
pub record Left (run : Run) (τ : Types) (folds : ValueId → Bool) (t : Terminator) (o : Output) (whole : Walked)
    (rest : List Instruction) (l : Lent) (w : Used Progress) : Type 0 where
  pub states : AggStates
  pub rep : Rep run.code.bounds.next run.code.bytes.now l.tracked (rows_in l.work) w.used states
  pub same : behind (output_in l w.value) (walked_effect (walk_from run τ folds states w.value rest t)) ≡ behind o (walked_effect whole)
  pub fault : (walk_from run τ folds states w.value rest t).fault w.value.lines ≡ whole.fault o.progress.lines
  pub bound : Numbered run.code.bounds w.value
  pub lines : w.value.lines ≤ last_number

-- the block x stands in the slots, its flags say which builds are folded, nothing is tracked, the next number is one and there
-- is room for more lines
pub record Begun (run : Run) (at : Slots) (l : Lent) (w : Used Progress)
    (τ : Types) (folds : ValueId → Bool) (x : Block) : Type 0 where
  pub ground : CodeGround run.code τ
  pub block : BlockIn run.code.bounds run.code.bytes.now run.code.facts.now at.first x
  pub many : length x.instructions ≡ at.count
  pub flags : (j : ℕ) (d : ValueId) → j < length x.instructions
      → build_dest (get_or x.instructions j no_instruction).kind ≡ some d → get_or run.choice.now (at.first + j) false ≡ folds d
  pub rep : Rep run.code.bounds.next run.code.bytes.now l.tracked (rows_in l.work) w.used no_states
  pub bound : Numbered run.code.bounds w.value
  pub lines : w.value.lines ≤ last_number

-- the numbers that the loop over a block's instructions begins with
pub record Ready (at : Slots) (w : Used Progress) (work : List ℕ) : Type 0 where
  pub most : at.count ≤ most_instructions
  pub low : Low 4801 w.value
  pub used : w.used ≡ rows_from
  pub long : rows_size ≤ length work

-- all instructions of x are behind, or a fault was met
pub record Through (run : Run) (τ : Types) (folds : ValueId → Bool) (x : Block)
    (l : Lent) (w : Used Progress) (l' : Lent) (r : Result (Used Progress) Fault) : Type 0 where
  pub refused : (f : Fault) → r ≡ Err f → (walk_of run τ folds w.value x).fault w.value.lines ≡ some f
  pub went : (v : Used Progress) → r ≡ Ok v
      → Left run τ folds x.terminator (output_in l w.value) (walk_of run τ folds w.value x) [] l' v

-- the instructions of a block that begins in these slots are put out
abbrev pub InstructionsPut : Run → Slots → Lent → Used Progress → Lent → Result (Used Progress) Fault → Type 0
InstructionsPut run at l w l' r =
    (τ : Types) (folds : ValueId → Bool) (x : Block) →
    Begun run at l w τ folds x →
    Through run τ folds x l w l' r

-- a mark for each value is lent, and a working table with all rows
abbrev pub Lendable : Marks → List ℕ → Type 0
Lendable tracked work = (length tracked ≡ most_values) × (rows_size ≤ length work)

-- the blocks ks, rewritten from a progress on
abbrev pub rewritten : Run → Types → Choice → Progress → List Block → Rewritten
rewritten run τ c p ks = all_blocks run.settings τ c (fresh_from run.code.bounds p) ks

-- they are put out, where the next number is one
abbrev pub BlocksPut : Run → Types → Choice → Lent → Progress → List Block → Lent → Result Progress Fault → Type 0
BlocksPut run τ c l p ks l' r =
    p.lines ≡ 0 →
    Numbered run.code.bounds p →
    PutsIn (output_in l p) (rewritten_effect (rewritten run τ c p ks)) (λ lines. (rewritten run τ c p ks).fault) l' r

-- block k of a routine is put out, and all blocks are
abbrev pub OnePut : Run → ℕ → Lent → Progress → Lent → Result Progress Fault → Type 0
OnePut run k l p l' r =
    (τ : Types) (c : Choice) (ks : List Block) →
    Coded run.code.bounds run.code.bytes.now run.code.facts.now τ ks →
    Follows c run.code.facts.now run.choice.now ks →
    k < length ks →
    BlocksPut run τ c l p (get_or ks k no_block ∷ []) l' r

abbrev pub AllPut : Run → Lent → Progress → Lent → Result Progress Fault → Type 0
AllPut run l p l' r =
    (τ : Types) (c : Choice) (ks : List Block) →
    Coded run.code.bounds run.code.bytes.now run.code.facts.now τ ks →
    Follows c run.code.facts.now run.choice.now ks →
    BlocksPut run τ c l p ks l' r
