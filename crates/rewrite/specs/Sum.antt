-- The closing sum of document 01: "output plus left out equals input plus rebuilt", counted over the same walk.
use Rattle.std.specs.Prelude.{ℕ, ◌+◌, List, [], ◌∷◌, Bool, true, false, cond, length}
use Rattle.std.proofs.Math.Option.{Option, none, some}
use Rattle.mir.specs.declared.ValueId.{ValueId}
use Rattle.mir.specs.declared.TypeId.{TypeId}
use Rattle.mir.specs.declared.Value.{Value}
use Rattle.mir.specs.Syntax.{Instruction, InstructionKind, Terminator, Jump, If, BranchCmp, Return, Unreachable, Block}
use Rattle.mir.specs.Syntax.{Assign, UnaryOp, BinaryOp, Call, Cast, Load, Store, Debug, Nop, Phi}
use Rattle.mir.specs.Syntax.{MakeTuple, ExtractTupleElement, MakeStruct, ExtractStructField, InsertField, InsertTuple, MakeFixedArray, AssertEq, HeapAllocCells}
use Rattle.fold.specs.declared.Edition.{Edition}
use Rattle.fold.specs.declared.Settings.{Settings}
use Rattle.mir.specs.Lookup.{Types}
use Rattle.mir.specs.Phis.{behind_phis}
use Rattle.rewrite.specs.State.{AggStates, no_states, forward_store}
use Rattle.rewrite.specs.Rebuild.{rebuild_all, wanted_arguments, wanted_returns, aggregate_type}
use Rattle.rewrite.specs.Step.{step}
use Rattle.rewrite.specs.Run.{Choice, finish, walk}

-- how many instructions blocks have in all
unfoldable pub instruction_count : List Block → ℕ
instruction_count [] = 0
instruction_count (k ∷ ks) = length k.instructions + instruction_count ks

-- an instruction is left out where its piece has no output
unfoldable pub without : List Instruction → ℕ
without [] = 1
without (i ∷ is) = 0

-- the rebuild instructions before a Store: none where it is forwarded
unfoldable pub before_store : Types → AggStates → ℕ → Value → TypeId → Option AggStates → ℕ
before_store τ S n x t none = length (rebuild_all τ S n (record { value = x; at = aggregate_type τ t } ∷ [])).before
before_store τ S n x t (some S') = 0

-- the rebuild instructions before an instruction in edition 1: only a Call and a Store have any
unfoldable pub before : Settings → Types → AggStates → ℕ → InstructionKind → ℕ
before σ τ S n (Assign d x t) = 0
before σ τ S n (UnaryOp op d x) = 0
before σ τ S n (BinaryOp op d x y) = 0
before σ τ S n (Call ds f xs ps rs) = length (rebuild_all τ S n (wanted_arguments τ xs ps)).before
before σ τ S n (Cast d x t u) = 0
before σ τ S n (Load d p t) = 0
before σ τ S n (Store p x t) = cond σ.tuples (before_store τ S n x t (forward_store τ S p x)) 0
before σ τ S n (Debug m xs) = 0
before σ τ S n Nop = 0
before σ τ S n (Phi d t ss) = 0
before σ τ S n (MakeTuple d xs) = 0
before σ τ S n (ExtractTupleElement d x k t) = 0
before σ τ S n (MakeStruct d fs t) = 0
before σ τ S n (ExtractStructField d x f t) = 0
before σ τ S n (InsertField d x f y t) = 0
before σ τ S n (InsertTuple d x k y t) = 0
before σ τ S n (MakeFixedArray d xs t c) = 0
before σ τ S n (AssertEq x y) = 0
before σ τ S n (HeapAllocCells d x) = 0

-- and before a terminator: only a Return has any
unfoldable pub before_end : Types → AggStates → ℕ → Terminator → ℕ
before_end τ S n (Jump b) = 0
before_end τ S n (If x a b) = 0
before_end τ S n (BranchCmp op x y a b) = 0
before_end τ S n (Return xs) = length (rebuild_all τ S n (wanted_returns τ xs)).before
before_end τ S n Unreachable = 0

-- by the edition; in edition 2 each fresh number is a rebuild
unfoldable pub built_before : Edition → ℕ → List TypeId → ℕ
built_before Edition.First n fresh = n
built_before Edition.Second n fresh = length fresh

module _ (σ : Settings) (τ : Types) (folds : ValueId → Bool) where
  -- how many instructions the walk leaves out
  unfoldable pub left_out : AggStates → ℕ → List Instruction → ℕ
  left_out S n [] = 0
  left_out S n (i ∷ is) = let p = step σ τ folds S n i in without p.out + left_out p.states (n + length p.fresh) is

  -- how many rebuild instructions it puts in
  unfoldable pub rebuilt : AggStates → ℕ → List Instruction → Terminator → ℕ
  rebuilt S n [] t = built_before σ.edition (before_end τ S n t) (finish σ τ S n t).fresh
  rebuilt S n (i ∷ is) t =
      let p = step σ τ folds S n i in
      built_before σ.edition (before σ τ S n i.kind) p.fresh + rebuilt p.states (n + length p.fresh) is t

-- both counts over blocks: a skipped block has neither
module _ (σ : Settings) (τ : Types) (c : Choice) where
  -- instructions left out of a block, in front of others
  unfoldable pub left_out_block : ℕ → Block → (ℕ → ℕ) → Bool → ℕ
  left_out_block n k rest true = rest n
  left_out_block n k rest false =
      let is = behind_phis k.instructions in
      left_out σ τ (c.folds k) no_states n is + rest (n + length (walk σ τ (c.folds k) no_states n is k.terminator).fresh)

  -- of all blocks
  unfoldable pub left_out_blocks : ℕ → List Block → ℕ
  left_out_blocks n [] = 0
  left_out_blocks n (k ∷ ks) = left_out_block n k (λ m. left_out_blocks m ks) (c.skips k)

  -- rebuild instructions of a block, in front of others
  unfoldable pub rebuilt_block : ℕ → Block → (ℕ → ℕ) → Bool → ℕ
  rebuilt_block n k rest true = rest n
  rebuilt_block n k rest false =
      let is = behind_phis k.instructions in
      rebuilt σ τ (c.folds k) no_states n is k.terminator + rest (n + length (walk σ τ (c.folds k) no_states n is k.terminator).fresh)

  -- of all blocks
  unfoldable pub rebuilt_blocks : ℕ → List Block → ℕ
  rebuilt_blocks n [] = 0
  rebuilt_blocks n (k ∷ ks) = rebuilt_block n k (λ m. rebuilt_blocks m ks) (c.skips k)
