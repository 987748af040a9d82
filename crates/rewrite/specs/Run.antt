-- A block, and a routine: sroa.rs 756 to 1375, `run`.
use Rattle.std.specs.Prelude.{ℕ, ◌+◌, List, [], ◌∷◌, ◌++◌, map, Bool, true, false, not, ◌||◌, length, eqb}
use Rattle.std.proofs.Math.Option.{Option, none, some}
use Rattle.mir.specs.declared.ValueId.{ValueId}
use Rattle.mir.specs.declared.TypeId.{TypeId}
use Rattle.mir.specs.declared.Value.{Value}
use Rattle.mir.specs.Syntax.{Instruction, InstructionKind, Terminator, Jump, If, BranchCmp, Return, Unreachable, Block}
use Rattle.mir.specs.Syntax.{Assign, UnaryOp, BinaryOp, Call, Cast, Load, Store, Debug, Nop, Phi}
use Rattle.mir.specs.Syntax.{MakeTuple, ExtractTupleElement, MakeStruct, ExtractStructField, InsertField, InsertTuple, MakeFixedArray, AssertEq, HeapAllocCells}
use Rattle.mir.specs.Routine.{Routine}
use Rattle.fold.specs.declared.Edition.{Edition}
use Rattle.fold.specs.declared.Settings.{Settings}
use Rattle.mir.specs.Lookup.{Types, types_in}
use Rattle.fold.specs.Family.{Marks, cross_block_aggregates}
use Rattle.fold.specs.Climb.{build_of}
use Rattle.fold.specs.Fold.{folds_tuple, folds_struct, folds_array, skipped}
use Rattle.mir.specs.Phis.{behind_phis, phis_of}
use Rattle.rewrite.specs.State.{AggStates, no_states}
use Rattle.rewrite.specs.Fault.{first_met}
use Rattle.rewrite.specs.Rebuild.{Rebuilt, rebuild_all, wanted_returns}
use Rattle.rewrite.specs.Deep.{rebuild_deep, wanted_own}
use Rattle.rewrite.specs.declared.Counts.{Counts}
use Rattle.rewrite.specs.declared.Fault.{Fault}
use Rattle.rewrite.specs.Piece.{no_counts, materialized, Piece}
use Rattle.rewrite.specs.Step.{step}

abbrev pub add_counts : Counts → Counts → Counts
add_counts a b =
    record {
      builds = a.builds + b.builds;
      extracts = a.extracts + b.extracts;
      inserts = a.inserts + b.inserts;
      assigns = a.assigns + b.assigns;
      materializations = a.materializations + b.materializations;
    }

-- what a block's walk gives from some place on
pub record Walked : Type 0 where
  pub out : List Instruction
  pub terminator : Terminator
  pub dropped : List ValueId
  pub fresh : List TypeId
  pub counts : Counts
  pub changed : Bool
  pub fault : ℕ → Option Fault  -- by how many instructions the block has before

-- nothing changed by the terminator
unfoldable pub ends : Terminator → Walked
ends t = record { out = []; terminator = t; dropped = []; fresh = []; counts = no_counts; changed = false; fault = λ l. none }

-- "only Return is ever rewritten"
unfoldable pub returned : Rebuilt → Walked
returned r =
    record {
      out = r.before;
      terminator = Return r.values;
      dropped = [];
      fresh = r.fresh;
      counts = materialized (length r.fresh);
      changed = not (eqb (length r.fresh) 0);
      fault = r.fault;
    }

-- sroa.rs 1324 to 1332 of a Return's values; in edition 2 each at its recorded aggregate type, its parts before it
unfoldable pub rebuilt_return : Edition → Types → AggStates → ℕ → List Value → Rebuilt
rebuilt_return Edition.First τ S n xs = rebuild_all τ S n (wanted_returns τ xs)
rebuilt_return Edition.Second τ S n xs = rebuild_deep τ S n (wanted_own τ xs)

-- sroa.rs 1307 to 1346: the terminator, behind the last instruction
unfoldable pub finish : Settings → Types → AggStates → ℕ → Terminator → Walked
finish σ τ S n (Jump b) = ends (Jump b)
finish σ τ S n (If x a b) = ends (If x a b)
finish σ τ S n (BranchCmp op x y a b) = ends (BranchCmp op x y a b)
finish σ τ S n (Return xs) = returned (rebuilt_return σ.edition τ S n xs)
finish σ τ S n Unreachable = ends Unreachable

-- a piece in front of what comes behind it
unfoldable pub glue : Piece → Walked → Walked
glue p w =
    record {
      out = p.out ++ w.out;
      terminator = w.terminator;
      dropped = p.dropped ++ w.dropped;
      fresh = p.fresh ++ w.fresh;
      counts = add_counts p.counts w.counts;
      changed = p.changed || w.changed;
      fault = λ l. first_met (p.fault l) (w.fault (l + length p.out));
    }

module _ (σ : Settings) (τ : Types) (folds : ValueId → Bool) where
  -- sroa.rs 805 to 1346: the instructions behind the phis in order, then the terminator
  unfoldable pub walk : AggStates → ℕ → List Instruction → Terminator → Walked
  walk S n [] t = finish σ τ S n t
  walk S n (i ∷ is) t = let p = step σ τ folds S n i in glue p (walk p.states (n + length p.fresh) is t)

-- what is decided of the build of a value
unfoldable pub folds_build : Settings → Types → Marks → List Instruction → Option InstructionKind → Bool
folds_build σ τ cross is none = false
folds_build σ τ cross is (some (Assign d x t)) = false
folds_build σ τ cross is (some (UnaryOp op d x)) = false
folds_build σ τ cross is (some (BinaryOp op d x y)) = false
folds_build σ τ cross is (some (Call ds f xs ps rs)) = false
folds_build σ τ cross is (some (Cast d x t u)) = false
folds_build σ τ cross is (some (Load d p t)) = false
folds_build σ τ cross is (some (Store p x t)) = false
folds_build σ τ cross is (some (Debug m xs)) = false
folds_build σ τ cross is (some Nop) = false
folds_build σ τ cross is (some (Phi d t ss)) = false
folds_build σ τ cross is (some (MakeTuple d xs)) = folds_tuple σ τ cross is d xs
folds_build σ τ cross is (some (ExtractTupleElement d x k t)) = false
folds_build σ τ cross is (some (MakeStruct d fs t)) = folds_struct σ τ cross is d
folds_build σ τ cross is (some (ExtractStructField d x n t)) = false
folds_build σ τ cross is (some (InsertField d x n y t)) = false
folds_build σ τ cross is (some (InsertTuple d x k y t)) = false
folds_build σ τ cross is (some (MakeFixedArray d xs t c)) = folds_array σ τ cross is d
folds_build σ τ cross is (some (AssertEq x y)) = false
folds_build σ τ cross is (some (HeapAllocCells d x)) = false

-- the same, by the value that is built
unfoldable pub folds_in : Settings → Types → Marks → List Instruction → ValueId → Bool
folds_in σ τ cross is d = folds_build σ τ cross is (build_of σ τ cross d is)

-- what the rewriting of blocks gives
pub record Rewritten : Type 0 where
  pub blocks : List Block
  pub dropped : List ValueId
  pub fresh : List TypeId
  pub counts : Counts
  pub changed : Bool
  pub fault : Option Fault

-- the walked block, its phis untouched, in front of the blocks behind it
unfoldable pub block_then : List Instruction → Walked → Rewritten → Rewritten
block_then phis w r =
    record {
      blocks = record { instructions = phis ++ w.out; terminator = w.terminator } ∷ r.blocks;
      dropped = w.dropped ++ r.dropped;
      fresh = w.fresh ++ r.fresh;
      counts = add_counts w.counts r.counts;
      changed = w.changed || r.changed;
      fault = first_met (w.fault (length phis)) r.fault;
    }

unfoldable pub skip_then : Block → Rewritten → Rewritten
skip_then k r = record { blocks = k ∷ r.blocks; dropped = r.dropped; fresh = r.fresh; counts = r.counts; changed = r.changed; fault = r.fault }

-- which builds are folded in a block, and which blocks are skipped
pub record Choice : Type 0 where
  pub folds : Block → ValueId → Bool
  pub skips : Block → Bool

module _ (σ : Settings) (τ : Types) (c : Choice) where
  -- sroa.rs 764 to 1361, one block in front of the blocks behind it; the flag says that it is skipped
  unfoldable pub one_block : ℕ → Block → (ℕ → Rewritten) → Bool → Rewritten
  one_block n k rest true = skip_then k (rest n)
  one_block n k rest false =
      let w = walk σ τ (c.folds k) no_states n (behind_phis k.instructions) k.terminator in
      block_then (phis_of k.instructions) w (rest (n + length w.fresh))

  -- "Process blocks one by one", each from the value number that the last one left
  unfoldable pub all_blocks : ℕ → List Block → Rewritten
  all_blocks n [] = record { blocks = []; dropped = []; fresh = []; counts = no_counts; changed = false; fault = none }
  all_blocks n (k ∷ ks) = one_block n k (λ m. all_blocks m ks) (c.skips k)

-- the choice that the Rust makes
unfoldable pub choice : Settings → Routine → Choice
choice σ r =
    let τ = types_in r in
    let cross = cross_block_aggregates σ τ r.blocks in
    record { folds = λ k. folds_in σ τ cross (behind_phis k.instructions); skips = λ k. skipped τ k.instructions }

-- what any choice of builds to fold and blocks to skip makes of a routine
unfoldable pub rewritten_by : Settings → Choice → Routine → Rewritten
rewritten_by σ c r = all_blocks σ (types_in r) c r.next r.blocks

-- and what the Rust's choice makes of it
unfoldable pub rewritten_blocks : Settings → Routine → Rewritten
unfolding rewritten_by
rewritten_blocks σ r = rewritten_by σ (choice σ r) r

-- the rewritten routine: fresh numbers are recorded in their order
unfoldable pub rewrite_with : Rewritten → Routine → Routine
rewrite_with w r =
    record {
      types = r.types;
      next = r.next + length w.fresh;
      entry = r.entry;
      parameters = r.parameters;
      recorded = r.recorded ++ map some w.fresh;
      blocks = w.blocks;
    }

-- the routine that `run` leaves
unfoldable pub rewrite : Settings → Routine → Routine
rewrite σ r = rewrite_with (rewritten_blocks σ r) r
