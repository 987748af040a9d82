-- What becomes of an instruction that stays, by the edition: the values that are rebuilt before it.
use Rattle.std.specs.Prelude.{ℕ, ◌+◌, List, [], ◌∷◌, ◌++◌, Bool, true, false, length}
use Rattle.std.proofs.Math.Option.{Option, none, some}
use Rattle.mir.specs.declared.ValueId.{ValueId}
use Rattle.mir.specs.declared.TypeId.{TypeId}
use Rattle.mir.specs.declared.Value.{Value}
use Rattle.mir.specs.Syntax.{Place, Instruction, InstructionKind, Meta, plain}
use Rattle.mir.specs.Syntax.{Assign, UnaryOp, BinaryOp, Call, Cast, Load, Store, Debug, Nop, Phi}
use Rattle.mir.specs.Syntax.{MakeTuple, ExtractTupleElement, MakeStruct, ExtractStructField, InsertField, InsertTuple, MakeFixedArray, AssertEq, HeapAllocCells}
use Rattle.fold.specs.declared.Edition.{Edition}
use Rattle.fold.specs.declared.Settings.{Settings}
use Rattle.mir.specs.Lookup.{Types, on_some}
use Rattle.rewrite.specs.State.{AggStates, state_of}
use Rattle.rewrite.specs.Fault.{first_met, full_fault}
use Rattle.rewrite.specs.Rebuild.{Rebuilt, rebuild_all, wanted_arguments, aggregate_type}
use Rattle.rewrite.specs.Deep.{rebuild_deep, wanted_own}
use Rattle.rewrite.specs.Readings.{readings, with_readings}
use Rattle.rewrite.specs.Piece.{Piece, no_counts, materialized, kept}

-- an arm that a setting turns off keeps the instruction
unfoldable pub guarded : Bool → Piece → Piece → Piece
guarded true stay p = p
guarded false stay p = stay

-- a Store with its value rebuilt: it "keeps its own" span, expression id and comment, and the rebuild is not counted.
-- One value is asked for and one comes back: the clause for none is never met
unfoldable pub store_rebuilt : AggStates → Meta → Place → TypeId → Rebuilt → List Value → Piece
store_rebuilt S m p t r [] = kept S (record { meta = m; kind = Store p Value.Error t })
store_rebuilt S m p t r (x ∷ xs) =
    record {
      out = r.before ++ (record { meta = m; kind = Store p x t } ∷ []);
      dropped = [];
      states = S;
      fresh = r.fresh;
      counts = no_counts;
      changed = true;
      fault = λ l. first_met (r.fault l) (full_fault (l + length r.before));
    }

-- sroa.rs 1160 to 1184: a Store that is not forwarded; where its value is tracked, that is rebuilt before it
unfoldable pub store_kept : Types → AggStates → ℕ → Instruction → Place → Value → TypeId → Option (List Value) → Piece
store_kept τ S n i p x t none = kept S i
store_kept τ S n i p x t (some xs) = let r = rebuild_all τ S n (record { value = x; at = some t } ∷ []) in store_rebuilt S i.meta p t r r.values

-- a Call: tracked arguments are rebuilt at aggregate parameter types; then the call is built anew
unfoldable pub step_call : AggStates → Instruction → List ValueId → ℕ → List TypeId → List TypeId → Rebuilt → List TypeId → Piece
step_call S i ds f ps rs r [] = kept S i
step_call S i ds f ps rs r (t ∷ ts) =
    record {
      out = r.before ++ (plain (Call ds f r.values ps rs) ∷ []);
      dropped = [];
      states = S;
      fresh = t ∷ ts;
      counts = materialized (length (t ∷ ts));
      changed = true;
      fault = λ l. first_met (r.fault l) (full_fault (l + length r.before));
    }

-- edition 1: sroa.rs 1160 to 1184 and 1228 to 1299, a Store's value and a Call's arguments are rebuilt
unfoldable pub stays_first : Settings → Types → AggStates → ℕ → Instruction → InstructionKind → Piece
stays_first σ τ S n i (Assign d x t) = kept S i
stays_first σ τ S n i (UnaryOp op d x) = kept S i
stays_first σ τ S n i (BinaryOp op d x y) = kept S i
stays_first σ τ S n i (Call ds f xs ps rs) = let r = rebuild_all τ S n (wanted_arguments τ xs ps) in step_call S i ds f ps rs r r.fresh
stays_first σ τ S n i (Cast d x t u) = kept S i
stays_first σ τ S n i (Load d p t) = kept S i
stays_first σ τ S n i (Store p x t) = guarded σ.tuples (kept S i) (store_kept τ S n i p x t (on_some (aggregate_type τ t) (λ u. state_of S x)))
stays_first σ τ S n i (Debug m xs) = kept S i
stays_first σ τ S n i Nop = kept S i
stays_first σ τ S n i (Phi d t ss) = kept S i
stays_first σ τ S n i (MakeTuple d xs) = kept S i
stays_first σ τ S n i (ExtractTupleElement d x k t) = kept S i
stays_first σ τ S n i (MakeStruct d fs t) = kept S i
stays_first σ τ S n i (ExtractStructField d x f t) = kept S i
stays_first σ τ S n i (InsertField d x f y t) = kept S i
stays_first σ τ S n i (InsertTuple d x k y t) = kept S i
stays_first σ τ S n i (MakeFixedArray d xs t c) = kept S i
stays_first σ τ S n i (AssertEq x y) = kept S i
stays_first σ τ S n i (HeapAllocCells d x) = kept S i

-- something was rebuilt
unfoldable pub any_fresh : List TypeId → Bool
any_fresh [] = false
any_fresh (t ∷ ts) = true

-- edition 2: "a kept instruction .. that reads tracked values gets each of them rebuilt first"; it keeps its span, expression id
-- and comment; "each rebuild raises the materializations count"
unfoldable pub kept_behind : AggStates → Instruction → Rebuilt → Piece
kept_behind S i r =
    record {
      out = r.before ++ (record { meta = i.meta; kind = with_readings i.kind r.values } ∷ []);
      dropped = [];
      states = S;
      fresh = r.fresh;
      counts = materialized (length r.fresh);
      changed = any_fresh r.fresh;
      fault = λ l. first_met (r.fault l) (full_fault (l + length r.before));
    }

unfoldable pub stays_second : Types → AggStates → ℕ → Instruction → Piece
stays_second τ S n i = kept_behind S i (rebuild_deep τ S n (wanted_own τ (readings i.kind)))

-- by the edition
unfoldable pub stays_in : Edition → Settings → Types → AggStates → ℕ → Instruction → Piece
stays_in Edition.First σ τ S n i = stays_first σ τ S n i i.kind
stays_in Edition.Second σ τ S n i = stays_second τ S n i

unfoldable pub stays : Settings → Types → AggStates → ℕ → Instruction → Piece
stays σ τ S n i = stays_in σ.edition σ τ S n i
