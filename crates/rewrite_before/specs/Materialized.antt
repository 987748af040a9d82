-- What the writers of a Call, a Store and a Return promise.
use Rattle.std.specs.Prelude.{ℕ, ◌+◌, ◌*◌, ◌-◌, ◌≤◌, ◌≡◌, List, ◌∷◌, ◌++◌, get_or, take, drop, Result}
use Rattle.bytes_wire.specs.Value.{value_bytes}
use Rattle.mir.specs.declared.ValueId.{ValueId}
use Rattle.mir.specs.declared.TypeId.{TypeId}
use Rattle.mir.specs.declared.Value.{Value}
use Rattle.mir.specs.Syntax.{Place, Instruction, Call, Store, Return}
use Rattle.bytes_field.specs.Encode.{each_bytes, instruction_bytes}
use Rattle.bytes_index.specs.declared.code.Code.{Code}
use Rattle.bytes_index.specs.Code.{InstructionIn, TerminatorIn}
use Rattle.bytes_operands.specs.Fields.{fields_place, value_end, projection_end, after}
use Rattle.mir.specs.Lookup.{Types, on_some}
use Rattle.fold.specs.declared.Edition.{Edition}
use Rattle.fold.specs.declared.Settings.{Settings}
use Rattle.fold.specs.Family.{Marks}
use Rattle.rewrite.specs.State.{AggStates, state_of}
use Rattle.rewrite.specs.Rebuild.{Rebuilt, rebuild_all, wanted_arguments, aggregate_type}
use Rattle.rewrite.specs.Piece.{Piece, materialized}
use Rattle.rewrite.specs.Stays.{step_call, store_kept}
use Rattle.rewrite.specs.Run.{Walked, add_counts, finish}
use Rattle.rewrite_parts.specs.Rows.{Rep, rows_in, fresh_in}
use Rattle.rewrite_parts.specs.Here.{Here}
use Rattle.bytes_emit.specs.Written.{Writes}
use Rattle.rewrite_progress.specs.declared.Progress.{Progress}
use Rattle.rewrite.specs.declared.Fault.{Fault}
use Rattle.fold.specs.Tables.{CodeGround}
use Rattle.rewrite_progress.specs.Effect.{output_of, piece_effect, walked_effect, Puts, fresh_from, Numbered}
use Rattle.rewrite_wanted.specs.declared.Asks.{Asks}
use Rattle.rewrite_list.specs.declared.values.ValueList.{ValueList}
use Rattle.rewrite_list.specs.declared.values.ListedValues.{ListedValues}
use Rattle.rewrite_list.specs.declared.Written.{Written}
use Rattle.rewrite_list.specs.Lists.{most_copied, EnoughFor, OfList}

-- the kind of a Call
abbrev pub call_kind : ℕ
call_kind = 3

-- the most bytes of what is written anew, of a Call with its kind, and where a Call's arguments begin at most
abbrev pub anew_most : ℕ
anew_most = 4096

abbrev pub call_most : ℕ
call_most = 4098

abbrev pub list_starts : ℕ
list_starts = 1024

-- so many lines further, and so many materializations more
abbrev pub onward : Progress → ℕ → ℕ → ℕ → Progress
onward p to lines made = record { to = to; lines = p.lines + lines; fresh = p.fresh; counts = add_counts p.counts (materialized made) }

-- a Call's arguments, by its fields: they stand behind the dests, and the parameter types behind them
abbrev pub call_first : List ℕ → ℕ
call_first f = 4 + 2 * get_or f 0 0

abbrev pub call_behind : List ℕ → ℕ
call_behind f = after (value_end f) (get_or f (call_first f - 1) 0) (call_first f)

abbrev pub call_list : List ℕ → ValueList
call_list f = record { first = call_first f; many = get_or f (call_first f - 1) 0; asks = Asks.Types (call_behind f + 1) (get_or f (call_behind f) 0) }

-- a Store's value, by its bytes: it stands behind the place, and its type behind it
abbrev pub store_first : List ℕ → ℕ
store_first t = fields_place t + after (projection_end (drop (fields_place t) t)) (get_or (drop (fields_place t) t) 2 0) 3

abbrev pub store_list : List ℕ → ValueList
store_list t = record { first = store_first t; many = 1; asks = Asks.Types (value_end t (store_first t)) 1 }

-- a Return's values, by its bytes
abbrev pub return_list : List ℕ → ValueList
return_list t = record { first = 2; many = get_or t 1 0; asks = Asks.Recorded }

-- where the values of a list end
abbrev pub list_end : List ℕ → ValueList → ℕ
list_end t l = after (value_end t) l.many l.first

-- the bytes of t up to `end`, with other values in the place of a list's
abbrev pub with_values : List ℕ → ValueList → ℕ → List Value → List ℕ
with_values t l end ys = take l.first t ++ (each_bytes value_bytes ys ++ take (end - list_end t l) (drop (list_end t l) t))

-- what stands before the values and behind them is short
pub record Around (t : List ℕ) (l : ValueList) (end : ℕ) : Type 0 where
  pub before : l.first ≤ most_copied
  pub behind : end - list_end t l ≤ most_copied

-- with the fresh numbers put in, where there are enough, the fields are written, and behind two bytes those of a Call
abbrev pub AnewWritten : ListedValues → Written → ℕ → List ℕ → List ℕ → ℕ → Type 0
AnewWritten vs w end out out' r =
    (rows : List ℕ)
    → Around vs.fields.now vs.list end
    → OfList vs rows w.fresh (λ τ S R.
    EnoughFor (vs.code.bounds.next + w.fresh) R → Writes (with_values vs.fields.now vs.list end R.values) out out' w.to r)

abbrev pub CallWritten : ListedValues → Written → ℕ → List ℕ → List ℕ → ℕ → Type 0
CallWritten vs w end out out' r =
    (rows : List ℕ)
    → Around vs.fields.now vs.list end
    → OfList vs rows w.fresh (λ τ S R.
    EnoughFor (vs.code.bounds.next + w.fresh) R → Writes (0 ∷ call_kind ∷ with_values vs.fields.now vs.list end R.values) out out' w.to r)

-- a slot's instruction is written as it stands
abbrev pub InstructionWritten : Code → ℕ → List ℕ → List ℕ → ℕ → ℕ → Type 0
InstructionWritten code slot out out' to r =
    (τ : Types) (i : Instruction)
    → CodeGround code τ
    → InstructionIn code.bounds code.bytes.now code.facts.now slot i
    → Writes (instruction_bytes i) out out' to r

-- a Call's arguments xs for parameters of the types ps, rebuilt from number n on
abbrev pub rebuilt_arguments : Types → AggStates → ℕ → List Value → List TypeId → Rebuilt
rebuilt_arguments τ S n xs ps = rebuild_all τ S n (wanted_arguments τ xs ps)

-- a Call is put out
abbrev pub CallPut : Code → ℕ → Marks → List ℕ → List ℕ → Progress → List ℕ → List ℕ → Result Progress Fault → Type 0
CallPut code slot tracked out work p out' work' r =
    (τ : Types) (S : AggStates) (used : ℕ) (i : Instruction)
    (ds : List ValueId) (g : ℕ) (xs : List Value) (ps rs : List TypeId) (dropped : Marks) (q : Piece)
    → Here code.bounds code.bytes.now code.facts.now slot tracked (rows_in work) used τ S i
    → i.kind ≡ Call ds g xs ps rs
    → q ≡ step_call S i ds g ps rs (rebuilt_arguments τ S (fresh_from code.bounds p) xs ps) (rebuilt_arguments τ S (fresh_from code.bounds p) xs ps).fresh
    → Numbered code.bounds p
    → Puts (output_of out (fresh_in work) dropped p) (piece_effect q) q.fault out' (fresh_in work') dropped r

-- a Store that is not forwarded
abbrev pub StorePut : Code → ℕ → Marks → List ℕ → List ℕ → Progress → List ℕ → List ℕ → Result Progress Fault → Type 0
StorePut code slot tracked out work p out' work' r =
    (τ : Types) (S : AggStates) (used : ℕ) (i : Instruction) (l : Place) (x : Value) (t : TypeId) (dropped : Marks) (q : Piece)
    → Here code.bounds code.bytes.now code.facts.now slot tracked (rows_in work) used τ S i
    → i.kind ≡ Store l x t
    → q ≡ store_kept τ S (fresh_from code.bounds p) i l x t (on_some (aggregate_type τ t) (λ u. state_of S x))
    → Numbered code.bounds p
    → Puts (output_of out (fresh_in work) dropped p) (piece_effect q) q.fault out' (fresh_in work') dropped r

-- a Return, in edition 1
abbrev pub ReturnPut : Code → ℕ → Marks → List ℕ → List ℕ → Progress → List ℕ → List ℕ → Result Progress Fault → Type 0
ReturnPut code slot tracked out work p out' work' r =
    (σ : Settings) (τ : Types) (S : AggStates) (used : ℕ) (xs : List Value) (dropped : Marks) (w : Walked)
    → σ.edition ≡ Edition.First
    → CodeGround code τ
    → Rep code.bounds.next code.bytes.now tracked (rows_in work) used S
    → TerminatorIn code.bounds code.bytes.now code.facts.now slot (Return xs)
    → w ≡ finish σ τ S (fresh_from code.bounds p) (Return xs)
    → Numbered code.bounds p
    → Puts (output_of out (fresh_in work) dropped p) (walked_effect w) w.fault out' (fresh_in work') dropped r
