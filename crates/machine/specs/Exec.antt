-- One instruction: it reads, then records, then writes its dests in turn.
use Rattle.std.specs.Prelude.{ℕ, List, [], ◌∷◌, Bool, true, false}
use Rattle.std.proofs.Math.Option.{Option, none, some}
use Rattle.mir.specs.declared.ValueId.{ValueId}
use Rattle.mir.specs.Syntax.{InstructionKind, Assign, UnaryOp, BinaryOp, Call, Cast, Load, Store, Debug, Nop, Phi}
use Rattle.mir.specs.Syntax.{MakeTuple, ExtractTupleElement, MakeStruct, ExtractStructField, InsertField, InsertTuple, MakeFixedArray}
use Rattle.mir.specs.Syntax.{AssertEq, HeapAllocCells}
use Rattle.mir.specs.Lookup.{Types, row_of, recorded_type, value_row}
use Rattle.bytes_struct.specs.FindField.{field_index, field_type_of}
use Rattle.mir.specs.Parts.{struct_row, operand_row, is_pointer, struct_parts}
use Rattle.machine.specs.Values.{Val, Vals, aggregate, equal, part_of, with_part}
use Rattle.machine.specs.Meaning.{Meaning, Operated, gives, fails, asks, Taken, took, refuses, exhausted}
use Rattle.machine.specs.Records.{Env, Writes, Event, called, allocated, loaded, stored, asserted, printed}
use Rattle.machine.specs.Records.{Cause, no_value, no_source, no_reply, unwritten, missing, too_large, own, unequal_sides, Out, goes, ends, stops}
use Rattle.machine.specs.Places.{part_row, argument_row, no_row, walked, changed}
use Rattle.machine.specs.Evaluate.{eval, eval_all, eval_steps}

-- what is not there stops the machine
unfoldable pub need : {A B : Type 0} → Cause → Option B → (B → Out A) → Out A
need c none k = stops c []
need c (some b) k = k b

-- one of two outcomes, by a test
unfoldable pub choose : {A : Type 0} → Bool → Out A → Out A → Out A
choose true p q = p
choose false p q = q

-- "A reply or parameter that is no value of its recorded type .. stops the run"; "where none is left the machine stops"
unfoldable pub received : {A : Type 0} → Taken A → List (Event A) → (Val A → List (Val A) → Out A) → Out A
received (took y w) ev k = k y w
received refuses ev k = stops no_value ev
received exhausted ev k = stops no_reply ev

-- "AssertEq is recorded; unequal sides end the run"
unfoldable pub asserting : {A : Type 0} → Bool → List (Val A) → List (Event A) → Out A
asserting true w ev = goes [] w ev
asserting false w ev = ends unequal_sides ev

module _ {A : Type 0} (M : Meaning A) (τ : Types) where
  -- "then one for each dest of an outside event, as they are met"; a dest too large for the machine stops it first
  unfoldable pub replies : List ValueId → List (Val A) → Writes A → List (Event A) → Out A
  replies [] w ws ev = goes ws w ev
  replies (d ∷ ds) w ws ev =
      choose (M.large τ.rows (recorded_type τ d)) (stops too_large ev)
      (received (M.take τ.rows (recorded_type τ d) w) ev (λ y w'. replies ds w' ((d, y) ∷ ws) ev))

  -- an operation's answer; a result that is asked for comes from the replies and is not recorded
  unfoldable pub answered : ValueId → List (Val A) → Operated A → Out A
  answered d w (gives y) = goes ((d, y) ∷ []) w []
  answered d w (fails c) = stops (own c) []
  answered d w asks = replies (d ∷ []) w [] []

  -- a build's parts, each at its type; one too large for the machine stops it behind its reads
  unfoldable pub built : ValueId → Option (Vals A) → List (Val A) → Out A
  built d o w = need unwritten o (λ ys. choose (M.large τ.rows (recorded_type τ d)) (stops too_large []) (goes ((d, aggregate ys) ∷ []) w []))

  -- a part taken out, and a part put in
  unfoldable pub extracted : ValueId → Val A → Option ℕ → List (Val A) → Out A
  extracted d x o w = need missing o (λ k. need missing (part_of x k) (λ y. goes ((d, y) ∷ []) w []))

  unfoldable pub inserted : ValueId → Val A → Option ℕ → Val A → List (Val A) → Out A
  inserted d x o y w = need missing o (λ k. need missing (with_part x k y) (λ z. goes ((d, z) ∷ []) w []))

  -- "Assign, Make, Insert, Extract, Phi and a Load from an aggregate base copy; a Store into an aggregate base changes that
  -- value's part"; Nop does nothing; Debug is "a recorded event of the machine with its message and values", which it reads first, or,
  -- of a machine that does not record it, nothing. A Phi behind another kind is refusal 7.
  unfoldable pub exec : InstructionKind → Env A → List (Val A) → Out A
  exec (Assign d x t) E w = need unwritten (eval M E (row_of τ (some t)) x) (λ y. goes ((d, y) ∷ []) w [])
  exec (UnaryOp op d x) E w = need unwritten (eval M E none x) (λ y. answered d w (M.unary op (value_row τ d) y))
  exec (BinaryOp op d x y) E w =
      need unwritten (eval M E (operand_row τ y) x) (λ a.
      need unwritten (eval M E (operand_row τ x) y) (λ b. answered d w (M.binary op (value_row τ d) a b)))
  exec (Call ds f xs ps rs) E w = need unwritten (eval_all M E (argument_row τ ps) xs) (λ ys. replies ds w [] (called f ys ∷ []))
  exec (Cast d x t u) E w = need unwritten (eval M E none x) (λ y. answered d w (M.cast (row_of τ (some t)) (row_of τ (some u)) y))
  exec (Load d p t) E w =
      need unwritten (E p.base.0) (λ b. need unwritten (eval_steps M E p.projections) (λ ss.
      choose (is_pointer (value_row τ p.base)) (replies (d ∷ []) w [] (loaded b ss ∷ []))
      (need missing (walked M τ (value_row τ p.base) b ss) (λ y. goes ((d, y) ∷ []) w []))))
  exec (Store p x t) E w =
      need unwritten (E p.base.0) (λ b. need unwritten (eval_steps M E p.projections) (λ ss.
      need unwritten (eval M E (row_of τ (some t)) x) (λ y.
      choose (is_pointer (value_row τ p.base)) (goes [] w (stored b ss y ∷ []))
      (need missing (changed M τ (value_row τ p.base) b ss y) (λ z. goes ((p.base, z) ∷ []) w [])))))
  exec (Debug m xs) E w = choose M.debug (need unwritten (eval_all M E no_row xs) (λ ys. goes [] w (printed m ys ∷ []))) (goes [] w [])
  exec Nop E w = goes [] w []
  exec (Phi d t ss) E w = stops no_source []
  exec (MakeTuple d xs) E w = built d (eval_all M E (part_row τ (value_row τ d)) xs) w
  exec (ExtractTupleElement d x k t) E w = need unwritten (eval M E none x) (λ y. extracted d y (some k) w)
  exec (MakeStruct d fs t) E w = need missing (struct_parts τ d fs t) (λ xs. built d (eval_all M E (part_row τ (struct_row τ d t)) xs) w)
  exec (ExtractStructField d x n t) E w = need unwritten (eval M E none x) (λ y. extracted d y (field_index (operand_row τ x) n) w)
  exec (InsertField d x n y t) E w =
      need unwritten (eval M E none x) (λ a.
      need unwritten (eval M E (row_of τ (field_type_of (row_of τ (some t)) n)) y) (λ b.
      inserted d a (field_index (row_of τ (some t)) n) b w))
  exec (InsertTuple d x k y t) E w =
      need unwritten (eval M E none x) (λ a. need unwritten (eval M E (part_row τ (row_of τ (some t)) k) y) (λ b. inserted d a (some k) b w))
  exec (MakeFixedArray d xs t c) E w = built d (eval_all M E (part_row τ (value_row τ d)) xs) w
  exec (AssertEq x y) E w =
      need unwritten (eval M E (operand_row τ y) x) (λ a.
      need unwritten (eval M E (operand_row τ x) y) (λ b. asserting (equal M.same a b) w (asserted a b ∷ [])))
  exec (HeapAllocCells d x) E w = need unwritten (eval M E none x) (λ y. replies (d ∷ []) w [] (allocated y ∷ []))
