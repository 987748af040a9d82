-- An instruction depends on the recorded types only at the values that it looks at: types recorded for fresh numbers change nothing.
use mathlib.Core.Path.{◌≡◌, refl, ap, ◌∙◌}
use Prim.Native.Nat.{ℕ, zero, suc}
use mathlib.Core.Option.{Option, none, some}
use mathlib.Core.Bool as B
use mathlib.Core.List.{List, [], ◌∷◌}
use Rattle.mir.specs.declared.ValueId.{ValueId}
use Rattle.mir.specs.declared.TypeId.{TypeId}
use Rattle.mir.specs.declared.Value.{Value}
use Rattle.mir.specs.MirType.{MirType}
use Rattle.mir.specs.Syntax.{Place, FieldInit, InstructionKind, Terminator, Jump, If, BranchCmp, Return, Unreachable}
use Rattle.mir.specs.Syntax.{Assign, UnaryOp, BinaryOp, Call, Cast, Load, Store, Debug, Nop, Phi}
use Rattle.mir.specs.Syntax.{MakeTuple, ExtractTupleElement, MakeStruct, ExtractStructField, InsertField, InsertTuple, MakeFixedArray, AssertEq, HeapAllocCells}
use Rattle.mir.specs.Reads.{operand, reads, dests, terminator_reads}
use Rattle.mir.specs.Lists.{Each}
use Rattle.mir.specs.Lookup.{Types, row_of, recorded_type, value_row, on_some}
use Rattle.mir.specs.Parts.{struct_row, operand_row, is_pointer, struct_parts}
use Rattle.machine.specs.Values.{Val, part_of}
use Rattle.machine.specs.Meaning.{Meaning, Operated, gives, asks, Taken, took, refuses, exhausted}
use Rattle.machine.specs.Records.{Env, Writes, Event, loaded, Step, Cause, missing, Out, goes}
use Rattle.bytes_struct.specs.FindField.{field_type_of}
use Rattle.machine.specs.Places.{part_row, argument_row, step_position, walked, changed}
use Rattle.machine.specs.Evaluate.{eval_all}
use Rattle.machine.specs.Exec.{need, choose, received, replies, answered, built, extracted, inserted, exec}
use Rattle.machine.specs.Run.{exec_terminator}
use Rattle.machine.specs.Meaning as Mg
use Rattle.machine_simulation.proofs.Frame.{rest_of}

-- the same rows, other recorded types
abbrev pub retyped : Types → List (Option TypeId) → Types
retyped τ rs = record { rows = τ.rows; recorded = rs }

-- the value has the same recorded type in both
abbrev pub Alike : Types → List (Option TypeId) → ValueId → Type 0
Alike τ rs v = recorded_type τ v ≡ recorded_type (retyped τ rs) v

-- the values at whose recorded types an instruction looks
abbrev pub looks : InstructionKind → List ValueId
looks (Assign d x t) = []
looks (UnaryOp op d x) = d ∷ []
looks (BinaryOp op d x y) = d ∷ operand x (operand y [])
looks (Call ds f xs ps rs) = ds
looks (Cast d x t u) = d ∷ []
looks (Load d p t) = d ∷ p.base ∷ []
looks (Store p x t) = p.base ∷ []
looks (Debug m xs) = []
looks Nop = []
looks (Phi d t ss) = []
looks (MakeTuple d xs) = d ∷ []
looks (ExtractTupleElement d x k t) = []
looks (MakeStruct d fs t) = d ∷ []
looks (ExtractStructField d x n t) = operand x []
looks (InsertField d x n y t) = []
looks (InsertTuple d x k y t) = []
looks (MakeFixedArray d xs t c) = d ∷ []
looks (AssertEq x y) = operand x (operand y [])
looks (HeapAllocCells d x) = d ∷ []

-- it reads or defines each of them
pub looks_in : (P : ValueId → Type 0) (i : InstructionKind) → Each P (reads i) → Each P (dests i) → Each P (looks i)
looks_in P (Assign d x t) h k = tt
looks_in P (UnaryOp op d x) h k = k
looks_in P (BinaryOp op d x y) h k = (k.0, h)
looks_in P (Call ds f xs ps rs) h k = k
looks_in P (Cast d x t u) h k = k
looks_in P (Load d p t) h k = (k.0, (h.0, tt))
looks_in P (Store p x t) h k = (h.0, tt)
looks_in P (Debug m xs) h k = tt
looks_in P Nop h k = tt
looks_in P (Phi d t ss) h k = tt
looks_in P (MakeTuple d xs) h k = k
looks_in P (ExtractTupleElement d x j t) h k = tt
looks_in P (MakeStruct d fs t) h k = k
looks_in P (ExtractStructField d x n t) h k = h
looks_in P (InsertField d x n y t) h k = tt
looks_in P (InsertTuple d x j y t) h k = tt
looks_in P (MakeFixedArray d xs t c) h k = k
looks_in P (AssertEq x y) h k = h
looks_in P (HeapAllocCells d x) h k = k

-- equal ways on behind a lookup
pub need_cong : {A B : Type 0} (c : Cause) (o : Option B) (k k' : B → Out A) → ((b : B) → k b ≡ k' b) → need c o k ≡ need c o k'
unfolding need
need_cong c none k k' h = refl
need_cong c (some b) k k' h = h b

-- behind a lookup that finds
on_some_cong : {A B : Type 0} (o : Option A) (f g : A → Option B) → ((a : A) → f a ≡ g a) → on_some o f ≡ on_some o g
unfolding on_some
on_some_cong none f g h = refl
on_some_cong (some a) f g h = h a

-- behind a test
choose_cong : {A : Type 0} (b : B.Bool) (p q q' : Out A) → q ≡ q' → choose b p q ≡ choose b p q'
choose_cong b p q q' h = ap (choose b p) h

-- behind a reply
received_cong : {A : Type 0} (r : Taken A) (ev : List (Event A)) (k k' : Val A → List (Val A) → Out A)
    → ((y : Val A) (w : List (Val A)) → k y w ≡ k' y w) → received r ev k ≡ received r ev k'
unfolding received
received_cong (took y w) ev k k' h = h y w
received_cong refuses ev k k' h = refl
received_cong exhausted ev k k' h = refl

-- values in a list, at rows that are alike
pub eval_all_rows : {A : Type 0} (M : Meaning A) (E : Env A) (f g : ℕ → Option MirType) (xs : List Value) → ((k : ℕ) → f k ≡ g k)
    → eval_all M E f xs ≡ eval_all M E g xs
unfolding eval_all
eval_all_rows M E f g [] h = refl
eval_all_rows M E f g (x ∷ xs) h = rw (h zero, eval_all_rows M E (λ k. f (suc k)) (λ k. g (suc k)) xs (λ k. h (suc k)))

module _ (τ : Types) (rs : List (Option TypeId)) where
  -- the rows are the same
  pub row_of_later : (o : Option TypeId) → row_of τ o ≡ row_of (retyped τ rs) o
  unfolding row_of
  row_of_later none = refl
  row_of_later (some t) = refl

  -- a value's row
  pub value_row_later : (v : ValueId) → Alike τ rs v → value_row τ v ≡ value_row (retyped τ rs) v
  unfolding value_row
  value_row_later v a = rw a (row_of_later (recorded_type (retyped τ rs) v))

  -- an operand's row
  pub operand_row_later : (x : Value) (vs : List ValueId) → Each (Alike τ rs) (operand x vs) → operand_row τ x ≡ operand_row (retyped τ rs) x
  unfolding operand_row
  operand_row_later (Value.Literal l) vs h = refl
  operand_row_later (Value.Operand v) vs h = value_row_later v h.0
  operand_row_later Value.Error vs h = refl

  -- a part's row
  pub part_row_later : (row : Option MirType) (k : ℕ) → part_row τ row k ≡ part_row (retyped τ rs) row k
  unfolding part_row
  part_row_later row k = row_of_later _

  -- an argument's row
  argument_row_later : (ps : List TypeId) (k : ℕ) → argument_row τ ps k ≡ argument_row (retyped τ rs) ps k
  unfolding argument_row
  argument_row_later ps k = row_of_later _

  -- a struct's row
  struct_row_later : (d : ValueId) (t : TypeId) → Alike τ rs d → struct_row τ d t ≡ struct_row (retyped τ rs) d t
  unfolding struct_row
  struct_row_later d t a = rw (value_row_later d a, row_of_later (some t))

  -- a struct's parts
  struct_parts_later : (d : ValueId) (fs : List FieldInit) (t : TypeId) → Alike τ rs d → struct_parts τ d fs t ≡ struct_parts (retyped τ rs) d fs t
  unfolding struct_parts
  struct_parts_later d fs t a = rw (struct_row_later d t a)

module _ {A : Type 0} (M : Meaning A) (τ : Types) (rs : List (Option TypeId)) where
  -- the walk of a place
  walked_later : (row : Option MirType) (x : Val A) (ss : List (Step A)) → walked M τ row x ss ≡ walked M (retyped τ rs) row x ss
  unfolding walked
  walked_later row x [] = refl
  walked_later row x (s ∷ ss) =
      on_some_cong (step_position M row s) _ _ (λ k. on_some_cong (part_of x k) _ _ (λ y.
      walked_later (part_row τ row k) y ss ∙ ap (λ (o : Option MirType). walked M (retyped τ rs) o y ss) (part_row_later τ rs row k)))

  -- and the change at its end
  changed_later : (row : Option MirType) (x : Val A) (ss : List (Step A)) (y : Val A) → changed M τ row x ss y ≡ changed M (retyped τ rs) row x ss y
  unfolding changed
  changed_later row x [] y = refl
  changed_later row x (s ∷ ss) y =
      on_some_cong (step_position M row s) _ _ (λ k. on_some_cong (part_of x k) _ _ (λ p.
      rw (changed_later (part_row τ row k) p ss y ∙ ap (λ (o : Option MirType). changed M (retyped τ rs) o p ss y) (part_row_later τ rs row k))))

  -- replies
  replies_later : (ds : List ValueId) (w : List (Val A)) (ws : Writes A) (ev : List (Event A)) → Each (Alike τ rs) ds
      → replies M τ ds w ws ev ≡ replies M (retyped τ rs) ds w ws ev
  unfolding replies
  replies_later [] w ws ev h = refl
  replies_later (d ∷ ds) w ws ev h = rw h.0 (choose_cong _ _ _ _ (received_cong _ ev _ _ (λ y w'. replies_later ds w' ((d, y) ∷ ws) ev h.1)))

  -- an operation's answer
  answered_later : (d : ValueId) (w : List (Val A)) (a : Operated A) → Alike τ rs d → answered M τ d w a ≡ answered M (retyped τ rs) d w a
  unfolding answered
  answered_later d w (gives y) h = refl
  answered_later d w (Mg.fails c) h = refl
  answered_later d w asks h = replies_later (d ∷ []) w [] [] (h, tt)

  -- a UnaryOp or Cast
  unary_later : (op : ℕ) (d : ValueId) (w : List (Val A)) (y : Val A) → Alike τ rs d
      → answered M τ d w (M.unary op (value_row τ d) y) ≡ answered M (retyped τ rs) d w (M.unary op (value_row (retyped τ rs) d) y)
  unary_later op d w y h = rw (value_row_later τ rs d h) (answered_later d w _ h)

  -- a BinaryOp's answer
  binary_later : (op : ℕ) (d : ValueId) (w : List (Val A)) (y z : Val A) → Alike τ rs d
      → answered M τ d w (M.binary op (value_row τ d) y z) ≡ answered M (retyped τ rs) d w (M.binary op (value_row (retyped τ rs) d) y z)
  binary_later op d w y z h = rw (value_row_later τ rs d h) (answered_later d w _ h)

  -- a BinaryOp
  binary_both : (op : ℕ) (d : ValueId) (x y : Value) (E : Env A) (w : List (Val A)) → Each (Alike τ rs) (d ∷ operand x (operand y []))
      → exec M τ (BinaryOp op d x y) E w ≡ exec M (retyped τ rs) (BinaryOp op d x y) E w
  unfolding exec
  binary_both op d x y E w h =
      rw (operand_row_later τ rs x (operand y []) h.1, operand_row_later τ rs y [] (rest_of (Alike τ rs) x (operand y []) h.1))
      (need_cong _ _ _ _ (λ a. need_cong _ _ _ _ (λ b. binary_later op d w a b h.0)))

  -- a Load, its reads made
  load_in : (d : ValueId) (p : Place) (w : List (Val A)) (b : Val A) (ss : List (Step A)) → Alike τ rs d → Alike τ rs p.base
      → choose (is_pointer (value_row τ p.base)) (replies M τ (d ∷ []) w [] (loaded b ss ∷ []))
      (need missing (walked M τ (value_row τ p.base) b ss) (λ y. goes ((d, y) ∷ []) w []))
      ≡ choose (is_pointer (value_row (retyped τ rs) p.base)) (replies M (retyped τ rs) (d ∷ []) w [] (loaded b ss ∷ [])) (need missing (walked M (retyped τ rs) (value_row (retyped τ rs) p.base) b ss) (λ y. goes ((d, y) ∷ []) w []))
  load_in d p w b ss hd hb = rw (value_row_later τ rs p.base hb, replies_later (d ∷ []) w [] (loaded b ss ∷ []) (hd, tt)) (rw (walked_later (value_row (retyped τ rs) p.base) b ss))

  -- a Load
  load_later : (d : ValueId) (p : Place) (t : TypeId) (E : Env A) (w : List (Val A)) → Each (Alike τ rs) (d ∷ p.base ∷ [])
      → exec M τ (Load d p t) E w ≡ exec M (retyped τ rs) (Load d p t) E w
  unfolding exec
  load_later d p t E w h = need_cong _ _ _ _ (λ b. need_cong _ _ _ _ (λ ss. load_in d p w b ss h.0 h.1.0))

  -- a Store
  store_later : (p : Place) (x : Value) (t : TypeId) (E : Env A) (w : List (Val A)) → Alike τ rs p.base
      → exec M τ (Store p x t) E w ≡ exec M (retyped τ rs) (Store p x t) E w
  unfolding exec
  store_later p x t E w h =
      rw (row_of_later τ rs (some t))
      (need_cong _ _ _ _ (λ b. need_cong _ _ _ _ (λ ss. need_cong _ _ _ _ (λ y. rw (value_row_later τ rs p.base h) (rw (changed_later (value_row (retyped τ rs) p.base) b ss y))))))

  -- a tuple's or array's build
  tuple_later : (d : ValueId) (xs : List Value) (E : Env A) (w : List (Val A)) → Alike τ rs d
      → built M τ d (eval_all M E (part_row τ (value_row τ d)) xs) w ≡ built M (retyped τ rs) d (eval_all M E (part_row (retyped τ rs) (value_row (retyped τ rs) d)) xs) w
  unfolding built
  tuple_later d xs E w h = rw (value_row_later τ rs d h) (rw (h) (rw (eval_all_rows M E (part_row τ (value_row (retyped τ rs) d)) (part_row (retyped τ rs) (value_row (retyped τ rs) d)) xs (part_row_later τ rs (value_row (retyped τ rs) d)))))

  -- a struct's build, its parts found
  struct_in : (d : ValueId) (t : TypeId) (xs : List Value) (E : Env A) (w : List (Val A)) → Alike τ rs d
      → built M τ d (eval_all M E (part_row τ (struct_row τ d t)) xs) w ≡ built M (retyped τ rs) d (eval_all M E (part_row (retyped τ rs) (struct_row (retyped τ rs) d t)) xs) w
  unfolding built
  struct_in d t xs E w h = rw (struct_row_later τ rs d t h) (rw h (rw (eval_all_rows M E (part_row τ (struct_row (retyped τ rs) d t)) (part_row (retyped τ rs) (struct_row (retyped τ rs) d t)) xs (part_row_later τ rs (struct_row (retyped τ rs) d t)))))

  -- an instruction does the same under both tables
  pub exec_later : (i : InstructionKind) (E : Env A) (w : List (Val A)) → Each (Alike τ rs) (looks i) → exec M τ i E w ≡ exec M (retyped τ rs) i E w
  unfolding exec extracted inserted
  exec_later (Assign d x t) E w h = rw (row_of_later τ rs (some t))
  exec_later (UnaryOp op d x) E w h = need_cong _ _ _ _ (λ y. unary_later op d w y h.0)
  exec_later (BinaryOp op d x y) E w h = binary_both op d x y E w h
  exec_later (Call ds f xs ps us) E w h =
      rw (eval_all_rows M E (argument_row τ ps) (argument_row (retyped τ rs) ps) xs (argument_row_later τ rs ps)) (need_cong _ _ _ _ (λ ys. replies_later ds w [] _ h))
  exec_later (Cast d x t u) E w h = rw (row_of_later τ rs (some t), row_of_later τ rs (some u)) (need_cong _ _ _ _ (λ y. answered_later d w _ h.0))
  exec_later (Load d p t) E w h = load_later d p t E w h
  exec_later (Store p x t) E w h = store_later p x t E w h.0
  exec_later (Debug m xs) E w h = refl
  exec_later Nop E w h = refl
  exec_later (Phi d t ss) E w h = refl
  exec_later (MakeTuple d xs) E w h = tuple_later d xs E w h.0
  exec_later (ExtractTupleElement d x k t) E w h = refl
  exec_later (MakeStruct d fs t) E w h = rw (struct_parts_later τ rs d fs t h.0) (need_cong _ _ _ _ (λ xs. struct_in d t xs E w h.0))
  exec_later (ExtractStructField d x n t) E w h = rw (operand_row_later τ rs x [] h)
  exec_later (InsertField d x n y t) E w h = rw (row_of_later τ rs (some t)) (rw (row_of_later τ rs (field_type_of (row_of (retyped τ rs) (some t)) n)))
  exec_later (InsertTuple d x k y t) E w h = rw (row_of_later τ rs (some t)) (rw (part_row_later τ rs (row_of (retyped τ rs) (some t)) k))
  exec_later (MakeFixedArray d xs t c) E w h = tuple_later d xs E w h.0
  exec_later (AssertEq x y) E w h = rw (operand_row_later τ rs x (operand y []) h, operand_row_later τ rs y [] (rest_of (Alike τ rs) x (operand y []) h))
  exec_later (HeapAllocCells d x) E w h = need_cong _ _ _ _ (λ y. replies_later (d ∷ []) w [] _ (h.0, tt))

  -- and a terminator
  pub terminator_later : (t : Terminator) (E : Env A) (w : List (Val A)) (rec : List (Event A)) → Each (Alike τ rs) (terminator_reads t)
      → exec_terminator M τ t E w rec ≡ exec_terminator M (retyped τ rs) t E w rec
  unfolding exec_terminator
  terminator_later (Jump b) E w rec h = refl
  terminator_later (If x a b) E w rec h = refl
  terminator_later (BranchCmp op x y a b) E w rec h = rw (operand_row_later τ rs x (operand y []) h, operand_row_later τ rs y [] (rest_of (Alike τ rs) x (operand y []) h))
  terminator_later (Return xs) E w rec h = refl
  terminator_later Unreachable E w rec h = refl
