-- What an instruction depends on, and what it changes: two lemmas, one line for each kind; and the frame theorem over any
-- set of values that are not read.
use mathlib.Core.Path.{◌≡◌, refl, sym, ap, ◌∙◌}
use Prim.Native.Nat.{ℕ, zero, suc}
use mathlib.Core.Bool.{Bool, true, false, cond, not}
use mathlib.Core.Option.{Option, none, some}
use mathlib.Core.List.{List, [], ◌∷◌}
use lib.Dec.{T, eqb}
use Rattle.mir.specs.declared.ValueId.{ValueId}
use Rattle.mir.specs.declared.TypeId.{TypeId}
use Rattle.mir.specs.declared.NameId.{NameId}
use Rattle.mir.specs.declared.Value.{Value}
use Rattle.mir.specs.MirType.{StructField, MirType}
use Rattle.mir.specs.declared.Projection.{Projection}
use Rattle.mir.specs.declared.Projection.TheVariants.{Index, Field, Tuple}
use Rattle.mir.specs.Syntax.{FieldInit, InstructionKind, Assign, UnaryOp, BinaryOp, Call, Cast, Load, Store, Debug, Nop, Phi}
use Rattle.mir.specs.Syntax.{MakeTuple, ExtractTupleElement, MakeStruct, ExtractStructField, InsertField, InsertTuple, MakeFixedArray, AssertEq, HeapAllocCells}
use Rattle.mir.specs.Reads.{operand, operands, indices, init_values, reads, dests, store_base, counted}
use Rattle.mir.specs.Lists.{Each}
use Rattle.mir.specs.Lookup.{Types, value_row, is_struct, struct_fields_of}
use Rattle.mir.specs.Parts.{given, struct_row, is_pointer, cons_part, from_struct_fields, struct_parts}
use Rattle.machine.specs.Values.{Val, Vals}
use Rattle.machine.specs.Meaning.{Meaning, Operated, gives, asks, Taken, took, refuses, exhausted}
use Rattle.machine.specs.Meaning as Mg
use Rattle.machine.specs.Records.{too_large, Env, write, Writes, write_all, Event, Cause, Out, goes, ends, stops}
use Rattle.machine.specs.Places.{part_row}
use Rattle.machine.specs.Evaluate.{eval, eval_all, eval_step, eval_steps}
use Rattle.machine.specs.Exec.{need, choose, received, asserting, replies, answered, built, extracted, inserted, exec}
use Rattle.shelf.specs.Lists.{every, among}
use Rattle.shelf.specs.Reads.{counted_reads}
use Rattle.machine_simulation.proofs.Tools.{both_l, both_r, both, nor_l, nor_r, none_some, split, passes, fails, cond_yes, cond_no, change_other, every→Each, all_l, all_r}

-- both sides have the value alike
abbrev pub Same : {A : Type 0} → Env A → Env A → ValueId → Type 0
Same E F v = E v.0 ≡ F v.0

-- ---- the values read, one by one

-- a statement of the values read: of the first value's
pub head_of : (P : ValueId → Type 0) (x : Value) (vs : List ValueId) → Each P (operand x vs) → Each P (operand x [])
head_of P (Value.Literal l) vs h = tt
head_of P (Value.Operand v) vs h = (h.0, tt)
head_of P Value.Error vs h = tt

-- of the others
pub rest_of : (P : ValueId → Type 0) (x : Value) (vs : List ValueId) → Each P (operand x vs) → Each P vs
rest_of P (Value.Literal l) vs h = h
rest_of P (Value.Operand v) vs h = h.1
rest_of P Value.Error vs h = h

-- and back
pub cons_of : (P : ValueId → Type 0) (x : Value) (vs : List ValueId) → Each P (operand x []) → Each P vs → Each P (operand x vs)
cons_of P (Value.Literal l) vs h k = k
cons_of P (Value.Operand v) vs h k = (h.0, k)
cons_of P Value.Error vs h k = k

-- tests on the operands of a list
pub test_head : (p : ValueId → Bool) (x : Value) (vs : List ValueId) → T (every p (operand x vs)) → T (every p (operand x []))
test_head p (Value.Literal l) vs t = tt
test_head p (Value.Operand v) vs t = both (p v) true (both_l (p v) (every p vs) t) tt
test_head p Value.Error vs t = tt

-- of the others
pub test_rest : (p : ValueId → Bool) (x : Value) (vs : List ValueId) → T (every p (operand x vs)) → T (every p vs)
test_rest p (Value.Literal l) vs t = t
test_rest p (Value.Operand v) vs t = both_r (p v) (every p vs) t
test_rest p Value.Error vs t = t

-- and back
pub test_cons : (p : ValueId → Bool) (x : Value) (vs : List ValueId) → T (every p (operand x [])) → T (every p vs) → T (every p (operand x vs))
test_cons p (Value.Literal l) vs s t = t
test_cons p (Value.Operand v) vs s t = both (p v) (every p vs) (both_l (p v) true s) t
test_cons p Value.Error vs s t = t

module _ {A : Type 0} (M : Meaning A) (E F : Env A) where
  -- a value that both have alike is read alike
  pub eval_same : (row : Option MirType) (x : Value) (vs : List ValueId) → Each (Same E F) (operand x vs) → eval M E row x ≡ eval M F row x
  unfolding eval
  eval_same row (Value.Literal l) vs h = refl
  eval_same row (Value.Operand v) vs h = h.0
  eval_same row Value.Error vs h = refl

  -- values in a list
  pub eval_all_same : (rows : ℕ → Option MirType) (xs : List Value) → Each (Same E F) (operands xs) → eval_all M E rows xs ≡ eval_all M F rows xs
  unfolding eval_all
  eval_all_same rows [] h = refl
  eval_all_same rows (x ∷ xs) h = rw (eval_same (rows zero) x (operands xs) h, eval_all_same (λ k. rows (suc k)) xs (rest_of (Same E F) x (operands xs) h))

  -- the steps of a place
  pub eval_steps_same : (ps : List Projection) → Each (Same E F) (operands (indices ps)) → eval_steps M E ps ≡ eval_steps M F ps
  unfolding eval_steps eval_step
  eval_steps_same [] h = refl
  eval_steps_same (Index x ∷ ps) h = rw (eval_same none x (operands (indices ps)) h, eval_steps_same ps (rest_of (Same E F) x (operands (indices ps)) h))
  eval_steps_same (Field n ∷ ps) h = rw (eval_steps_same ps h)
  eval_steps_same (Tuple k ∷ ps) h = rw (eval_steps_same ps h)

-- ---- a struct's parts are among the values given

-- a value given for a name is one of those given
given_in : (P : ValueId → Type 0) (n : NameId) (fs : List FieldInit) (x : Value) → Each P (operands (init_values fs)) → given n fs ≡ some x → Each P (operand x [])
unfolding given
given_in P n [] x h e = absurd (none_some e)
given_in P n (f ∷ fs) x h e =
    elim (split (eqb f.name.0 n.0)) [
      | passes t ↦ let q : f.value ≡ x = got (sym (cond_yes (eqb f.name.0 n.0) (some f.value) (given n fs) t) ∙ e) in
          rw (← q) (head_of P f.value (operands (init_values fs)) h)
      | fails t ↦ given_in P n fs x (rest_of P f.value (operands (init_values fs)) h) (sym (cond_no (eqb f.name.0 n.0) (some f.value) (given n fs) t) ∙ e)
    ]
  where
    got : some f.value ≡ some x → f.value ≡ x
    got z = cc

-- a part in front of others
pub data ConsPart (a : Option Value) (b : Option (List Value)) (zs : List Value) : Type 0 where
  is_part : (x : Value) (xs : List Value) → a ≡ some x → b ≡ some xs → zs ≡ x ∷ xs → ConsPart a b zs

-- both are there
pub cons_part_inv : (a : Option Value) (b : Option (List Value)) (zs : List Value) → cons_part a b ≡ some zs → ConsPart a b zs
unfolding cons_part
cons_part_inv none b zs e = absurd (none_some e)
cons_part_inv (some x) none zs e = absurd (none_some e)
cons_part_inv (some x) (some xs) zs e = is_part x xs refl refl cc

-- the parts by fields are among the values given
pub fields_in : (P : ValueId → Type 0) (fs : List FieldInit) (ss : List StructField) (xs : List Value) → Each P (operands (init_values fs))
    → from_struct_fields fs ss ≡ some xs → Each P (operands xs)
unfolding from_struct_fields
fields_in P fs [] xs h e = let q : [] ≡ xs = cc in rw (← q) tt
fields_in P fs (s ∷ ss) xs h e =
    elim (cons_part_inv (given s.name fs) (from_struct_fields fs ss) xs e)
    [ is_part y ys a b c ↦ rw c (cons_of P y (operands ys) (given_in P s.name fs y h a) (fields_in P fs ss ys h b)) ]

-- a test that found something
pub cond_some : {B : Type 0} (b : Bool) (o : Option B) (x : B) → cond b o none ≡ some x → o ≡ some x
cond_some true o x e = e
cond_some false o x e = absurd (none_some e)

-- a struct's parts are among the values given
pub parts_in : (P : ValueId → Type 0) (τ : Types) (d : ValueId) (fs : List FieldInit) (t : TypeId) (xs : List Value)
    → Each P (operands (init_values fs)) → struct_parts τ d fs t ≡ some xs → Each P (operands xs)
unfolding struct_parts
parts_in P τ d fs t xs h e = fields_in P fs (struct_fields_of (struct_row τ d t)) xs h (cond_some (is_struct (struct_row τ d t)) _ xs e)

-- the same lookup, equal ways on
need_same : {A B : Type 0} (c : Cause) (o : Option B) (k k' : B → Out A) → ((b : B) → o ≡ some b → k b ≡ k' b) → need c o k ≡ need c o k'
unfolding need
need_same c none k k' h = refl
need_same c (some b) k k' h = h b refl

-- a struct's build
struct_same : {A : Type 0} (M : Meaning A) (τ : Types) (d : ValueId) (fs : List FieldInit) (t : TypeId) (E F : Env A) (w : List (Val A)) (xs : List Value)
    → Each (Same E F) (operands (init_values fs)) → struct_parts τ d fs t ≡ some xs
    → built M τ d (eval_all M E (part_row τ (struct_row τ d t)) xs) w ≡ built M τ d (eval_all M F (part_row τ (struct_row τ d t)) xs) w
struct_same M τ d fs t E F w xs h e = rw (eval_all_same M E F (part_row τ (struct_row τ d t)) xs (parts_in (Same E F) τ d fs t xs h e))

module _ {A : Type 0} (M : Meaning A) (τ : Types) where
  -- an instruction depends on nothing but what it reads
  reads_same : (i : InstructionKind) (E F : Env A) (w : List (Val A)) → Each (Same E F) (reads i) → exec M τ i E w ≡ exec M τ i F w
  unfolding exec
  reads_same (Assign d x t) E F w h = rw (eval_same M E F _ x [] h)
  reads_same (UnaryOp op d x) E F w h = rw (eval_same M E F none x [] h)
  reads_same (BinaryOp op d x y) E F w h = rw (eval_same M E F _ x (operand y []) h, eval_same M E F _ y [] (rest_of (Same E F) x (operand y []) h))
  reads_same (Call ds f xs ps rs) E F w h = rw (eval_all_same M E F _ xs h)
  reads_same (Cast d x t u) E F w h = rw (eval_same M E F none x [] h)
  reads_same (Load d p t) E F w h = rw (h.0, eval_steps_same M E F p.projections h.1)
  reads_same (Store p x t) E F w h =
      rw (h.0, eval_steps_same M E F p.projections (all_l (Same E F) (operands (indices p.projections)) (operand x []) h.1), eval_same M E F _ x [] (all_r (Same E F) (operands (indices p.projections)) (operand x []) h.1))
  reads_same (Debug m xs) E F w h = rw (eval_all_same M E F _ xs h)
  reads_same Nop E F w h = refl
  reads_same (Phi d t ss) E F w h = refl
  reads_same (MakeTuple d xs) E F w h = rw (eval_all_same M E F _ xs h)
  reads_same (ExtractTupleElement d x k t) E F w h = rw (eval_same M E F none x [] h)
  reads_same (MakeStruct d fs t) E F w h = need_same _ _ _ _ (λ xs e. struct_same M τ d fs t E F w xs h e)
  reads_same (ExtractStructField d x n t) E F w h = rw (eval_same M E F none x [] h)
  reads_same (InsertField d x n y t) E F w h = rw (eval_same M E F none x (operand y []) h, eval_same M E F _ y [] (rest_of (Same E F) x (operand y []) h))
  reads_same (InsertTuple d x k y t) E F w h = rw (eval_same M E F none x (operand y []) h, eval_same M E F _ y [] (rest_of (Same E F) x (operand y []) h))
  reads_same (MakeFixedArray d xs t c) E F w h = rw (eval_all_same M E F _ xs h)
  reads_same (AssertEq x y) E F w h = rw (eval_same M E F _ x (operand y []) h, eval_same M E F _ y [] (rest_of (Same E F) x (operand y []) h))
  reads_same (HeapAllocCells d x) E F w h = rw (eval_same M E F none x [] h)

  -- a Debug that is not recorded does nothing
  silent : (i : InstructionKind) (E F : Env A) (w : List (Val A)) → (b : Bool) → M.debug ≡ b → T (not (counted b i)) → exec M τ i E w ≡ exec M τ i F w
  unfolding exec choose
  silent i E F w true e t = absurd t
  silent (Assign d x u) E F w false e t = absurd t
  silent (UnaryOp op d x) E F w false e t = absurd t
  silent (BinaryOp op d x y) E F w false e t = absurd t
  silent (Call ds f xs ps rs) E F w false e t = absurd t
  silent (Cast d x u v) E F w false e t = absurd t
  silent (Load d p u) E F w false e t = absurd t
  silent (Store p x u) E F w false e t = absurd t
  silent (Debug m xs) E F w false e t = rw e
  silent Nop E F w false e t = absurd t
  silent (Phi d u ss) E F w false e t = absurd t
  silent (MakeTuple d xs) E F w false e t = absurd t
  silent (ExtractTupleElement d x k u) E F w false e t = absurd t
  silent (MakeStruct d fs u) E F w false e t = absurd t
  silent (ExtractStructField d x n u) E F w false e t = absurd t
  silent (InsertField d x n y u) E F w false e t = absurd t
  silent (InsertTuple d x k y u) E F w false e t = absurd t
  silent (MakeFixedArray d xs u c) E F w false e t = absurd t
  silent (AssertEq x y) E F w false e t = absurd t
  silent (HeapAllocCells d x) E F w false e t = absurd t

  -- an instruction depends on nothing but what it reads, Debug's reads counted only under the flag
  pub exec_same : (i : InstructionKind) (E F : Env A) (w : List (Val A)) → Each (Same E F) (counted_reads M.debug i) → exec M τ i E w ≡ exec M τ i F w
  exec_same i E F w h =
      elim (split (counted M.debug i)) [
        | passes t ↦ reads_same i E F w (rw (cond_yes (counted M.debug i) (reads i) [] t) at h)
        | fails t ↦ silent i E F w M.debug refl t
      ]

-- ---- what an instruction changes

-- x is as it was, if the run goes on
unfoldable pub Keeps : {A : Type 0} → Env A → ℕ → Out A → Type 0
Keeps E x (goes ws w ev) = write_all ws E x ≡ E x
Keeps E x (ends e ev) = Unit {0}
Keeps E x (stops c ev) = Unit {0}

-- the value that a Store changes: its base, where that is no Pointer
unfoldable pub changed_base : Types → Option ValueId → List ValueId
changed_base τ none = []
changed_base τ (some b) = cond (is_pointer (value_row τ b)) [] (b ∷ [])

-- the value that an instruction changes besides its dests
abbrev pub changes : Types → InstructionKind → List ValueId
changes τ i = changed_base τ (store_base i)

-- behind a lookup
need_keeps : {A B : Type 0} (E : Env A) (x : ℕ) (c : Cause) (o : Option B) (k : B → Out A) → ((b : B) → Keeps E x (k b)) → Keeps E x (need c o k)
unfolding need Keeps
need_keeps E x c none k h = tt
need_keeps E x c (some b) k h = h b

-- behind a test
choose_keeps : {A : Type 0} (E : Env A) (x : ℕ) (b : Bool) (p q : Out A) → (T b → Keeps E x p) → (T (not b) → Keeps E x q) → Keeps E x (choose b p q)
unfolding choose
choose_keeps E x true p q h k = h tt
choose_keeps E x false p q h k = k tt

-- a stop changes nothing
stop_keeps : {A : Type 0} (E : Env A) (x : ℕ) (c : Cause) (ev : List (Event A)) → Keeps E x (stops c ev)
unfolding Keeps
stop_keeps E x c ev = tt

-- no writes change nothing
nil_keeps : {A : Type 0} (E : Env A) (x : ℕ) (w : List (Val A)) (ev : List (Event A)) → Keeps E x (goes [] w ev)
unfolding write_all Keeps
nil_keeps E x w ev = refl

-- one write changes its dest alone
one_keeps : {A : Type 0} (E : Env A) (x : ℕ) (d : ValueId) (y : Val A) (w : List (Val A)) (ev : List (Event A)) → T (not (among x (d ∷ [])))
    → Keeps E x (goes ((d, y) ∷ []) w ev)
unfolding write_all Keeps
one_keeps E x d y w ev t = change_other E d.0 y x (nor_l (eqb x d.0) false t)

-- an AssertEq changes nothing
assert_keeps : {A : Type 0} (E : Env A) (x : ℕ) (b : Bool) (w : List (Val A)) (ev : List (Event A)) → Keeps E x (asserting b w ev)
unfolding asserting write_all Keeps
assert_keeps E x true w ev = refl
assert_keeps E x false w ev = tt

-- behind a reply
received_keeps : {A : Type 0} (E : Env A) (x : ℕ) (r : Taken A) (ev : List (Event A)) (k : Val A → List (Val A) → Out A)
    → ((y : Val A) (w : List (Val A)) → Keeps E x (k y w)) → Keeps E x (received r ev k)
unfolding received Keeps
received_keeps E x (took y w) ev k h = h y w
received_keeps E x refuses ev k h = tt
received_keeps E x exhausted ev k h = tt

module _ {A : Type 0} (M : Meaning A) (τ : Types) where
  -- replies change their dests alone, with writes before them
  replies_on : (E : Env A) (x : ℕ) (ds : List ValueId) (w : List (Val A)) (ws : Writes A) (ev : List (Event A)) → T (not (among x ds))
      → ((G : Env A) → write_all ws G x ≡ G x) → Keeps E x (replies M τ ds w ws ev)
  unfolding replies write_all Keeps
  replies_on E x [] w ws ev t h = h E
  replies_on E x (d ∷ ds) w ws ev t h =
      choose_keeps E x _ _ _ (λ q. stop_keeps E x too_large ev) (λ q.
      received_keeps E x _ ev _ (λ y w'. replies_on E x ds w' ((d, y) ∷ ws) ev (nor_r (eqb x d.0) (among x ds) t)
      (λ G. h (write G d y) ∙ change_other G d.0 y x (nor_l (eqb x d.0) (among x ds) t))))

  -- replies change their dests alone
  replies_keeps : (E : Env A) (x : ℕ) (ds : List ValueId) (w : List (Val A)) (ev : List (Event A)) → T (not (among x ds)) → Keeps E x (replies M τ ds w [] ev)
  unfolding write_all
  replies_keeps E x ds w ev t = replies_on E x ds w [] ev t (λ G. refl)

  -- an operation changes its dest alone
  answered_keeps : (E : Env A) (x : ℕ) (d : ValueId) (w : List (Val A)) (a : Operated A) → T (not (among x (d ∷ []))) → Keeps E x (answered M τ d w a)
  unfolding answered Keeps
  answered_keeps E x d w (gives y) t = one_keeps E x d y w [] t
  answered_keeps E x d w (Mg.fails c) t = tt
  answered_keeps E x d w asks t = replies_keeps E x (d ∷ []) w [] t

  -- so does a build
  built_keeps : (E : Env A) (x : ℕ) (d : ValueId) (o : Option (Vals A)) (w : List (Val A)) → T (not (among x (d ∷ []))) → Keeps E x (built M τ d o w)
  unfolding built
  built_keeps E x d o w t = need_keeps E x _ _ _ (λ y. choose_keeps E x _ _ _ (λ q. stop_keeps E x too_large []) (λ q. one_keeps E x d _ w [] t))

  -- an extract
  extracted_keeps : (E : Env A) (x : ℕ) (d : ValueId) (y : Val A) (o : Option ℕ) (w : List (Val A)) → T (not (among x (d ∷ [])))
      → Keeps E x (extracted M τ d y o w)
  unfolding extracted
  extracted_keeps E x d y o w t = need_keeps E x _ _ _ (λ k. need_keeps E x _ _ _ (λ z. one_keeps E x d z w [] t))

  -- an insert
  inserted_keeps : (E : Env A) (x : ℕ) (d : ValueId) (y : Val A) (o : Option ℕ) (z : Val A) (w : List (Val A)) → T (not (among x (d ∷ [])))
      → Keeps E x (inserted M τ d y o z w)
  unfolding inserted
  inserted_keeps E x d y o z w t = need_keeps E x _ _ _ (λ k. need_keeps E x _ _ _ (λ u. one_keeps E x d u w [] t))

  -- a Store changes its base alone
  base_keeps : (E : Env A) (x : ℕ) (b : ValueId) (y : Val A) (w : List (Val A)) → T (not (is_pointer (value_row τ b)))
      → T (not (among x (changed_base τ (some b)))) → Keeps E x (goes ((b, y) ∷ []) w [])
  unfolding changed_base
  base_keeps E x b y w p t = one_keeps E x b y w [] (rw (cond_no (is_pointer (value_row τ b)) [] (b ∷ []) p) at t)

  -- an instruction changes nothing but its dests and the base of a Store
  pub exec_keeps : (i : InstructionKind) (E : Env A) (w : List (Val A)) (x : ℕ) → T (not (among x (dests i))) → T (not (among x (changes τ i)))
      → Keeps E x (exec M τ i E w)
  unfolding exec
  exec_keeps (Assign d v t) E w x m n = need_keeps E x _ _ _ (λ y. one_keeps E x d _ w [] m)
  exec_keeps (UnaryOp op d v) E w x m n = need_keeps E x _ _ _ (λ y. answered_keeps E x d w _ m)
  exec_keeps (BinaryOp op d u v) E w x m n = need_keeps E x _ _ _ (λ y. need_keeps E x _ _ _ (λ z. answered_keeps E x d w _ m))
  exec_keeps (Call ds f xs ps rs) E w x m n = need_keeps E x _ _ _ (λ y. replies_keeps E x ds w _ m)
  exec_keeps (Cast d v t u) E w x m n = need_keeps E x _ _ _ (λ y. answered_keeps E x d w _ m)
  exec_keeps (Load d p t) E w x m n =
      need_keeps E x _ _ _ (λ y. need_keeps E x _ _ _ (λ z. choose_keeps E x _ _ _ (λ q. replies_keeps E x (d ∷ []) w _ m) (λ q. need_keeps E x _ _ _ (λ a. one_keeps E x d _ w [] m))))
  exec_keeps (Store p v t) E w x m n =
      need_keeps E x _ _ _ (λ y. need_keeps E x _ _ _ (λ z. need_keeps E x _ _ _ (λ u. choose_keeps E x _ _ _ (λ q. nil_keeps E x w _) (λ q. need_keeps E x _ _ _ (λ a. base_keeps E x p.base _ w q n)))))
  exec_keeps (Debug m' xs) E w x m n = choose_keeps E x _ _ _ (λ q. need_keeps E x _ _ _ (λ y. nil_keeps E x w _)) (λ q. nil_keeps E x w [])
  exec_keeps Nop E w x m n = nil_keeps E x w []
  exec_keeps (Phi d t ss) E w x m n = stop_keeps E x _ []
  exec_keeps (MakeTuple d xs) E w x m n = built_keeps E x d _ w m
  exec_keeps (ExtractTupleElement d v k t) E w x m n = need_keeps E x _ _ _ (λ y. extracted_keeps E x d y _ w m)
  exec_keeps (MakeStruct d fs t) E w x m n = need_keeps E x _ _ _ (λ xs. built_keeps E x d _ w m)
  exec_keeps (ExtractStructField d v k t) E w x m n = need_keeps E x _ _ _ (λ y. extracted_keeps E x d y _ w m)
  exec_keeps (InsertField d v k u t) E w x m n = need_keeps E x _ _ _ (λ y. need_keeps E x _ _ _ (λ z. inserted_keeps E x d y _ z w m))
  exec_keeps (InsertTuple d v k u t) E w x m n = need_keeps E x _ _ _ (λ y. need_keeps E x _ _ _ (λ z. inserted_keeps E x d y _ z w m))
  exec_keeps (MakeFixedArray d xs t c) E w x m n = built_keeps E x d _ w m
  exec_keeps (AssertEq u v) E w x m n = need_keeps E x _ _ _ (λ y. need_keeps E x _ _ _ (λ z. assert_keeps E x _ w _))
  exec_keeps (HeapAllocCells d v) E w x m n = need_keeps E x _ _ _ (λ y. replies_keeps E x (d ∷ []) w _ m)

-- the same writes on both sides
pub write_both : {A : Type 0} (ws : Writes A) (E F : Env A) (x : ℕ) → E x ≡ F x → write_all ws E x ≡ write_all ws F x
unfolding write_all
write_both [] E F x e = e
write_both (y ∷ ws) E F x e = write_both ws (write E y.0 y.1) (write F y.0 y.1) x (ap (cond (eqb x y.0.0) (some y.1)) e)

-- what two runs agree on, off a set of values
abbrev pub AgreeOff : {A : Type 0} → (ℕ → Bool) → Env A → Env A → Type 0
AgreeOff X E F = (x : ℕ) → T (not (X x)) → E x ≡ F x

-- THE FRAME: over any set X of values that an instruction does not read, two runs that agree off X do the same and agree off X
pub keep_agrees : {A : Type 0} (M : Meaning A) (τ : Types) (X : ℕ → Bool) (i : InstructionKind) (E F : Env A) (w : List (Val A)) → AgreeOff X E F
    → T (every (λ v. not (X v.0)) (counted_reads M.debug i))
    → (exec M τ i E w ≡ exec M τ i F w) × ((ws : Writes A) → AgreeOff X (write_all ws E) (write_all ws F))
keep_agrees M τ X i E F w ag t =
    (exec_same M τ i E F w (every→Each (λ v. not (X v.0)) (Same E F) (λ v h. ag v.0 h) (counted_reads M.debug i) t), λ ws x nx. write_both ws E F x (ag x nx))
