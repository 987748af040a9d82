-- Sweeps over instructions are sweeps over their copies.
use Prim.Native.Nat.{ℕ, zero, suc}
use mathlib.Core.Path.{◌≡◌, refl, ap, ◌∙◌, sym}
use mathlib.Core.List.{List, [], ◌∷◌}
use mathlib.Core.Bool.{Bool, true, false, cond, not, ◌&&◌, ◌||◌}
use mathlib.Core.Option.{Option, none, some}
use lib.ListN.{length, get_or, set, replicate, length-set, length-replicate}
use lib.Dec.{eqb}
use borrow.Author.Tests.{eqb-true, eqb-false, eq-eqb, ne_eqb}
use Rattle.mir.specs.declared.ValueId.{ValueId}
use Rattle.mir.specs.declared.Value.{Value}
use Rattle.mir.specs.Syntax.{Instruction, InstructionKind}
use Rattle.mir.specs.Syntax.{Assign, UnaryOp, BinaryOp, Call, Cast, Load, Store, Debug, Nop, Phi}
use Rattle.mir.specs.Syntax.{MakeTuple, ExtractTupleElement, MakeStruct, ExtractStructField, InsertField, InsertTuple, MakeFixedArray, AssertEq, HeapAllocCells}
use Rattle.mir.specs.Lookup.{Types, row_of, value_row, shape}
use Rattle.fold.specs.Family.{Marks, marked, mark, joins, member, sweep, sweeps, family}
use Rattle.fold_family.specs.Copies.{Copy, copied, assigned, copy_of, before, copies, joining, join_all, rounds}

-- what a copy, if there is one, does to the marks
abbrev joined : ℕ → Marks → Option Copy → Marks
joined root m none = m
joined root m (some c) = joining root m c

-- a copy that asks for any shape joins as its source
copied_any : (root : ℕ) (m : Marks) (x : Value) (d : ValueId) → joins m x d ≡ joined root m (copied 0 x d.0)
unfolding joins joining
copied_any root m (Value.Literal l) d = refl
copied_any root m (Value.Operand v) d = refl
copied_any root m Value.Error d = refl

-- both arms leave the marks
pub kept_marks : (b : Bool) (m : Marks) → cond b m m ≡ m
kept_marks true m = refl
kept_marks false m = refl

-- one that asks for an aggregate's does so at a root of that shape
copied_some : (root k : ℕ) (m : Marks) (x : Value) (d : ValueId) → (k ≡ 0 → ⊥) → cond (not (eqb root 0) && eqb root k) (joins m x d) m ≡ joined root m (copied k x d.0)
unfolding joins joining
copied_some root k m (Value.Literal l) d h = kept_marks (not (eqb root 0) && eqb root k) m
copied_some root k m Value.Error d h = kept_marks (not (eqb root 0) && eqb root k) m
copied_some root k m (Value.Operand v) d h = go (eqb root k) refl
  where
    go : (b : Bool) → eqb root k ≡ b → cond (not (eqb root 0) && b) (cond (marked m v) (mark m d) m) m ≡ cond (eqb k 0 || eqb k root) (cond (marked m v) (mark m d) m) m
    go true e = let f = eqb-true root k e in rw (ne_eqb root 0 (λ z. h (sym f ∙ z)), ne_eqb k 0 h, eq-eqb k root (sym f))
    go false e = let z : (k ≡ root → ⊥) = λ f. eqb-false root k e (sym f) in rw (ne_eqb k 0 h, ne_eqb k root z) (side (not (eqb root 0)))
      where
        side : (b : Bool) → cond (b && false) (cond (marked m v) (mark m d) m) m ≡ m
        side true = refl
        side false = refl

assigned_some : (root k : ℕ) (m : Marks) (x : Value) (d : ValueId) → cond (not (eqb root 0) && eqb root k) (joins m x d) m ≡ joined root m (assigned k x d.0)
assigned_some root k m x d = go (eqb k 0) refl
  where
    go : (b : Bool) → eqb k 0 ≡ b → cond (not (eqb root 0) && eqb root k) (joins m x d) m ≡ joined root m (cond b none (copied k x d.0))
    go true e = let f : k ≡ 0 = eqb-true k 0 e in rw f (side (eqb root 0))
      where
        side : (b : Bool) → cond (not b && b) (joins m x d) m ≡ m
        side true = refl
        side false = refl
    go false e = copied_some root k m x d (eqb-false k 0 e)

-- an instruction does what its copy does
member_copy : (τ : Types) (root : ℕ) (m : Marks) (i : InstructionKind) → member τ root m i ≡ joined root m (copy_of τ i)
unfolding member
member_copy τ root m (Assign d x t) = assigned_some root (shape (row_of τ (some t))) m x d
member_copy τ root m (UnaryOp op d x) = refl
member_copy τ root m (BinaryOp op d x y) = refl
member_copy τ root m (Call ds f xs ps rs) = refl
member_copy τ root m (Cast d x t u) = refl
member_copy τ root m (Load d p t) = refl
member_copy τ root m (Store p x t) = refl
member_copy τ root m (Debug n xs) = refl
member_copy τ root m Nop = refl
member_copy τ root m (Phi d t ss) = refl
member_copy τ root m (MakeTuple d xs) = refl
member_copy τ root m (ExtractTupleElement d x k t) = refl
member_copy τ root m (MakeStruct d fs t) = refl
member_copy τ root m (ExtractStructField d x n t) = refl
member_copy τ root m (InsertField d x n y t) = copied_any root m x d
member_copy τ root m (InsertTuple d x k y t) = copied_any root m x d
member_copy τ root m (MakeFixedArray d xs t c) = refl
member_copy τ root m (AssertEq x y) = refl
member_copy τ root m (HeapAllocCells d x) = refl

-- the copies behind one
join_before : (root : ℕ) (m : Marks) (o : Option Copy) (cs : List Copy) → join_all root m (before o cs) ≡ join_all root (joined root m o) cs
unfolding join_all
join_before root m none cs = refl
join_before root m (some c) cs = refl

-- a sweep is one over the copies alone
pub sweep_copies : (τ : Types) (root : ℕ) (m : Marks) (is : List Instruction) → sweep τ root m is ≡ join_all root m (copies τ is)
unfolding sweep copies join_all
sweep_copies τ root m [] = refl
sweep_copies τ root m (i ∷ is) =
    sweep_copies τ root (member τ root m i.kind) is
    ∙ ap (λ n. join_all root n (copies τ is)) (member_copy τ root m i.kind)
    ∙ sym (join_before root m (copy_of τ i.kind) (copies τ is))

-- and so are several
sweeps_copies : (τ : Types) (root k : ℕ) (m : Marks) (is : List Instruction) → sweeps τ root k m is ≡ rounds root k m (copies τ is)
unfolding sweeps rounds
sweeps_copies τ root zero m is = refl
sweeps_copies τ root (suc k) m is = sweeps_copies τ root k (sweep τ root m is) is ∙ ap (λ n. rounds root k n (copies τ is)) (sweep_copies τ root m is)

-- the family of a value is found by the copies alone
pub family_copies : (τ : Types) (v : ValueId) (is : List Instruction) → family τ v is ≡ rounds (shape (value_row τ v)) (length is) (mark (replicate (length τ.recorded) false) v) (copies τ is)
unfolding family
family_copies τ v is = sweeps_copies τ (shape (value_row τ v)) (length is) (mark (replicate (length τ.recorded) false) v) is

-- where a round changes nothing, no further one does
pub rounds_still : (root k : ℕ) (m : Marks) (cs : List Copy) → join_all root m cs ≡ m → rounds root k m cs ≡ m
unfolding rounds
rounds_still root zero m cs e = refl
rounds_still root (suc k) m cs e = ap (λ n. rounds root k n cs) e ∙ rounds_still root k m cs e

-- joining keeps the number of marks
pub joining_length : (root : ℕ) (m : Marks) (c : Copy) → length (joining root m c) ≡ length m
unfolding joining
joining_length root m c = go (eqb c.asked 0 || eqb c.asked root) (get_or m c.source false)
  where
    go : (a b : Bool) → length (cond a (cond b (set m c.dest true) m) m) ≡ length m
    go true true = length-set m c.dest true
    go true false = refl
    go false b = refl

pub join_length : (root : ℕ) (m : Marks) (cs : List Copy) → length (join_all root m cs) ≡ length m
unfolding join_all
join_length root m [] = refl
join_length root m (c ∷ cs) = join_length root (joining root m c) cs ∙ joining_length root m c

pub rounds_length : (root k : ℕ) (m : Marks) (cs : List Copy) → length (rounds root k m cs) ≡ length m
unfolding rounds
rounds_length root zero m cs = refl
rounds_length root (suc k) m cs = rounds_length root k (join_all root m cs) cs ∙ join_length root m cs

-- a family has a mark for each value
pub family_length : (τ : Types) (v : ValueId) (is : List Instruction) → length (family τ v is) ≡ length τ.recorded
family_length τ v is =
    let n = length τ.recorded in
    ap (λ m. length m) (family_copies τ v is)
    ∙ rounds_length (shape (value_row τ v)) (length is) (mark (replicate n false) v) (copies τ is)
    ∙ length-set (replicate n false) v.0 true
    ∙ length-replicate n false
