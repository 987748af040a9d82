-- What the lookups find in an instruction's own fields, kind by kind: how many readings there are, and where their numbers stand.
use Prim.Native.Nat.{ℕ, zero, suc, ◌+◌, ◌-◌, ◌*◌, ◌<◌}
use mathlib.Core.Path.{◌≡◌, refl, ap, ◌∙◌, sym}
use mathlib.Core.List.{List, [], ◌∷◌, ◌++◌, append_assoc}
use native.Mathlib.Omega.{arith}
use borrow.Author.Tests.{ne_eqb}
use lib.ListN.{length, get_or, drop, length-append}
use Rattle.bytes_wire.specs.Number.{to_bytes}
use Rattle.bytes_wire.specs.Value.{value_bytes}
use Rattle.mir.specs.declared.Value.{Value}
use Rattle.mir.specs.declared.ValueId.{ValueId}
use Rattle.mir.specs.Syntax.{FieldInit, InstructionKind}
use Rattle.mir.specs.Syntax.{Assign, UnaryOp, BinaryOp, Call, Cast, Load, Store, Debug, Nop, Phi}
use Rattle.mir.specs.Syntax.{MakeTuple, ExtractTupleElement, MakeStruct, ExtractStructField, InsertField, InsertTuple, MakeFixedArray, AssertEq, HeapAllocCells}
use Rattle.mir.specs.Reads.{kind_number, indices, init_values}
use Rattle.bytes_field.specs.Encode.{each_bytes, list_bytes, value_id_bytes, type_id_bytes, name_id_bytes, projection_bytes, field_init_bytes, field_bytes}
use Rattle.bytes_operands.specs.Fields.{after}
use Rattle.rewrite.specs.Readings.{readings}
use Rattle.rewrite_patch.specs.Chunks.{Chunk, stays, valued, value_chunks, field_chunks, number_places}
use Rattle.rewrite_patch.specs.Places.{count_in, number_in}
use Rattle.rewrite_patch.proofs.Walked.{behind_run, first_byte, values_found, inits_found, steps_counted, steps_found, second_found}

-- the dests of a Call
ids_long : (ds : List ValueId) → length (each_bytes value_id_bytes ds) ≡ 2 * length ds
ids_long [] = refl
ids_long (d ∷ ds) = omega (arith, ids_long ds)

-- as many
pub inits_long : (fs : List FieldInit) → length (init_values fs) ≡ length fs
inits_long [] = refl
inits_long (f ∷ fs) = ap suc (inits_long fs)

-- what stands behind a Call's callee
call_head : (ds : List ValueId) (f : ℕ) (a r : List ℕ) (t : List ℕ) → t ≡ (list_bytes value_id_bytes ds ++ (to_bytes 2 f ++ a)) ++ r → drop (1 + 2 * get_or t 0 0 + 2) t ≡ a ++ r
call_head ds f a r t e =
    let n : get_or t 0 0 ≡ length ds = ap (λ s. get_or s 0 0) e in
    let h = list_bytes value_id_bytes ds ++ to_bytes 2 f in
    let z : 1 + 2 * get_or t 0 0 + 2 ≡ 0 + length h = omega (arith, n, ids_long ds, length-append (each_bytes value_id_bytes ds) (to_bytes 2 f)) in
    let g : drop 0 t ≡ h ++ (a ++ r) = e ∙ regroup (list_bytes value_id_bytes ds) (to_bytes 2 f) a r in
    rw z (behind_run t h (a ++ r) 0 g)
  where
    regroup : (p q a r : List ℕ) → (p ++ (q ++ a)) ++ r ≡ (p ++ q) ++ (a ++ r)
    regroup p q a r = simp (append_assoc)

-- how many readings there are
pub count_found : (k : InstructionKind) (t r : List ℕ) → t ≡ field_bytes k ++ r → count_in t (kind_number k) ≡ length (readings k)
unfolding field_bytes readings
count_found (Assign d x t) s r e = refl
count_found (UnaryOp op d x) t r e = refl
count_found (BinaryOp op d x y) t r e = refl
count_found (Call ds f xs ps rs) t r e =
    let z = call_head ds f (list_bytes value_bytes xs ++ (list_bytes type_id_bytes ps ++ list_bytes type_id_bytes rs)) r t e in
    first_byte t _ (1 + 2 * get_or t 0 0 + 2) z
count_found (Cast d x t u) s r e = refl
count_found (Load d p t) s r e =
    let q : List ℕ = type_id_bytes t ++ r in
    let n : get_or s 4 0 ≡ length p.projections = ap (λ s. get_or s 4 0) e in
    let d : drop 5 s ≡ each_bytes projection_bytes p.projections ++ q = ap (drop 5) e ∙ append_assoc (each_bytes projection_bytes p.projections) (type_id_bytes t) r in
    rw (n, steps_counted p.projections s q 5 d) (omega arith)
count_found (Store p x t) s r e =
    let q : List ℕ = (value_bytes x ++ type_id_bytes t) ++ r in
    let n : get_or s 2 0 ≡ length p.projections = ap (λ s. get_or s 2 0) e in
    let d : drop 3 s ≡ each_bytes projection_bytes p.projections ++ q = ap (drop 3) e ∙ append_assoc (each_bytes projection_bytes p.projections) (value_bytes x ++ type_id_bytes t) r in
    rw (n, steps_counted p.projections s q 3 d) (sym (length-append (indices p.projections) (x ∷ [])))
count_found (Debug m xs) t r e = ap (λ s. get_or s 4 0) e
count_found Nop t r e = refl
count_found (Phi d t ss) s r e = refl
count_found (MakeTuple d xs) t r e = ap (λ s. get_or s 2 0) e
count_found (ExtractTupleElement d x k t) s r e = refl
count_found (MakeStruct d fs t) s r e = ap (λ s. get_or s 2 0) e ∙ sym (inits_long fs)
count_found (ExtractStructField d x n t) s r e = refl
count_found (InsertField d x n y t) s r e = refl
count_found (InsertTuple d x k y t) s r e = refl
count_found (MakeFixedArray d xs t c) s r e = ap (λ s. get_or s 2 0) e
count_found (AssertEq x y) t r e = refl
count_found (HeapAllocCells d x) t r e = refl

-- no projection, nothing that follows is looked for
no_tail : (l : List Chunk) (a j : ℕ) → j < 0 → a + 1 ≡ get_or (number_places a l) j 0
no_tail l a j h = absurd (omega arith)

-- the value that follows
value_tail : (x : Value) (l : List Chunk) (a j : ℕ) → j < 1 → a + 1 ≡ get_or (number_places a (valued x ∷ l)) j 0
unfolding number_places
value_tail x l a zero h = refl
value_tail x l a (suc j) h = absurd (omega arith)

-- where the number of each stands
pub number_found : (k : InstructionKind) (t r : List ℕ) → t ≡ field_bytes k ++ r → (j : ℕ) → j < length (readings k) → number_in t (kind_number k) j ≡ get_or (number_places 0 (field_chunks k)) j 0
unfolding field_bytes readings field_chunks number_places after
number_found (Assign d x t) s r e zero h = refl
number_found (Assign d x t) s r e (suc j) h = absurd (omega arith)
number_found (UnaryOp op d x) t r e zero h = refl
number_found (UnaryOp op d x) t r e (suc j) h = absurd (omega arith)
number_found (BinaryOp op d x y) t r e zero h = refl
number_found (BinaryOp op d x y) t r e (suc zero) h =
    let q = value_bytes y in
    let d : drop 3 t ≡ value_bytes x ++ (q ++ r) = ap (drop 3) e ∙ append_assoc (value_bytes x) q r in
    second_found t (q ++ r) 3 0 x d ∙ omega arith
number_found (BinaryOp op d x y) t r e (suc (suc j)) h = absurd (omega arith)
number_found (Call ds f xs ps rs) t r e j h =
    let c = list_bytes type_id_bytes ps ++ list_bytes type_id_bytes rs in
    let m = 1 + 2 * get_or t 0 0 + 2 in
    let z : drop m t ≡ (length xs ∷ []) ++ (each_bytes value_bytes xs ++ (c ++ r)) = call_head ds f (list_bytes value_bytes xs ++ c) r t e ∙ ap (λ w. length xs ∷ w) (append_assoc (each_bytes value_bytes xs) c r) in
    let n : get_or t 0 0 ≡ length ds = ap (λ s. get_or s 0 0) e in
    let a = list_bytes value_id_bytes ds ++ (to_bytes 2 f ++ (length xs ∷ [])) in
    let w : m + 1 ≡ 0 + length a = omega (arith, n, ids_long ds, length-append (each_bytes value_id_bytes ds) (to_bytes 2 f ++ (length xs ∷ []))) in
    values_found xs (stays c ∷ []) t (c ++ r) (m + 1) j (behind_run t (length xs ∷ []) (each_bytes value_bytes xs ++ (c ++ r)) m z) h ∙ ap (λ b. get_or (number_places b (value_chunks xs (stays c ∷ []))) j 0) w
number_found (Cast d x t u) s r e zero h = refl
number_found (Cast d x t u) s r e (suc j) h = absurd (omega arith)
number_found (Load d p t) s r e zero h = refl
number_found (Load d p t) s r e (suc j) h =
    let q : List ℕ = type_id_bytes t ++ r in
    let l : List Chunk = stays (type_id_bytes t) ∷ [] in
    let n : get_or s 4 0 ≡ length p.projections = ap (λ s. get_or s 4 0) e in
    let d : drop 5 s ≡ each_bytes projection_bytes p.projections ++ q = ap (drop 5) e ∙ append_assoc (each_bytes projection_bytes p.projections) (type_id_bytes t) r in
    let w : suc j - 1 ≡ j = omega arith in
    rw (ne_eqb (suc j) 0 (λ o. omega arith), n, w) (steps_found p.projections l 0 (no_tail l) s q 5 j d (omega arith))
number_found (Store p x t) s r e j h =
    let q : List ℕ = (value_bytes x ++ type_id_bytes t) ++ r in
    let l : List Chunk = stays (type_id_bytes t) ∷ [] in
    let n : get_or s 2 0 ≡ length p.projections = ap (λ s. get_or s 2 0) e in
    let d : drop 3 s ≡ each_bytes projection_bytes p.projections ++ q = ap (drop 3) e ∙ append_assoc (each_bytes projection_bytes p.projections) (value_bytes x ++ type_id_bytes t) r in
    rw n (steps_found p.projections (valued x ∷ l) 1 (value_tail x l) s q 3 j d (omega (arith, length-append (indices p.projections) (x ∷ []))))
number_found (Debug m xs) t r e j h = values_found xs [] t r 5 j (ap (drop 5) e) h
number_found Nop t r e j h = absurd (omega arith)
number_found (Phi d t ss) s r e j h = absurd (omega arith)
number_found (MakeTuple d xs) t r e j h = values_found xs [] t r 3 j (ap (drop 3) e) h
number_found (ExtractTupleElement d x k t) s r e zero h = refl
number_found (ExtractTupleElement d x k t) s r e (suc j) h = absurd (omega arith)
number_found (MakeStruct d fs t) s r e j h =
    inits_found fs (stays (type_id_bytes t) ∷ []) s (type_id_bytes t ++ r) 3 j (ap (drop 3) e ∙ append_assoc (each_bytes field_init_bytes fs) (type_id_bytes t) r) (omega (arith, inits_long fs))
number_found (ExtractStructField d x n t) s r e zero h = refl
number_found (ExtractStructField d x n t) s r e (suc j) h = absurd (omega arith)
number_found (InsertField d x n y t) s r e zero h = refl
number_found (InsertField d x n y t) s r e (suc zero) h =
    let q = name_id_bytes n ++ (value_bytes y ++ type_id_bytes t) in
    let d : drop 2 s ≡ value_bytes x ++ (q ++ r) = ap (drop 2) e ∙ append_assoc (value_bytes x) q r in
    second_found s (q ++ r) 2 2 x d ∙ omega arith
number_found (InsertField d x n y t) s r e (suc (suc j)) h = absurd (omega arith)
number_found (InsertTuple d x k y t) s r e zero h = refl
number_found (InsertTuple d x k y t) s r e (suc zero) h =
    let q = to_bytes 4 k ++ (value_bytes y ++ type_id_bytes t) in
    let d : drop 2 s ≡ value_bytes x ++ (q ++ r) = ap (drop 2) e ∙ append_assoc (value_bytes x) q r in
    second_found s (q ++ r) 2 4 x d ∙ omega arith
number_found (InsertTuple d x k y t) s r e (suc (suc j)) h = absurd (omega arith)
number_found (MakeFixedArray d xs t c) s r e j h =
    values_found xs (stays (type_id_bytes t) ∷ []) s (type_id_bytes t ++ r) 3 j (ap (drop 3) e ∙ append_assoc (each_bytes value_bytes xs) (type_id_bytes t) r) h
number_found (AssertEq x y) t r e zero h = refl
number_found (AssertEq x y) t r e (suc zero) h =
    let q = value_bytes y in
    let d : drop 0 t ≡ value_bytes x ++ (q ++ r) = ap (drop 0) e ∙ append_assoc (value_bytes x) q r in
    second_found t (q ++ r) 0 0 x d ∙ omega arith
number_found (AssertEq x y) t r e (suc (suc j)) h = absurd (omega arith)
number_found (HeapAllocCells d x) t r e zero h = refl
number_found (HeapAllocCells d x) t r e (suc j) h = absurd (omega arith)
