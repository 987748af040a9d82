-- Fresh numbers written over those of readings: the bytes of the instruction with them.
use Prim.Native.Nat.{ℕ, suc, ◌+◌}
use mathlib.Core.Path.{◌≡◌, refl, ap, ◌∙◌, sym}
use mathlib.Core.List.{List, [], ◌∷◌, ◌++◌}
use mathlib.Core.Bool.{Bool, true, false, cond}
use native.Mathlib.Omega.{arith}
use native.Mathlib.Numerals.{add-one}
use borrow.Author.Tests.{eqb-false}
use lib.ListN.{length, get_or, drop, set, length-append}
use lib.Seq.{sets, set-set, set_comm, get_or-drop}
use lib.Dec.{eqb}
use Rattle.std.specs.Prelude.{is_some}
use Rattle.bytes_wire.specs.Number.{to_bytes}
use Rattle.bytes_wire.specs.Value.{value_bytes}
use Rattle.mir.specs.Operand.{operand_of}
use Rattle.mir.specs.declared.Value.{Value}
use Rattle.mir.specs.declared.ValueId.{ValueId}
use Rattle.bytes_field.specs.Encode.{value_id_bytes}
use Rattle.bytes_emit.proofs.Sets.{sets_append, sets_front}
use Rattle.rewrite.specs.Readings.{base_of}
use Rattle.rewrite_patch.specs.Chunks.{Chunk, stays, valued, based, number_places, put_number, patched, or_number, Replaces}
use Rattle.rewrite_patch.proofs.EachKind.{bytes_in, values_in, chunks_with}

-- the same number written again, with what stands behind
over_two : (l : List ℕ) (i a b c d : ℕ) → sets (sets l i (a ∷ b ∷ [])) i (c ∷ d ∷ []) ≡ sets l i (c ∷ d ∷ [])
over_two l i a b c d =
    rw (set_comm (set l i a) (suc i) i b c (λ e. omega arith), set-set l i a c, set-set (set l i c) (suc i) b d) refl

-- two bytes in front are written over
two_again : (l : List ℕ) (i : ℕ) (a b c d : ℕ) (r : List ℕ) → sets (sets l i (a ∷ b ∷ r)) i (c ∷ d ∷ []) ≡ sets l i (c ∷ d ∷ r)
two_again l i a b c d r =
    let e : sets l i (a ∷ b ∷ r) ≡ sets (sets l i (a ∷ b ∷ [])) (i + 2) r = sets_append l i (a ∷ b ∷ []) r in
    let f : sets (sets (sets l i (a ∷ b ∷ [])) (i + 2) r) i (c ∷ d ∷ []) ≡ sets (sets l i (a ∷ b ∷ [])) i (c ∷ d ∷ r) = sets_front (sets l i (a ∷ b ∷ [])) i (c ∷ d ∷ []) r in
    let g : sets (sets l i (a ∷ b ∷ [])) i (c ∷ d ∷ r) ≡ sets (sets (sets l i (a ∷ b ∷ [])) i (c ∷ d ∷ [])) (i + 2) r = sets_append (sets l i (a ∷ b ∷ [])) i (c ∷ d ∷ []) r in
    ap (λ m. sets m i (c ∷ d ∷ [])) e ∙ f ∙ g ∙ ap (λ m. sets m (i + 2) r) (over_two l i a b c d) ∙ sym (sets_append l i (c ∷ d ∷ []) r)

-- a number where a base stands
base_put : (out : List ℕ) (to n : ℕ) (v : ValueId) (r : List ℕ) → put_number (sets out to (value_id_bytes v ++ r)) to n ≡ sets out to (value_id_bytes (base_of v (or_number (Value.Operand v) n)) ++ r)
unfolding base_of
base_put out to n v r = go (eqb n 0)
  where
    go : (c : Bool) → cond c (sets out to (value_id_bytes v ++ r)) (sets (sets out to (value_id_bytes v ++ r)) to (to_bytes 2 n)) ≡ sets out to (value_id_bytes (base_of v (cond c (Value.Operand v) (Value.Operand (record { 0 = n })))) ++ r)
    go true = refl
    go false = two_again out to _ _ _ _ r

-- a number where a value stands, which is an operand if there is one
value_put : (out : List ℕ) (to n : ℕ) (x : Value) (r : List ℕ) → ((n ≡ 0 → ⊥) → is_some (operand_of x) ≡ true) → put_number (sets out to (value_bytes x ++ r)) (to + 1) n ≡ sets out to (value_bytes (or_number x n) ++ r)
value_put out to n x r h = go (eqb n 0) refl x h
  where
    go : (c : Bool) → eqb n 0 ≡ c → (x : Value) → ((n ≡ 0 → ⊥) → is_some (operand_of x) ≡ true) → cond c (sets out to (value_bytes x ++ r)) (sets (sets out to (value_bytes x ++ r)) (to + 1) (to_bytes 2 n)) ≡ sets out to (value_bytes (cond c x (Value.Operand (record { 0 = n }))) ++ r)
    go true e x h = refl
    go false e (Value.Operand v) h = rw (add-one to) (two_again (set out to 3) (suc to) _ _ _ _ r)
    go false e (Value.Literal l) h = absurd (let f = h (eqb-false n 0 e) in cc)
    go false e Value.Error h = absurd (let f = h (eqb-false n 0 e) in cc)

-- the value that is put takes as many bytes
same_size : (x : Value) (n : ℕ) → ((n ≡ 0 → ⊥) → is_some (operand_of x) ≡ true) → length (value_bytes (or_number x n)) ≡ length (value_bytes x)
same_size x n h = go (eqb n 0) refl x h
  where
    go : (c : Bool) → eqb n 0 ≡ c → (x : Value) → ((n ≡ 0 → ⊥) → is_some (operand_of x) ≡ true) → length (value_bytes (cond c x (Value.Operand (record { 0 = n })))) ≡ length (value_bytes x)
    go true e x h = refl
    go false e (Value.Operand v) h = refl
    go false e (Value.Literal l) h = absurd (let f = h (eqb-false n 0 e) in cc)
    go false e Value.Error h = absurd (let f = h (eqb-false n 0 e) in cc)

-- the others replace operands too
rest_replaces : (x : Value) (xs : List Value) (ns : List ℕ) → Replaces (x ∷ xs) ns → Replaces xs (drop 1 ns)
rest_replaces x xs ns h j l e = h (suc j) (omega arith) (λ z. e (get_or-drop 1 ns j 0 ∙ (let y : 1 + j ≡ suc j = omega arith in rw y z)))

-- all of them
pub patched_lem : (l : List Chunk) (out : List ℕ) (to : ℕ) (ns : List ℕ) → Replaces (values_in l) ns → patched (sets out to (bytes_in l)) (number_places to l) ns ≡ sets out to (bytes_in (chunks_with l ns))
unfolding values_in number_places patched chunks_with
patched_lem [] out to ns h = refl
patched_lem (stays w ∷ l) out to ns h =
    ap (λ m. patched m (number_places (to + length w) l) ns) (sets_append out to w (bytes_in l))
    ∙ patched_lem l (sets out to w) (to + length w) ns h
    ∙ sym (sets_append out to w (bytes_in (chunks_with l ns)))
patched_lem (valued x ∷ l) out to ns h =
    let n = get_or ns 0 0 in
    let g : ((n ≡ 0 → ⊥) → is_some (operand_of x) ≡ true) = λ e. h 0 (omega arith) e in
    let y = or_number x n in
    let a = to + length (value_bytes x) in
    let e : to + length (value_bytes y) ≡ a = ap (λ k. to + k) (same_size x n g) in
    ap (λ m. patched m (number_places a l) (drop 1 ns)) (value_put out to n x (bytes_in l) g ∙ sets_append out to (value_bytes y) (bytes_in l) ∙ ap (λ k. sets (sets out to (value_bytes y)) k (bytes_in l)) e)
    ∙ patched_lem l (sets out to (value_bytes y)) a (drop 1 ns) (rest_replaces x (values_in l) ns h)
    ∙ sym (sets_append out to (value_bytes y) (bytes_in (chunks_with l (drop 1 ns))) ∙ ap (λ k. sets (sets out to (value_bytes y)) k (bytes_in (chunks_with l (drop 1 ns)))) e)
patched_lem (based v ∷ l) out to ns h =
    let n = get_or ns 0 0 in
    let u = base_of v (or_number (Value.Operand v) n) in
    ap (λ m. patched m (number_places (to + 2) l) (drop 1 ns)) (base_put out to n v (bytes_in l) ∙ sets_append out to (value_id_bytes u) (bytes_in l))
    ∙ patched_lem l (sets out to (value_id_bytes u)) (to + 2) (drop 1 ns) (rest_replaces (Value.Operand v) (values_in l) ns h)
    ∙ sym (sets_append out to (value_id_bytes u) (bytes_in (chunks_with l (drop 1 ns))))

-- as many bytes
pub same_long : (l : List Chunk) (ns : List ℕ) → Replaces (values_in l) ns → length (bytes_in (chunks_with l ns)) ≡ length (bytes_in l)
unfolding values_in chunks_with
same_long [] ns h = refl
same_long (stays w ∷ l) ns h = omega (arith, length-append w (bytes_in (chunks_with l ns)), length-append w (bytes_in l), same_long l ns h)
same_long (valued x ∷ l) ns h =
    let n = get_or ns 0 0 in
    let y = or_number x n in
    omega
    (arith, length-append (value_bytes y) (bytes_in (chunks_with l (drop 1 ns))), length-append (value_bytes x) (bytes_in l), same_size x n (λ e. h 0 (omega arith) e), same_long l (drop 1 ns) (rest_replaces x (values_in l) ns h))
same_long (based v ∷ l) ns h = ap (λ k. suc (suc k)) (same_long l (drop 1 ns) (rest_replaces (Value.Operand v) (values_in l) ns h))
