-- Things that stand one behind another in bytes: where walks over them find the numbers of values.
use Prim.Native.Nat.{ℕ, zero, suc, ◌+◌, ◌-◌, ◌<◌}
use mathlib.Core.Path.{◌≡◌, refl, ap, ◌∙◌, sym}
use mathlib.Core.List.{List, [], ◌∷◌, ◌++◌, append_assoc}
use mathlib.Core.Bool.{cond}
use native.Mathlib.Nat.{add-zero}
use native.Mathlib.Omega.{arith}
use borrow.Author.Tests.{ne_eqb}
use lib.ListN.{length, get_or, drop}
use lib.Seq.{drop-drop, drop_at}
use Rattle.bytes_wire.specs.Value.{value_bytes}
use Rattle.mir.specs.declared.Value.{Value}
use Rattle.mir.specs.declared.Literal.{Literal}
use Rattle.mir.specs.declared.Projection.{Projection}
use Rattle.mir.specs.declared.Projection.TheVariants.{Index, Field, Tuple}
use Rattle.mir.specs.Syntax.{FieldInit}
use Rattle.mir.specs.Reads.{indices}
use Rattle.bytes_field.specs.Encode.{each_bytes, name_id_bytes, projection_bytes, field_init_bytes}
use Rattle.bytes_field.proofs.Laws.{head}
use Rattle.bytes_operands.specs.Fields.{value_size, value_end, projection_end, value_step, after}
use Rattle.rewrite_patch.specs.Chunks.{Chunk, value_chunks, init_chunks, step_chunks, number_places}
use Rattle.rewrite_patch.specs.Places.{index_at, index_count, index_place}

-- what stands behind a run
pub behind_run : (t w r : List ℕ) (at : ℕ) → drop at t ≡ w ++ r → drop (at + length w) t ≡ r
behind_run t w r at e = sym (drop-drop (length w) at t) ∙ ap (drop (length w)) e ∙ drop_at w r (length w) refl

-- the byte at a place
pub first_byte : (t w : List ℕ) (at : ℕ) → drop at t ≡ w → get_or t at 0 ≡ get_or w 0 0
first_byte t w at e = sym (head t at) ∙ ap (λ s. get_or s 0 0) e

-- a value ends behind its bytes
pub value_there : (t r : List ℕ) (at : ℕ) (x : Value) → drop at t ≡ value_bytes x ++ r → value_end t at ≡ at + length (value_bytes x)
value_there t r at x e = ap (λ b. at + value_size b) (first_byte t (value_bytes x ++ r) at e) ∙ ap (λ n. at + n) (size x)
  where
    size : (x : Value) → value_size (get_or (value_bytes x ++ r) 0 0) ≡ length (value_bytes x)
    size (Value.Literal (Literal.Integer n)) = refl
    size (Value.Literal (Literal.Boolean b)) = refl
    size (Value.Literal Literal.Unit) = refl
    size (Value.Operand v) = refl
    size Value.Error = refl

-- so does a projection
pub projection_there : (t r : List ℕ) (at : ℕ) (p : Projection) → drop at t ≡ projection_bytes p ++ r → projection_end t at ≡ at + length (projection_bytes p)
projection_there t r at (Index x) e =
    let f : get_or t at 0 ≡ 0 = first_byte t _ at e in
    let g : drop (at + 1) t ≡ value_bytes x ++ r = behind_run t (0 ∷ []) (value_bytes x ++ r) at e in
    rw (f, value_there t r (at + 1) x g) (omega arith)
projection_there t r at (Field n) e = let f : get_or t at 0 ≡ 1 = first_byte t _ at e in rw f refl
projection_there t r at (Tuple k) e = let f : get_or t at 0 ≡ 2 = first_byte t _ at e in rw f refl

-- values
pub values_found : (xs : List Value) (l : List Chunk) (t r : List ℕ) (at j : ℕ) → drop at t ≡ each_bytes value_bytes xs ++ r → j < length xs → after (value_step t 0 0) j at + 0 + 1 ≡ get_or (number_places at (value_chunks xs l)) j 0
unfolding after value_chunks number_places
values_found [] l t r at j e h = absurd (omega arith)
values_found (x ∷ xs) l t r at zero e h = omega arith
values_found (x ∷ xs) l t r at (suc j) e h =
    let e' : drop at t ≡ value_bytes x ++ (each_bytes value_bytes xs ++ r) = e ∙ append_assoc (value_bytes x) (each_bytes value_bytes xs) r in
    let f : value_step t 0 0 at ≡ at + length (value_bytes x) = (rw (add-zero at) (omega arith)) ∙ value_there t (each_bytes value_bytes xs ++ r) at x e' in
    rw f (values_found xs l t r (at + length (value_bytes x)) j (behind_run t (value_bytes x) (each_bytes value_bytes xs ++ r) at e') (omega arith))

-- inits
pub inits_found : (fs : List FieldInit) (l : List Chunk) (t r : List ℕ) (at j : ℕ) → drop at t ≡ each_bytes field_init_bytes fs ++ r → j < length fs → after (value_step t 2 0) j at + 2 + 1 ≡ get_or (number_places at (init_chunks fs l)) j 0
unfolding after init_chunks number_places
inits_found [] l t r at j e h = absurd (omega arith)
inits_found (f ∷ fs) l t r at zero e h = refl
inits_found (f ∷ fs) l t r at (suc j) e h =
    let x = f.value in
    let q = each_bytes field_init_bytes fs ++ r in
    let e' : drop at t ≡ name_id_bytes f.name ++ (value_bytes x ++ q) = e ∙ append_assoc (name_id_bytes f.name ++ value_bytes x) (each_bytes field_init_bytes fs) r ∙ append_assoc (name_id_bytes f.name) (value_bytes x) q in
    let g : drop (at + 2) t ≡ value_bytes x ++ q = behind_run t (name_id_bytes f.name) (value_bytes x ++ q) at e' in
    let i : value_step t 2 0 at ≡ at + 2 + length (value_bytes x) = add-zero _ ∙ value_there t q (at + 2) x g in
    rw i (inits_found fs l t r (at + 2 + length (value_bytes x)) j (behind_run t (value_bytes x) q (at + 2) g) (omega arith))

-- the Index steps of a place are counted
pub steps_counted : (ps : List Projection) (t r : List ℕ) (at : ℕ) → drop at t ≡ each_bytes projection_bytes ps ++ r → index_count t (length ps) at ≡ length (indices ps)
unfolding index_count
steps_counted [] t r at e = refl
steps_counted (p ∷ ps) t r at e =
    let q = each_bytes projection_bytes ps ++ r in
    let e' : drop at t ≡ projection_bytes p ++ q = e ∙ append_assoc (projection_bytes p) (each_bytes projection_bytes ps) r in
    let g = behind_run t (projection_bytes p) q at e' in
    let i : index_count t (length ps) (projection_end t at) ≡ length (indices ps) = rw (projection_there t q at p e') (steps_counted ps t r (at + length (projection_bytes p)) g) in
    rw i (go p q e')
  where
    go : (p : Projection) (q : List ℕ) → drop at t ≡ projection_bytes p ++ q → cond (index_at t at) 1 0 + length (indices ps) ≡ length (indices (p ∷ ps))
    go (Index x) q f = let z : get_or t at 0 ≡ 0 = first_byte t _ at f in rw z (omega arith)
    go (Field n) q f = let z : get_or t at 0 ≡ 1 = first_byte t _ at f in rw z (omega arith)
    go (Tuple k) q f = let z : get_or t at 0 ≡ 2 = first_byte t _ at f in rw z (omega arith)

-- and found; behind them all stands what is found first of what follows
pub steps_found : (ps : List Projection) (l : List Chunk) (m : ℕ) → ((a j : ℕ) → j < m → a + 1 ≡ get_or (number_places a l) j 0) → (t r : List ℕ) (at j : ℕ) → drop at t ≡ each_bytes projection_bytes ps ++ r → j < length (indices ps) + m → index_place t (length ps) j at + 1 ≡ get_or (number_places at (step_chunks ps l)) j 0
unfolding index_place step_chunks number_places
steps_found [] l m tail t r at j e h = tail at j (omega arith)
steps_found (Index x ∷ ps) l m tail t r at zero e h = let z : get_or t at 0 ≡ 0 = first_byte t _ at e in rw z refl
steps_found (Index x ∷ ps) l m tail t r at (suc j) e h =
    let q = each_bytes projection_bytes ps ++ r in
    let p = projection_bytes (Index x) in
    let e' : drop at t ≡ p ++ q = e ∙ append_assoc p (each_bytes projection_bytes ps) r in
    let z : get_or t at 0 ≡ 0 = first_byte t _ at e in
    let k = at + 1 + length (value_bytes x) in
    let i : value_end t (at + 1) ≡ k = value_there t q (at + 1) x (behind_run t (0 ∷ []) (value_bytes x ++ q) at e') in
    let y : k ≡ at + length p = omega arith in
    let g : drop k t ≡ q = rw y (behind_run t p q at e') in
    let w : suc j - 1 ≡ j = omega arith in
    rw (z, w, i, ne_eqb (suc j) 0 (λ o. omega arith)) (steps_found ps l m tail t r k j g (omega arith))
steps_found (Field n ∷ ps) l m tail t r at j e h =
    let q = each_bytes projection_bytes ps ++ r in
    let p = projection_bytes (Field n) in
    let e' : drop at t ≡ p ++ q = e ∙ append_assoc p (each_bytes projection_bytes ps) r in
    let z : get_or t at 0 ≡ 1 = first_byte t _ at e' in
    let w : j - 0 ≡ j = omega arith in
    rw (z, w) (steps_found ps l m tail t r (at + length p) j (behind_run t p q at e') h)
steps_found (Tuple k ∷ ps) l m tail t r at j e h =
    let q = each_bytes projection_bytes ps ++ r in
    let p = projection_bytes (Tuple k) in
    let e' : drop at t ≡ p ++ q = e ∙ append_assoc p (each_bytes projection_bytes ps) r in
    let z : get_or t at 0 ≡ 2 = first_byte t _ at e' in
    let w : j - 0 ≡ j = omega arith in
    rw (z, w) (steps_found ps l m tail t r (at + length p) j (behind_run t p q at e') h)

-- two values, one some bytes behind the other
pub second_found : (t r : List ℕ) (at gap : ℕ) (x : Value) → drop at t ≡ value_bytes x ++ r → after (value_step t 0 gap) 1 at + 0 + 1 ≡ at + length (value_bytes x) + gap + 1
unfolding after
second_found t r at gap x e =
    let f : value_end t (at + 0) ≡ at + length (value_bytes x) = (rw (add-zero at) refl) ∙ value_there t r at x e in
    omega (arith, f)
