-- Things written one after another, and the parts of a row among them.
use Prim.Native.Nat.{ℕ, zero, suc, ◌+◌, ◌*◌, ◌≤◌, ◌<◌}
use mathlib.Core.Path.{◌≡◌, refl, ap, ◌∙◌, sym}
use mathlib.Core.List.{List, [], ◌∷◌, ◌++◌}
use native.Mathlib.Numerals.{add-one}
use native.Mathlib.Omega.{arith}
use lib.ListN.{length, get_or, drop, length-append}
use Rattle.std.proofs.lemmas.List.{get_or_default, get_or_past}
use lib.Seq.{sets, length-sets, drop-cons, drop-length}
use Rattle.bytes_wire.specs.Number.{at16}
use Rattle.bytes_wire.specs.Value.{value_bytes, unit}
use Rattle.mir.specs.declared.Value.{Value}
use Rattle.mir.specs.Syntax.{FieldInit}
use Rattle.bytes_field.specs.Encode.{each_bytes, name_id_bytes, field_init_bytes}
use Rattle.bytes_emit.proofs.Sets.{sets_append}
use Rattle.mir.specs.MirType.{StructField}
use Rattle.rewrite.specs.Rebuild.{fitted, named}
use Rattle.rewrite.proofs.Parts.{length_fitted, get_d_fitted}
use Rattle.rewrite_parts.specs.Rows.{ValueAt, RowAt}
use Rattle.bytes_struct.specs.Fields.{no_field}
use Rattle.bytes_emit.specs.Written.{Writes}
use Rattle.rewrite_build.specs.declared.Placed.{Placed}
use Rattle.rewrite_build.specs.Written.{numbered_part, renumbered, OfPlaced, OfFields}

-- a part stands at the place in its slot
pub part_at : (next : ℕ) (s places : List ℕ) (k at : ℕ) (xs : List Value) → RowAt next s places 0 xs → at ≡ get_or places k 0 → k < length xs → ValueAt next s at (get_or xs k unit)
part_at next s places k at xs r e h = let z : 0 + k ≡ k = omega arith in rw (e, get_or_default xs k unit Value.Error h) (rw z at (r.each k h))

-- none is changed where there are no fresh numbers
pub renumbered_none : (xs : List Value) → renumbered [] xs ≡ xs
unfolding renumbered
renumbered_none xs = refl

-- there are as many
pub length_renumbered : (ns : List ℕ) (xs : List Value) → length (renumbered ns xs) ≡ length xs
unfolding renumbered
length_renumbered [] xs = refl
length_renumbered (n ∷ ns) [] = refl
length_renumbered (n ∷ ns) (x ∷ xs) = ap suc (length_renumbered ns xs)

-- each with its own number
renumbered_at : (ns : List ℕ) (xs : List Value) (k : ℕ) (z : Value) → k < length xs → get_or (renumbered ns xs) k z ≡ numbered_part (get_or ns k 0) (get_or xs k z)
unfolding renumbered numbered_part
renumbered_at [] xs k z h = refl
renumbered_at (n ∷ ns) [] k z h = absurd (omega arith)
renumbered_at (n ∷ ns) (x ∷ xs) zero z h = refl
renumbered_at (n ∷ ns) (x ∷ xs) (suc k) z h = renumbered_at ns xs k z (omega arith)

-- a part that has none, and one that has
pub part_same : (ns : List ℕ) (xs : List Value) (k n : ℕ) → k < length xs → n ≡ get_or ns k 0 → n ≡ 0 → get_or (renumbered ns xs) k unit ≡ get_or xs k unit
unfolding numbered_part
part_same ns xs k n h e g = rw (renumbered_at ns xs k unit h, ← e, g) refl

pub part_fresh : (ns : List ℕ) (xs : List Value) (k n : ℕ) → k < length xs → n ≡ get_or ns k 0 → (n ≡ 0 → ⊥) → get_or (renumbered ns xs) k unit ≡ Value.Operand (record { 0 = n })
unfolding numbered_part
part_fresh ns xs k n h e g = rw (renumbered_at ns xs k unit h, ← e) (go n g)
  where
    go : (n : ℕ) → (n ≡ 0 → ⊥) → numbered_part n (get_or xs k unit) ≡ Value.Operand (record { 0 = n })
    go zero f = absurd (f refl)
    go (suc n) f = refl

-- past the parts there are
pub part_past : (ns : List ℕ) (xs : List Value) (k : ℕ) → length xs ≤ k → get_or (renumbered ns xs) k unit ≡ unit
part_past ns xs k h = get_or_past (renumbered ns xs) k unit (omega (arith, length_renumbered ns xs))

-- of the things zs those before the i-th are written
pub record Writing {A : Type 0} (enc : A → List ℕ) (zs : List A) (out₀ : List ℕ) (to₀ : ℕ) (out : List ℕ) (to i : ℕ) : Type 0 where
  pub place : to + length (each_bytes enc (drop i zs)) ≡ to₀ + length (each_bytes enc zs)
  pub left : sets out to (each_bytes enc (drop i zs)) ≡ sets out₀ to₀ (each_bytes enc zs)

module _ {A : Type 0} (enc : A → List ℕ) (zs : List A) (out₀ : List ℕ) (to₀ : ℕ) where
  -- one more is written
  writing_again : (out : List ℕ) (to i : ℕ) → Writing enc zs out₀ to₀ out to i → (out' : List ℕ) (to' : ℕ) (z : A) → i < length zs → Writes (enc (get_or zs i z)) out out' to to' → Writing enc zs out₀ to₀ out' to' (i + 1)
  writing_again out to i w out' to' z h q =
      let b = enc (get_or zs i z) in
      let R = each_bytes enc (drop (i + 1) zs) in
      let e : each_bytes enc (drop i zs) ≡ b ++ R = ap (each_bytes enc) (drop-cons zs i z h ∙ ap (λ k. get_or zs i z ∷ drop k zs) (sym (add-one i))) in
      record {
        place = omega (arith, w.place, ap length e, length-append b R, q.0);
        left = rw (q.1, q.0) (sym (ap (sets out to) e ∙ sets_append out to b R)) ∙ w.left;
      }

  -- all are written
  writing_done : (out : List ℕ) (to i : ℕ) → Writing enc zs out₀ to₀ out to i → i ≡ length zs → Writes (each_bytes enc zs) out₀ out to₀ to
  writing_done out to i w h =
      let e : each_bytes enc (drop i zs) ≡ [] = ap (each_bytes enc) (ap (λ k. drop k zs) h ∙ drop-length zs) in
      (omega (arith, w.place, ap length e), sym (ap (sets out to) e) ∙ w.left)

-- where as many are wanted as there are, these
pub fitted_same : (xs : List Value) → fitted (length xs) xs ≡ xs
unfolding fitted
fitted_same [] = refl
fitted_same (x ∷ xs) = ap (λ l. x ∷ l) (fitted_same xs)

-- as many as there are fields, each of them a field's name with a part or a Unit
pub length_named : (fs : List StructField) (xs : List Value) → length (named fs xs) ≡ length fs
unfolding named
length_named [] xs = refl
length_named (f ∷ fs) [] = ap suc (length_named fs [])
length_named (f ∷ fs) (x ∷ xs) = ap suc (length_named fs xs)

get_d_named : (fs : List StructField) (i : ℕ) (xs : List Value) (z : FieldInit) → i < length fs → get_or (named fs xs) i z ≡ record { name = (get_or fs i no_field).name; value = get_or xs i unit }
unfolding named
get_d_named [] i xs z h = absurd (omega arith)
get_d_named (f ∷ fs) zero [] z h = refl
get_d_named (f ∷ fs) zero (x ∷ xs) z h = refl
get_d_named (f ∷ fs) (suc i) [] z h = get_d_named fs i [] z (omega arith)
get_d_named (f ∷ fs) (suc i) (x ∷ xs) z h = get_d_named fs i xs z (omega arith)

-- the loop over the parts: those before the i-th are written
pub record PartsPut (parts : Placed) (want : ℕ) (out₀ : List ℕ) (to₀ : ℕ) (out : List ℕ) (to i : ℕ) : Type 0 where
  pub under : i ≤ want
  pub bound : to ≤ to₀ + 5 * i
  pub len : length out ≡ length out₀
  pub left : OfPlaced parts (λ xs. Writing value_bytes (fitted want xs) out₀ to₀ out to i)

module _ (parts : Placed) (want : ℕ) (out₀ : List ℕ) (to₀ : ℕ) (out : List ℕ) (to i : ℕ) (c : PartsPut parts want out₀ to₀ out to i) where
  -- one more is written
  pub parts_again : (out' : List ℕ) (to' : ℕ) → i < want → length out' ≡ length out → to' ≤ to + 5 → OfPlaced parts (λ xs. Writes (value_bytes (get_or xs i unit)) out out' to to') → PartsPut parts want out₀ to₀ out' to' (i + 1)
  parts_again out' to' h k b w = record {
    under = omega arith;
    bound = omega (arith, c.bound);
    len = k ∙ c.len;
    left = λ xs r l.
        let ys = renumbered parts.nums.now xs in
        let m : i < length (fitted want ys) = omega (arith, length_fitted want ys) in
        writing_again value_bytes (fitted want ys) out₀ to₀ out to i (c.left xs r l) out' to' unit m (rw (get_d_fitted want i ys h) (w xs r l));
  }

  -- all are written
  pub parts_done : want ≤ i → OfPlaced parts (λ xs. Writes (each_bytes value_bytes (fitted want xs)) out₀ out to₀ to)
  parts_done h xs r l =
      let ys = renumbered parts.nums.now xs in
      writing_done value_bytes (fitted want ys) out₀ to₀ out to i (c.left xs r l) (omega (arith, c.under, length_fitted want ys))

-- the loop over a struct's fields: those before the i-th are written
pub record FieldsPut (parts : Placed) (row : List ℕ) (want : ℕ) (out₀ : List ℕ) (to₀ : ℕ) (out : List ℕ) (to i : ℕ) : Type 0 where
  pub under : i ≤ want
  pub bound : to ≤ to₀ + 7 * i
  pub len : length out ≡ length out₀
  pub left : OfPlaced parts (λ xs. OfFields row want (λ fs. Writing field_init_bytes (named fs xs) out₀ to₀ out to i))

-- a name and a value behind it
field_writes : (n v out out₁ out' : List ℕ) (to to' : ℕ) → length n ≡ 2 → out₁ ≡ sets out to n → Writes v out₁ out' (to + 2) to' → Writes (n ++ v) out out' to to'
field_writes n v out out₁ out' to to' h e w =
    let z : to + 2 ≡ to + length n = omega arith in
    (omega (arith, w.0, length-append n v), w.1 ∙ ap (λ l. sets l (to + 2) v) e ∙ ap (λ k. sets (sets out to n) k v) z ∙ sym (sets_append out to n v))

module _ (parts : Placed) (row : List ℕ) (want : ℕ) (out₀ : List ℕ) (to₀ : ℕ) (out : List ℕ) (to i : ℕ) (c : FieldsPut parts row want out₀ to₀ out to i) where
  -- one more is written
  pub fields_again : (out₁ out' : List ℕ) (to' x : ℕ) → i < want → x ≡ at16 row (4 + 4 * i) → out₁ ≡ sets out to (name_id_bytes (record { 0 = x })) → length out' ≡ length out₁ → to' ≤ to + 2 + 5 → OfPlaced parts (λ xs. Writes (value_bytes (get_or xs i unit)) out₁ out' (to + 2) to') → FieldsPut parts row want out₀ to₀ out' to' (i + 1)
  fields_again out₁ out' to' x h e f k b w = record {
    under = omega arith;
    bound = omega (arith, c.bound);
    len = k ∙ ap length f ∙ length-sets out to (name_id_bytes (record { 0 = x })) ∙ c.len;
    left = λ xs r l fs m n.
        let z : FieldInit = record { name = record { 0 = 0 }; value = unit } in
        let ys = renumbered parts.nums.now xs in
        let hn : i < length fs = omega arith in
        let hz : i < length (named fs ys) = omega (arith, length_named fs ys) in
        let g : name_id_bytes (get_or fs i no_field).name ≡ name_id_bytes (record { 0 = x }) = ap (λ y. name_id_bytes (record { 0 = y })) (sym (e ∙ n.each i hn)) in
        let q = field_writes (name_id_bytes (get_or fs i no_field).name) (value_bytes (get_or ys i unit)) out out₁ out' to to' refl (f ∙ ap (sets out to) (sym g)) (w xs r l) in
        writing_again field_init_bytes (named fs ys) out₀ to₀ out to i (c.left xs r l fs m n) out' to' z hz (rw (get_d_named fs i ys z hn) q);
  }

  -- all are written
  pub fields_done : want ≤ i → OfPlaced parts (λ xs. OfFields row want (λ fs. Writes (each_bytes field_init_bytes (named fs xs)) out₀ out to₀ to))
  fields_done h xs r l fs m n =
      let ys = renumbered parts.nums.now xs in
      writing_done field_init_bytes (named fs ys) out₀ to₀ out to i (c.left xs r l fs m n) (omega (arith, c.under, length_named fs ys))
