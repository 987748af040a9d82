-- The marks of the aggregates that are stored into, and reason 3 over all blocks.
use Prim.Native.Nat.{ℕ, zero, suc, ◌+◌, ◌-◌, ◌≤◌, ◌<◌}
use mathlib.Core.Path.{◌≡◌, refl, ap, ◌∙◌, sym}
use mathlib.Core.List.{List, [], ◌∷◌, ◌++◌}
use mathlib.Core.Bool.{true, false, cond, not, ◌&&◌, ◌||◌, or-true, or-false, or_assoc}
use mathlib.Core.Bool as B
use mathlib.Core.Option.{Option, none, some}
use native.Mathlib.Omega.{arith}
use borrow.Author.Tests.{eq-eqb}
use lib.ListN.{length, get_or, set, drop, replicate, length-set, length-replicate, get_or-eq_default}
use lib.Seq.{get_or-set_same, get_or-set_other}
use lib.Dec.{eqb, eqb→eq}
use denote.Enum.Bare.{sameb}
use Rattle.table.proofs.Elements.{clear_at}
use Rattle.mir.specs.contracts.shape.Shape.{the_type}
use Rattle.mir.specs.declared.shape.Shape.{Shape}
use Rattle.mir.specs.Shape.{number_of_shape}
use Rattle.mir.specs.declared.TypeId.{TypeId}
use Rattle.mir.specs.declared.ValueId.{ValueId}
use Rattle.mir.specs.MirType.{MirType, Felt, Bool, U32, Tuple, Struct, FixedArray, Pointer, Function, Unit, Error, Unknown}
use Rattle.fold_shapes.specs.Shapes.{OfType}
use Rattle.mir.specs.Syntax.{Instruction, Block}
use Rattle.mir.specs.Reads.{store_base, is_phi}
use Rattle.bytes_field.specs.Decode.{mark}
use Rattle.bytes_index.specs.declared.code.Code.{Code}
use Rattle.bytes_index.specs.declared.slots.Slots.{Slots}
use Rattle.bytes_block.specs.Decode.{marks}
use Rattle.bytes_sections.specs.Index.{recorded_from}
use Rattle.bytes_index.proofs.Laws.{from_number}
use Rattle.mir.specs.Option.{as_option}
use Rattle.std.specs.Prelude.{Some, None, Option as Answered}
use Rattle.bytes_index.specs.Table.{recorded_in, kind_in, read_in}
use Rattle.bytes_index.specs.Code.{no_block, SlotsOf}
use Rattle.mir.specs.Lists.{Each}
use Rattle.mir.specs.Lookup.{Types, row_of, recorded_type, value_row, shape, is_tuple, is_struct, is_array, is_aggregate}
use Rattle.mir.specs.Phis.{behind_phis}
use Rattle.fold.specs.Tables.{CodeGround}
use Rattle.shelf.specs.Lists.{every, among}
use Rattle.shelf.specs.Reads.{parts_taken, aggregate_base, bases_in, bases, apart}
use Rattle.shelf_marks.specs.Tests.{SlotIn, OfSlot, OfBlock, OfRoutine, parts_clear, each_kind, each_block}
use Rattle.shelf_marks.proofs.Scanning.{SlotsLeft, slots_again, slots_done, Blocks, blocks_next, blocks_done, every_behind, every_same}
use Rattle.shelf_marks.proofs.Storing.{base_none, base_read, no_phi, phi_parts}

-- marks behind marks
pub marks_append : (m : List B.Bool) (xs ys : List ValueId) → marks m (xs ++ ys) ≡ marks (marks m xs) ys
marks_append m [] ys = refl
marks_append m (x ∷ xs) ys = marks_append (mark m x) xs ys

-- what is marked: what was, and the values
pub marks_are : (m : List B.Bool) (xs : List ValueId) (v : ℕ) → Each (λ d. d.0 < length m) xs → get_or (marks m xs) v false ≡ (among v xs || get_or m v false)
marks_are m [] v h = refl
marks_are m (x ∷ xs) v h =
    marks_are (mark m x) xs v (all_long xs h.1) ∙ one (eqb v x.0) refl
  where
    all_long : (ys : List ValueId) → Each (λ d. d.0 < length m) ys → Each (λ d. d.0 < length (mark m x)) ys
    all_long [] g = tt
    all_long (y ∷ ys) g = (rw (length-set m x.0 true) g.0, all_long ys g.1)

    differ : eqb v x.0 ≡ false → v ≡ x.0 → ⊥
    differ e q = let z : true ≡ false = sym (eq-eqb v x.0 q) ∙ e in let y : ◌≡◌ {A = ℕ} 0 1 = cc in omega arith

    one : (c : B.Bool) → eqb v x.0 ≡ c → (among v xs || get_or (mark m x) v false) ≡ ((c || among v xs) || get_or m v false)
    one true e =
        let q : v ≡ x.0 = eqb→eq v x.0 (rw e tt) in
        let z : get_or (mark m x) v false ≡ true = ap (λ k. get_or (mark m x) k false) q ∙ get_or-set_same m x.0 true false h.0 in
        ap (λ y. among v xs || y) z ∙ or-true (among v xs)
    one false e = ap (λ y. among v xs || y) (get_or-set_other m x.0 v true false (differ e))

pub among_append : (v : ℕ) (xs ys : List ValueId) → among v (xs ++ ys) ≡ (among v xs || among v ys)
among_append v [] ys = refl
among_append v (x ∷ xs) ys = ap (λ q. eqb v x.0 || q) (among_append v xs ys) ∙ sym (or_assoc (eqb v x.0) (among v xs) (among v ys))

-- marks of fresh ones
pub marks_fresh : (n : ℕ) (m : List B.Bool) (xs : List ValueId) → m ≡ marks (replicate n false) xs → Each (λ d. d.0 < n) xs → (v : ℕ) → get_or m v false ≡ among v xs
marks_fresh n m xs e h v =
    ap (λ q. get_or q v false) e ∙ marks_are (replicate n false) xs v (rw (length-replicate n false) h) ∙ ap (λ q. among v xs || q) (clear_at n v) ∙ or-false (among v xs)

-- whether a value is an aggregate
aggregate_shape : (t : Option MirType) → is_aggregate t ≡ not (eqb (shape t) 0)
unfolding is_aggregate is_tuple is_struct is_array shape
aggregate_shape none = refl
aggregate_shape (some Felt) = refl
aggregate_shape (some Bool) = refl
aggregate_shape (some U32) = refl
aggregate_shape (some (Tuple ts)) = refl
aggregate_shape (some (Struct n fs)) = refl
aggregate_shape (some (FixedArray t size)) = refl
aggregate_shape (some (Pointer t)) = refl
aggregate_shape (some (Function ps r)) = refl
aggregate_shape (some Unit) = refl
aggregate_shape (some Error) = refl
aggregate_shape (some Unknown) = refl

-- a shape that is not Other is no zero
pub shape_differs : (k : Shape) → not (sameb the_type k Shape.Other) ≡ not (eqb (number_of_shape k) 0)
shape_differs Shape.Other = refl
shape_differs Shape.Tuple = refl
shape_differs Shape.Struct = refl
shape_differs Shape.FixedArray = refl

no_aggregate : false ≡ is_aggregate none
unfolding is_aggregate is_tuple is_struct is_array shape
no_aggregate = refl

listed_low : (τ : Types) (xs : List (Option TypeId)) (k : ℕ) → is_aggregate (row_of τ (get_or xs k none)) ≡ true → k < length xs
unfolding row_of
listed_low τ [] k e = let z : false ≡ true = no_aggregate ∙ e in let y : ◌≡◌ {A = ℕ} 0 1 = cc in absurd (omega arith)
listed_low τ (x ∷ xs) zero e = omega arith
listed_low τ (x ∷ xs) (suc k) e = omega (arith, listed_low τ xs k e)

aggregate_low : (τ : Types) (v : ValueId) → is_aggregate (value_row τ v) ≡ true → v.0 < length τ.recorded
unfolding value_row recorded_type
aggregate_low τ v e = listed_low τ τ.recorded v.0 e

-- what is_aggregate finds
module _ (code : Code) (v : ℕ) where
  pub aggregate_past : code.bounds.next ≤ v → (τ : Types) → CodeGround code τ → false ≡ is_aggregate (value_row τ (record { 0 = v }))
  unfolding value_row recorded_type row_of
  aggregate_past h τ g = no_aggregate ∙ ap (λ q. is_aggregate (row_of τ q)) (sym (get_or-eq_default τ.recorded none (omega (arith, g.values))))

  known_type : (r : Answered TypeId) → as_option r ≡ recorded_from (get_or (recorded_in code.facts.now) v 0) → v < code.bounds.next → (τ : Types) → CodeGround code τ → as_option r ≡ recorded_type τ (record { 0 = v })
  unfolding recorded_type
  known_type r e h τ g = e ∙ from_number _ (g.known.recorded_types v (omega (arith, g.values)) (omega (arith, g.values, g.known.long)))

  pub aggregate_none : none ≡ recorded_from (get_or (recorded_in code.facts.now) v 0) → v < code.bounds.next → (τ : Types) → CodeGround code τ → false ≡ is_aggregate (value_row τ (record { 0 = v }))
  unfolding value_row row_of
  aggregate_none e h τ g = no_aggregate ∙ ap (λ o. is_aggregate (row_of τ o)) (known_type None e h τ g)

  pub aggregate_some : (t : TypeId) → some t ≡ recorded_from (get_or (recorded_in code.facts.now) v 0) → v < code.bounds.next → {r : ℕ} → OfType shape code t r → (τ : Types) → CodeGround code τ → not (eqb r 0) ≡ is_aggregate (value_row τ (record { 0 = v }))
  unfolding value_row row_of
  aggregate_some t e h {r} f τ g =
      let z : r ≡ shape (row_of τ (some t)) = f code.bounds.list τ.rows g.known.rows g.rows in
      ap (λ q. not (eqb q 0)) z ∙ sym (aggregate_shape (row_of τ (some t))) ∙ ap (λ o. is_aggregate (row_of τ o)) (known_type (Some t) e h τ g)

-- what mark_base marks
module _ (code : Code) (slot : ℕ) (m : List B.Bool) where
  pub base_other : (kind_in code.facts.now slot ≡ 6 → ⊥) → OfSlot code slot (λ τ i. marks m (aggregate_base τ (store_base i))) m
  unfolding aggregate_base
  base_other f τ i g a = sym (ap (λ q. marks m (aggregate_base τ q)) (base_none i.kind (λ z. f (a.kind ∙ z))))

  module _ (h : kind_in code.facts.now slot ≡ 6) {v : ℕ} {r : B.Bool} (ev : v ≡ read_in code.facts.now slot 0) (er : (τ : Types) → CodeGround code τ → r ≡ is_aggregate (value_row τ (record { 0 = v }))) where
    based : (τ : Types) (i : Instruction) → CodeGround code τ → SlotIn code slot i → aggregate_base τ (store_base i.kind) ≡ cond r (record { 0 = v } ∷ []) []
    unfolding aggregate_base
    based τ i g a = ap (aggregate_base τ) (base_read code slot i a h ev) ∙ ap (λ q. cond q (record { 0 = v } ∷ []) []) (sym (er τ g))

    pub base_kept : r ≡ false → OfSlot code slot (λ τ i. marks m (aggregate_base τ (store_base i))) m
    base_kept k τ i g a = sym (ap (marks m) (based τ i g a ∙ ap (λ q. cond q (record { 0 = v } ∷ []) []) k))

    pub base_marked : r ≡ true → {m' : List B.Bool} → m' ≡ set m v true → OfSlot code slot (λ τ i. marks m (aggregate_base τ (store_base i))) m'
    base_marked k f τ i g a = f ∙ sym (ap (marks m) (based τ i g a ∙ ap (λ q. cond q (record { 0 = v } ∷ []) []) k))

-- the instructions of a block up to a slot have their bases marked
pub record Based (code : Code) (k : ℕ) (m₀ m : List B.Bool) (i : ℕ) : Type 0 where
  pub long : length m ≡ length m₀
  pub left : SlotsLeft code k (λ τ q is. marks q (bases_in τ is)) m₀ m i

pub based_start : (code : Code) (k : ℕ) (m : List B.Bool) (first : ℕ) → Based code k m m (first - first)
based_start code k m first = let z : first - first ≡ 0 = omega arith in rw z record { long = refl; left = λ τ ks c h. refl }

module _ (code : Code) (k : ℕ) (at : Slots) {m₀ m : List B.Bool} {slot end : ℕ} (el : SlotsOf code.facts.now k at) (ee : end ≡ at.first + at.count) (u : Based code k m₀ m (slot - at.first)) where
  pub based_again : {m' : List B.Bool} → at.first ≤ slot → slot < end → OfSlot code slot (λ τ y. marks m (aggregate_base τ (store_base y))) m' → length m' ≡ length m → Based code k m₀ m' (slot + 1 - at.first)
  unfolding bases_in
  based_again g h f lm =
      let w : at.first + (slot - at.first) ≡ slot = omega arith in
      let z : slot - at.first + 1 ≡ slot + 1 - at.first = omega arith in
      rw (← z) record {
        long = lm ∙ u.long;
        left = slots_again code k (λ τ q is. marks q (bases_in τ is)) at el u.left (omega (arith, ee))
            (λ τ ks y is c a. marks_append m (aggregate_base τ (store_base y.kind)) (bases_in τ is) ∙ ap (λ q. marks q (bases_in τ is)) (sym (f τ y c.ground (rw w at a))));
      }

  pub based_done : end ≤ slot → OfBlock code k (λ τ x. marks m₀ (bases_in τ x.instructions)) m
  unfolding bases_in
  based_done g τ ks c h = sym (slots_done code k (λ τ q is. marks q (bases_in τ is)) at el u.left (omega (arith, ee)) τ ks c h)

-- phis have none
bases_behind : (τ : Types) (is : List Instruction) → bases_in τ (behind_phis is) ≡ bases_in τ is
unfolding behind_phis bases_in aggregate_base
bases_behind τ [] = refl
bases_behind τ (i ∷ is) = at (is_phi i.kind) refl (bases_behind τ is)
  where
    at : (c : B.Bool) → is_phi i.kind ≡ c → bases_in τ (behind_phis is) ≡ bases_in τ is → bases_in τ (cond c (behind_phis is) (i ∷ is)) ≡ (aggregate_base τ (store_base i.kind) ++ bases_in τ is)
    at true e g = g ∙ sym (ap (λ q. aggregate_base τ q ++ bases_in τ is) (no_phi i.kind e))
    at false e g = refl

-- k blocks have their bases marked
pub record Basing (code : Code) (m₀ m : List B.Bool) (k : ℕ) : Type 0 where
  pub long : length m ≡ length m₀
  pub left : Blocks code (λ τ q ks. marks q (bases τ ks)) m₀ m k

module _ (code : Code) {m₀ m : List B.Bool} {k : ℕ} (u : Basing code m₀ m k) where
  pub basing_again : {m' : List B.Bool} → k < code.bounds.blocks → OfBlock code k (λ τ x. marks m (bases_in τ x.instructions)) m' → length m' ≡ length m → Basing code m₀ m' (k + 1)
  unfolding bases
  basing_again {m'} g f lm =
      record {
        long = lm ∙ u.long;
        left = λ τ ks c.
            let is = (get_or ks k no_block).instructions in
            let y : marks m (bases_in τ (behind_phis is)) ≡ m' = ap (marks m) (bases_behind τ is) ∙ sym (f τ ks c (omega (arith, c.many))) in
            blocks_next code (λ τ q ks. marks q (bases τ ks)) u.left g τ ks c
            ∙ marks_append m (bases_in τ (behind_phis is)) (bases τ (drop (k + 1) ks))
            ∙ ap (λ o. marks o (bases τ (drop (k + 1) ks))) y;
      }

  pub basing_done : code.bounds.blocks ≤ k → OfRoutine code (λ τ ks. marks m₀ (bases τ ks)) m
  unfolding bases
  basing_done g τ ks c = sym (blocks_done code (λ τ q ks. marks q (bases τ ks)) u.left g τ ks c)

-- the bases are values
all_append : (P : ValueId → Type 0) (xs ys : List ValueId) → Each P xs → Each P ys → Each P (xs ++ ys)
all_append P [] ys f g = g
all_append P (x ∷ xs) ys f g = (f.0, all_append P xs ys f.1 g)

base_low : (τ : Types) (n : ℕ) → length τ.recorded ≤ n → (o : Option ValueId) → Each (λ d. d.0 < n) (aggregate_base τ o)
unfolding aggregate_base
base_low τ n l none = tt
base_low τ n l (some v) = at (is_aggregate (value_row τ v)) refl
  where
    at : (c : B.Bool) → is_aggregate (value_row τ v) ≡ c → Each (λ d. d.0 < n) (cond c (v ∷ []) [])
    at true e = (omega (arith, aggregate_low τ v e), tt)
    at false e = tt

bases_in_low : (τ : Types) (n : ℕ) → length τ.recorded ≤ n → (is : List Instruction) → Each (λ d. d.0 < n) (bases_in τ is)
unfolding bases_in
bases_in_low τ n l [] = tt
bases_in_low τ n l (i ∷ is) = all_append (λ d. d.0 < n) (aggregate_base τ (store_base i.kind)) (bases_in τ is) (base_low τ n l (store_base i.kind)) (bases_in_low τ n l is)

bases_low : (τ : Types) (n : ℕ) → length τ.recorded ≤ n → (ks : List Block) → Each (λ d. d.0 < n) (bases τ ks)
unfolding bases
bases_low τ n l [] = tt
bases_low τ n l (k ∷ ks) = all_append (λ d. d.0 < n) (bases_in τ (behind_phis k.instructions)) (bases τ ks) (bases_in_low τ n l (behind_phis k.instructions)) (bases_low τ n l ks)

-- reason 3 as one test of each instruction
apart_every : (f : ℕ → B.Bool) (is : List Instruction) → apart f is ≡ each_kind (λ i. every (λ v. not (f v.0)) (parts_taken i)) is
unfolding apart
apart_every f [] = refl
apart_every f (i ∷ is) = ap (λ q. every (λ v. not (f v.0)) (parts_taken i.kind) && q) (apart_every f is)

-- the whole: what the marks say of all blocks
pub apart_all : (code : Code) (m : List B.Bool) {r : B.Bool} → OfRoutine code (λ τ ks. marks (replicate 256 false) (bases τ ks)) m → OfRoutine code (λ τ ks. each_block (each_kind (parts_clear m)) ks) r → OfRoutine code (λ τ ks. every (λ k. apart (λ x. among x (bases τ ks)) (behind_phis k.instructions)) ks) r
apart_all code m em er τ ks c =
    let h : (v : ℕ) → get_or m v false ≡ among v (bases τ ks) = marks_fresh 256 m (bases τ ks) (em τ ks c) (bases_low τ 256 (omega (arith, c.ground.values, c.ground.few)) ks) in
    let f : ℕ → B.Bool = λ x. among x (bases τ ks) in
    er τ ks c
    ∙ every_same (λ k. each_kind (parts_clear m) k.instructions) (λ k. apart f (behind_phis k.instructions))
    (λ k.
    sym (every_behind (parts_clear m) (phi_parts m) k.instructions)
    ∙ every_same (λ i. parts_clear m i.kind) (λ i. every (λ v. not (f v.0)) (parts_taken i.kind)) (λ i. every_same (λ v. not (get_or m v.0 false)) (λ v. not (f v.0)) (λ v. ap not (h v.0)) (parts_taken i.kind)) (behind_phis k.instructions)
    ∙ sym (apart_every f (behind_phis k.instructions)))
    ks
