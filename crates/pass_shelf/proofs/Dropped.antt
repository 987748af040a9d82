-- The marks of the dropped values, and that they are values of the input.
use Prim.Native.Nat.{ℕ, zero, suc, ◌+◌, ◌≤◌, ◌<◌}
use mathlib.Core.Path.{◌≡◌, refl, ap, ◌∙◌, sym}
use mathlib.Core.List.{List, [], ◌∷◌, ◌++◌}
use mathlib.Core.Bool.{Bool, true, false, cond, not, ◌||◌, or-false}
use native.Mathlib.Omega.{arith}
use lib.Dec.{T, eqb, eqb→eq, eqb_refl}
use lib.ListN.{length, get_or, set, replicate, length-set, length-replicate}
use lib.Seq.{get_or-set_same, get_or-set_other}
use Rattle.mir.specs.declared.ValueId.{ValueId}
use Rattle.mir.specs.Syntax.{Instruction, InstructionKind, Terminator, Block}
use Rattle.mir.specs.Reads.{dests, is_phi}
use Rattle.bytes_field.specs.Decode.{mark}
use Rattle.bytes_field.specs.declared.Bounds.{Bounds}
use Rattle.mir.specs.Lists.{Each}
use Rattle.bytes_laws.specs.WellFormed.{FitNews}
use Rattle.bytes_block.specs.Decode.{marks, block_marks}
use Rattle.bytes_block.specs.declared.Mosts.{Mosts}
use Rattle.bytes_block.specs.WellFormed.{FitInstructions}
use Rattle.bytes_laws_whole.specs.WellFormed.{FitBlocks}
use Rattle.fold.specs.Family.{Marks}
use Rattle.mir.specs.Phis.{behind_phis}
use Rattle.rewrite.specs.Lowers.{Leaves, Lowers, LowersAll}
use Rattle.rewrite_laws.proofs.Marks.{passes, fails, split, dests_new}
use Rattle.rewrite_progress.specs.Effect.{mark_all}
use Rattle.shelf.specs.Lists.{among}

abbrev Low : ℕ → List ValueId → Type 0
Low n ds = Each (λ d. d.0 < n) ds

same_mark : (v : ℕ) (d : ValueId) → v ≡ d.0 → (m : Marks) → d.0 < length m → (ds : List ValueId) → get_or (set m d.0 true) v false || among v ds ≡ get_or m v false || (eqb v d.0 || among v ds)
same_mark v d e m l ds =
    let a : get_or (set m d.0 true) v false ≡ true = ap (λ k. get_or (set m d.0 true) k false) e ∙ get_or-set_same m d.0 true false l in
    let b : eqb v d.0 ≡ true = yes (eqb v d.0) (rw e (eqb_refl d.0)) in
    rw (a, b) (sym (or_true (get_or m v false)))
  where
    yes : (x : Bool) → T x → x ≡ true
    yes true t = refl
    yes false t = absurd t

    or_true : (x : Bool) → x || true ≡ true
    or_true true = refl
    or_true false = refl

other_mark : (v : ℕ) (d : ValueId) → T (not (eqb v d.0)) → (m : Marks) (ds : List ValueId) → get_or (set m d.0 true) v false || among v ds ≡ get_or m v false || (eqb v d.0 || among v ds)
other_mark v d y m ds =
    let a : get_or (set m d.0 true) v false ≡ get_or m v false = get_or-set_other m d.0 v true false (λ e. no (eqb v d.0) (rw e (eqb_refl d.0)) y) in
    let b : eqb v d.0 ≡ false = off (eqb v d.0) y in
    rw (a, b)
  where
    no : (x : Bool) → T x → T (not x) → ⊥
    no true s t = t
    no false s t = s

    off : (x : Bool) → T (not x) → x ≡ false
    off true t = absurd t
    off false t = refl

marked : (ds : List ValueId) (m : Marks) (v : ℕ) → Low (length m) ds → get_or (mark_all m ds) v false ≡ get_or m v false || among v ds
unfolding mark_all
marked [] m v h = sym (or-false (get_or m v false))
marked (d ∷ ds) m v h =
    marked ds (set m d.0 true) v (rw (length-set m d.0 true) h.1)
    ∙ elim (split (eqb v d.0)) [
      | passes y ↦ same_mark v d (eqb→eq v d.0 y) m h.0 ds
      | fails y ↦ other_mark v d y m ds
    ]

clear : (n v : ℕ) → get_or (replicate n false) v false ≡ false
clear zero v = refl
clear (suc n) zero = refl
clear (suc n) (suc v) = clear n v

low_wider : (n m : ℕ) (ds : List ValueId) → n ≤ m → Low n ds → Low m ds
low_wider n m [] l h = tt
low_wider n m (d ∷ ds) l h = (omega (arith, h.0, l), low_wider n m ds l h.1)

-- clear marks, then those of some values
pub marks_told : (next : ℕ) (ds : List ValueId) → next ≤ 256 → Low next ds → (v : ℕ) → get_or (mark_all (replicate 256 false) ds) v false ≡ among v ds
marks_told next ds l h v =
    marked ds (replicate 256 false) v (rw (length-replicate {A = Bool} 256 false) (low_wider next 256 ds l h)) ∙ ap (λ x. x || among v ds) (clear 256 v)

-- ---- the dropped values are dests of the input

news_low : (b : Bounds) (seen : List Bool) (ds : List ValueId) → FitNews b seen ds → Low b.next ds
news_low b seen [] h = tt
news_low b seen (d ∷ ds) h = (h.0.0, news_low b (mark seen d) ds h.1)

abbrev DestsLow : ℕ → List Instruction → Type 0
DestsLow n is = Each (λ i. Low n (dests i.kind)) is

dests_low : (b : Bounds) (seen : List Bool) (late : Bool) (is : List Instruction) → FitInstructions b seen late is → DestsLow b.next is
dests_low b seen late [] h = tt
dests_low b seen late (i ∷ is) h =
    (news_low b seen (dests i.kind) (dests_new b seen i.kind h.0.1), dests_low b (marks seen (dests i.kind)) (late || not (is_phi i.kind)) is h.1)

behind_low : (n : ℕ) (is : List Instruction) → DestsLow n is → DestsLow n (behind_phis is)
unfolding behind_phis
behind_low n [] h = tt
behind_low n (i ∷ is) h = at (is_phi i.kind) (behind_low n is h.1)
  where
    at : (x : Bool) → DestsLow n (behind_phis is) → DestsLow n (cond x (behind_phis is) (i ∷ is))
    at true g = g
    at false g = h

low_append : (n : ℕ) (xs ys : List ValueId) → Low n xs → Low n ys → Low n (xs ++ ys)
low_append n [] ys h g = g
low_append n (x ∷ xs) ys h g = (h.0, low_append n xs ys h.1 g)

left_low : (n : ℕ) (i : InstructionKind) (es : List ValueId) → Leaves i es → Low n (dests i) → Low n es
left_low n i es (Leaves.assign d x t) h = h
left_low n i es (Leaves.load d p t) h = h
left_low n i es (Leaves.store p x t) h = tt
left_low n i es (Leaves.tuple d xs) h = h
left_low n i es (Leaves.element d x k t) h = h
left_low n i es (Leaves.struct d fs t) h = h
left_low n i es (Leaves.field d x f t) h = h
left_low n i es (Leaves.insert_field d x f y t) h = h
left_low n i es (Leaves.insert_tuple d x k y t) h = h
left_low n i es (Leaves.array d xs t c) h = h

walk_low : (b : ℕ) {n m : ℕ} {is os : List Instruction} {t u : Terminator} {ds : List ValueId} → Lowers n is t os u ds m → DestsLow b is → Low b ds
walk_low b Lowers.ended h = tt
walk_low b (Lowers.returned r) h = tt
walk_low b (Lowers.returned_behind r x) h = tt
walk_low b (Lowers.kept r) h = walk_low b r h.1
walk_low b (Lowers.left {i} {ds} {es} v r) h = low_append b es ds (left_low b i.kind es v h.0) (walk_low b r h.1)
walk_low b (Lowers.assigned s r) h = walk_low b r h.1
walk_low b (Lowers.called x r) h = walk_low b r h.1
walk_low b (Lowers.stored x r) h = walk_low b r h.1
walk_low b (Lowers.kept_behind x y r) h = walk_low b r h.1

pub dropped_low : (m : Mosts) (b : Bounds) (total : ℕ) (seen : List Bool) {n z : ℕ} {ks js : List Block} {ds : List ValueId} → LowersAll n ks js ds z → FitBlocks m b total seen ks → Low b.next ds
dropped_low m b total seen LowersAll.none h = tt
dropped_low m b total seen (LowersAll.skipped {k} r) h = dropped_low m b (total + length k.instructions) (block_marks seen k.instructions) r h.1
dropped_low m b total seen (LowersAll.lowered {k} {es} {ds} w r) h =
    low_append b.next es ds (walk_low b.next w (behind_low b.next k.instructions (dests_low b seen false k.instructions h.0.instructions)))
    (dropped_low m b (total + length k.instructions) (block_marks seen k.instructions) r h.1)
