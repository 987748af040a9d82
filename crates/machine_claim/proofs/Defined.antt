-- Refusals 5, 6 and 7 of a decoded routine: names once in a struct, values defined once, phis in front.
use Prim.Native.Nat.{ℕ, ◌≤◌}
use mathlib.Core.Path.{◌≡◌, refl, ap, ◌∙◌, sym}
use mathlib.Core.Option.{some}
use mathlib.Core.List.{List, [], ◌∷◌, ◌++◌}
use mathlib.Core.Bool.{true, false, not, ◌||◌, true≢false}
use mathlib.Core.Bool as B
use native.Mathlib.Omega.{arith}
use lib.Dec.{T, eqb, eqb→eq, eqb_refl}
use lib.ListN.{length, get_or, length-set}
use lib.Seq.{get_or-set_same}
use Rattle.mir.specs.declared.ValueId.{ValueId}
use Rattle.mir.specs.declared.NameId.{NameId}
use Rattle.mir.specs.MirType.{StructField, MirType, Felt, Bool, U32, Tuple, Struct, FixedArray, Pointer, Function, Unit, Error, Unknown}
use Rattle.bytes_types.specs.Decode.{has_name}
use Rattle.bytes_types.specs.WellFormed.{FitFields, FitMirType, FitTypes}
use Rattle.mir.specs.Syntax.{Instruction}
use Rattle.mir.specs.Reads.{dests, is_phi}
use Rattle.bytes_field.specs.Decode.{mark}
use Rattle.bytes_field.specs.declared.Bounds.{Bounds}
use Rattle.bytes_laws.specs.WellFormed.{FitNews}
use Rattle.bytes_block.specs.Decode.{marks}
use Rattle.bytes_block.specs.WellFormed.{FitInstructions}
use Rattle.mir.specs.Lookup.{struct_fields_of}
use Rattle.mir.specs.Phis.{behind_phis}
use Rattle.shelf.specs.Lists.{every, among}
use Rattle.shelf.specs.Reads.{defined_in}
use Rattle.machine_simulation.specs.Static.{once, no_phi, unlike, fields_once}
use Rattle.machine_simulation.proofs.Tools.{both, nor_i, split, passes, fails, cond_yes, cond_no}
use Rattle.bytes_block.proofs.Marks.{mark_stays, marks_stay, marks_length}
use Rattle.rewrite_laws.proofs.Marks.{dests_new}

-- ---- refusal 5

-- a name that stands before is no later field's
name_unlike : (own : ℕ) (n : NameId) (names : List NameId) (fs : List StructField) → T (has_name n names) → FitFields own names fs → T (unlike n fs)
unfolding unlike
name_unlike own n names [] t h = tt
name_unlike own n names (f ∷ fs) t h =
    both (not (eqb n.0 f.name.0)) (unlike n fs)
    (differs (eqb n.0 f.name.0) (λ e. eqb→eq n.0 f.name.0 e))
    (name_unlike own n (f.name ∷ names) fs (behind (eqb n.0 f.name.0) t) h.3)
  where
    behind : (b : B.Bool) → T (has_name n names) → T (b || has_name n names)
    behind true t = tt
    behind false t = t

    at_name : (x : ℕ) → n.0 ≡ x → T (has_name n names) → T (has_name (record { 0 = x }) names)
    at_name x e t = rw e at t

    clash : T (has_name f.name names) → ⊥
    clash c = rw h.1 at c

    differs : (b : B.Bool) → (T b → n.0 ≡ f.name.0) → T (not b)
    differs true e = absurd (clash (at_name f.name.0 (e tt) t))
    differs false e = tt

fields_once_lem : (own : ℕ) (names : List NameId) (fs : List StructField) → FitFields own names fs → T (fields_once fs)
unfolding fields_once
fields_once_lem own names [] h = tt
fields_once_lem own names (f ∷ fs) h =
    both (unlike f.name fs) (fields_once fs) (name_unlike own f.name (f.name ∷ names) fs (first f.name names) h.3) (fields_once_lem own (f.name ∷ names) fs h.3)
  where
    same : (b c : B.Bool) → T b → T (b || c)
    same true c t = tt
    same false c t = absurd t

    first : (n : NameId) (ns : List NameId) → T (has_name n (n ∷ ns))
    first n ns = same (eqb n.0 n.0) (has_name n ns) (eqb_refl n.0)

type_once : (most own : ℕ) (t : MirType) → FitMirType most own t → T (fields_once (struct_fields_of (some t)))
unfolding struct_fields_of fields_once
type_once most own Felt h = tt
type_once most own Bool h = tt
type_once most own U32 h = tt
type_once most own (Tuple ts) h = tt
type_once most own (Struct n fs) h = fields_once_lem own [] fs h.2
type_once most own (FixedArray t size) h = tt
type_once most own (Pointer t) h = tt
type_once most own (Function ps r) h = tt
type_once most own Unit h = tt
type_once most own Error h = tt
type_once most own Unknown h = tt

pub types_once : (most : ℕ) (earlier ts : List MirType) → FitTypes most earlier ts → T (every (λ row. fields_once (struct_fields_of (some row))) ts)
types_once most earlier [] h = tt
types_once most earlier (t ∷ ts) h =
    both (fields_once (struct_fields_of (some t))) _ (type_once most (length earlier) t h.0) (types_once most (earlier ++ (t ∷ [])) ts h.2)

-- ---- refusal 6

-- a marked value is defined by none of the instructions behind
marked_new : (b : Bounds) (seen : List B.Bool) (ds : List ValueId) (v : ℕ) → FitNews b seen ds → get_or seen v false ≡ true → T (not (among v ds))
marked_new b seen [] v h e = tt
marked_new b seen (d ∷ ds) v h e =
    nor_i (eqb v d.0) (among v ds) (differs (eqb v d.0) (λ t. eqb→eq v d.0 t)) (marked_new b (mark seen d) ds v h.1 (mark_stays seen d v e))
  where
    differs : (b : B.Bool) → (T b → v ≡ d.0) → T (not b)
    differs true f = absurd (true≢false (sym e ∙ ap (λ k. get_or seen k false) (f tt) ∙ h.0.1))
    differs false f = tt

pub among_append : (v : ℕ) (xs ys : List ValueId) → T (not (among v xs)) → T (not (among v ys)) → T (not (among v (xs ++ ys)))
among_append v [] ys s t = t
among_append v (x ∷ xs) ys s t = nor_i (eqb v x.0) (among v (xs ++ ys)) (first (eqb v x.0) s) (among_append v xs ys (rest (eqb v x.0) s) t)
  where
    first : (b : B.Bool) → T (not (b || among v xs)) → T (not b)
    first true h = h
    first false h = tt

    rest : (b : B.Bool) → T (not (b || among v xs)) → T (not (among v xs))
    rest true h = absurd h
    rest false h = h

marked_later : (b : Bounds) (seen : List B.Bool) (late : B.Bool) (is : List Instruction) (v : ℕ) → FitInstructions b seen late is → get_or seen v false ≡ true → T (not (among v (defined_in is)))
unfolding defined_in
marked_later b seen late [] v h e = tt
marked_later b seen late (i ∷ is) v h e =
    among_append v (dests i.kind) (defined_in is) (marked_new b seen (dests i.kind) v (dests_new b seen i.kind h.0.1) e)
    (marked_later b (marks seen (dests i.kind)) (late || not (is_phi i.kind)) is v h.1 (marks_stay seen (dests i.kind) v e))

-- nor are the dests of an instruction defined behind it
once_dests : (b : Bounds) (seen : List B.Bool) (late : B.Bool) (ds : List ValueId) (is : List Instruction) → b.next ≤ length seen → FitNews b seen ds → FitInstructions b (marks seen ds) late is
    → T (every (λ d. not (among d.0 (defined_in is))) ds)
once_dests b seen late [] is l h f = tt
once_dests b seen late (d ∷ ds) is l h f =
    let e : get_or (mark seen d) d.0 false ≡ true = get_or-set_same seen d.0 true false (omega (arith, h.0.0, l)) in
    both (not (among d.0 (defined_in is))) _ (marked_later b (marks seen (d ∷ ds)) late is d.0 f (marks_stay (mark seen d) ds d.0 e))
    (once_dests b (mark seen d) late ds is (rw (length-set seen d.0 true) l) h.1 f)

instructions_once : (b : Bounds) (seen : List B.Bool) (late : B.Bool) (is : List Instruction) → b.next ≤ length seen → FitInstructions b seen late is → T (once is)
unfolding once
instructions_once b seen late [] l h = tt
instructions_once b seen late (i ∷ is) l h =
    let later = late || not (is_phi i.kind) in
    both (every (λ d. not (among d.0 (defined_in is))) (dests i.kind)) (once is)
    (once_dests b seen later (dests i.kind) is l (dests_new b seen i.kind h.0.1) h.1)
    (instructions_once b (marks seen (dests i.kind)) later is (rw (marks_length seen (dests i.kind)) l) h.1)

-- the same of what stands behind the phis
pub behind_once : (b : Bounds) (seen : List B.Bool) (late : B.Bool) (is : List Instruction) → b.next ≤ length seen → FitInstructions b seen late is → T (once (behind_phis is))
unfolding behind_phis once
behind_once b seen late [] l h = tt
behind_once b seen late (i ∷ is) l h =
    elim (split (is_phi i.kind)) [
      | passes y ↦
          rw (cond_yes (is_phi i.kind) (behind_phis is) (i ∷ is) y)
          (behind_once b (marks seen (dests i.kind)) (late || not (is_phi i.kind)) is (rw (marks_length seen (dests i.kind)) l) h.1)
      | fails y ↦ rw (cond_no (is_phi i.kind) (behind_phis is) (i ∷ is) y) (instructions_once b seen late (i ∷ is) l h)
    ]

-- ---- refusal 7

no_phi_late : (b : Bounds) (seen : List B.Bool) (late : B.Bool) (is : List Instruction) → late ≡ true → FitInstructions b seen late is → T (no_phi is)
unfolding no_phi
no_phi_late b seen late [] e h = tt
no_phi_late b seen late (i ∷ is) e h =
    both (not (is_phi i.kind)) (no_phi is) (other (is_phi i.kind) h.0.2)
    (no_phi_late b (marks seen (dests i.kind)) (late || not (is_phi i.kind)) is (ap (λ x. x || not (is_phi i.kind)) e) h.1)
  where
    other : (x : B.Bool) → (x ≡ true → late ≡ false) → T (not x)
    other true f = absurd (true≢false (sym e ∙ f refl))
    other false f = tt

pub phis_first_lem : (b : Bounds) (seen : List B.Bool) (late : B.Bool) (is : List Instruction) → FitInstructions b seen late is → T (no_phi (behind_phis is))
unfolding behind_phis no_phi
phis_first_lem b seen late [] h = tt
phis_first_lem b seen late (i ∷ is) h =
    elim (split (is_phi i.kind)) [
      | passes y ↦ rw (cond_yes (is_phi i.kind) (behind_phis is) (i ∷ is) y) (phis_first_lem b (marks seen (dests i.kind)) (late || not (is_phi i.kind)) is h.1)
      | fails y ↦
          rw (cond_no (is_phi i.kind) (behind_phis is) (i ∷ is) y)
          (both (not (is_phi i.kind)) (no_phi is) y (no_phi_late b (marks seen (dests i.kind)) (late || not (is_phi i.kind)) is (turns late (is_phi i.kind) y) h.1))
    ]
  where
    turns : (a x : B.Bool) → T (not x) → a || not x ≡ true
    turns true x y = refl
    turns false true y = absurd y
    turns false false y = refl
