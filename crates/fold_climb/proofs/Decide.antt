-- The decision for each kind of build, from the tables.
use Prim.Native.Nat.{ℕ, zero, suc, ◌+◌, ◌-◌, ◌≤◌, ◌<◌}
use mathlib.Core.Path.{◌≡◌, refl, ap, sym, subst, ◌∙◌}
use mathlib.Core.List.{List, [], ◌∷◌}
use mathlib.Core.Bool.{Bool, true, false, cond, not, ◌&&◌, ◌||◌, or-true}
use mathlib.Core.Option.{Option, none, some}
use native.Mathlib.Nat.{zero-add}
use native.Mathlib.Omega.{arith}
use Rattle.std.specs.List.{list_all}
use Rattle.std.specs.declared.ops.Range.{Range}
use Rattle.std.specs.declared.iter.Rev.{Rev}
use Rattle.std.specs.Iterator.Adapters.{rev_source, rev_steps}
use Rattle.std.proofs.iter.runs.Sources.{nat_range_steps_back}
use Rattle.std.proofs.lemmas.Iterator.{YieldsList}
use Rattle.std.proofs.lemmas.Iterator.Consumers.{YieldsList-from_shown}
use lib.ListN.{length}
use lib.Dec.{eqb}
use Rattle.mir.specs.declared.ValueId.{ValueId}
use Rattle.mir.specs.declared.Value.{Value}
use Rattle.mir.specs.Syntax.{Instruction, MakeTuple}
use Rattle.mir.specs.Reads.{kind_number, reads}
use Rattle.mir.specs.declared.kind.Kind.{Kind}
use Rattle.mir.specs.Kind.{number_of_kind}
use Rattle.mir.proofs.Numbers.{one_kind}
use Rattle.fold.specs.declared.Settings.{Settings}
use Rattle.mir.specs.Lookup.{Types, is_some}
use Rattle.fold.specs.Family.{Marks, build_dest, has_dynamic_index}
use Rattle.fold.specs.Tables.{ShapesAt}
use Rattle.fold.specs.Climb.{build_of, buildable, buildable_of, can_scalarize}
use Rattle.std.specs.Prelude.{Some, None, Option as Answered, is_some as answered}
use Rattle.mir.specs.Option.{as_option}
use Rattle.fold.specs.Fold.{folds_tuple, folds_struct, folds_array}
use Rattle.fold_climb.specs.Edges.{Edge, edge, part_edges, build_edges, edges_of, tuple_edges_of, tuples_climb, Sight}
use Rattle.fold_climb.specs.Scanned.{built_in, child_in, parent_in, edge_in, of_tuple, tuples_down, Each, Scanned, sight_of}
use Rattle.fold_climb.specs.Decided.{climbs, tuples_pass, Decided}
use Rattle.fold_climb.proofs.Whole.{decides}
use Rattle.fold_climb.proofs.Tuples.{over_tuples}

-- what the answer of a climb is worth
pub some_option : {A : Type 0} (o : Answered A) → answered o ≡ is_some (as_option o)
unfolding is_some
some_option (Some x) = refl
some_option None = refl

pub dynamic_array : (a b d : Bool) → d ≡ true → false ≡ (a && (b && not d))
dynamic_array true true d e = rw e
dynamic_array true false d e = refl
dynamic_array false b d e = refl

pub constant_array : (a b d r : Bool) → a ≡ true → d ≡ false → r ≡ b → r ≡ (a && (b && not d))
constant_array a true d r e f k = rw (e, f) k
constant_array a false d r e f k = rw e k

-- a number that is another kind's, or no kind's, is neither a struct's nor an array's
pub other_kind : (n : ℕ) (k : Kind) → number_of_kind k ≡ n → (k ≡ Kind.MakeStruct → ⊥) → (k ≡ Kind.MakeFixedArray → ⊥) → (n ≡ 12 → ⊥) × (n ≡ 16 → ⊥)
other_kind n k e s a = ((λ h. s (one_kind k Kind.MakeStruct (e ∙ h))), (λ h. a (one_kind k Kind.MakeFixedArray (e ∙ h))))

pub past_kinds : (n : ℕ) → 18 < n → (n ≡ 12 → ⊥) × (n ≡ 16 → ⊥)
past_kinds n p = ((λ h. omega arith), (λ h. omega arith))

module _ (Q : ℕ → Type 0) where
  one_behind : (b : Bool) (e : Edge) (es : List Edge) → Each Q (cond b es (e ∷ es)) → Each Q es
  one_behind true e es h = h
  one_behind false e es h = h.1

  one_front : (b : Bool) (e : Edge) (es fs : List Edge) → Each Q (cond b es (e ∷ es)) → Each Q fs → Each Q (cond b fs (e ∷ fs))
  one_front true e es fs h k = k
  one_front false e es fs h k = (h.0, k)

  parts_behind : (d : ℕ) (ws : List ValueId) (es : List Edge) → Each Q (part_edges d ws es) → Each Q es
  unfolding part_edges
  parts_behind d [] es h = h
  parts_behind d (w ∷ ws) es h = parts_behind d ws es (one_behind (eqb w.0 d) (edge w.0 d) (part_edges d ws es) h)

  parts_front : (d : ℕ) (ws : List ValueId) (es fs : List Edge) → Each Q (part_edges d ws es) → Each Q fs → Each Q (part_edges d ws fs)
  unfolding part_edges
  parts_front d [] es fs h k = k
  parts_front d (w ∷ ws) es fs h k =
      one_front (eqb w.0 d) (edge w.0 d) (part_edges d ws es) (part_edges d ws fs) h
      (parts_front d ws es fs (one_behind (eqb w.0 d) (edge w.0 d) (part_edges d ws es) h) k)

  build_behind : (d : Option ValueId) (xs : List ValueId) (es : List Edge) → Each Q (build_edges d xs es) → Each Q es
  unfolding build_edges
  build_behind none xs es h = h
  build_behind (some d) xs es h = parts_behind d.0 xs es h

  build_front : (d : Option ValueId) (xs : List ValueId) (es fs : List Edge) (b : Bool) → Each Q (build_edges d xs es) → Each Q fs → Each Q (cond b (build_edges d xs fs) fs)
  unfolding build_edges
  build_front d xs es fs false h k = k
  build_front none xs es fs true h k = k
  build_front (some d) xs es fs true h k = parts_front d.0 xs es fs h k

  -- what holds of every parent holds of the tuples among them
  each_tuple : (is : List Instruction) → Each Q (edges_of is) → Each Q (tuple_edges_of is)
  unfolding edges_of tuple_edges_of
  each_tuple [] h = tt
  each_tuple (i ∷ is) h =
      let d = build_dest i.kind in
      let xs = reads i.kind in
      build_front d xs (edges_of is) (tuple_edges_of is) (eqb (kind_number i.kind) 10) h (each_tuple is (build_behind d xs (edges_of is) h))

  tuples_same : (f g : ℕ → Bool) → ((p : ℕ) → Q p → f p ≡ g p) → (v : ℕ) (es : List Edge) → Each Q es → tuples_climb f v es ≡ tuples_climb g v es
  unfolding tuples_climb
  tuples_same f g same v [] h = refl
  tuples_same f g same v (e ∷ es) h = rw (same e.parent h.0, tuples_same f g same v es h.1)

module _ {σ : Settings} {τ : Types} {cross : Marks} {is : List Instruction} {shapes : List ℕ} {eligible : List Bool} {graph : List ℕ}
    (facts : ShapesAt σ τ shapes eligible) (scanned : Scanned σ τ cross is graph) (few : length τ.recorded ≤ 256)
    (v : ValueId) (low : v.0 < length τ.recorded)
  where
    abbrev sight : Sight
    sight = sight_of shapes graph

    pub struct_decided : folds_struct σ τ cross is v ≡ (σ.structs && climbs sight v.0)
    unfolding folds_struct
    struct_decided = ap (λ (b : Bool). σ.structs && b) (decides facts scanned v.0 low few)

    pub array_decided : (dynamic : Bool) → dynamic ≡ has_dynamic_index τ v is → folds_array σ τ cross is v ≡ (σ.tuples && (climbs sight v.0 && not dynamic))
    unfolding folds_array
    array_decided dynamic e = rw (decides facts scanned v.0 low few, e)

    pub tuple_decided : (xs : List Value) → build_of σ τ cross v is ≡ some (MakeTuple v xs) → folds_tuple σ τ cross is v xs ≡ (σ.tuples && (built_in graph v.0 && tuples_pass shapes graph v.0))
    unfolding folds_tuple buildable_of
    tuple_decided xs e =
        let b : built_in graph v.0 ≡ buildable σ τ cross (MakeTuple v xs) = scanned.built v.0 low ∙ ap (buildable_of σ τ cross) e in
        let n = length τ.recorded in
        let can : ℕ → Bool = λ p. can_scalarize σ τ cross is (record { 0 = p }) in
        let t : tuples_climb can v.0 (tuple_edges_of is) ≡ tuples_climb (climbs sight) v.0 (tuple_edges_of is) = tuples_same (λ p. p < n) can (climbs sight) (λ p h. decides facts scanned p h few) v.0 (tuple_edges_of is) (each_tuple (λ p. p < n) is scanned.below) in
        rw (b, over_tuples σ τ cross is v.0 is, t, scanned.tuple_edges)

    module _ (kind : ℕ) (dynamic : Bool) where
      pub for_struct : (r : Bool) → kind ≡ 12 → r ≡ (σ.structs && climbs sight v.0) → Decided σ τ cross is v kind dynamic r
      for_struct r k e =
          record {
            tuple = λ xs n b. absurd (omega arith);
            struct = λ n. e ∙ sym struct_decided;
            array = λ n d. absurd (omega arith);
          }

      pub for_array : (r : Bool) → kind ≡ 16 → r ≡ (σ.tuples && (climbs sight v.0 && not dynamic)) → Decided σ τ cross is v kind dynamic r
      for_array r k e =
          record {
            tuple = λ xs n b. absurd (omega arith);
            struct = λ n. absurd (omega arith);
            array = λ n d. e ∙ sym (array_decided dynamic d);
          }

      pub for_tuple : (r : Bool) → (kind ≡ 12 → ⊥) → (kind ≡ 16 → ⊥) → r ≡ (σ.tuples && (built_in graph v.0 && tuples_pass shapes graph v.0)) → Decided σ τ cross is v kind dynamic r
      for_tuple r s a e =
          record {
            tuple = λ xs n b. e ∙ sym (tuple_decided xs b);
            struct = λ n. absurd (s n);
            array = λ n d. absurd (a n);
          }

-- the numbers of a range, the last one first
abbrev pub counted_down : ℕ → ℕ → List ℕ
counted_down a zero = []
counted_down a (suc n) = (a + n) ∷ counted_down a n

one_down : (a n b m x : ℕ) → n ≡ suc m → x ≡ a + m → b ≡ a → counted_down a n ≡ x ∷ counted_down b m
one_down a n b m x e f g = ap (counted_down a) e ∙ ap (λ y. y ∷ counted_down a m) (sym f) ∙ ap (λ c. x ∷ counted_down c m) (sym g)

-- they are what a range gives from its end on
pub counts_down : {s : Rev (Range ℕ)} (n : ℕ) → rev_source s ≡ record { start = 0; end = n } → YieldsList (rev_steps nat_range_steps_back) (λ x. x) s (counted_down 0 n)
counts_down {s} n e =
    let shown = λ (u : Rev (Range ℕ)). counted_down (rev_source u).start ((rev_source u).end - (rev_source u).start) in
    let all : shown s ≡ counted_down 0 n = ap (λ (r : Range ℕ). counted_down r.start (r.end - r.start)) e ∙ ap (counted_down 0) (omega arith) in
    subst (YieldsList (rev_steps nat_range_steps_back) (λ x. x) s) all
    (YieldsList-from_shown (rev_steps nat_range_steps_back) (λ x. x) shown
    (λ u t p. ap (λ m. length (counted_down (rev_source u).start m)) p.1.0)
    (λ u x t p. one_down _ _ _ _ x (omega (arith, p.0, p.1.0, p.1.2)) (omega (arith, p.0, p.1.0, p.1.1, p.1.2)) p.0)
    s)

-- the tuples that take the value as a part, among all edges
pub all_tuples : (can : ℕ → Bool) (v : ℕ) (g : List ℕ) (n : ℕ)
    → list_all (λ k. not (eqb (child_in g k) v) || (not (of_tuple g k) || can (parent_in g k))) (counted_down 0 n) ≡ tuples_climb can v (tuples_down g n)
unfolding tuples_down tuples_climb
all_tuples can v g zero = refl
all_tuples can v g (suc n) = rw (zero-add, all_tuples can v g n) (one (of_tuple g n))
  where
    one : (b : Bool) → ((not (eqb (child_in g n) v) || (not b || can (parent_in g n))) && tuples_climb can v (tuples_down g n)) ≡ tuples_climb can v (cond b (edge_in g n ∷ tuples_down g n) (tuples_down g n))
    one true = refl
    one false = rw or-true
