-- The climb of the definition is the climb over the tables.
use Prim.Native.Nat.{ℕ, zero, suc, ◌+◌, ◌-◌, ◌≤◌, ◌<◌}
use mathlib.Core.Path.{◌≡◌, refl, ap, ◌∙◌, sym}
use mathlib.Core.List.{List, [], ◌∷◌, ◌++◌}
use mathlib.Core.Bool.{Bool, true, false, cond, not, ◌&&◌}
use mathlib.Core.Option.{Option, none, some}
use native.Mathlib.Omega.{arith}
use lib.ListN.{length, get_or, set, replicate, length-set, length-replicate, replicate-append-replicate, get_or-append}
use lib.Seq.{set-append_left}
use lib.Dec.{eqb}
use Rattle.mir.specs.declared.ValueId.{ValueId}
use Rattle.mir.specs.Syntax.{Instruction}
use Rattle.fold.specs.declared.Settings.{Settings}
use Rattle.mir.specs.Lookup.{Types, value_row, shape, is_array, is_some}
use Rattle.fold.specs.Family.{Marks}
use Rattle.fold.specs.Tables.{ShapesAt}
use Rattle.fold.specs.Climb.{build_of, buildable_of, climb, can_scalarize}
use Rattle.fold_climb.specs.Edges.{edges_of, blocked_in, Sight, array_in, allowed_in, climb_in, unmarked, climb_of}
use Rattle.fold_climb.specs.Scanned.{Each, Scanned, sight_of, fresh}
use Rattle.fold_climb.proofs.Passing.{over_edges}
use Rattle.fold_climb.proofs.Depth.{On, through, through_id, parents_through, climb_keeps, climb_same}

-- within the marks, what stands past the end does not matter
pub flag : (m : Marks) (v : ℕ) → v < length m → get_or m v true ≡ get_or m v false
flag [] v h = absurd (omega arith)
flag (b ∷ m) zero h = refl
flag (b ∷ m) (suc v) h = flag m v (omega arith)

keeps_length : (n : ℕ) (t : Sight) (k v : ℕ) (m : Marks) → length m ≡ n → On (λ w. length w ≡ n) (climb_in t k v m)
keeps_length n t k v m h = climb_keeps (λ w. length w ≡ n) (λ w u l. length-set w u true ∙ l) t k v m h

-- marks behind those of the values there are do not matter
module _ (t : Sight) (n : ℕ) (below : Each (λ p. p < n) t.edges) (w : Marks) where
  pub padded : (k v : ℕ) (m : Marks) → v < n → length m ≡ n → through (λ m. m ++ w) (climb_in t k v m) ≡ climb_in t k v (m ++ w)
  unfolding climb_in
  padded zero v m h l = refl
  padded (suc k) v m h l =
      let q = parents_through (λ m. length m ≡ n) (climb_in t k) (λ p m l. keeps_length n t k p m l) (array_in t v) v (λ p. p < n) (λ m. m ++ w) (climb_in t k) (λ p m h l. padded k p m h l) t.edges below (set m v true) (length-set m v true ∙ l) in
      let e : get_or (m ++ w) v true ≡ get_or m v true = get_or-append m w true v (omega arith) in
      let f : set (m ++ w) v true ≡ set m v true ++ w = set-append_left m w v true (omega arith) in
      rw (e, f) (go (get_or m v true) (allowed_in t v) _ _ q)
    where
      go : (b c : Bool) (x y : Option Marks) → through (λ m. m ++ w) x ≡ y → through (λ m. m ++ w) (cond b none (cond c x none)) ≡ cond b none (cond c y none)
      go true c x y e = refl
      go false true x y e = e
      go false false x y e = refl

both : (b c d : Bool) (x y : Option Marks) → x ≡ y → cond b none (cond c (cond d none x) none) ≡ cond b none (cond (c && not d) y none)
both true c d x y e = refl
both false true true x y e = refl
both false true false x y e = e
both false false d x y e = refl

module _ (σ : Settings) (τ : Types) (cross : Marks) (is : List Instruction) (t : Sight) (edges : t.edges ≡ edges_of is)
    (shaped : (v : ℕ) → v < length τ.recorded → get_or t.shapes v 0 ≡ shape (value_row τ (record { 0 = v })))
    (built : (v : ℕ) → v < length τ.recorded → t.built v ≡ buildable_of σ τ cross (build_of σ τ cross (record { 0 = v }) is))
    (barred : (v : ℕ) → v < length τ.recorded → t.barred v ≡ blocked_in v is)
    (below : Each (λ p. p < length τ.recorded) (edges_of is))
  where
    abbrev Counts : Marks → Type 0
    Counts m = length m ≡ length τ.recorded

    -- the definition's climb looks at the tables only
    same_climb : (k : ℕ) (v : ℕ) (m : Marks) → v < length τ.recorded → Counts m → climb σ τ cross k is (record { 0 = v }) m ≡ climb_in t k v m
    unfolding climb climb_in is_array
    same_climb zero v m h l = refl
    same_climb (suc k) v m h l =
        let i : ValueId = record { 0 = v } in
        let array : array_in t v ≡ is_array (value_row τ i) = ap (λ (x : ℕ). eqb x 3) (shaped v h) in
        let q = parents_through (λ m. length m ≡ length τ.recorded) (climb_in t k) (λ p m l. keeps_length (length τ.recorded) t k p m l) (is_array (value_row τ i)) v (λ p. p < length τ.recorded) (λ m. m) (λ p. climb σ τ cross k is (record { 0 = p })) (λ p m h l. through_id (climb_in t k p m) ∙ sym (same_climb k p m h l)) t.edges (rw edges below) (set m v true) (length-set m v true ∙ l) in
        rw (flag m v (omega arith), over_edges σ τ cross (climb σ τ cross k is) i is (set m v true), ← edges, built v h, barred v h, array)
        (both (get_or m v false) (buildable_of σ τ cross (build_of σ τ cross i is)) (blocked_in v is) _ _ (sym (sym (through_id _) ∙ q)))

-- how many are clear where none is set
all_clear : (n : ℕ) → unmarked (replicate n false) ≡ n
unfolding unmarked
all_clear zero = refl
all_clear (suc n) = ap suc (all_clear n)

some_through : (g : Marks → Marks) (r : Option Marks) → is_some (through g r) ≡ is_some r
unfolding is_some
some_through g none = refl
some_through g (some m) = refl

-- the tables decide: the climb from a value, with nothing visited
module _ {σ : Settings} {τ : Types} {cross : Marks} {is : List Instruction} {shapes : List ℕ} {eligible : List Bool} {graph : List ℕ}
    (facts : ShapesAt σ τ shapes eligible) (scanned : Scanned σ τ cross is graph)
  where
    pub decides : (v : ℕ) → v < length τ.recorded → length τ.recorded ≤ 256 → can_scalarize σ τ cross is (record { 0 = v }) ≡ is_some (climb_of (sight_of shapes graph) v fresh)
    unfolding can_scalarize climb_of
    decides v h l =
        let t = sight_of shapes graph in
        let n = length τ.recorded in
        let low : Each (λ p. p < n) t.edges = rw scanned.edges scanned.below in
        let a = same_climb σ τ cross is t scanned.edges facts.shaped scanned.built scanned.barred scanned.below (suc n) v (replicate n false) h (length-replicate n false) in
        let b = climb_same t (suc n) 257 v (replicate n false) (omega (arith, all_clear n)) (omega (arith, all_clear n)) in
        let c = padded t n low (replicate (256 - n) false) 257 v (replicate n false) h (length-replicate n false) in
        let u : n + (256 - n) ≡ 256 = omega arith in
        let e : replicate n false ++ replicate (256 - n) false ≡ fresh = replicate-append-replicate n (256 - n) false ∙ ap (λ (k : ℕ). replicate k false) u in
        let d : unmarked fresh ≡ 256 = all_clear 256 in
        ap is_some (a ∙ b) ∙ sym (some_through (λ m. m ++ replicate (256 - n) false) (climb_in t 257 v (replicate n false))) ∙ ap is_some (c ∙ ap (λ m. climb_in t 257 v m) e ∙ ap (λ k. climb_in t (suc k) v fresh) (sym d))
