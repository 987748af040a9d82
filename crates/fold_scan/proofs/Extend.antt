-- One more instruction in front: what the graph holds of the instructions behind it, and what its scan noted.
use Prim.Native.Nat.{ℕ, ◌+◌, ◌*◌, ◌≤◌, ◌<◌}
use mathlib.Core.Path.{◌≡◌, refl, ap, ◌∙◌, sym}
use mathlib.Core.List.{List, ◌∷◌}
use mathlib.Core.Bool.{Bool, true, false, cond, ◌&&◌, ◌||◌}
use mathlib.Core.Option.{none, some}
use native.Mathlib.Nat.{le_refl}
use native.Mathlib.Omega.{arith}
use lib.ListN.{length, get_or, set, length-set}
use lib.Seq.{get_or-set_other}
use lib.Dec.{eqb}
use Rattle.mir.specs.declared.ValueId.{ValueId}
use Rattle.mir.specs.Syntax.{Instruction}
use Rattle.mir.specs.Reads.{kind_number, reads}
use Rattle.bytes_operands.specs.Fields.{place_steps}
use Rattle.fold.specs.declared.Settings.{Settings}
use Rattle.mir.specs.Lookup.{Types, any}
use Rattle.fold.specs.Family.{Marks, build_dest}
use Rattle.fold.specs.Climb.{buildable, is_build_of, build_of, buildable_of}
use Rattle.fold_climb.specs.Edges.{part_edges, build_edges, edges_of, tuple_edges_of, varies_first, blocks, blocked_in}
use Rattle.fold_climb.specs.Scanned.{many_in, barred_in, edges_down, tuples_down, Scanned}
use Rattle.fold_climb.proofs.Depth.{both_arms}
use Rattle.fold_scan.specs.Noted.{barring, noted_reads}
use Rattle.fold_scan.proofs.Sorts.{Idle, Calls, Walks, builds}
use Rattle.fold_scan.proofs.Graph.{built_at, edges_same, tuples_same, bar_other, bar_marked, call_other, call_marked, build_other, parts_hold, parts_each}

module _ (σ : Settings) (τ : Types) (cross : Marks) (is : List Instruction) (i : Instruction) (g : List ℕ) (h : Scanned σ τ cross is g) (few : length τ.recorded ≤ 256) where
  -- no build: only the values that are wanted whole may change
  no_build : build_dest i.kind ≡ none → (u : List ℕ) → ((at : ℕ) → ((w : ℕ) → w < 256 → at ≡ 257 + w → ⊥) → get_or u at 0 ≡ get_or g at 0) → ((v : ℕ) → v < length τ.recorded → barred_in u v ≡ (blocks v i.kind || blocked_in v is)) → Scanned σ τ cross (i ∷ is) u
  unfolding edges_of tuple_edges_of build_edges build_of is_build_of blocked_in
  no_build d u same f =
      let m : many_in u ≡ many_in g = same 0 (λ w l e. omega arith) in
      let e = edges_same g u (many_in g) (λ at a b. same at (λ w l e. omega arith)) (many_in g) (le_refl _) in
      let t = tuples_same g u (many_in g) (λ at a b. same at (λ w l e. omega arith)) (many_in g) (le_refl _) in
      record {
        edges = rw (d, m, e) h.edges;
        tuple_edges = rw (d, m, t, both_arms (eqb (kind_number i.kind) 10) (tuple_edges_of is)) h.tuple_edges;
        built = λ v l. rw (d, same (1 + v) (λ w m e. omega arith)) (h.built v l);
        barred = f;
        below = rw d h.below;
      }

  pub idle_step : Idle i.kind → Scanned σ τ cross (i ∷ is) g
  idle_step k = no_build k.none_built g (λ at f. refl) (λ v l. rw (k.none_whole v) (h.barred v l))

  module _ (room : 6657 ≤ length g) where
    pub call_step : Calls i.kind → (d : ℕ) (u : List ℕ) → u ≡ noted_reads 3 d g (reads i.kind) → Scanned σ τ cross (i ∷ is) u
    call_step k d u e =
        rw e
        (no_build k.no_build (noted_reads 3 d g (reads i.kind)) (λ at f. call_other d g at f (reads i.kind)) (λ v l.
        rw (k.whole v) (call_marked d g v (omega arith) (omega arith) (reads i.kind) ∙ ap (λ (b : Bool). any (λ (w : ValueId). eqb w.0 v) (reads i.kind) || b) (h.barred v l))))

    pub walk_step : (k : Walks i.kind) → (base : ℕ) → base ≡ k.base.0 → (u : List ℕ) → u ≡ cond (varies_first (place_steps i.kind)) (barring base g) g → Scanned σ τ cross (i ∷ is) u
    walk_step k base q u e = rw e (no_build k.no_dest _ (λ at f. other at f (varies_first (place_steps i.kind))) (λ v l. rw (k.varies v, sym q) (marked v l (varies_first (place_steps i.kind)))))
      where
        other : (at : ℕ) → ((w : ℕ) → w < 256 → at ≡ 257 + w → ⊥) → (b : Bool) → get_or (cond b (barring base g) g) at 0 ≡ get_or g at 0
        other at f true = bar_other base g at f
        other at f false = refl

        go : (a c : Bool) → (a || c) ≡ ((a && true) || c)
        go true c = refl
        go false c = refl

        off : (a c : Bool) → c ≡ ((a && false) || c)
        off true c = refl
        off false c = refl

        marked : (v : ℕ) → v < length τ.recorded → (b : Bool) → barred_in (cond b (barring base g) g) v ≡ ((eqb base v && b) || blocked_in v is)
        marked v l true = bar_marked base g v (omega arith) (omega arith) ∙ ap (λ (b : Bool). eqb base v || b) (h.barred v l) ∙ go (eqb base v) (blocked_in v is)
        marked v l false = h.barred v l ∙ off (eqb base v) (blocked_in v is)

    -- a build: its edges, and whether it passes its conditions
    pub build_step : (d : ValueId) → build_dest i.kind ≡ some d → d.0 < length τ.recorded → length (edges_of (i ∷ is)) ≤ 2048 → (good : Bool) → good ≡ buildable σ τ cross i.kind → (at : ℕ) → d.0 ≡ at → (kind : ℕ) → kind_number i.kind ≡ kind → eqb kind 3 ≡ false → (u : List ℕ) → u ≡ noted_reads kind at (set g (1 + at) (cond good 1 0)) (reads i.kind) → Scanned σ τ cross (i ∷ is) u
    unfolding edges_of tuple_edges_of build_edges build_of is_build_of buildable_of blocked_in
    build_step d k low small good c at q kind n b u e =
        let ws = reads i.kind in
        let g' = set g (1 + at) (cond good 1 0) in
        let long : length g' ≡ length g = length-set g (1 + at) (cond good 1 0) in
        let m : many_in g' ≡ many_in g = get_or-set_other g (1 + at) 0 (cond good 1 0) 0 (λ z. omega arith) in
        let same : (j : ℕ) → 513 ≤ j → j < 513 + 3 * many_in g → get_or g' j 0 ≡ get_or g j 0 = λ j a b. get_or-set_other g (1 + at) j (cond good 1 0) 0 (λ z. omega arith) in
        let es : edges_down g' (many_in g') ≡ edges_of is = rw (m, edges_same g g' (many_in g) same (many_in g) (le_refl _)) h.edges in
        let ts : tuples_down g' (many_in g') ≡ tuple_edges_of is = rw (m, tuples_same g g' (many_in g) same (many_in g) (le_refl _)) h.tuple_edges in
        let w : length (part_edges at ws (edges_of is)) ≤ 2048 = rw (k, q) at small in
        let z = parts_hold kind at b g' (edges_of is) (tuple_edges_of is) (eqb kind 10) refl (record { edges = es; tuple_edges = ts; room = omega arith }) ws w in
        record {
          edges = rw (k, q, e) z.edges;
          tuple_edges = rw (k, q, e, n) z.tuple_edges;
          built = λ v l. rw (e, build_other kind at b g' (1 + v) (omega arith) (omega arith) ws) (built_at g at v good (omega arith) (omega arith) ∙ rw (k, q, c, h.built v l) (go v (eqb at v)));
          barred = λ v l. rw ((builds i.kind d k).none_barred v, e, build_other kind at b g' (257 + v) (omega arith) (omega arith) ws, get_or-set_other g (1 + at) (257 + v) (cond good 1 0) 0 (λ z. omega arith)) (h.barred v l);
          below = rw (k, q) (parts_each (λ p. p < length τ.recorded) at (rw q at low) ws (edges_of is) h.below);
        }
      where
        go : (v : ℕ) (b : Bool) → cond b (buildable σ τ cross i.kind) (buildable_of σ τ cross (build_of σ τ cross (record { 0 = v }) is)) ≡ buildable_of σ τ cross (cond b (some i.kind) (build_of σ τ cross (record { 0 = v }) is))
        go v true = refl
        go v false = refl
