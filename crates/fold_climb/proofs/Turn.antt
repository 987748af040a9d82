-- The climb's loop: one edge at a time, the one that was noted last first.
use Prim.Native.Nat.{ℕ, zero, suc, ◌-◌, ◌≤◌, ◌<◌}
use mathlib.Core.Path.{◌≡◌, ap, ◌∙◌, sym}
use mathlib.Core.List.{List, ◌∷◌}
use mathlib.Core.Bool.{true, false}
use mathlib.Core.Option.{none, some}
use native.Mathlib.Omega.{arith}
use lib.ListN.{get_or, set}
use lib.Dec.{eqb}
use Rattle.fold.specs.Family.{Marks}
use Rattle.fold_climb.specs.Edges.{Sight, array_in, allowed_in, parents, unmarked, climb_of}
use Rattle.fold_climb.specs.Scanned.{child_in, parent_in, edge_in, edges_down}
use Rattle.fold_climb.proofs.Depth.{climb_on, climb_clear, unmarked_set}

down : (g : List ℕ) (i : ℕ) → 0 < i → edges_down g i ≡ edge_in g (i - 1) ∷ edges_down g (i - 1)
unfolding edges_down
down g zero h = absurd (omega arith)
down g (suc k) h = rw (suc_less k)
  where
    suc_less : (k : ℕ) → suc k - 1 ≡ k
    suc_less k = omega arith

-- what is left of the climb from v, before edge i
pub record Climbing (t : Sight) (v : ℕ) (g : List ℕ) (visited : Marks) (i : ℕ) (m : Marks) : Type 0 where
  pub clear : unmarked m < unmarked visited
  pub left : climb_of t v visited ≡ parents (climb_of t) (array_in t v) v (edges_down g i) m

-- before the loop: all edges of the graph are left
pub turn_start : (t : Sight) (v : ℕ) (g : List ℕ) (visited : Marks) (i : ℕ) (m : Marks) → get_or visited v true ≡ false → allowed_in t v ≡ true → m ≡ set visited v true → t.edges ≡ edges_down g i → Climbing t v g visited i m
turn_start t v g visited i m clear allowed marked edges =
    rw marked (record {
      clear = omega (arith, unmarked_set visited v clear);
      left = climb_on t v visited clear allowed ∙ ap (λ es. parents (climb_of t) (array_in t v) v es (set visited v true)) edges;
    })

module _ (t : Sight) (v : ℕ) (g : List ℕ) (visited : Marks) (i : ℕ) (m : Marks) (inv : Climbing t v g visited i m) where
  pub turn_done : i ≤ 0 → some m ≡ climb_of t v visited
  unfolding edges_down parents
  turn_done h = let z : i ≡ 0 = omega arith in sym (inv.left ∙ rw z)

  module _ (more : 0 < i) where
    pub turn_other : eqb (child_in g (i - 1)) v ≡ false → Climbing t v g visited (i - 1) m
    unfolding parents
    turn_other ne = record { clear = inv.clear; left = inv.left ∙ simp (down g i more, ne) }

    module _ (at : eqb (child_in g (i - 1)) v ≡ true) where
      pub turn_array : array_in t v ≡ true → none ≡ climb_of t v visited
      unfolding parents
      turn_array a = sym (inv.left ∙ simp (down g i more, at, a))

      module _ (single : array_in t v ≡ false) (p : ℕ) (same : p ≡ parent_in g (i - 1)) where
        pub turn_stop : none ≡ climb_of t p m → none ≡ climb_of t v visited
        unfolding parents
        turn_stop e =
            let n : climb_of t (parent_in g (i - 1)) m ≡ none = sym (rw same at e) in
            sym (inv.left ∙ simp (down g i more, at, single, n))

        pub turn_on : (r : Marks) → some r ≡ climb_of t p m → Climbing t v g visited (i - 1) r
        unfolding parents
        turn_on r e =
            let n : climb_of t (parent_in g (i - 1)) m ≡ some r = sym (rw same at e) in
            let k : unmarked r ≤ unmarked m = rw n at (climb_clear t (parent_in g (i - 1)) m) in
            record { clear = omega (arith, inv.clear); left = inv.left ∙ simp (down g i more, at, single, n) }
