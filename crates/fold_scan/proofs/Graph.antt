-- What noting a read, or all that an instruction reads, makes of the graph.
use Prim.Native.Nat.{ℕ, zero, suc, ◌+◌, ◌*◌, ◌-◌, ◌≤◌, ◌<◌}
use mathlib.Core.Path.{◌≡◌, refl, ap, ◌∙◌, sym}
use mathlib.Core.List.{List, [], ◌∷◌}
use mathlib.Core.Bool.{Bool, true, false, cond, ◌||◌}
use mathlib.Core.Option.{Option}
use native.Mathlib.Nat.{le_refl, le_trans}
use native.Mathlib.Omega.{arith}
use borrow.Author.Tests.{eqb-true, eqb-false, lt-ltb, ltb-true, ltb-false, ne_eqb}
use lib.ListN.{length, get_or, get_elem?, set, drop, length-set, drop_of_length-le}
use lib.Seq.{drop-cons, get_or-set_same, get_or-set_other}
use lib.Dec.{eqb, ltb}
use Rattle.mir.specs.declared.ValueId.{ValueId}
use Rattle.bytes_wire.specs.Parse.{ok}
use Rattle.mir.specs.declared.Projection.{Projection}
use Rattle.mir.specs.declared.Projection.TheVariants.{Index, Field, Tuple}
use Rattle.mir.specs.Syntax.{Instruction}
use Rattle.bytes_field.specs.Decode.{instruction_of}
use Rattle.bytes_index.specs.declared.code.Code.{Code}
use Rattle.bytes_index.specs.Table.{place_in, end_in, read_count, read_in, ReadsIn}
use Rattle.bytes_index.specs.Code.{InstructionIn}
use Rattle.bytes_operands.specs.Fields.{place_steps}
use Rattle.mir.specs.Lookup.{any}
use Rattle.fold_climb.specs.Edges.{Edge, edge, part_edges, varies_first}
use Rattle.fold_climb.specs.Scanned.{many_in, built_in, barred_in, edges_down, tuples_down, Each}
use Rattle.fold_climb.proofs.Depth.{both_arms}
use Rattle.fold_scan.specs.Noted.{pushed, barring, noted_read, noted_reads, varies_found, PlaceNoted}

-- whether a build passes its conditions, at every value
pub built_at : (g : List ℕ) (d v : ℕ) (good : Bool) → v < 256 → 513 ≤ length g → built_in (set g (1 + d) (cond good 1 0)) v ≡ cond (eqb d v) good (built_in g v)
built_at g d v good l r = go (eqb d v) refl
  where
    on : (good : Bool) → eqb (cond good 1 0) 1 ≡ good
    on true = refl
    on false = refl

    go : (b : Bool) → eqb d v ≡ b → built_in (set g (1 + d) (cond good 1 0)) v ≡ cond b good (built_in g v)
    go true e = let z : d ≡ v = eqb-true d v e in rw (z, get_or-set_same g (1 + v) (cond good 1 0) 0 (omega arith)) (on good)
    go false e = ap (λ (x : ℕ). eqb x 1) (get_or-set_other g (1 + d) (1 + v) (cond good 1 0) 0 (λ z. eqb-false d v e (omega arith)))

-- graphs that agree on the edges
module _ (g h : List ℕ) (m : ℕ) (same : (at : ℕ) → 513 ≤ at → at < 513 + 3 * m → get_or h at 0 ≡ get_or g at 0) where
  pub edges_same : (k : ℕ) → k ≤ m → edges_down h k ≡ edges_down g k
  unfolding edges_down
  edges_same zero l = refl
  edges_same (suc k) l = rw (same (513 + 3 * k) (omega arith) (omega arith), same (513 + 3 * k + 1) (omega arith) (omega arith), edges_same k (omega arith))

  pub tuples_same : (k : ℕ) → k ≤ m → tuples_down h k ≡ tuples_down g k
  unfolding tuples_down
  tuples_same zero l = refl
  tuples_same (suc k) l =
      rw (same (513 + 3 * k) (omega arith) (omega arith), same (513 + 3 * k + 1) (omega arith) (omega arith), same (513 + 3 * k + 2) (omega arith) (omega arith), tuples_same k (omega arith))

length_down : (g : List ℕ) (k : ℕ) → length (edges_down g k) ≡ k
unfolding edges_down
length_down g zero = refl
length_down g (suc k) = ap suc (length_down g k)

-- a value that is wanted whole
pub bar_long : (v : ℕ) (g : List ℕ) → length (barring v g) ≡ length g
bar_long v g = go (ltb v 256)
  where
    go : (b : Bool) → length (cond b (set g (257 + v) 1) g) ≡ length g
    go true = length-set g (257 + v) 1
    go false = refl

-- only one of the places from 257 to 513 changes
pub bar_other : (v : ℕ) (g : List ℕ) (at : ℕ) → ((w : ℕ) → w < 256 → at ≡ 257 + w → ⊥) → get_or (barring v g) at 0 ≡ get_or g at 0
bar_other v g at f = go (ltb v 256) refl
  where
    go : (b : Bool) → ltb v 256 ≡ b → get_or (cond b (set g (257 + v) 1) g) at 0 ≡ get_or g at 0
    go true e = get_or-set_other g (257 + v) at 1 0 (f v (ltb-true v 256 e))
    go false e = refl

pub bar_marked : (w : ℕ) (g : List ℕ) (v : ℕ) → v < 256 → 513 ≤ length g → barred_in (barring w g) v ≡ (eqb w v || barred_in g v)
bar_marked w g v l r = go (ltb w 256) refl
  where
    on : (b : Bool) → eqb w v ≡ b → barred_in (set g (257 + w) 1) v ≡ (b || barred_in g v)
    on true e = let z : w ≡ v = eqb-true w v e in rw (z, get_or-set_same g (257 + v) 1 0 (omega arith))
    on false e = ap (λ (x : ℕ). eqb x 1) (get_or-set_other g (257 + w) (257 + v) 1 0 (λ z. eqb-false w v e (omega arith)))

    go : (b : Bool) → ltb w 256 ≡ b → barred_in (cond b (set g (257 + w) 1) g) v ≡ (eqb w v || barred_in g v)
    go true e = on (eqb w v) refl
    go false e = let z : 256 ≤ w = ltb-false w 256 e in rw (ne_eqb w v (λ q. omega arith))

-- one more edge
module _ (c p kind : ℕ) (g : List ℕ) where
  abbrev place : ℕ
  place = 513 + 3 * many_in g

  abbrev stored : List ℕ
  stored = set (set (set g place c) (place + 1) p) (place + 2) kind

  stored_long : length stored ≡ length g
  stored_long = length-set (set (set g place c) (place + 1) p) (place + 2) kind ∙ length-set (set g place c) (place + 1) p ∙ length-set g place c

  abbrev more : List ℕ
  more = set stored 0 (many_in g + 1)

  more_old : (at : ℕ) → 1 ≤ at → at < place → get_or more at 0 ≡ get_or g at 0
  more_old at l h =
      get_or-set_other stored 0 at (many_in g + 1) 0 (λ e. omega arith)
      ∙ get_or-set_other (set (set g place c) (place + 1) p) (place + 2) at kind 0 (λ e. omega arith)
      ∙ get_or-set_other (set g place c) (place + 1) at p 0 (λ e. omega arith)
      ∙ get_or-set_other g place at c 0 (λ e. omega arith)

  pub push_long : length (pushed c p kind g) ≡ length g
  push_long = go (ltb (many_in g) 2048)
    where
      go : (b : Bool) → length (cond b more g) ≡ length g
      go true = length-set stored 0 (many_in g + 1) ∙ stored_long
      go false = refl

  pub push_other : (at : ℕ) → 1 ≤ at → at < 513 → get_or (pushed c p kind g) at 0 ≡ get_or g at 0
  push_other at l h = go (ltb (many_in g) 2048)
    where
      go : (b : Bool) → get_or (cond b more g) at 0 ≡ get_or g at 0
      go true = more_old at l (omega arith)
      go false = refl

  module _ (few : many_in g < 2048) (room : 6657 ≤ length g) where
    abbrev q : ℕ
    q = place

    new_many : many_in more ≡ suc (many_in g)
    new_many = get_or-set_same stored 0 (many_in g + 1) 0 (omega (arith, stored_long)) ∙ omega arith

    new_child : get_or more q 0 ≡ c
    new_child =
        get_or-set_other stored 0 q (many_in g + 1) 0 (λ e. omega arith)
        ∙ get_or-set_other (set (set g q c) (q + 1) p) (q + 2) q kind 0 (λ e. omega arith)
        ∙ get_or-set_other (set g q c) (q + 1) q p 0 (λ e. omega arith)
        ∙ get_or-set_same g q c 0 (omega arith)

    new_parent : get_or more (q + 1) 0 ≡ p
    new_parent =
        get_or-set_other stored 0 (q + 1) (many_in g + 1) 0 (λ e. omega arith)
        ∙ get_or-set_other (set (set g q c) (q + 1) p) (q + 2) (q + 1) kind 0 (λ e. omega arith)
        ∙ get_or-set_same (set g q c) (q + 1) p 0 (omega (arith, length-set g q c))

    new_kind : get_or more (q + 2) 0 ≡ kind
    new_kind =
        get_or-set_other stored 0 (q + 2) (many_in g + 1) 0 (λ e. omega arith)
        ∙ get_or-set_same (set (set g q c) (q + 1) p) (q + 2) kind 0 (omega (arith, length-set (set g q c) (q + 1) p, length-set g q c))

    pub push_edges : edges_down (pushed c p kind g) (many_in (pushed c p kind g)) ≡ edge c p ∷ edges_down g (many_in g)
    unfolding edges_down
    push_edges = rw (lt-ltb (many_in g) 2048 few, new_many, new_child, new_parent, edges_same g more (many_in g) (λ at a b. more_old at (omega arith) b) (many_in g) (le_refl _))

    pub push_tuples : tuples_down (pushed c p kind g) (many_in (pushed c p kind g)) ≡ cond (eqb kind 10) (edge c p ∷ tuples_down g (many_in g)) (tuples_down g (many_in g))
    unfolding tuples_down
    push_tuples = rw (lt-ltb (many_in g) 2048 few, new_many, new_child, new_parent, new_kind, tuples_same g more (many_in g) (λ at a b. more_old at (omega arith) b) (many_in g) (le_refl _))

-- the graph holds these edges, and these of MakeTuples
pub record Holds (g : List ℕ) (es ts : List Edge) : Type 0 where
  pub edges : edges_down g (many_in g) ≡ es
  pub tuple_edges : tuples_down g (many_in g) ≡ ts
  pub room : 6657 ≤ length g

-- noting leaves the graph as long as it was
pub read_long : (kind d : ℕ) (g : List ℕ) (w : ℕ) → length (noted_read kind d g w) ≡ length g
read_long kind d g w = go (eqb kind 3) (eqb w d)
  where
    go : (a b : Bool) → length (cond a (barring w g) (cond b g (pushed w d kind g))) ≡ length g
    go true b = bar_long w g
    go false true = refl
    go false false = push_long w d kind g

reads_long : (kind d : ℕ) (g : List ℕ) (ws : List ValueId) → length (noted_reads kind d g ws) ≡ length g
unfolding noted_reads
reads_long kind d g [] = refl
reads_long kind d g (w ∷ ws) = read_long kind d (noted_reads kind d g ws) w.0 ∙ reads_long kind d g ws

-- what a Call reads is wanted whole, and nothing else changes
pub call_other : (d : ℕ) (g : List ℕ) (at : ℕ) → ((w : ℕ) → w < 256 → at ≡ 257 + w → ⊥) → (ws : List ValueId) → get_or (noted_reads 3 d g ws) at 0 ≡ get_or g at 0
unfolding noted_reads
call_other d g at f [] = refl
call_other d g at f (w ∷ ws) = bar_other w.0 (noted_reads 3 d g ws) at f ∙ call_other d g at f ws

pub call_marked : (d : ℕ) (g : List ℕ) (v : ℕ) → v < 256 → 513 ≤ length g → (ws : List ValueId) → barred_in (noted_reads 3 d g ws) v ≡ (any (λ (w : ValueId). eqb w.0 v) ws || barred_in g v)
unfolding noted_reads any
call_marked d g v l r [] = refl
call_marked d g v l r (w ∷ ws) =
    bar_marked w.0 (noted_reads 3 d g ws) v l (omega (arith, reads_long 3 d g ws)) ∙ go (eqb w.0 v) (call_marked d g v l r ws)
  where
    go : (b : Bool) → barred_in (noted_reads 3 d g ws) v ≡ (any (λ (w : ValueId). eqb w.0 v) ws || barred_in g v) → (b || barred_in (noted_reads 3 d g ws) v) ≡ ((b || any (λ (w : ValueId). eqb w.0 v) ws) || barred_in g v)
    go true e = refl
    go false e = e

pub parts_more : (d : ℕ) (ws : List ValueId) (es : List Edge) → length es ≤ length (part_edges d ws es)
unfolding part_edges
parts_more d [] es = le_refl _
parts_more d (w ∷ ws) es = go (eqb w.0 d) (parts_more d ws es)
  where
    go : (b : Bool) → length es ≤ length (part_edges d ws es) → length es ≤ length (cond b (part_edges d ws es) (edge w.0 d ∷ part_edges d ws es))
    go true h = h
    go false h = omega arith

-- what a build d reads are its parts, and no flag changes
module _ (kind d : ℕ) (build : eqb kind 3 ≡ false) (g : List ℕ) where
  pub build_other : (at : ℕ) → 1 ≤ at → at < 513 → (ws : List ValueId) → get_or (noted_reads kind d g ws) at 0 ≡ get_or g at 0
  unfolding noted_reads
  build_other at l h [] = refl
  build_other at l h (w ∷ ws) = rw build (go (eqb w.0 d)) ∙ build_other at l h ws
    where
      go : (b : Bool) → get_or (cond b (noted_reads kind d g ws) (pushed w.0 d kind (noted_reads kind d g ws))) at 0 ≡ get_or (noted_reads kind d g ws) at 0
      go true = refl
      go false = push_other w.0 d kind (noted_reads kind d g ws) at l h

  part_holds : (h : List ℕ) (es ts us : List Edge) (w : ℕ) (f : Bool) → eqb kind 10 ≡ f → Holds h es (cond f us ts) → (b : Bool) → length (cond b es (edge w d ∷ es)) ≤ 2048 → Holds (cond b h (pushed w d kind h)) (cond b es (edge w d ∷ es)) (cond f (cond b us (edge w d ∷ us)) ts)
  part_holds h es ts us w f t k true l = k
  part_holds h es ts us w f t k false l =
      let n : many_in h ≡ length es = sym (length_down h (many_in h)) ∙ ap length k.edges in
      record {
        edges = push_edges w d kind h (omega arith) k.room ∙ ap (λ xs. edge w d ∷ xs) k.edges;
        tuple_edges = push_tuples w d kind h (omega arith) k.room ∙ rw (t, k.tuple_edges) (go f);
        room = omega (arith, k.room, push_long w d kind h);
      }
    where
      go : (f : Bool) → cond f (edge w d ∷ cond f us ts) (cond f us ts) ≡ cond f (edge w d ∷ us) ts
      go true = refl
      go false = refl

  pub parts_hold : (es ts : List Edge) (f : Bool) → eqb kind 10 ≡ f → Holds g es ts → (ws : List ValueId) → length (part_edges d ws es) ≤ 2048 → Holds (noted_reads kind d g ws) (part_edges d ws es) (cond f (part_edges d ws ts) ts)
  unfolding noted_reads part_edges
  parts_hold es ts f t h [] l = rw (both_arms f ts) h
  parts_hold es ts f t h (w ∷ ws) l =
      let ih = parts_hold es ts f t h ws (le_trans (one_more (eqb w.0 d)) l) in
      rw build (part_holds (noted_reads kind d g ws) (part_edges d ws es) ts (part_edges d ws ts) w.0 f t ih (eqb w.0 d) l)
    where
      one_more : (b : Bool) → length (part_edges d ws es) ≤ length (cond b (part_edges d ws es) (edge w.0 d ∷ part_edges d ws es))
      one_more true = le_refl _
      one_more false = omega arith

-- the parent of each new edge is the build
pub parts_each : (Q : ℕ → Type 0) (d : ℕ) → Q d → (ws : List ValueId) (es : List Edge) → Each Q es → Each Q (part_edges d ws es)
unfolding part_edges
parts_each Q d q [] es h = h
parts_each Q d q (w ∷ ws) es h = go (eqb w.0 d) (parts_each Q d q ws es h)
  where
    go : (b : Bool) → Each Q (part_edges d ws es) → Each Q (cond b (part_edges d ws es) (edge w.0 d ∷ part_edges d ws es))
    go true k = k
    go false k = (q, k)

-- the loop: the reads from k on are noted
pub record Noting (facts : List ℕ) (slot kind d : ℕ) (before : List ℕ) (k : ℕ) (here : List ℕ) : Type 0 where
  pub low : k < 65536
  pub most : k ≤ read_count facts slot
  pub noted : (ws : List ValueId) → ReadsIn facts slot ws → here ≡ noted_reads kind d before (drop k ws)
  pub long : length here ≡ length before

module _ (facts : List ℕ) (slot kind d : ℕ) (before : List ℕ) where
  pub noting_start : (k : ℕ) → k < 65536 → k ≡ read_count facts slot → Noting facts slot kind d before k before
  unfolding noted_reads
  noting_start k l e =
      record {
        low = l;
        most = omega arith;
        noted = λ ws r. let h : length ws ≤ k = omega (arith, r.many) in let z : drop k ws ≡ [] = drop_of_length-le ws h in sym (rw z refl);
        long = refl;
      }

  module _ (k : ℕ) (here : List ℕ) (inv : Noting facts slot kind d before k here) where
    pub noting_done : k ≤ 0 → (ws : List ValueId) → ReadsIn facts slot ws → here ≡ noted_reads kind d before ws
    noting_done h ws r = let z : k ≡ 0 = omega arith in inv.noted ws r ∙ rw z refl

    pub noting_step : 0 < k → (w : ℕ) → w ≡ read_in facts slot (k - 1) → (u : List ℕ) → u ≡ noted_read kind d here w → Noting facts slot kind d before (k - 1) u
    unfolding noted_reads
    noting_step more w e u f =
        record {
          low = omega (arith, inv.low);
          most = omega (arith, inv.most);
          noted = λ ws r.
              let h : k - 1 < length ws = omega (arith, r.many, inv.most) in
              let z : suc (k - 1) ≡ k = omega arith in
              let o : ValueId = record { 0 = 0 } in
              let s : drop (k - 1) ws ≡ get_or ws (k - 1) o ∷ drop k ws = drop-cons ws (k - 1) o h ∙ ap (λ (n : ℕ). get_or ws (k - 1) o ∷ drop n ws) z in
              f ∙ ap (λ x. noted_read kind d x w) (inv.noted ws r) ∙ ap (noted_read kind d (noted_reads kind d before (drop k ws))) (e ∙ r.each (k - 1) h) ∙ sym (ap (noted_reads kind d before) s);
          long = rw f (read_long kind d here w ∙ inv.long);
        }

-- the first projection that was found
first_step : (ps : List Projection) → varies_found (get_elem? ps 0) ≡ varies_first ps
unfolding varies_first
first_step [] = refl
first_step (Index x ∷ ps) = refl
first_step (Field n ∷ ps) = refl
first_step (Tuple k ∷ ps) = refl

-- the place of a Load or Store, whose first projection was found
module _ (code : Code) (slot : ℕ) (g : List ℕ) (t : List ℕ) (q : t ≡ drop (place_in code.facts.now slot) code.bytes.now)
    (x : Option Projection) (found : (seen : List Bool) (late : Bool) (i : Instruction) (n : ℕ) → instruction_of code.bounds seen late t ≡ ok i n → x ≡ get_elem? (place_steps i.kind) 0)
  where
    found_first : (i : Instruction) → InstructionIn code.bounds code.bytes.now code.facts.now slot i → varies_first (place_steps i.kind) ≡ varies_found x
    found_first i h =
        let r : instruction_of code.bounds [] false t ≡ ok i (end_in code.facts.now slot - place_in code.facts.now slot) = rw q h.read in
        sym (first_step (place_steps i.kind)) ∙ ap varies_found (sym (found [] false i _ r))

    pub place_barred : varies_found x ≡ true → (w : ℕ) → w ≡ read_in code.facts.now slot 0 → (u : List ℕ) → u ≡ barring w g → PlaceNoted code slot g u
    place_barred v w e u f i h = rw (found_first i h, v) (f ∙ ap (λ (n : ℕ). barring n g) e)

    pub place_kept : varies_found x ≡ false → PlaceNoted code slot g g
    place_kept v i h = rw (found_first i h, v)
