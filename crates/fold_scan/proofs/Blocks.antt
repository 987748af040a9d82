-- The scan's loop over a block, from its last instruction to its first.
use Prim.Native.Nat.{ℕ, zero, suc, ◌+◌, ◌-◌, ◌*◌, ◌≤◌, ◌<◌}
use mathlib.Core.Path.{◌≡◌, refl, ap, ◌∙◌}
use mathlib.Core.List.{List, [], ◌∷◌}
use mathlib.Core.Bool.{Bool, true, false, cond}
use mathlib.Core.Option.{Option, none, some}
use native.Mathlib.Nat.{le_refl, le_trans}
use native.Mathlib.Omega.{arith}
use borrow.Author.Tests.{eqb-true}
use lib.ListN.{length, get_or, drop, drop_of_length-le}
use lib.Seq.{drop-cons}
use lib.Dec.{eqb}
use Rattle.mir.specs.declared.ValueId.{ValueId}
use Rattle.mir.specs.Syntax.{Instruction, InstructionKind}
use Rattle.mir.specs.Reads.{kind_number, is_phi, reads}
use Rattle.bytes_index.specs.declared.code.Code.{Code}
use Rattle.bytes_index.specs.declared.slots.Slots.{Slots}
use Rattle.fold_scan.specs.declared.ValueFacts.{ValueFacts}
use Rattle.bytes_operands.specs.Fields.{list_values}
use Rattle.bytes_index.specs.Code.{no_instruction, InstructionsIn}
use Rattle.fold.specs.declared.Settings.{Settings}
use Rattle.mir.specs.Lookup.{Types}
use Rattle.fold.specs.Family.{Marks, build_dest}
use Rattle.fold.specs.Tables.{ShapesAt}
use Rattle.mir.specs.Phis.{behind_phis}
use Rattle.fold.specs.Climb.{is_build_of, build_of, buildable_of}
use Rattle.fold_climb.specs.Edges.{Edge, edge, part_edges, build_edges, edges_of, tuple_edges_of, blocked_in}
use Rattle.fold_climb.specs.Scanned.{edges_down, tuples_down, Scanned}
use Rattle.fold_scan.specs.Noted.{Ready, StructsAt, OneScanned, BlockScanned}
use Rattle.fold_scan.proofs.Sorts.{Idle, idle, builds}
use Rattle.fold_scan.proofs.Graph.{parts_more}

-- a phi adds nothing
phi_idle : (i : InstructionKind) → is_phi i ≡ true → Idle i
phi_idle i h =
    let z : kind_number i ≡ 9 = eqb-true (kind_number i) 9 h in
    idle i (λ p. omega arith) (λ p. omega arith) (λ p. omega arith) (λ p. omega arith) (λ p. omega arith) (λ p. omega arith)

not_tuple : (i : InstructionKind) → is_phi i ≡ true → eqb (kind_number i) 10 ≡ false
not_tuple i h = let z : kind_number i ≡ 9 = eqb-true (kind_number i) 9 h in rw z refl

module _ (σ : Settings) (τ : Types) (cross : Marks) (g : List ℕ) where
  drop_phi : (i : Instruction) (is : List Instruction) → is_phi i.kind ≡ true → Scanned σ τ cross (i ∷ is) g → Scanned σ τ cross is g
  unfolding edges_of tuple_edges_of build_edges build_of is_build_of blocked_in
  drop_phi i is p h =
      let k = phi_idle i.kind p in
      record {
        edges = rw k.none_built at h.edges;
        tuple_edges = rw (not_tuple i.kind p) at h.tuple_edges;
        built = λ v l. rw k.none_built at (h.built v l);
        barred = λ v l. rw (k.none_whole v) at (h.barred v l);
        below = rw k.none_built at h.below;
      }

  -- the tables of all of a block's instructions are those of the instructions behind the phis
  pub behind_phis_lem : (is : List Instruction) → Scanned σ τ cross is g → Scanned σ τ cross (behind_phis is) g
  unfolding behind_phis
  behind_phis_lem [] h = h
  behind_phis_lem (i ∷ is) h = go (λ h. behind_phis_lem is h) (is_phi i.kind) refl
    where
      go : (Scanned σ τ cross is g → Scanned σ τ cross (behind_phis is) g) → (b : Bool) → is_phi i.kind ≡ b → Scanned σ τ cross (cond b (behind_phis is) (i ∷ is)) g
      go ih true e = ih (drop_phi i is e h)
      go ih false e = h

build_more : (d : Option ValueId) (ws : List ValueId) (es : List Edge) → length es ≤ length (build_edges d ws es)
unfolding build_edges
build_more none ws es = le_refl _
build_more (some d) ws es = parts_more d.0 ws es

-- a block's end has no more edges than the block
edges_fewer : (is : List Instruction) (k : ℕ) → length (edges_of (drop k is)) ≤ length (edges_of is)
unfolding edges_of
edges_fewer [] zero = le_refl _
edges_fewer [] (suc k) = le_refl _
edges_fewer (i ∷ is) zero = le_refl _
edges_fewer (i ∷ is) (suc k) = le_trans (edges_fewer is k) (build_more (build_dest i.kind) (reads i.kind) (edges_of is))

-- the instructions from k on are scanned
pub record Scanning (code : Code) (slots : Slots) (values : ValueFacts) (structs : List Bool) (before : List ℕ) (k : ℕ) (here : List ℕ) : Type 0 where
  pub low : k ≤ slots.count
  pub long : length here ≡ length before
  pub held :
      (σ : Settings) (τ : Types) (all : List Instruction) → InstructionsIn code.bounds code.bytes.now code.facts.now slots.first all → length all ≡ slots.count → ShapesAt σ τ values.shapes.now values.eligible.now
      → Ready code.bounds τ before → StructsAt σ τ values.cross.now structs all → length (edges_of all) ≤ 2048 → Scanned σ τ values.cross.now (drop k all) here

module _ (code : Code) (slots : Slots) (values : ValueFacts) (structs : List Bool) (before : List ℕ) where
  pub scan_start : (here : List ℕ) → length here ≡ length before → ((at : ℕ) → at < 513 → get_or here at 0 ≡ 0) → Scanning code slots values structs before slots.count here
  unfolding edges_of tuple_edges_of build_of buildable_of blocked_in edges_down tuples_down
  scan_start here long z =
      record {
        low = le_refl _;
        long = long;
        held = λ σ τ all at n known ready st e.
            let le : length all ≤ slots.count = omega arith in
            let d : drop slots.count all ≡ [] = drop_of_length-le all le in
            let few = ready.few in
            rw d
            (record {
              edges = rw (z 0 (omega arith)) refl;
              tuple_edges = rw (z 0 (omega arith)) refl;
              built = λ v h. ap (λ (x : ℕ). eqb x 1) (z (1 + v) (omega arith));
              barred = λ v h. ap (λ (x : ℕ). eqb x 1) (z (257 + v) (omega arith));
              below = tt;
            });
      }

  module _ (k : ℕ) (here : List ℕ) (inv : Scanning code slots values structs before k here) where
    -- of the graph before the scan only its length matters
    pub scan_done : k ≤ 0 → (start : List ℕ) → length before ≡ length start → BlockScanned code slots values structs start here
    scan_done h start l σ τ all at n known ready st e =
        let z : k ≡ 0 = omega arith in
        let r : Ready code.bounds τ before = record { next = ready.next; few = ready.few; room = omega (arith, ready.room) } in
        behind_phis_lem σ τ values.cross.now here all (rw z at (inv.held σ τ all at n known r st e))

    pub scan_step : 0 < k → (given : Bool) → given ≡ get_or structs (k - 1) false → (u : List ℕ) → length u ≡ length here → OneScanned code (slots.first + (k - 1)) values given here u → Scanning code slots values structs before (k - 1) u
    scan_step more given g u long one =
        record {
          low = omega (arith, inv.low);
          long = long ∙ inv.long;
          held = λ σ τ all at n known ready st e.
              let i = get_or all (k - 1) no_instruction in
              let l : k - 1 < length all = omega (arith, inv.low) in
              let z : suc (k - 1) ≡ k = omega arith in
              let d : drop (k - 1) all ≡ i ∷ drop k all = drop-cons all (k - 1) no_instruction l ∙ ap (λ (m : ℕ). i ∷ drop m all) z in
              let f : length (edges_of (i ∷ drop k all)) ≤ 2048 = le_trans (rw d at (edges_fewer all (k - 1))) e in
              let r : Ready code.bounds τ here = record { next = ready.next; few = ready.few; room = omega (arith, ready.room, inv.long) } in
              rw d (one σ τ (drop k all) i (at (k - 1) l) known r (λ c. g ∙ st (k - 1) l c) f (inv.held σ τ all at n known ready st e));
        }

-- a build has no more edges than parts
parts_few : (d : ℕ) (ws : List ValueId) (es : List Edge) → length (part_edges d ws es) ≤ length ws + length es
unfolding part_edges
parts_few d [] es = omega arith
parts_few d (w ∷ ws) es = go (eqb w.0 d) (parts_few d ws es)
  where
    go : (b : Bool) → length (part_edges d ws es) ≤ length ws + length es → length (cond b (part_edges d ws es) (edge w.0 d ∷ part_edges d ws es)) ≤ suc (length ws) + length es
    go true h = omega arith
    go false h = omega arith

build_few : (i : InstructionKind) (es : List Edge) → length (build_edges (build_dest i) (reads i) es) ≤ length (list_values i) + length es
unfolding build_edges
build_few i es = go (build_dest i) refl
  where
    go : (o : Option ValueId) → build_dest i ≡ o → length (build_edges o (reads i) es) ≤ length (list_values i) + length es
    go none e = omega arith
    go (some d) e = omega (arith, parts_few d.0 (reads i) es, (builds i d e).few)

-- lists of at most 16 values: at most 16 edges for each instruction
pub edges_few : (is : List Instruction) → ((k : ℕ) → k < length is → length (list_values (get_or is k no_instruction).kind) ≤ 16) → length (edges_of is) ≤ 16 * length is
unfolding edges_of
edges_few [] h = omega arith
edges_few (i ∷ is) h = omega (arith, build_few i.kind (edges_of is), h 0 (omega arith), edges_few is (λ k l. h (suc k) (omega arith)))
