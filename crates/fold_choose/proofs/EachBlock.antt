-- All blocks: what is known of one, and the loop over them.
use Prim.Native.Nat.{ℕ, ◌+◌, ◌≤◌, ◌<◌}
use mathlib.Core.Path.{◌≡◌, refl, ◌∙◌, sym, ap}
use mathlib.Core.List.{List}
use mathlib.Core.Bool.{Bool, true, false, true≢false}
use mathlib.Core.Option.{some}
use native.Mathlib.Omega.{arith}
use borrow.Author.Tests.{eqb-true, eqb-false}
use lib.ListN.{length, get_or, set, length-set}
use lib.Seq.{get_or-set_same, get_or-set_other}
use lib.Dec.{eqb}
use Rattle.mir.specs.declared.ValueId.{ValueId}
use Rattle.mir.specs.Syntax.{Instruction, Block}
use Rattle.bytes_index.specs.Table.{starts_in}
use Rattle.bytes_index.specs.Code.{no_instruction, no_block, SlotsOf}
use Rattle.fold.specs.declared.Settings.{Settings}
use Rattle.mir.specs.Lookup.{Types}
use Rattle.fold.specs.Family.{Marks, build_dest}
use Rattle.fold.specs.Tables.{ShapesAt, Coded}
use Rattle.fold.specs.Fold.{skipped}
use Rattle.fold_climb.specs.Edges.{edges_of}
use Rattle.fold_scan.proofs.Blocks.{edges_few}
use Rattle.fold_phis.specs.Skipped.{Skips}
use Rattle.bytes_index.specs.declared.code.Code.{Code}
use Rattle.bytes_index.specs.declared.slots.Slots.{Slots}
use Rattle.fold_scan.specs.declared.ValueFacts.{ValueFacts}
use Rattle.fold_choose.specs.Chosen.{chosen_by, Fits, Flagged, BlockChosen, Standing, DecidesBlock, ChoosesBlock, Chooses}
use Rattle.fold_choose.proofs.Once.{stands_once}
use Rattle.bytes_index.proofs.Rising.{before, roomy}

-- at most 2,048 edges
pub edges_fit : (σ : Settings) (τ : Types) (cross : Marks) (code : Code) (at : Slots) (all : List Instruction) → Standing σ τ cross code at all → length (edges_of all) ≤ 2048
edges_fit σ τ cross code at all st = omega (arith, edges_few all st.listed, st.counted, st.few)

module _ (σ : Settings) (values : ValueFacts) (code : Code) where
  -- block k, by its slots
  module _ (room k : ℕ) (at : Slots) (slots : SlotsOf code.facts.now k at) (skip : Bool) (skips : Skips code at values.shapes.now skip) (choice₀ marked : List Bool) (set_so : marked ≡ set choice₀ (288 + k) skip) where
    said : (τ : Types) (ks : List Block) → Coded code.bounds code.bytes.now code.facts.now τ ks → ShapesAt σ τ values.shapes.now values.eligible.now → k < length ks → skip ≡ skipped τ (get_or ks k no_block).instructions
    said τ ks c f l =
        let w = slots code.bounds code.bytes.now ks c.code l in
        skips code.bounds σ τ values.eligible.now (get_or ks k no_block).instructions f c.ground.values (rw w.0 (c.code.each k l).instructions) (sym w.1)

    marks_skip : 288 + k < length choice₀ → get_or marked (288 + k) false ≡ skip
    marks_skip l = rw set_so (get_or-set_same choice₀ (288 + k) skip false l)

    marks_old : (j : ℕ) → (j ≡ 288 + k → ⊥) → get_or marked j false ≡ get_or choice₀ j false
    marks_old j n = rw set_so (get_or-set_other choice₀ (288 + k) j skip false n)

    pub chooses_skip : skip ≡ true → ChoosesBlock σ values room code k choice₀ marked
    chooses_skip h τ ks c fits f l r long =
        let z = said τ ks c f l in
        record {
          old = λ j m n. marks_old j n;
          skip = marks_skip (omega (arith, c.many, c.few)) ∙ z;
          fold = λ j d n. absurd (let y : ◌≡◌ {A = Bool} true false = sym h ∙ z ∙ n in true≢false y);
        }

    pub chooses_block : (choice : List Bool) → Flagged at.first marked choice → DecidesBlock σ values room code at marked choice → ChoosesBlock σ values room code k choice₀ choice
    chooses_block choice flagged decides τ ks c fits f l r long =
        let w = slots code.bounds code.bytes.now ks c.code l in
        let all = (get_or ks k no_block).instructions in
        let st = stands_once σ τ values.cross.now fits.mosts code (get_or ks k no_block) at (fits.each k l) fits.short c.ground.listed (rw w.0 (c.code.each k l).instructions) (sym w.1) in
        let same : length marked ≡ length choice₀ = ap length set_so ∙ length-set choice₀ (288 + k) skip in
        let d = decides τ all c.ground f st r (omega (arith, same)) in
        record {
          old = λ j m n. flagged.old j (rw w.0 m) ∙ marks_old j n;
          skip = flagged.old (288 + k) (λ x y. omega arith) ∙ marks_skip (omega (arith, c.many, c.few)) ∙ said τ ks c f l;
          fold = λ j v n m e. rw w.0 at (d j v m e);
        }

  -- what stands of block j
  abbrev Stands : Types → List Block → List Bool → ℕ → Type 0
  Stands τ ks choice j =
      (get_or choice (288 + j) false ≡ skipped τ (get_or ks j no_block).instructions)
      × ((i : ℕ) (d : ValueId) → skipped τ (get_or ks j no_block).instructions ≡ false → i < length (get_or ks j no_block).instructions → build_dest (get_or (get_or ks j no_block).instructions i no_instruction).kind ≡ some d → get_or choice (get_or (starts_in code.facts.now) j 0 + i) false ≡ (chosen_by σ τ values.cross.now).folds (get_or ks j no_block) d)

  -- the first k blocks are chosen
  pub record Choosing (choice₀ : List Bool) (k : ℕ) (choice : List Bool) (graph : List ℕ) : Type 0 where
    pub low : k ≤ code.bounds.blocks
    pub small : code.bounds.blocks < 65536
    pub long : length choice ≡ length choice₀
    pub room : length graph ≡ 6657
    pub done : (τ : Types) (ks : List Block) → Coded code.bounds code.bytes.now code.facts.now τ ks → Fits code.bounds ks → ShapesAt σ τ values.shapes.now values.eligible.now → 320 ≤ length choice₀ → (j : ℕ) → j < k → Stands τ ks choice j

  module _ (choice₀ : List Bool) where
    module _ (k : ℕ) (choice : List Bool) (graph : List ℕ) (inv : Choosing choice₀ k choice graph) where
      pub choosing_on : k < code.bounds.blocks → (choice' : List Bool) → length choice' ≡ length choice → (graph' : List ℕ) → length graph' ≡ length graph → ChoosesBlock σ values (length graph) code k choice choice' → Choosing choice₀ (k + 1) choice' graph'
      choosing_on h choice' long graph' room chooses =
          record {
            low = omega arith;
            small = inv.small;
            long = long ∙ inv.long;
            room = room ∙ inv.room;
            done = λ τ ks c fits f l j m.
                let w = chooses τ ks c fits f (omega (arith, c.many)) (omega (arith, inv.room)) (omega (arith, inv.long)) in
                go τ ks c fits f l w j m (eqb j k) refl;
          }
        where
          go : (τ : Types) (ks : List Block) → Coded code.bounds code.bytes.now code.facts.now τ ks → Fits code.bounds ks → ShapesAt σ τ values.shapes.now values.eligible.now → 320 ≤ length choice₀
              → BlockChosen (chosen_by σ τ values.cross.now) k (get_or (starts_in code.facts.now) k 0) (get_or ks k no_block) choice choice' → (j : ℕ) → j < k + 1 → (c : Bool) → eqb j k ≡ c → Stands τ ks choice' j
          go τ ks c fits f l w j m true q = let z : j ≡ k = eqb-true j k q in rw z (w.skip, w.fold)
          go τ ks c fits f l w j m false q =
              let n : j ≡ k → ⊥ = λ z. eqb-false j k q z in
              let o : j < k = omega (arith, n) in
              let d = inv.done τ ks c fits f l j o in (
                w.old (288 + j) (λ x y. omega arith) (λ e. n (omega arith)) ∙ d.0,
                λ i v s r e.
                    let p = before c.code j k i o (omega (arith, c.many)) r in
                    let q = roomy c.code j (omega (arith, c.many)) in
                    w.old (get_or (starts_in code.facts.now) j 0 + i) (λ x y. omega arith) (λ e. omega arith) ∙ d.1 i v s r e,
              )

      pub chosen : code.bounds.blocks ≤ k → Chooses σ values code choice₀ choice
      chosen h τ ks c fits f l =
          record {
            skip = λ j m. (inv.done τ ks c fits f l j (omega (arith, c.many))).0;
            fold = λ j i d m s n e. (inv.done τ ks c fits f l j (omega (arith, c.many))).1 i d s n e;
          }
