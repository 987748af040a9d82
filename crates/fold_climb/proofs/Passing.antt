-- Law 1: the climb's walk over the instructions is a test of the blocked values and a walk over the edges.
use Prim.Native.Nat.{ℕ}
use mathlib.Core.Path.{◌≡◌, refl, ap, sym, ◌∙◌}
use mathlib.Core.List.{List, [], ◌∷◌}
use mathlib.Core.Bool.{Bool, true, false, cond, not, ◌&&◌, ◌||◌, or-false}
use mathlib.Core.Option.{Option, none, some}
use borrow.Author.Tests.{ne_eqb, eqb-true, eqb-false}
use lib.Dec.{eqb}
use Rattle.mir.specs.declared.ValueId.{ValueId}
use Rattle.mir.specs.declared.Value.{Value}
use Rattle.mir.specs.declared.Projection.{Projection}
use Rattle.mir.specs.declared.Projection.TheVariants.{Index, Field, Tuple}
use Rattle.mir.specs.Syntax.{Place, Instruction, InstructionKind}
use Rattle.mir.specs.Syntax.{Assign, UnaryOp, BinaryOp, Call, Cast, Load, Store, Debug, Nop, Phi}
use Rattle.mir.specs.Syntax.{MakeTuple, ExtractTupleElement, MakeStruct, ExtractStructField, InsertField, InsertTuple, MakeFixedArray, AssertEq, HeapAllocCells}
use Rattle.mir.specs.Reads.{operands, init_values, reads}
use Rattle.fold.specs.declared.Settings.{Settings}
use Rattle.mir.specs.Lookup.{Types, value_row, is_array, is_operand, is_integer, any}
use Rattle.fold.specs.Family.{Marks, build_dest, accessed}
use Rattle.fold.specs.Climb.{constant_first, on_base, onward, climb_parts, climb_build, climb_one, climb_all}
use Rattle.fold_climb.specs.Edges.{Edge, edge, part_edges, build_edges, edges_of, arguments, varies_first, varies_at, blocks, blocked_in, onto, parents}
use Rattle.fold_climb.proofs.Depth.{both_arms}

module _ (up : ℕ → Marks → Option Marks) (a : Bool) (v : ℕ) where
  -- an edge of another value is passed over
  other_edge : (e : Edge) (es : List Edge) (m : Marks) → eqb e.child v ≡ false → parents up a v (e ∷ es) m ≡ parents up a v es m
  unfolding parents
  other_edge e es m h = rw h

  other_part : (d w : ℕ) (es : List Edge) (m : Marks) → eqb w v ≡ false → (b : Bool) → parents up a v (cond b es (edge w d ∷ es)) m ≡ parents up a v es m
  other_part d w es m h true = refl
  other_part d w es m h false = other_edge (edge w d) es m h

  -- a build has no edge from its own dest
  own_part : (d w : ℕ) (es : List Edge) (m : Marks) → d ≡ v → (b : Bool) → eqb w d ≡ b → parents up a v (cond b es (edge w d ∷ es)) m ≡ parents up a v es m
  own_part d w es m k true h = refl
  own_part d w es m k false h = other_edge (edge w d) es m (rw k at h)

  own_edges : (d : ℕ) (ws : List ValueId) (es : List Edge) (m : Marks) → d ≡ v → parents up a v (part_edges d ws es) m ≡ parents up a v es m
  unfolding part_edges
  own_edges d [] es m k = refl
  own_edges d (w ∷ ws) es m k = own_part d w.0 (part_edges d ws es) m k (eqb w.0 d) refl ∙ own_edges d ws es m k

module _ (σ : Settings) (τ : Types) (cross : Marks) (up : ValueId → Marks → Option Marks) (v : ValueId) where
  abbrev walk : List Edge → Marks → Option Marks
  walk es m = parents (λ p. up (record { 0 = p })) (is_array (value_row τ v)) v.0 es m

  -- what comes behind an instruction: blocked, or the walk over the edges that are left
  abbrev Behind : (Marks → Option Marks) → Bool → List Edge → Type 0
  Behind f b es = (m : Marks) → f m ≡ cond b none (walk es m)

  -- the value stands as a part
  met : (f g : Marks → Option Marks) (b : Bool) (es : List Edge) → ((m : Marks) → onward σ τ cross f (g m) ≡ cond b none (walk es m)) → (a : Bool) (r : Option Marks) → onward σ τ cross f (onward σ τ cross g (cond a none r)) ≡ cond b none (cond a none (onto r (λ w. walk es w)))
  unfolding onward
  met f g b es h true r = sym (both_arms b none)
  met f g b es h false none = sym (both_arms b none)
  met f g b es h false (some w) = h w

  module _ (f : Marks → Option Marks) (b : Bool) (es : List Edge) (behind : Behind f b es) (d : ValueId) where
    parts : eqb d.0 v.0 ≡ false → (xs : List Value) (m : Marks) → onward σ τ cross f (climb_parts σ τ cross up v d xs m) ≡ cond b none (walk (part_edges d.0 (operands xs) es) m)
    unfolding climb_parts onward part_edges is_operand parents
    parts differs [] m = behind m
    parts differs (Value.Literal l ∷ xs) m = parts differs xs m
    parts differs (Value.Error ∷ xs) m = parts differs xs m
    parts differs (Value.Operand w ∷ xs) m = go (λ m. parts differs xs m) (eqb w.0 v.0) refl
      where
        go : ((m : Marks) → onward σ τ cross f (climb_parts σ τ cross up v d xs m) ≡ cond b none (walk (part_edges d.0 (operands xs) es) m)) → (t : Bool) → eqb w.0 v.0 ≡ t → onward σ τ cross f (climb_parts σ τ cross up v d (Value.Operand w ∷ xs) m) ≡ cond b none (walk (part_edges d.0 (w ∷ operands xs) es) m)
        go ih true e =
            let k : eqb w.0 d.0 ≡ false = ne_eqb w.0 d.0 (λ q. eqb-false d.0 v.0 differs (sym q ∙ eqb-true w.0 v.0 e)) in
            simp (e, k) (met f (climb_parts σ τ cross up v d xs) b (part_edges d.0 (operands xs) es) ih (is_array (value_row τ v)) (up d m))
        go ih false e =
            rw e (ih m ∙ ap (λ r. cond b none r) (sym (other_part (λ p. up (record { 0 = p })) (is_array (value_row τ v)) v.0 d.0 w.0 (part_edges d.0 (operands xs) es) m e (eqb w.0 d.0))))

    build : (xs : List Value) (m : Marks) → onward σ τ cross f (climb_build σ τ cross up v d xs m) ≡ cond b none (walk (part_edges d.0 (operands xs) es) m)
    unfolding climb_build onward
    build xs m = go (eqb d.0 v.0) refl
      where
        go : (t : Bool) → eqb d.0 v.0 ≡ t → onward σ τ cross f (climb_build σ τ cross up v d xs m) ≡ cond b none (walk (part_edges d.0 (operands xs) es) m)
        go true e = rw e (behind m ∙ ap (λ r. cond b none r) (sym (own_edges (λ p. up (record { 0 = p })) (is_array (value_row τ v)) v.0 d.0 (operands xs) es m (eqb-true d.0 v.0 e))))
        go false e = rw e (parts e xs m)

  -- a Call, or a Load or Store
  whole : (f : Marks → Option Marks) (b : Bool) (es : List Edge) → Behind f b es → (m : Marks) (t : Bool) → onward σ τ cross f (cond t none (some m)) ≡ cond (t || b) none (walk es m)
  unfolding onward
  whole f b es h m true = refl
  whole f b es h m false = h m

  based : (f : Marks → Option Marks) (b : Bool) (es : List Edge) → Behind f b es → (m : Marks) (p : Place) → onward σ τ cross f (cond (on_base σ τ cross v p) (some m) none) ≡ cond (varies_at v.0 (some p) || b) none (walk es m)
  unfolding onward on_base varies_at constant_first varies_first
  based f b es h m p = go (eqb p.base.0 v.0) p.projections
    where
      go : (t : Bool) (ps : List Projection) → onward σ τ cross f (cond (not t || constant_first σ τ cross ps) (some m) none) ≡ cond ((t && varies_first ps) || b) none (walk es m)
      go false ps = h m
      go true [] = h m
      go true (Index x ∷ ps) = on (is_integer x)
        where
          on : (i : Bool) → onward σ τ cross f (cond i (some m) none) ≡ cond (not i || b) none (walk es m)
          on true = h m
          on false = refl
      go true (Field n ∷ ps) = refl
      go true (Tuple k ∷ ps) = refl

  one : (f : Marks → Option Marks) (b : Bool) (es : List Edge) → Behind f b es → (i : InstructionKind) (m : Marks) → onward σ τ cross f (climb_one σ τ cross up v i m) ≡ cond (blocks v.0 i || b) none (walk (build_edges (build_dest i) (reads i) es) m)
  unfolding climb_one onward blocks arguments varies_at accessed build_edges build_dest any
  one f b es h (Assign d x t) m = h m
  one f b es h (UnaryOp op d x) m = h m
  one f b es h (BinaryOp op d x y) m = h m
  one f b es h (Call ds g xs ps rs) m = simp or-false (whole f b es h m (any (is_operand v) xs))
  one f b es h (Cast d x t u) m = h m
  one f b es h (Load d p t) m = based f b es h m p
  one f b es h (Store p x t) m = based f b es h m p
  one f b es h (Debug n xs) m = h m
  one f b es h Nop m = h m
  one f b es h (Phi d t ss) m = h m
  one f b es h (MakeTuple d xs) m = build f b es h d xs m
  one f b es h (ExtractTupleElement d x k t) m = h m
  one f b es h (MakeStruct d fs t) m = build f b es h d (init_values fs) m
  one f b es h (ExtractStructField d x n t) m = h m
  one f b es h (InsertField d x n y t) m = h m
  one f b es h (InsertTuple d x k y t) m = h m
  one f b es h (MakeFixedArray d xs t c) m = build f b es h d xs m
  one f b es h (AssertEq x y) m = h m
  one f b es h (HeapAllocCells d x) m = h m

  -- the walk over a block: a refusal ends everything, so that those of the Calls, Loads and Stores may come first
  pub over_edges : (is : List Instruction) (m : Marks) → climb_all σ τ cross up v is m ≡ cond (blocked_in v.0 is) none (walk (edges_of is) m)
  unfolding climb_all blocked_in edges_of parents
  over_edges [] m = refl
  over_edges (i ∷ is) m = one (climb_all σ τ cross up v is) (blocked_in v.0 is) (edges_of is) (λ m. over_edges is m) i.kind m
