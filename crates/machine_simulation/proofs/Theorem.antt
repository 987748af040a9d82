-- THE SIMULATION: under the static facts a routine and its rewriting, by any choice, give the same record and stand alike.
use mathlib.Core.Path.{◌≡◌, refl, ap}
use Prim.Native.Nat.{ℕ, zero, suc}
use mathlib.Core.Bool.{Bool, true, false, cond, not, ◌&&◌, ◌||◌}
use mathlib.Core.Option.{Option, none, some}
use mathlib.Core.List.{List, [], ◌∷◌, ◌++◌, append_assoc, map}
use native.Mathlib.Nat.{le_refl, not-suc-le-zero, le_of_suc-le-suc}
use lib.Dec.{T, ltb, ltb→lt, lt→ltb}
use lib.ListN.{length, get_elem?, get_or}
use Rattle.mir.specs.declared.ValueId.{ValueId}
use Rattle.mir.specs.declared.TypeId.{TypeId}
use Rattle.mir.specs.MirType.{MirType}
use Rattle.mir.specs.Syntax.{Instruction, InstructionKind, Assign, UnaryOp, BinaryOp, Call, Cast, Load, Store, Debug, Nop, Phi}
use Rattle.mir.specs.Syntax.{MakeTuple, ExtractTupleElement, MakeStruct, ExtractStructField, InsertField, InsertTuple, MakeFixedArray, AssertEq, HeapAllocCells, Block}
use Rattle.mir.specs.Reads.{store_base, terminator_reads}
use Rattle.fold.specs.declared.Settings.{Settings}
use Rattle.mir.specs.Lists.{Each}
use Rattle.mir.specs.Lookup.{Types, row_of, recorded_type, value_row, is_aggregate, struct_fields_of, types_in}
use Rattle.mir.specs.Routine.{Routine}
use Rattle.mir.specs.Phis.{behind_phis}
use Rattle.rewrite.specs.Run.{Choice, all_blocks, choice, rewritten_by, rewritten_blocks, rewrite_with, rewrite}
use Rattle.machine.specs.Values.{Val}
use Rattle.machine.specs.Meaning.{Meaning, Taken, took, refuses, exhausted}
use Rattle.machine.specs.Records.{Env, write, Trace}
use Rattle.mir.specs.Parts.{is_pointer}
use Rattle.machine.specs.Document.{Operations, document01}
use Rattle.machine.specs.Run.{taking, take_all, none_written, run}
use Rattle.shelf.specs.Lists.{every, among}
use Rattle.shelf.specs.Fits.{same_type, fits, place_type}
use Rattle.machine_simulation.specs.Typing.{typed}
use Rattle.shelf.specs.Reads.{ordered, aggregate_base, bases_in, bases, apart, shallow, clean, clean_terminator, with_debug}
use Rattle.machine_simulation.specs.Static.{below, once, no_phi, fields_once, Static}
use Rattle.machine_simulation.specs.Statement.{Fine, rewritten, RunsAlike}
use Rattle.machine_simulation.proofs.Tools.{both_l, both_r, both, split, passes, fails, cond_yes, cond_no, every_l, every_r, every_at, all_among}
use Rattle.machine_simulation.proofs.Frame.{changes, changed_base}
use Rattle.machine_simulation.proofs.Retype.{retyped}
use Rattle.machine_simulation.proofs.Invariant.{Ctx}
use Rattle.machine_simulation.proofs.Generic.{Recorded}
use Rattle.machine_simulation.proofs.Phis.{below_behind}
use Rattle.machine_simulation.proofs.Blocks.{BlockGood, BlockClean, RewrittenOk, pairs, blocks_sim}

-- ---- a Store's base that is changed is an aggregate

-- by reason 1 a base is a Pointer or an aggregate
store_base_lem : (τ : Types) (q : ValueId → Bool) (b : ValueId) (p : Bool) (s : Bool) → T (is_pointer (value_row τ b) || (is_aggregate (value_row τ b) && s))
    → T (every q (aggregate_base τ (some b))) → T (every q (changed_base τ (some b)))
unfolding aggregate_base changed_base
store_base_lem τ q b p s t h =
    elim (split (is_pointer (value_row τ b))) [
      | passes y ↦ rw (cond_yes (is_pointer (value_row τ b)) [] (b ∷ []) y) tt
      | fails y ↦ rw (cond_no (is_pointer (value_row τ b)) [] (b ∷ []) y) (rw (cond_yes (is_aggregate (value_row τ b)) (b ∷ []) [] (both_l (is_aggregate (value_row τ b)) s (or_not (is_pointer (value_row τ b)) (is_aggregate (value_row τ b) && s) y t))) at h)
    ]
  where
    or_not : (a c : Bool) → T (not a) → T (a || c) → T c
    or_not true c y t = absurd y
    or_not false c y t = t

-- so what an instruction changes is a base that reason 3 knows
base_changes : (τ : Types) (q : ValueId → Bool) (i : InstructionKind) → T (typed τ i) → T (every q (aggregate_base τ (store_base i))) → T (every q (changes τ i))
unfolding typed changed_base
base_changes τ q (Assign d x u) t h = tt
base_changes τ q (UnaryOp op d x) t h = tt
base_changes τ q (BinaryOp op d x y) t h = tt
base_changes τ q (Call ds f xs ps rs) t h = tt
base_changes τ q (Cast d x u v) t h = tt
base_changes τ q (Load d p u) t h = tt
base_changes τ q (Store p x u) t h =
    store_base_lem τ q p.base true (same_type (place_type τ (recorded_type τ p.base) p.projections) (some u))
    (both_r (fits τ x (some u)) (is_pointer (value_row τ p.base) || (is_aggregate (value_row τ p.base) && same_type (place_type τ (recorded_type τ p.base) p.projections) (some u))) t) h
base_changes τ q (Debug m xs) t h = tt
base_changes τ q Nop t h = tt
base_changes τ q (Phi d u ss) t h = tt
base_changes τ q (MakeTuple d xs) t h = tt
base_changes τ q (ExtractTupleElement d x k u) t h = tt
base_changes τ q (MakeStruct d fs u) t h = tt
base_changes τ q (ExtractStructField d x f u) t h = tt
base_changes τ q (InsertField d x f y u) t h = tt
base_changes τ q (InsertTuple d x k y u) t h = tt
base_changes τ q (MakeFixedArray d xs u c) t h = tt
base_changes τ q (AssertEq x y) t h = tt
base_changes τ q (HeapAllocCells d x) t h = tt

-- in a block
block_bases : (τ : Types) (q : ValueId → Bool) (is : List Instruction) → T (every (λ i. typed τ i.kind) is) → T (every q (bases_in τ is))
    → T (every (λ i. every q (changes τ i.kind)) is)
unfolding bases_in
block_bases τ q [] t h = tt
block_bases τ q (i ∷ is) t h =
    both (every q (changes τ i.kind)) (every (λ i. every q (changes τ i.kind)) is)
    (base_changes τ q i.kind (both_l (typed τ i.kind) (every (λ i. typed τ i.kind) is) t) (every_l q (aggregate_base τ (store_base i.kind)) (bases_in τ is) h))
    (block_bases τ q is (both_r (typed τ i.kind) (every (λ i. typed τ i.kind) is) t) (every_r q (aggregate_base τ (store_base i.kind)) (bases_in τ is) h))

-- ---- the tests, block by block

-- what the tests say of each block
goods : {A : Type 0} (κ : Ctx A) (bs : List Block) → T (every (λ k. below κ.m k.instructions) bs)
    → T (every (λ k. every (λ v. ltb v.0 κ.m) (terminator_reads k.terminator)) bs)
    → T (every (λ k. once (behind_phis k.instructions)) bs) → T (every (λ k. no_phi (behind_phis k.instructions)) bs)
    → T (every (λ k. every (λ i. typed κ.types i.kind) (behind_phis k.instructions)) bs)
    → T (every (λ k. ordered κ.mean.debug (behind_phis k.instructions)) bs) → T (every (λ k. apart κ.sb (behind_phis k.instructions)) bs)
    → T (every (λ k. every (λ i. shallow κ.dr i.kind) (behind_phis k.instructions)) bs)
    → T (every (λ v. κ.sb v.0) (bases κ.types bs)) → Each (BlockGood κ) bs
unfolding bases
goods κ [] a b c d e f g h i = tt
goods κ (k ∷ ks) a b c d e f g h i =
    let is = behind_phis k.instructions in
    let ty : T (every (λ i. typed κ.types i.kind) is) = both_l (every (λ i. typed κ.types i.kind) is) _ e in (
      record {
        low = both_l (below κ.m k.instructions) _ a;
        phis_first = both_l (no_phi is) _ d;
        good = record {
          order = both_l (ordered κ.mean.debug is) _ f;
          single = both_l (once is) _ c;
          low = below_behind κ.m k.instructions (both_l (below κ.m k.instructions) _ a);
          low_end = both_l (every (λ v. ltb v.0 κ.m) (terminator_reads k.terminator)) _ b;
          stores = both_l (apart κ.sb is) _ g;
          bases = block_bases κ.types (λ v. κ.sb v.0) is ty (every_l (λ v. κ.sb v.0) (bases_in κ.types is) (bases κ.types ks) i);
          types = ty;
          deeps = both_l (every (λ i. shallow κ.dr i.kind) is) _ h;
        };
      },
      goods κ ks (both_r (below κ.m k.instructions) _ a) (both_r (every (λ v. ltb v.0 κ.m) (terminator_reads k.terminator)) _ b) (both_r (once is) _ c) (both_r (no_phi is) _ d)
          (both_r (every (λ i. typed κ.types i.kind) is) _ e) (both_r (ordered κ.mean.debug is) _ f) (both_r (apart κ.sb is) _ g) (both_r (every (λ i. shallow κ.dr i.kind) is) _ h)
          (every_r (λ v. κ.sb v.0) (bases_in κ.types is) (bases κ.types ks) i),
    )

-- and of each that came out
cleans : {A : Type 0} (κ : Ctx A) (bs : List Block) → T (every (λ k. clean κ.mean.debug κ.dr k.instructions) bs)
    → T (every (λ k. clean_terminator κ.dr k.terminator) bs) → Each (BlockClean κ) bs
cleans κ [] a b = tt
cleans κ (k ∷ ks) a b = (
  record { reads = both_l (clean κ.mean.debug κ.dr k.instructions) _ a; ends = both_l (clean_terminator κ.dr k.terminator) _ b },
  cleans κ ks (both_r (clean κ.mean.debug κ.dr k.instructions) _ a) (both_r (clean_terminator κ.dr k.terminator) _ b),
)

-- ---- the recorded types of the rewritten routine

-- recorded types below next stay
pub get_front : (l more : List (Option TypeId)) (k : ℕ) → T (ltb k (length l)) → get_or l k none ≡ get_or (l ++ more) k none
get_front [] more k t = absurd (not-suc-le-zero (ltb→lt k 0 t))
get_front (x ∷ l) more zero t = refl
get_front (x ∷ l) more (suc k) t = get_front l more k (lt→ltb k (length l) (le_of_suc-le-suc (ltb→lt (suc k) (suc (length l)) t)))

-- the next one is the first fresh number's
get_next : (l : List (Option TypeId)) (t : TypeId) (more : List (Option TypeId)) → get_or (l ++ (some t ∷ more)) (length l) none ≡ some t
get_next [] t more = refl
get_next (x ∷ l) t more = get_next l t more

-- fresh numbers are recorded in their order
pub fresh_recorded : (τ : Types) (l : List (Option TypeId)) (ts : List TypeId) → Recorded (retyped τ (l ++ map some ts)) (length l) ts
unfolding recorded_type
fresh_recorded τ l [] = tt
fresh_recorded τ l (t ∷ ts) =
    (get_next l t (map some ts), rw (append_assoc l (some t ∷ []) (map some ts)) at (rw (length_one l t) at (fresh_recorded τ (l ++ (some t ∷ [])) ts)))
  where
    length_one : (l : List (Option TypeId)) (t : TypeId) → length (l ++ (some t ∷ [])) ≡ suc (length l)
    length_one [] t = refl
    length_one (x ∷ l) t = ap suc (length_one l t)

-- no type has no names twice
no_fields : T (fields_once (struct_fields_of none))
unfolding fields_once struct_fields_of
no_fields = tt

-- refusal 5, of a type's number
pub names_once : (τ : Types) (t : TypeId) → T (every (λ row. fields_once (struct_fields_of (some row))) τ.rows) → T (fields_once (struct_fields_of (row_of τ (some t))))
unfolding row_of
names_once τ t h = at_row (get_elem? τ.rows t.0) refl
  where
    at_row : (o : Option MirType) → get_elem? τ.rows t.0 ≡ o → T (fields_once (struct_fields_of o))
    at_row none e = no_fields
    at_row (some row) e = every_at (λ row. fields_once (struct_fields_of (some row))) τ.rows t.0 row h e

-- ---- parameters

-- a parameter is taken alike
taking_same : {A : Type 0} (M : Meaning A) (τ : Types) (rs : List (Option TypeId)) (r : Taken A) (k k' : Val A → List (Val A) → Trace A)
    → ((y : Val A) (w : List (Val A)) → Fine (k y w) → k y w ≡ k' y w) → Fine (taking M τ r k) → taking M τ r k ≡ taking M (retyped τ rs) r k'
unfolding taking
taking_same M τ rs (took y w) k k' h f = h y w f
taking_same M τ rs refuses k k' h f = refl
taking_same M τ rs exhausted k k' h f = refl

-- one too large is so in both
held : {A : Type 0} (b : Bool) (s p q : Trace A) → Fine (cond b s p) → (Fine p → p ≡ q) → cond b s p ≡ cond b s q
held true s p q f h = refl
held false s p q f h = h f

-- all of them
parameters_same : {A : Type 0} (κ : Ctx A) (ps : List ValueId) (w : List (Val A)) (E : Env A) (k k' : Env A → List (Val A) → Trace A)
    → T (every (λ v. ltb v.0 κ.m) ps) → ((E : Env A) (w : List (Val A)) → Fine (k E w) → k E w ≡ k' E w)
    → Fine (take_all κ.mean κ.types ps w E k) → take_all κ.mean κ.types ps w E k ≡ take_all κ.mean (retyped κ.types κ.later) ps w E k'
unfolding take_all
parameters_same κ [] w E k k' t h f = h E w f
parameters_same κ (p ∷ ps) w E k k' t h f =
    rw (← (κ.alike p (both_l (ltb p.0 κ.m) (every (λ v. ltb v.0 κ.m) ps) t)))
    (held (κ.mean.large κ.types.rows (recorded_type κ.types p)) _ _ _ f (λ f''.
    taking_same κ.mean κ.types κ.later (κ.mean.take κ.types.rows (recorded_type κ.types p) w) _ _
    (λ y w' f'. parameters_same κ ps w' (write E p y) k k' (both_r (ltb p.0 κ.m) (every (λ v. ltb v.0 κ.m) ps) t) h f') f''))

-- ---- the theorem

-- what stays the same, of a routine
unfoldable context : {A : Type 0} (M : Meaning A) (σ : Settings) (c : Choice) (r : Routine) → Static M.debug σ c r → Ctx A
unfolding types_in recorded_type
context M σ c r s =
    record {
      mean = M;
      set = σ;
      types = types_in r;
      later = r.recorded ++ map some (rewritten_by σ c r).fresh;
      m = r.next;
      dr = λ x. among x (rewritten_by σ c r).dropped;
      sb = λ x. among x (bases (types_in r) r.blocks);
      alike = λ v t. get_front r.recorded (map some (rewritten_by σ c r).fresh) v.0 (rw s.recorded t);
      names = λ t. names_once (types_in r) t s.fields;
    }

-- what came out of the blocks passes its tests
output_ok : {A : Type 0} (M : Meaning A) (σ : Settings) (c : Choice) (r : Routine) (s : Static M.debug σ c r)
    → RewrittenOk (context M σ c r s) r.next (all_blocks σ (types_in r) c r.next r.blocks)
unfolding context rewritten_by types_in
output_ok M σ c r s =
    let κ = context M σ c r s in
    let q = rewritten_by σ c r in
    record {
      cleans = cleans κ q.blocks s.clean s.clean_ends;
      drops = all_among κ.dr q.dropped (λ x h. h);
      fresh = rw s.recorded at (fresh_recorded (types_in r) r.recorded q.fresh);
    }

-- the original's blocks pass their tests
input_ok : {A : Type 0} (M : Meaning A) (σ : Settings) (c : Choice) (r : Routine) (s : Static M.debug σ c r)
    → Each (BlockGood (context M σ c r s)) r.blocks
unfolding context
input_ok M σ c r s =
    let κ = context M σ c r s in
    goods κ r.blocks s.below s.below_ends s.once s.phis_first s.typed s.ordered s.apart s.shallow (all_among κ.sb (bases (types_in r) r.blocks) (λ x h. h))

-- THE THEOREM: for every meaning, every choice, every outside list and every n
pub simulates : {A : Type 0} (M : Meaning A) (σ : Settings) (c : Choice) (r : Routine) → Static M.debug σ c r
    → (w : List (Val A)) (n : ℕ) → Fine (run M r w n) → run M r w n ≡ run M (rewritten σ c r) w n
unfolding run rewritten rewrite_with context types_in rewritten_by
simulates M σ c r s w n f =
    let κ = context M σ c r s in
    parameters_same κ r.parameters w none_written _ _ s.parameters
    (λ E w' f'. blocks_sim κ r.blocks (rewritten_by σ c r).blocks (pairs κ c r.blocks r.next (le_refl r.next) (input_ok M σ c r s) (output_ok M σ c r s)) n none r.entry E E w' [] (λ x lo nd. refl) f') f

-- the same as one statement of two routines
pub runs_alike : {A : Type 0} (M : Meaning A) (σ : Settings) (c : Choice) (r : Routine) → Static M.debug σ c r → RunsAlike M r (rewritten σ c r)
unfolding RunsAlike
runs_alike M σ c r s = simulates M σ c r s

-- and of the choice that the Rust makes: the rewriting of demand 2
pub rust_choice : (σ : Settings) (r : Routine) → rewritten σ (choice σ r) r ≡ rewrite σ r
unfolding rewritten rewrite rewritten_blocks
rust_choice σ r = refl

-- so the pass simulates
pub pass_simulates : {A : Type 0} (M : Meaning A) (σ : Settings) (r : Routine) → Static M.debug σ (choice σ r) r → RunsAlike M r (rewrite σ r)
pass_simulates M σ r s = rw (rust_choice σ r) at (runs_alike M σ (choice σ r) r s)

-- the pass, on document 01's own machine: any operations, Debug recorded
pub document_simulates : {A : Type 0} (O : Operations A) (σ : Settings) (r : Routine) → Static with_debug σ (choice σ r) r → RunsAlike (document01 O) r (rewrite σ r)
document_simulates O σ r s = pass_simulates (document01 O) σ r s
