-- Edition 2: rebuilds to any depth, the parts before the whole.
use mathlib.Core.Path.{◌≡◌, refl, ap, ◌∙◌}
use Prim.Native.Nat.{ℕ, zero, suc, ◌+◌, ◌≤◌}
use mathlib.Core.Bool.{false}
use mathlib.Core.Option.{Option, none, some}
use mathlib.Core.List.{List, [], ◌∷◌, ◌++◌}
use native.Mathlib.Omega.{arith}
use lib.Dec.{T, ltb}
use lib.ListN.{length, take, replicate}
use Rattle.mir.specs.declared.TypeId.{TypeId}
use Rattle.mir.specs.declared.Value.{Value}
use Rattle.mir.specs.MirType.{MirType}
use Rattle.mir.specs.MirType as Y
use Rattle.mir.specs.Syntax.{Instruction}
use Rattle.mir.specs.Reads.{operands}
use Rattle.mir.specs.Lookup.{Types, row_of, recorded_type, on_some}
use Rattle.fold.specs.Family.{Marks}
use Rattle.rewrite.specs.declared.Fault.{Fault}
use Rattle.rewrite.specs.State.{AggStates, state_of}
use Rattle.rewrite.specs.Rebuild.{Rebuilt, rebuild_at, keep_value, rebuild_value, one_value, Wanted, rebuild_all, aggregate_type, return_type}
use Rattle.rewrite.specs.Deep.{own_type, wanted_own, kept_parts, begun, Inner, whole_then, deep_value, deep_values, deep_all, rebuild_deep}
use Rattle.machine.specs.Records.{Env}
use Rattle.mir.specs.Parts.{part_count}
use Rattle.shelf.specs.Lists.{every}
use Rattle.shelf.specs.Fits.{fits}
use Rattle.shelf.specs.Reads.{clean}
use Rattle.machine_simulation.proofs.Tools.{none_some}
use Rattle.machine_simulation.proofs.Frame.{test_rest}
use Rattle.machine_simulation.proofs.Retype.{retyped}
use Rattle.machine_simulation.proofs.Invariant.{numbered, Ctx, Tracks, Agree}
use Rattle.machine_simulation.proofs.Generic.{Recorded, recorded_l, recorded_r, clean_l, clean_r}
use Rattle.machine_simulation.proofs.Cases.{seen, see, fits_type}
use Rattle.machine_simulation.proofs.Rebuilds.{wanted_values, AtOwn, Ran, ran, stays_then, whole_ran, rebuilt, type_own, aggregate_own, some_inj}

-- ---- as many values as are asked for

-- the values asked for are the values
pub own_values : (τ : Types) (xs : List Value) → wanted_values (wanted_own τ xs) ≡ xs
unfolding wanted_own
own_values τ [] = refl
own_values τ (x ∷ xs) = ap (λ (l : List Value). x ∷ l) (own_values τ xs)

-- each is rebuilt at its own type
own_found : (τ : Types) (x : Value) (t : TypeId) (o : Option TypeId) → return_type τ x ≡ o → on_some o (aggregate_type τ) ≡ some t → T (fits τ x (some t))
unfolding on_some
own_found τ x t none q e = absurd (none_some e)
own_found τ x t (some u) q e = type_own τ x t (q ∙ ap {B = Option TypeId} some (aggregate_own τ u t e))

-- where it has one
own_fits : (τ : Types) (x : Value) (t : TypeId) → own_type τ x ≡ some t → T (fits τ x (some t))
unfolding own_type
own_fits τ x t e = own_found τ x t (return_type τ x) refl e

-- each of them
pub own_own : (τ : Types) (S : AggStates) (xs : List Value) → AtOwn τ S (wanted_own τ xs)
unfolding wanted_own
own_own τ S [] = tt
own_own τ S (x ∷ xs) = (λ ys t a b. own_fits τ x t b, own_own τ S xs)

-- one value comes out as one
one_length : (τ : Types) (n : ℕ) (x : Value) (k : ℕ) (rest : ℕ → Rebuilt) → ((j : ℕ) → length (rest j).values ≡ k) → (o : Option TypeId) (s : Option (List Value))
    → length (one_value τ n x rest o s).values ≡ suc k
unfolding one_value keep_value rebuild_value
one_length τ n x k rest h none s = ap suc (h n)
one_length τ n x k rest h (some t) none = ap suc (h n)
one_length τ n x k rest h (some t) (some xs) = ap suc (h (suc n))

-- as flat rebuilds
pub flat_length : (τ : Types) (S : AggStates) (n : ℕ) (ws : List Wanted) → length (rebuild_all τ S n ws).values ≡ length ws
unfolding rebuild_all
flat_length τ S n [] = refl
flat_length τ S n (w ∷ ws) = one_length τ n w.value (length ws) (λ m. rebuild_all τ S m ws) (λ m. flat_length τ S m ws) w.at (state_of S w.value)

-- one value with its parts before it
deep_one_length : (τ : Types) (path : Marks) (inner : Inner) (n : ℕ) (x : Value) (k : ℕ) (rest : ℕ → Rebuilt) → ((j : ℕ) → length (rest j).values ≡ k)
    → (o : Option TypeId) (s : Option (List Value)) → length (deep_value τ path inner n x rest o s).values ≡ suc k
unfolding deep_value keep_value whole_then
deep_one_length τ path inner n x k rest h none s = ap suc (h n)
deep_one_length τ path inner n x k rest h (some t) none = ap suc (h n)
deep_one_length τ path inner n x k rest h (some t) (some xs) = ap suc (h _)

-- values in order
deep_values_length : (τ : Types) (S : AggStates) (path : Marks) (inner : Inner) (n : ℕ) (ws : List Wanted)
    → length (deep_values τ S path inner n ws).values ≡ length ws
unfolding deep_values
deep_values_length τ S path inner n [] = refl
deep_values_length τ S path inner n (w ∷ ws) =
    deep_one_length τ path inner n w.value (length ws) (λ m. deep_values τ S path inner m ws) (λ m. deep_values_length τ S path inner m ws) w.at (state_of S w.value)

-- to any depth
pub deep_length : (τ : Types) (S : AggStates) (k : ℕ) (path : Marks) (n : ℕ) (ws : List Wanted) → length (deep_all τ S k path n ws).values ≡ length ws
unfolding deep_all
deep_length τ S zero path n ws = flat_length τ S n ws
deep_length τ S (suc k) path n ws = deep_values_length τ S path (λ x. deep_all τ S k (begun path x)) n ws

-- as many are asked for as there are values
own_length : (τ : Types) (xs : List Value) → length (wanted_own τ xs) ≡ length xs
unfolding wanted_own
own_length τ [] = refl
own_length τ (x ∷ xs) = ap suc (own_length τ xs)

-- ---- at its own type a value keeps all its parts

-- as many as there are
take_all : (xs : List Value) (k : ℕ) → k ≡ length xs → take k xs ≡ xs
take_all xs k e = rw e (all xs)
  where
    all : (xs : List Value) → take (length xs) xs ≡ xs
    all [] = refl
    all (x ∷ xs) = ap (λ (l : List Value). x ∷ l) (all xs)

-- by the row of the type
pub kept_same : (row : Option MirType) (xs : List Value) → part_count row ≡ some (length xs) → kept_parts row xs ≡ xs
unfolding kept_parts part_count
kept_same none xs e = refl
kept_same (some Y.Felt) xs e = refl
kept_same (some Y.Bool) xs e = refl
kept_same (some Y.U32) xs e = refl
kept_same (some (Y.Tuple ts)) xs e = take_all xs (length ts) (some_inj (length ts) (length xs) e)
kept_same (some (Y.Struct n fs)) xs e = take_all xs (length fs) (some_inj (length fs) (length xs) e)
kept_same (some (Y.FixedArray q size)) xs e = refl
kept_same (some (Y.Pointer q)) xs e = refl
kept_same (some (Y.Function ps r)) xs e = refl
kept_same (some Y.Unit) xs e = refl
kept_same (some Y.Error) xs e = refl
kept_same (some Y.Unknown) xs e = refl

-- ---- the rebuild lemma, to any depth

-- what rebuilds from any number on give, of the values xs
abbrev RanOf : {A : Type 0} → Ctx A → Env A → List Value → (ℕ → Rebuilt) → Type 0
RanOf {A} κ E xs f = (n : ℕ) (F : Env A) → κ.m ≤ n → Agree κ E F → T (every (λ v. ltb v.0 κ.m) (operands xs))
    → T (clean κ.mean.debug κ.dr (f n).before) → Recorded (retyped κ.types κ.later) n (f n).fresh → Ran κ n xs (f n) E F

-- how the parts of values are rebuilt
pub record InnerRan {A : Type 0} (κ : Ctx A) (E : Env A) (inner : Inner) : Type 0 where
  pub runs : (x : Value) (xs : List Value) → RanOf κ E xs (λ n. inner x n (wanted_own κ.types xs))
  pub many : (x : Value) (xs : List Value) (n : ℕ) → length (inner x n (wanted_own κ.types xs)).values ≡ length xs

-- one value with its parts, in front of others
deep_go : {A : Type 0} (κ : Ctx A) (S : AggStates) (E : Env A) (is : List Instruction) (path : Marks) (inner : Inner) (x : Value) (vs : List Value) (rest : ℕ → Rebuilt)
    → Tracks κ S E is → InnerRan κ E inner → RanOf κ E vs rest
    → (n : ℕ) (F : Env A) → κ.m ≤ n → Agree κ E F → T (every (λ v. ltb v.0 κ.m) (operands (x ∷ vs)))
    → (o : Option TypeId) (s : Option (List Value)) → state_of S x ≡ s
    → ((xs : List Value) (t : TypeId) → state_of S x ≡ some xs → o ≡ some t → T (fits κ.types x (some t)))
    → T (clean κ.mean.debug κ.dr (deep_value κ.types path inner n x rest o s).before)
    → Recorded (retyped κ.types κ.later) n (deep_value κ.types path inner n x rest o s).fresh
    → Ran κ n (x ∷ vs) (deep_value κ.types path inner n x rest o s) E F
unfolding deep_value whole_then keep_value
deep_go κ S E is path inner x vs rest tk hi ih n F le ag lo none s e hc cl rc =
    stays_then κ E x vs (rest n) n F le ag lo (ih n F le ag (test_rest (λ v. ltb v.0 κ.m) x (operands vs) lo) cl rc)
deep_go κ S E is path inner x vs rest tk hi ih n F le ag lo (some t) none e hc cl rc =
    stays_then κ E x vs (rest n) n F le ag lo (ih n F le ag (test_rest (λ v. ltb v.0 κ.m) x (operands vs) lo) cl rc)
deep_go κ S E is path inner x vs rest tk hi ih n F le ag lo (some t) (some xs) e hc cl rc =
    let τ : Types = κ.types in
    let fx = hc xs t e refl in
    elim (see κ S E is tk x xs e) [
      | seen v xe z ↦
          let te : recorded_type τ v ≡ some t = fits_type τ v (some t) (rw xe at fx) in
          let ks : kept_parts (row_of τ (some t)) xs ≡ xs = kept_same (row_of τ (some t)) xs (rw te at z.shape.sized) in
          with_parts κ S E is x xs t vs rest tk ih n F le ag lo e fx (inner x n (wanted_own τ (kept_parts (row_of τ (some t)) xs)))
          (rw ks (hi.many x xs n)) (rw ks (λ cp rp. hi.runs x xs n F le ag z.parts.low cp rp)) _ cl rc
    ]
  where
    with_parts : {A : Type 0} (κ : Ctx A) (S : AggStates) (E : Env A) (is : List Instruction) (x : Value) (xs : List Value) (t : TypeId) (vs : List Value) (rest : ℕ → Rebuilt)
        → Tracks κ S E is → RanOf κ E vs rest → (n : ℕ) (F : Env A) → κ.m ≤ n → Agree κ E F → T (every (λ v. ltb v.0 κ.m) (operands (x ∷ vs)))
        → state_of S x ≡ some xs → T (fits κ.types x (some t)) → (p : Rebuilt) → length p.values ≡ length xs
        → (T (clean κ.mean.debug κ.dr p.before) → Recorded (retyped κ.types κ.later) n p.fresh → Ran κ n xs p E F)
        → (fault : ℕ → Option Fault)
        → T (clean κ.mean.debug κ.dr (p.before ++ (rebuild_at (numbered (n + length p.fresh)) p.values t (row_of κ.types (some t)) ++ (rest (suc (n + length p.fresh))).before)))
        → Recorded (retyped κ.types κ.later) n (p.fresh ++ (t ∷ (rest (suc (n + length p.fresh))).fresh))
        → Ran κ n (x ∷ vs) (record {
          before = p.before ++ (rebuild_at (numbered (n + length p.fresh)) p.values t (row_of κ.types (some t)) ++ (rest (suc (n + length p.fresh))).before);
          values = Value.Operand (numbered (n + length p.fresh)) ∷ (rest (suc (n + length p.fresh))).values;
          fresh = p.fresh ++ (t ∷ (rest (suc (n + length p.fresh))).fresh);
          fault = fault;
        }) E F
    with_parts κ S E is x xs t vs rest tk ih n F le ag lo e fx p many runs fault cl rc =
        let m = n + length p.fresh in
        let r = rest (suc m) in
        let mk : List Instruction = rebuild_at (numbered m) p.values t (row_of κ.types (some t)) in
        let c2 = clean_r κ.mean.debug κ.dr p.before (mk ++ r.before) cl in
        let rm = recorded_r (retyped κ.types κ.later) n p.fresh (t ∷ r.fresh) rc in
        elim (runs (clean_l κ.mean.debug κ.dr p.before (mk ++ r.before) cl) (recorded_l (retyped κ.types κ.later) n p.fresh (t ∷ r.fresh) rc)) [
          | ran G sm tw rn ↦
              whole_ran κ S E is x xs t n m p.values p.before vs r F G tk e fx (omega arith) le ag lo many (clean_l κ.mean.debug κ.dr mk r.before c2) rm.0
              sm tw rn (λ F' ag'. ih (suc m) F' (omega arith) ag' (test_rest (λ v. ltb v.0 κ.m) x (operands vs) lo) (clean_r κ.mean.debug κ.dr mk r.before c2) rm.1) _ fault
        ]

-- values in order
values_ran : {A : Type 0} (κ : Ctx A) (S : AggStates) (E : Env A) (is : List Instruction) (path : Marks) (inner : Inner)
    → Tracks κ S E is → InnerRan κ E inner → (ws : List Wanted) → AtOwn κ.types S ws → RanOf κ E (wanted_values ws) (λ n. deep_values κ.types S path inner n ws)
unfolding deep_values
values_ran κ S E is path inner tk hi [] cs n F le ag lo cl rc = ran F (λ x lx. refl) (λ cv. tt) (λ rest t w rec. refl)
values_ran κ S E is path inner tk hi (x ∷ ws) cs n F le ag lo cl rc =
    deep_go κ S E is path inner x.value (wanted_values ws) (λ m. deep_values κ.types S path inner m ws) tk hi (values_ran κ S E is path inner tk hi ws cs.1)
    n F le ag lo x.at (state_of S x.value) refl cs.0 cl rc

-- to any depth
pub deep_ran : {A : Type 0} (κ : Ctx A) (S : AggStates) (E : Env A) (is : List Instruction) → Tracks κ S E is → (k : ℕ) (path : Marks) (ws : List Wanted)
    → AtOwn κ.types S ws → RanOf κ E (wanted_values ws) (λ n. deep_all κ.types S k path n ws)
unfolding deep_all
deep_ran κ S E is tk zero path ws cs n F le ag lo cl rc = rebuilt κ S E is tk ws cs n F le ag lo cl rc
deep_ran κ S E is tk (suc k) path ws cs n F le ag lo cl rc =
    values_ran κ S E is path (λ x. deep_all κ.types S k (begun path x)) tk
    (record {
      runs = λ x xs j F' le' ag' lo' cl' rc'. rw (own_values κ.types xs) at (deep_ran κ S E is tk k (begun path x) (wanted_own κ.types xs) (own_own κ.types S xs) j F' le' ag' (rw (own_values κ.types xs) lo') cl' rc');
      many = λ x xs j. deep_length κ.types S k (begun path x) j (wanted_own κ.types xs) ∙ own_length κ.types xs;
    }) ws cs n F le ag lo cl rc

-- the readings of an instruction, or the values of a Return
pub deep_rebuilt : {A : Type 0} (κ : Ctx A) (S : AggStates) (E : Env A) (is : List Instruction) → Tracks κ S E is → (xs : List Value)
    → RanOf κ E xs (λ n. rebuild_deep κ.types S n (wanted_own κ.types xs))
unfolding rebuild_deep
deep_rebuilt κ S E is tk xs n F le ag lo cl rc =
    rw (own_values κ.types xs) at (deep_ran κ S E is tk (suc (length κ.types.recorded)) (replicate (length κ.types.recorded) false) (wanted_own κ.types xs) (own_own κ.types S xs) n F le ag (rw (own_values κ.types xs) lo) cl rc)

-- they come out as many
pub deep_many : (τ : Types) (S : AggStates) (n : ℕ) (xs : List Value) → length (rebuild_deep τ S n (wanted_own τ xs)).values ≡ length xs
unfolding rebuild_deep
deep_many τ S n xs = deep_length τ S (suc (length τ.recorded)) (replicate (length τ.recorded) false) n (wanted_own τ xs) ∙ own_length τ xs
