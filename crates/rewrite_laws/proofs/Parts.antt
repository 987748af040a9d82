-- The parts that are tracked are values of the input: they fit, and there are at most as many as a list may have.
use Prim.Native.Nat.{ℕ, zero, suc}
use mathlib.Core.Path.{◌≡◌, refl, ap}
use mathlib.Core.List.{List, [], ◌∷◌}
use mathlib.Core.Bool.{Bool, true, false, cond}
use mathlib.Core.Option.{Option, none, some, none-ne-some}
use native.Mathlib.Omega.{arith}
use lib.Dec.{eqb}
use lib.ListN.{length, get_elem?}
use Rattle.bytes_wire.specs.WellFormed.{FitValue}
use Rattle.mir.specs.declared.ValueId.{ValueId}
use Rattle.mir.specs.declared.NameId.{NameId}
use Rattle.mir.specs.declared.Value.{Value}
use Rattle.mir.specs.MirType.{StructField}
use Rattle.mir.specs.declared.Projection.{Projection}
use Rattle.mir.specs.Syntax.{Place, FieldInit}
use Rattle.bytes_field.specs.declared.Bounds.{Bounds}
use Rattle.bytes_laws.specs.WellFormed.{FitList, FitInit}
use Rattle.mir.specs.Lists.{Each}
use Rattle.mir.specs.Lookup.{Types, on_some}
use Rattle.mir.specs.Parts.{given, cons_part, from_struct_fields}
use Rattle.rewrite.specs.State.{AggStates, no_states, insert_state, state_of, cons_some, replaced, step_index, step_part, chain, first_integer, store_part, store_last, store_deeper, store_from, forward_store}

-- parts that fit
abbrev pub Parts : ℕ → ℕ → List Value → Type 0
Parts most next xs = FitList most (FitValue next) xs

-- all tracked parts do
abbrev pub FitStates : ℕ → ℕ → AggStates → Type 0
FitStates most next S = (v : ℕ) (xs : List Value) → S v ≡ some xs → Parts most next xs

-- where an option has something, it is so
abbrev pub Holds : {A : Type 0} → (A → Type 0) → Option A → Type 0
Holds P none = Unit {0}
Holds P (some a) = P a

pub holds_at : {A : Type 0} (P : A → Type 0) (o : Option A) → ((a : A) → o ≡ some a → P a) → Holds P o
holds_at P none f = tt
holds_at P (some a) f = f a refl

pub holds_some : {A : Type 0} (P : A → Type 0) (o : Option A) (a : A) → Holds P o → o ≡ some a → P a
holds_some P none a h e = absurd (no e)
  where
    no : none ≡ some a → ⊥
    no e = none-ne-some a e
holds_some P (some x) a h e = rw (inj e) at h
  where
    inj : some x ≡ some a → x ≡ a
    inj e = cc

module _ (most next : ℕ) where
  abbrev fit : Value → Type 0
  fit x = FitValue next x

  pub no_states_lem : FitStates most next no_states
  unfolding no_states
  no_states_lem v xs e = absurd (none-ne-some xs e)

  pub insert_fit : (S : AggStates) (d : ValueId) (xs : List Value) → FitStates most next S → Parts most next xs → FitStates most next (insert_state S d xs)
  unfolding insert_state
  insert_fit S d xs h p v ys e = at (eqb v d.0) e
    where
      at : (b : Bool) → cond b (some xs) (S v) ≡ some ys → Parts most next ys
      at true e = holds_some (Parts most next) (some xs) ys p e
      at false e = h v ys e

  pub state_fit : (S : AggStates) (x : Value) → FitStates most next S → Holds (Parts most next) (state_of S x)
  unfolding state_of
  state_fit S (Value.Literal l) h = tt
  state_fit S (Value.Operand v) h = holds_at (Parts most next) (S v.0) (h v.0)
  state_fit S Value.Error h = tt

  pub on_some_lem : {A B : Type 0} (P : A → Type 0) (Q : B → Type 0) (o : Option A) (f : A → Option B) → Holds P o → ((a : A) → P a → Holds Q (f a)) → Holds Q (on_some o f)
  unfolding on_some
  on_some_lem P Q none f h g = tt
  on_some_lem P Q (some a) f h g = g a h

  -- any option
  abbrev pub Any : {A : Type 0} → A → Type 0
  Any a = Unit {0}

  pub holds_any : {A : Type 0} (o : Option A) → Holds Any o
  holds_any none = tt
  holds_any (some a) = tt

  pub element_fit : (xs : List Value) (k : ℕ) → Each fit xs → Holds fit (get_elem? xs k)
  element_fit [] k h = tt
  element_fit (x ∷ xs) zero h = h.0
  element_fit (x ∷ xs) (suc k) h = element_fit xs k h.1

  cons_some_lem : (x : Value) (k : ℕ) (o : Option (List Value)) → fit x → Holds (λ ys. (length ys ≡ k) × Each fit ys) o → Holds (λ ys. (length ys ≡ suc k) × Each fit ys) (cons_some x o)
  unfolding cons_some
  cons_some_lem x k none p h = tt
  cons_some_lem x k (some ys) p h = (ap (λ n. suc n) h.0, (p, h.1))

  replaced_each : (xs : List Value) (k : ℕ) (y : Value) → Each fit xs → fit y → Holds (λ ys. (length ys ≡ length xs) × Each fit ys) (replaced xs k y)
  unfolding replaced
  replaced_each [] k y h p = tt
  replaced_each (x ∷ xs) zero y h p = (refl, (p, h.1))
  replaced_each (x ∷ xs) (suc k) y h p = cons_some_lem x (length xs) (replaced xs k y) h.0 (replaced_each xs k y h.1 p)

  pub replaced_fit : (xs : List Value) (k : ℕ) (y : Value) → Parts most next xs → fit y → Holds (Parts most next) (replaced xs k y)
  replaced_fit xs k y h p = weaken (replaced xs k y) (replaced_each xs k y h.1 p)
    where
      weaken : (o : Option (List Value)) → Holds (λ ys. (length ys ≡ length xs) × Each fit ys) o → Holds (Parts most next) o
      weaken none q = tt
      weaken (some ys) q = (omega (arith, h.0, q.0), q.1)

  module _ (τ : Types) (S : AggStates) (h : FitStates most next S) where
    part_fit : (x : Value) (p : Projection) → Holds fit (step_part τ S x p)
    unfolding step_part
    part_fit (Value.Literal l) p = tt
    part_fit (Value.Operand v) p =
        on_some_lem Any fit (step_index τ v p) (λ k. on_some (S v.0) (λ xs. get_elem? xs k)) (holds_any (step_index τ v p))
        (λ k a. on_some_lem (Parts most next) fit (S v.0) (λ xs. get_elem? xs k) (holds_at (Parts most next) (S v.0) (h v.0)) (λ xs q. element_fit xs k q.1))
    part_fit Value.Error p = tt

    pub chain_fit : (x : Value) (ps : List Projection) → fit x → Holds fit (chain τ S x ps)
    unfolding chain
    chain_fit x [] q = q
    chain_fit x (p ∷ ps) q = on_some_lem fit fit (step_part τ S x p) (λ y. chain τ S y ps) (part_fit x p) (λ y r. chain_fit y ps r)

    store_part_lem : (v : ValueId) (k : ℕ) (y : Value) → fit y → Holds (FitStates most next) (store_part S v k y)
    unfolding store_part
    store_part_lem v k y q =
        on_some_lem (Parts most next) (FitStates most next) (S v.0) (λ xs. on_some (replaced xs k y) (λ ys. some (insert_state S v ys))) (holds_at (Parts most next) (S v.0) (h v.0))
        (λ xs r. on_some_lem (Parts most next) (FitStates most next) (replaced xs k y) (λ ys. some (insert_state S v ys)) (replaced_fit xs k y r q) (λ ys u. insert_fit S v ys h u))

    store_last_lem : (x : Value) (p : Projection) (y : Value) → fit y → Holds (FitStates most next) (store_last τ S x p y)
    unfolding store_last
    store_last_lem (Value.Literal l) p y q = tt
    store_last_lem (Value.Operand v) p y q = on_some_lem Any (FitStates most next) (step_index τ v p) (λ k. store_part S v k y) (holds_any (step_index τ v p)) (λ k a. store_part_lem v k y q)
    store_last_lem Value.Error p y q = tt

    store_deeper_lem : (x : Value) (ps : List Projection) (y : Value) → fit y → Holds (FitStates most next) (store_deeper τ S x ps y)
    unfolding store_deeper
    store_deeper_lem x [] y q = tt
    store_deeper_lem x (p ∷ []) y q = store_last_lem x p y q
    store_deeper_lem x (p ∷ r ∷ ps) y q = on_some_lem fit (FitStates most next) (step_part τ S x p) (λ z. store_deeper τ S z (r ∷ ps) y) (part_fit x p) (λ z u. store_deeper_lem z (r ∷ ps) y q)

    store_from_lem : (v : ValueId) (ps : List Projection) (y : Value) (k : ℕ) → fit y → Holds (FitStates most next) (store_from τ S v ps y k)
    unfolding store_from
    store_from_lem v [] y k q = tt
    store_from_lem v (p ∷ []) y k q = store_part_lem v k y q
    store_from_lem v (p ∷ r ∷ ps) y k q =
        on_some_lem (Parts most next) (FitStates most next) (S v.0) (λ xs. on_some (get_elem? xs k) (λ x. store_deeper τ S x (r ∷ ps) y)) (holds_at (Parts most next) (S v.0) (h v.0))
        (λ xs u. on_some_lem fit (FitStates most next) (get_elem? xs k) (λ x. store_deeper τ S x (r ∷ ps) y) (element_fit xs k u.1) (λ x z. store_deeper_lem x (r ∷ ps) y q))

    pub forward_fit : (p : Place) (y : Value) → fit y → Holds (FitStates most next) (forward_store τ S p y)
    unfolding forward_store
    forward_fit p y q = on_some_lem Any (FitStates most next) (first_integer p.projections) (λ k. store_from τ S p.base p.projections y k) (holds_any (first_integer p.projections)) (λ k a. store_from_lem p.base p.projections y k q)

-- the parts of a struct build
module _ (b : Bounds) where
  given_fit : (n : NameId) (fs : List FieldInit) → Each (FitInit b) fs → Holds (FitValue b.next) (given n fs)
  unfolding given
  given_fit n [] h = tt
  given_fit n (f ∷ fs) h = at (eqb f.name.0 n.0) (given_fit n fs h.1)
    where
      at : (x : Bool) → Holds (FitValue b.next) (given n fs) → Holds (FitValue b.next) (cond x (some f.value) (given n fs))
      at true g = h.0.1
      at false g = g

  cons_part_lem : (k : ℕ) (x : Option Value) (o : Option (List Value)) → Holds (FitValue b.next) x → Holds (λ ys. (length ys ≡ k) × Each (FitValue b.next) ys) o
      → Holds (λ ys. (length ys ≡ suc k) × Each (FitValue b.next) ys) (cons_part x o)
  unfolding cons_part
  cons_part_lem k none o p h = tt
  cons_part_lem k (some x) none p h = tt
  cons_part_lem k (some x) (some ys) p h = (ap (λ n. suc n) h.0, (p, h.1))

  pub fields_fit : (fs : List FieldInit) (ts : List StructField) → Each (FitInit b) fs → Holds (λ ys. (length ys ≡ length ts) × Each (FitValue b.next) ys) (from_struct_fields fs ts)
  unfolding from_struct_fields
  fields_fit fs [] h = (refl, tt)
  fields_fit fs (t ∷ ts) h = cons_part_lem (length ts) (given t.name fs) (from_struct_fields fs ts) (given_fit t.name fs h) (fields_fit fs ts h)
