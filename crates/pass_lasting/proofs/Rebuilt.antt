-- Rebuilds agree with the types as the rewritten routine records them: flat ones, and those to any depth.
use mathlib.Core.Path.{◌≡◌, refl, sym, ◌∙◌}
use Prim.Native.Nat.{ℕ, zero, suc, ◌+◌}
use mathlib.Core.Bool.{Bool, false}
use mathlib.Core.Option.{Option, none, some}
use mathlib.Core.List.{List, [], ◌∷◌, ◌++◌}
use lib.Dec.{T, ltb}
use lib.ListN.{length, replicate}
use Rattle.mir.specs.declared.ValueId.{ValueId}
use Rattle.mir.specs.declared.TypeId.{TypeId}
use Rattle.mir.specs.declared.Value.{Value}
use Rattle.mir.specs.Syntax.{Instruction}
use Rattle.mir.specs.Reads.{operands}
use Rattle.mir.specs.Lookup.{row_of, recorded_type}
use Rattle.fold.specs.Family.{Marks}
use Rattle.rewrite.specs.declared.Fault.{Fault}
use Rattle.rewrite.specs.State.{AggStates, state_of}
use Rattle.rewrite.specs.Rebuild.{rebuild_at, Rebuilt, keep_value, rebuild_value, one_value, Wanted, rebuild_all}
use Rattle.rewrite.specs.Deep.{wanted_own, kept_parts, begun, Inner, whole_then, deep_value, deep_values, deep_all, rebuild_deep}
use Rattle.shelf.specs.Lists.{every}
use Rattle.shelf.specs.Fits.{fits}
use Rattle.shelf.specs.Agrees.{agrees}
use Rattle.machine_simulation.specs.Typing.{Whole, TypedStates}
use Rattle.machine_simulation.proofs.Tools.{both_l, none_some, every_append}
use Rattle.machine_simulation.proofs.Frame.{test_rest}
use Rattle.machine_simulation.proofs.Invariant.{numbered}
use Rattle.machine_simulation.proofs.Generic.{Recorded, recorded_l, recorded_r}
use Rattle.machine_simulation.proofs.Cases.{fits_type}
use Rattle.machine_simulation.proofs.Rebuilds.{wanted_values, AtOwn}
use Rattle.machine_simulation.proofs.Deep.{own_values, own_own, kept_same}
use Rattle.pass_lasting.proofs.Vocabulary.{AllParts, unmoved, anew, TypeTwins, Table, types_later, AgreeBefore}
use Rattle.pass_lasting.proofs.OneRebuilt.{own_twins, whole_agrees}

-- ---- values in order

-- a tracked value: an operand whose parts fit its type, and read nothing fresh
data Seen (κ : Table) (x : Value) (xs : List Value) : Type 0 where
  seen : (v : ValueId) → x ≡ Value.Operand v → Whole κ.types (recorded_type κ.types v) xs → T (every (λ u. ltb u.0 κ.m) (operands xs)) → Seen κ x xs

-- what is known of it
see : (κ : Table) (S : AggStates) → TypedStates κ.types S → AllParts (λ v. ltb v κ.m) S → (x : Value) (xs : List Value) → state_of S x ≡ some xs
    → Seen κ x xs
unfolding state_of
see κ S ts al (Value.Literal l) xs h = absurd (none_some h)
see κ S ts al (Value.Operand v) xs h = seen v refl (ts v xs h) (al v.0 xs h)
see κ S ts al Value.Error xs h = absurd (none_some h)

-- a value that stays, in front of others
stays_before : (κ : Table) (x : Value) (xs : List Value) (r : Rebuilt) → AgreeBefore κ xs r → AgreeBefore κ (x ∷ xs) (keep_value x r)
unfolding keep_value
stays_before κ x xs r a = record { builds = a.builds; twins = (unmoved x, a.twins) }

-- the type of a value below the first fresh number is recorded in both tables
low_type : (κ : Table) (v : ValueId) (vs : List ValueId) (t : TypeId) → T (every (λ u. ltb u.0 κ.m) (v ∷ vs)) → recorded_type κ.types v ≡ some t
    → recorded_type (types_later κ) v ≡ some t
low_type κ v vs t lo e = sym (κ.alike v (both_l (ltb v.0 κ.m) (every (λ u. ltb u.0 κ.m) vs) lo)) ∙ e

-- a whole rebuilt behind its parts' rebuilds, in front of what comes behind
whole_before : (κ : Table) (x : Value) (xs : List Value) (t : TypeId) (n : ℕ) (ps : List Value) (before : List Instruction) (vs : List Value) (r : Rebuilt)
    → Seen κ x xs → T (fits κ.types x (some t)) → T (every (λ v. ltb v.0 κ.m) (operands (x ∷ vs)))
    → recorded_type (types_later κ) (numbered n) ≡ some t
    → T (every (λ i. agrees (types_later κ) i.kind) before) → TypeTwins (types_later κ) xs ps → AgreeBefore κ vs r
    → (fresh : List TypeId) (fault : ℕ → Option Fault)
    → AgreeBefore κ (x ∷ vs) (record {
      before = before ++ (rebuild_at (numbered n) ps t (row_of κ.types (some t)) ++ r.before);
      values = Value.Operand (numbered n) ∷ r.values;
      fresh = fresh;
      fault = fault;
    })
whole_before κ x xs t n ps before vs r (seen v xe w low) fx lo rc bs tw a fresh fault =
    let p : Instruction → Bool = λ i. agrees (types_later κ) i.kind in
    let mk : List Instruction = rebuild_at (numbered n) ps t (row_of κ.types (some t)) in
    let te : recorded_type κ.types v ≡ some t = fits_type κ.types v (some t) (rw xe at fx) in
    record {
      builds = every_append p before (mk ++ r.before) bs (every_append p mk r.before (whole_agrees κ n t xs ps rc (rw te at w) low tw) a.builds);
      twins = (rw xe (anew v (numbered n) (rc ∙ sym (low_type κ v (operands vs) t (rw xe at lo) te))), a.twins);
    }

-- what rebuilds from any number on give, of the values xs
abbrev AgreeOf : Table → List Value → (ℕ → Rebuilt) → Type 0
AgreeOf κ xs f = T (every (λ v. ltb v.0 κ.m) (operands xs)) → (n : ℕ) → Recorded (types_later κ) n (f n).fresh → AgreeBefore κ xs (f n)

-- one value, kept or rebuilt, and the rest
rebuilt_go : (κ : Table) (S : AggStates) → TypedStates κ.types S → AllParts (λ v. ltb v κ.m) S → (x : Value) (vs : List Value) (rest : ℕ → Rebuilt)
    → AgreeOf κ vs rest → T (every (λ v. ltb v.0 κ.m) (operands (x ∷ vs))) → (n : ℕ) (o : Option TypeId) (s : Option (List Value)) → state_of S x ≡ s
    → ((xs : List Value) (t : TypeId) → state_of S x ≡ some xs → o ≡ some t → T (fits κ.types x (some t)))
    → Recorded (types_later κ) n (one_value κ.types n x rest o s).fresh → AgreeBefore κ (x ∷ vs) (one_value κ.types n x rest o s)
unfolding one_value rebuild_value keep_value
rebuilt_go κ S ts al x vs rest ih lo n none s e hc rc = stays_before κ x vs (rest n) (ih (test_rest (λ v. ltb v.0 κ.m) x (operands vs) lo) n rc)
rebuilt_go κ S ts al x vs rest ih lo n (some t) none e hc rc = stays_before κ x vs (rest n) (ih (test_rest (λ v. ltb v.0 κ.m) x (operands vs) lo) n rc)
rebuilt_go κ S ts al x vs rest ih lo n (some t) (some xs) e hc rc =
    whole_before κ x xs t n xs [] vs (rest (suc n)) (see κ S ts al x xs e) (hc xs t e refl) lo rc.0 tt (own_twins (types_later κ) xs)
    (ih (test_rest (λ v. ltb v.0 κ.m) x (operands vs) lo) (suc n) rc.1) _ _

-- flat rebuilds, each at the value's own type
pub rebuilt_agrees : (κ : Table) (S : AggStates) → TypedStates κ.types S → AllParts (λ v. ltb v κ.m) S → (ws : List Wanted)
    → AtOwn κ.types S ws → T (every (λ v. ltb v.0 κ.m) (operands (wanted_values ws))) → (n : ℕ)
    → Recorded (types_later κ) n (rebuild_all κ.types S n ws).fresh
    → AgreeBefore κ (wanted_values ws) (rebuild_all κ.types S n ws)
unfolding rebuild_all
rebuilt_agrees κ S ts al [] cs lo n rc = record { builds = tt; twins = tt }
rebuilt_agrees κ S ts al (x ∷ ws) cs lo n rc =
    rebuilt_go κ S ts al x.value (wanted_values ws) (λ k. rebuild_all κ.types S k ws) (rebuilt_agrees κ S ts al ws cs.1)
    lo n x.at (state_of S x.value) refl cs.0 rc

-- ---- to any depth

-- how the parts of values are rebuilt
abbrev InnerAgrees : Table → Inner → Type 0
InnerAgrees κ inner = (x : Value) (xs : List Value) → AgreeOf κ xs (λ n. inner x n (wanted_own κ.types xs))

-- a tracked value keeps all its parts at a type that it fits
own_kept : (κ : Table) (x : Value) (xs : List Value) (t : TypeId) → Seen κ x xs → T (fits κ.types x (some t)) → kept_parts (row_of κ.types (some t)) xs ≡ xs
own_kept κ x xs t (seen v xe w low) fx = kept_same (row_of κ.types (some t)) xs (rw (fits_type κ.types v (some t) (rw xe at fx)) at w.sized)

-- its parts read nothing fresh
seen_low : (κ : Table) (x : Value) (xs : List Value) → Seen κ x xs → T (every (λ v. ltb v.0 κ.m) (operands xs))
seen_low κ x xs (seen v xe w low) = low

-- one value with its parts, in front of others
deep_go : (κ : Table) (S : AggStates) → TypedStates κ.types S → AllParts (λ v. ltb v κ.m) S → (path : Marks) (inner : Inner) → InnerAgrees κ inner
    → (x : Value) (vs : List Value) (rest : ℕ → Rebuilt)
    → AgreeOf κ vs rest → T (every (λ v. ltb v.0 κ.m) (operands (x ∷ vs))) → (n : ℕ) (o : Option TypeId) (s : Option (List Value)) → state_of S x ≡ s
    → ((xs : List Value) (t : TypeId) → state_of S x ≡ some xs → o ≡ some t → T (fits κ.types x (some t)))
    → Recorded (types_later κ) n (deep_value κ.types path inner n x rest o s).fresh → AgreeBefore κ (x ∷ vs) (deep_value κ.types path inner n x rest o s)
unfolding deep_value whole_then keep_value
deep_go κ S ts al path inner hi x vs rest ih lo n none s e hc rc = stays_before κ x vs (rest n) (ih (test_rest (λ v. ltb v.0 κ.m) x (operands vs) lo) n rc)
deep_go κ S ts al path inner hi x vs rest ih lo n (some t) none e hc rc =
    stays_before κ x vs (rest n) (ih (test_rest (λ v. ltb v.0 κ.m) x (operands vs) lo) n rc)
deep_go κ S ts al path inner hi x vs rest ih lo n (some t) (some xs) e hc rc =
    let sn : Seen κ x xs = see κ S ts al x xs e in
    let ks : kept_parts (row_of κ.types (some t)) xs ≡ xs = own_kept κ x xs t sn (hc xs t e refl) in
    with_parts (inner x n (wanted_own κ.types (kept_parts (row_of κ.types (some t)) xs))) xs sn (hc xs t e refl) (rw ks (hi x xs (seen_low κ x xs sn) n)) _ rc
  where
    with_parts : (p : Rebuilt) (xs : List Value) → Seen κ x xs → T (fits κ.types x (some t)) → (Recorded (types_later κ) n p.fresh → AgreeBefore κ xs p)
        → (fault : ℕ → Option Fault)
        → Recorded (types_later κ) n (p.fresh ++ (t ∷ (rest (suc (n + length p.fresh))).fresh))
        → AgreeBefore κ (x ∷ vs) (record {
          before =
              p.before
              ++ (rebuild_at (numbered (n + length p.fresh)) p.values t (row_of κ.types (some t)) ++ (rest (suc (n + length p.fresh))).before);
          values = Value.Operand (numbered (n + length p.fresh)) ∷ (rest (suc (n + length p.fresh))).values;
          fresh = p.fresh ++ (t ∷ (rest (suc (n + length p.fresh))).fresh);
          fault = fault;
        })
    with_parts p xs sn fx run fault rc =
        let r = rest (suc (n + length p.fresh)) in
        let a = run (recorded_l (types_later κ) n p.fresh (t ∷ r.fresh) rc) in
        let rm = recorded_r (types_later κ) n p.fresh (t ∷ r.fresh) rc in
        whole_before κ x xs t (n + length p.fresh) p.values p.before vs r sn fx lo rm.0 a.builds a.twins
        (ih (test_rest (λ v. ltb v.0 κ.m) x (operands vs) lo) (suc (n + length p.fresh)) rm.1) _ fault

-- values in order
values_agree : (κ : Table) (S : AggStates) → TypedStates κ.types S → AllParts (λ v. ltb v κ.m) S → (path : Marks) (inner : Inner) → InnerAgrees κ inner
    → (ws : List Wanted) → AtOwn κ.types S ws → AgreeOf κ (wanted_values ws) (λ n. deep_values κ.types S path inner n ws)
unfolding deep_values
values_agree κ S ts al path inner hi [] cs lo n rc = record { builds = tt; twins = tt }
values_agree κ S ts al path inner hi (x ∷ ws) cs lo n rc =
    deep_go κ S ts al path inner hi x.value (wanted_values ws) (λ k. deep_values κ.types S path inner k ws) (values_agree κ S ts al path inner hi ws cs.1)
    lo n x.at (state_of S x.value) refl cs.0 rc

-- to any depth
all_agree : (κ : Table) (S : AggStates) → TypedStates κ.types S → AllParts (λ v. ltb v κ.m) S → (k : ℕ) (path : Marks) (ws : List Wanted)
    → AtOwn κ.types S ws → AgreeOf κ (wanted_values ws) (λ n. deep_all κ.types S k path n ws)
unfolding deep_all
all_agree κ S ts al zero path ws cs lo n rc = rebuilt_agrees κ S ts al ws cs lo n rc
all_agree κ S ts al (suc k) path ws cs lo n rc =
    values_agree κ S ts al path (λ x. deep_all κ.types S k (begun path x))
    (λ x xs lo' j rc'.
    rw (own_values κ.types xs) at (all_agree κ S ts al k (begun path x) (wanted_own κ.types xs) (own_own κ.types S xs) (rw (own_values κ.types xs) lo') j rc'))
    ws cs lo n rc

-- the readings of an instruction, or the values of a Return, each with its parts before it
pub deep_agrees : (κ : Table) (S : AggStates) → TypedStates κ.types S → AllParts (λ v. ltb v κ.m) S → (xs : List Value)
    → T (every (λ v. ltb v.0 κ.m) (operands xs)) → (n : ℕ)
    → Recorded (types_later κ) n (rebuild_deep κ.types S n (wanted_own κ.types xs)).fresh
    → AgreeBefore κ xs (rebuild_deep κ.types S n (wanted_own κ.types xs))
unfolding rebuild_deep
deep_agrees κ S ts al xs lo n rc =
    rw (own_values κ.types xs) at (all_agree κ S ts al (suc (length κ.types.recorded)) (replicate (length κ.types.recorded) false) (wanted_own κ.types xs)
    (own_own κ.types S xs) (rw (own_values κ.types xs) lo) n rc)
