-- The builds, then the instruction or terminator that needs them, as one effect.
use Prim.Native.Nat.{ℕ, suc, ◌+◌}
use mathlib.Core.Path.{◌≡◌, refl, ap, ◌∙◌, sym}
use mathlib.Core.List.{List, [], ◌∷◌, ◌++◌, append-nil}
use mathlib.Core.Bool.{Bool, true, false}
use mathlib.Core.Option.{Option, none, some}
use native.Mathlib.Nat.{add-zero, zero-add}
use native.Mathlib.Omega.{arith}
use lib.ListN.{length, length-append}
use Rattle.bytes_wire.specs.Value.{value_bytes}
use Rattle.mir.specs.declared.ValueId.{ValueId}
use Rattle.mir.specs.declared.TypeId.{TypeId}
use Rattle.mir.specs.declared.Value.{Value}
use Rattle.mir.specs.Syntax.{Place, Instruction, Call, Store, Return, plain}
use Rattle.bytes_field.specs.Encode.{each_bytes, instruction_bytes, terminator_bytes}
use Rattle.mir.specs.Lookup.{Types, is_aggregate, row_of, on_some}
use Rattle.fold.specs.Family.{Marks}
use Rattle.rewrite.specs.Fault.{first_met, full_fault}
use Rattle.rewrite.specs.State.{AggStates, state_of}
use Rattle.rewrite.specs.Rebuild.{Rebuilt, Wanted, untouched, keep_value, rebuild_value, one_value, rebuild_all, aggregate_type}
use Rattle.rewrite.specs.Piece.{Piece, no_counts, materialized, kept}
use Rattle.rewrite.specs.Stays.{step_call, store_rebuilt, store_kept}
use Rattle.rewrite.specs.Run.{returned}
use Rattle.bytes_emit.specs.Written.{Writes}
use Rattle.rewrite_progress.specs.declared.Progress.{Progress}
use Rattle.std.specs.Prelude.{Result, Ok, Err}
use Rattle.rewrite.specs.declared.Fault.{Fault}
use Rattle.rewrite_progress.specs.Effect.{Effect, output_of, type_numbers, mark_all, further, behind, then_effect, rebuilt_effect, piece_effect, walked_effect, Puts}
use Rattle.rewrite_progress.proofs.Laws.{each_append, behind_then}
use Rattle.rewrite_progress.proofs.Faults.{met_first, met_next, puts_fault, puts_effect}
use Rattle.rewrite_wanted.specs.declared.Asks.{Asks}
use Rattle.rewrite_wanted.specs.Asked.{asked_list}
use Rattle.rewrite_before.specs.Materialized.{onward}

-- what stands behind the builds
abbrev pub line : List ℕ → ℕ → ℕ → Effect
line w lines made = record { bytes = w; lines = lines; dropped = []; fresh = []; counts = materialized made }

one_further : (out fresh : List ℕ) (dropped : Marks) (q : Progress) (w out' : List ℕ) (to lines made : ℕ) → Writes w out out' q.to to → output_of out' fresh dropped (onward q to lines made) ≡ behind (output_of out fresh dropped q) (line w lines made)
unfolding behind further mark_all type_numbers
one_further out fresh dropped q w out' to lines made v = rw (v.0, v.1, add-zero q.fresh) refl

module _ (out fresh : List ℕ) (dropped : Marks) (p : Progress) (R : Rebuilt) (r : Result Progress Fault) (out₁ fresh₁ : List ℕ) (u : Puts (output_of out fresh dropped p) (rebuilt_effect R) R.fault out₁ fresh₁ dropped r) where
  -- the builds, then something that has a fault of its own
  module _ (E : Effect) (F : ℕ → Option Fault) (k : Option Fault) (h : F p.lines ≡ first_met (R.fault p.lines) k) where
    -- a fault among the builds is one of the whole
    pub refused_put : (f : Fault) → r ≡ Err f → Puts (output_of out fresh dropped p) E F out₁ fresh₁ dropped (Err f)
    refused_put f e = puts_fault (output_of out fresh dropped p) E F out₁ fresh₁ dropped f (h ∙ met_first k f (u.refused f e))

    module _ (q : Progress) (e : r ≡ Ok q) where
      -- one behind them too
      pub full_put : (f : Fault) → k ≡ some f → Puts (output_of out fresh dropped p) E F out₁ fresh₁ dropped (Err f)
      full_put f z = puts_fault (output_of out fresh dropped p) E F out₁ fresh₁ dropped f (h ∙ met_next k (u.went q e).0 ∙ z)

      -- else the rest is written behind them
      pub went_put : (w out₂ : List ℕ) (to lines made : ℕ) (s : Progress) → k ≡ none → Writes w out₁ out₂ q.to to → s ≡ onward q to lines made → then_effect (rebuilt_effect R) (line w lines made) ≡ E
          → Puts (output_of out fresh dropped p) E F out₂ fresh₁ dropped (Ok s)
      went_put w out₂ to lines made s z v t f =
          puts_effect (output_of out fresh dropped p) E F out₂ fresh₁ dropped s (h ∙ met_next k (u.went q e).0 ∙ z)
          (ap (output_of out₂ fresh₁ dropped) t ∙ one_further out₁ fresh₁ dropped q w out₂ to lines made v ∙ ap (λ o. behind o (line w lines made)) (u.went q e).1 ∙ behind_then (output_of out fresh dropped p) (rebuilt_effect R) (line w lines made) ∙ ap (behind (output_of out fresh dropped p)) f)

  -- as many fresh numbers as the builds took, and as many lines
  pub spent : (q : Progress) → r ≡ Ok q → q.fresh ≡ p.fresh + length R.fresh
  unfolding behind further rebuilt_effect
  spent q e = ap (λ o. o.progress.fresh) (u.went q e).1

  pub lined : (q : Progress) → r ≡ Ok q → q.lines ≡ p.lines + length R.before
  unfolding behind further rebuilt_effect
  lined q e = ap (λ o. o.progress.lines) (u.went q e).1

-- as many values as before
length_one : (τ : Types) (n : ℕ) (x : Value) (rest : ℕ → Rebuilt) (o : Option TypeId) (s : Option (List Value)) (k : ℕ) → ((m : ℕ) → length (rest m).values ≡ k) → length (one_value τ n x rest o s).values ≡ suc k
unfolding one_value keep_value rebuild_value
length_one τ n x rest none s k h = ap suc (h n)
length_one τ n x rest (some t) none k h = ap suc (h n)
length_one τ n x rest (some t) (some xs) k h = ap suc (h (suc n))

length_values : (τ : Types) (S : AggStates) (ws : List Wanted) (n : ℕ) → length (rebuild_all τ S n ws).values ≡ length ws
unfolding rebuild_all
length_values τ S [] n = refl
length_values τ S (w ∷ ws) n = length_one τ n w.value (λ m. rebuild_all τ S m ws) w.at (state_of S w.value) (length ws) (λ m. length_values τ S ws m)

length_asked : (τ : Types) (t : List ℕ) (a : Asks) (i : ℕ) (xs : List Value) → length (asked_list τ t a i xs) ≡ length xs
unfolding asked_list
length_asked τ t a i [] = refl
length_asked τ t a i (x ∷ xs) = ap suc (length_asked τ t a (suc i) xs)

pub as_many : (τ : Types) (S : AggStates) (n : ℕ) (t : List ℕ) (a : Asks) (xs : List Value) → length (rebuild_all τ S n (asked_list τ t a 0 xs)).values ≡ length xs
as_many τ S n t a xs = length_values τ S (asked_list τ t a 0 xs) n ∙ length_asked τ t a 0 xs

-- where no fresh number is taken, nothing is put out before
pub record Idle (R : Rebuilt) : Type 0 where
  pub before : R.before ≡ []
  pub fault : (l : ℕ) → R.fault l ≡ none

idle_one : (τ : Types) (n : ℕ) (x : Value) (rest : ℕ → Rebuilt) (o : Option TypeId) (s : Option (List Value)) → (one_value τ n x rest o s).fresh ≡ [] → ((rest n).fresh ≡ [] → Idle (rest n)) → Idle (one_value τ n x rest o s)
unfolding one_value keep_value rebuild_value
idle_one τ n x rest none s e h = record { before = (h e).before; fault = (h e).fault }
idle_one τ n x rest (some t) none e h = record { before = (h e).before; fault = (h e).fault }
idle_one τ n x rest (some t) (some xs) e h = absurd (let z : suc (length (rest (suc n)).fresh) ≡ 0 = ap length e in omega arith)

pub idle : (τ : Types) (S : AggStates) (ws : List Wanted) (n : ℕ) → (rebuild_all τ S n ws).fresh ≡ [] → Idle (rebuild_all τ S n ws)
unfolding rebuild_all
idle τ S [] n e = record { before = refl; fault = λ l. refl }
idle τ S (w ∷ ws) n e = idle_one τ n w.value (λ m. rebuild_all τ S m ws) w.at (state_of S w.value) e (λ f. idle τ S ws n f)

same_effect : {w w' : List ℕ} {a a' : ℕ} {ts ts' : List TypeId} {m m' : ℕ} → w ≡ w' → a ≡ a' → ts ≡ ts' → m ≡ m' → ◌≡◌ {A = Effect} (record { bytes = w; lines = a; dropped = []; fresh = ts; counts = materialized m }) (record { bytes = w'; lines = a'; dropped = []; fresh = ts'; counts = materialized m' })
same_effect e f g h = rw (e, f, g, h) refl

-- the builds, with so many fresh numbers
abbrev Built : Rebuilt → List TypeId → Effect
Built R ts = record { bytes = each_bytes instruction_bytes R.before; lines = length R.before; dropped = []; fresh = ts; counts = no_counts }

-- a Call
module _ (S : AggStates) (i : Instruction) (ds : List ValueId) (g : ℕ) (ps rs : List TypeId) (R : Rebuilt) where
  -- the builds', then the Call's own line
  pub call_fault : (l : ℕ) → (R.fresh ≡ [] → Idle R) → (step_call S i ds g ps rs R R.fresh).fault l ≡ first_met (R.fault l) (full_fault (l + length R.before))
  unfolding step_call kept
  call_fault l h = go R.fresh h
    where
      go : (ts : List TypeId) → (ts ≡ [] → Idle R) → (step_call S i ds g ps rs R ts).fault l ≡ first_met (R.fault l) (full_fault (l + length R.before))
      go [] f = sym (met_next (full_fault (l + length R.before)) ((f refl).fault l) ∙ ap (λ z. full_fault (l + length z)) (f refl).before ∙ ap full_fault (add-zero l))
      go (t ∷ ts) f = refl

  pub call_kept : length R.fresh ≡ 0 → (R.fresh ≡ [] → Idle R) → then_effect (rebuilt_effect R) (line (instruction_bytes i) 1 0) ≡ piece_effect (step_call S i ds g ps rs R R.fresh)
  unfolding step_call kept then_effect rebuilt_effect piece_effect
  call_kept e h = go R.fresh e h
    where
      go : (ts : List TypeId) → length ts ≡ 0 → (ts ≡ [] → Idle R) → then_effect (Built R ts) (line (instruction_bytes i) 1 0) ≡ piece_effect (step_call S i ds g ps rs R ts)
      go [] e h = same_effect (ap (λ z. each_bytes instruction_bytes z ++ instruction_bytes i) (h refl).before ∙ sym (append-nil (instruction_bytes i))) (ap (λ z. length z + 1) (h refl).before) refl refl
      go (t ∷ ts) e h = absurd (omega arith)

  pub call_anew : (w : List ℕ) → (length R.fresh ≡ 0 → ⊥) → w ≡ instruction_bytes (plain (Call ds g R.values ps rs)) → then_effect (rebuilt_effect R) (line w 1 (length R.fresh)) ≡ piece_effect (step_call S i ds g ps rs R R.fresh)
  unfolding step_call then_effect rebuilt_effect piece_effect
  call_anew w h e = go R.fresh h
    where
      go : (ts : List TypeId) → (length ts ≡ 0 → ⊥) → then_effect (Built R ts) (line w 1 (length ts)) ≡ piece_effect (step_call S i ds g ps rs R ts)
      go [] f = absurd (f refl)
      go (t ∷ ts) f =
          let I : Instruction = plain (Call ds g R.values ps rs) in
          same_effect
          (sym (each_append instruction_bytes R.before (I ∷ []) ∙ ap (λ z. each_bytes instruction_bytes R.before ++ z) (append-nil (instruction_bytes I) ∙ sym e)))
          (sym (length-append R.before (I ∷ [])))
          (append-nil (t ∷ ts))
          (zero-add (length (t ∷ ts)))

-- a Store
pub data StoreCase (S : AggStates) (i : Instruction) (l : Place) (x : Value) (u : TypeId) (R : Rebuilt) (q : Piece) : Type 0 where
  store_stays : R ≡ untouched (x ∷ []) → q ≡ kept S i → StoreCase S i l x u R q
  store_anew : (y : Value) → R.values ≡ y ∷ [] → (length R.fresh ≡ 0 → ⊥) → q ≡ record { out = R.before ++ (record { meta = i.meta; kind = Store l y u } ∷ []); dropped = []; states = S; fresh = R.fresh; counts = no_counts; changed = true; fault = λ l. first_met (R.fault l) (full_fault (l + length R.before)) } → StoreCase S i l x u R q

store_some : (τ : Types) (S : AggStates) (n : ℕ) (i : Instruction) (l : Place) (x : Value) (u : TypeId) (xs : List Value) → state_of S x ≡ some xs → store_kept τ S n i l x u (some xs) ≡ store_rebuilt S i.meta l u (rebuild_value τ n u xs (untouched [])) (rebuild_value τ n u xs (untouched [])).values
unfolding store_kept rebuild_all one_value
store_some τ S n i l x u xs f =
    let e : rebuild_all τ S n (record { value = x; at = some u } ∷ []) ≡ rebuild_value τ n u xs (untouched []) = rw f refl in
    ap (λ r. store_rebuilt S i.meta l u r r.values) e

pub store_case : (τ : Types) (S : AggStates) (n : ℕ) (i : Instruction) (l : Place) (x : Value) (u : TypeId) → StoreCase S i l x u (rebuild_all τ S n (record { value = x; at = aggregate_type τ u } ∷ [])) (store_kept τ S n i l x u (on_some (aggregate_type τ u) (λ z. state_of S x)))
unfolding rebuild_all one_value keep_value rebuild_value aggregate_type on_some store_kept store_rebuilt
store_case τ S n i l x u = go (is_aggregate (row_of τ (some u))) refl (state_of S x) refl
  where
    go : (a : Bool) → is_aggregate (row_of τ (some u)) ≡ a → (s : Option (List Value)) → state_of S x ≡ s → StoreCase S i l x u (rebuild_all τ S n (record { value = x; at = aggregate_type τ u } ∷ [])) (store_kept τ S n i l x u (on_some (aggregate_type τ u) (λ z. state_of S x)))
    go false e s f = store_stays (rw e refl) (rw e refl)
    go true e none f = store_stays (rw (e, f) refl) (rw (e, f) refl)
    go true e (some xs) f = store_anew (Value.Operand (record { 0 = n })) (rw (e, f) refl) (λ z. let y : ◌≡◌ {A = ℕ} 1 0 = rw (e, f) at z in omega arith) (rw (e, f) (store_some τ S n i l x u xs f))

module _ (S : AggStates) (i : Instruction) (l : Place) (x : Value) (u : TypeId) (R : Rebuilt) (q : Piece) (c : StoreCase S i l x u R q) where
  -- the builds', then the Store's own line
  pub store_fault : (l : ℕ) → q.fault l ≡ first_met (R.fault l) (full_fault (l + length R.before))
  unfolding kept first_met
  store_fault l =
      elim c [
        | store_stays a b ↦ ap (λ z. z.fault l) b ∙ sym (ap (λ z. first_met (z.fault l) (full_fault (l + length z.before))) a ∙ ap full_fault (add-zero l))
        | store_anew y a b d ↦ ap (λ z. z.fault l) d
      ]

  pub store_kept_lem : length R.fresh ≡ 0 → then_effect (rebuilt_effect R) (line (instruction_bytes i) 1 0) ≡ piece_effect q
  unfolding kept then_effect rebuilt_effect piece_effect
  store_kept_lem e = elim c [ store_stays a b ↦ rw (a, b) (same_effect {ts = []} (sym (append-nil (instruction_bytes i))) refl refl refl) | store_anew y a b d ↦ absurd (b e) ]

  pub store_built : (w h t : List ℕ) → (length R.fresh ≡ 0 → ⊥) → w ≡ h ++ (each_bytes value_bytes R.values ++ t) → ((y : Value) → h ++ (each_bytes value_bytes (y ∷ []) ++ t) ≡ instruction_bytes (record { meta = i.meta; kind = Store l y u })) → then_effect (rebuilt_effect R) (line w 1 0) ≡ piece_effect q
  unfolding then_effect rebuilt_effect piece_effect
  store_built w h t n e f =
      elim c [
        | store_stays a b ↦ absurd (n (ap (λ z. length z.fresh) a))
        | store_anew y a b d ↦
            let I : Instruction = record { meta = i.meta; kind = Store l y u } in
            let v : w ≡ instruction_bytes I = e ∙ ap (λ z. h ++ (each_bytes value_bytes z ++ t)) a ∙ f y in
            rw d (same_effect (sym (each_append instruction_bytes R.before (I ∷ []) ∙ ap (λ z. each_bytes instruction_bytes R.before ++ z) (append-nil (instruction_bytes I) ∙ sym v))) (sym (length-append R.before (I ∷ []))) (append-nil R.fresh) refl)
      ]

-- a Return
pub return_effect : (R : Rebuilt) (w : List ℕ) → w ≡ terminator_bytes (Return R.values) → then_effect (rebuilt_effect R) (line w 0 (length R.fresh)) ≡ walked_effect (returned R)
unfolding then_effect rebuilt_effect walked_effect returned
return_effect R w e = same_effect (ap (λ z. each_bytes instruction_bytes R.before ++ z) e) (add-zero (length R.before)) (append-nil R.fresh) (zero-add (length R.fresh))
