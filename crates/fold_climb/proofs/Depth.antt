-- Law 2: the climb never needs more steps than there are clear marks, so that it unfolds as if it had no bound.
use Prim.Native.Nat.{ℕ, zero, suc, ◌≤◌, ◌<◌}
use mathlib.Core.Path.{◌≡◌, refl, ap, ◌∙◌, sym}
use mathlib.Core.List.{List, [], ◌∷◌}
use mathlib.Core.Bool.{Bool, true, false, cond, true≢false}
use mathlib.Core.Option.{Option, none, some}
use native.Mathlib.Nat.{le_refl, le_trans}
use native.Mathlib.Omega.{arith}
use lib.ListN.{get_or, set}
use lib.Dec.{eqb}
use Rattle.fold.specs.Family.{Marks}
use Rattle.fold_climb.specs.Edges.{Edge, Sight, array_in, allowed_in, onto, parents, climb_in, unmarked, climb_of}
use Rattle.fold_climb.specs.Scanned.{Each}

-- both arms are the same
pub both_arms : {A : Type 0} (b : Bool) (a : A) → cond b a a ≡ a
both_arms true a = refl
both_arms false a = refl

pub unmarked_set : (m : Marks) (v : ℕ) → get_or m v true ≡ false → suc (unmarked (set m v true)) ≡ unmarked m
unfolding unmarked
unmarked_set [] v h = absurd (true≢false h)
unmarked_set (true ∷ m) zero h = absurd (true≢false h)
unmarked_set (false ∷ m) zero h = refl
unmarked_set (true ∷ m) (suc v) h = unmarked_set m v h
unmarked_set (false ∷ m) (suc v) h = ap suc (unmarked_set m v h)

set_less : (m : Marks) (v : ℕ) → unmarked (set m v true) ≤ unmarked m
unfolding unmarked
set_less [] v = le_refl _
set_less (true ∷ m) zero = le_refl _
set_less (false ∷ m) zero = omega arith
set_less (true ∷ m) (suc v) = set_less m v
set_less (false ∷ m) (suc v) = omega (arith, set_less m v)

-- what holds of the marks of an answer
abbrev pub On : (Marks → Type 0) → Option Marks → Type 0
On P none = Unit {0}
On P (some m) = P m

pub each_any : (es : List Edge) → Each (λ p. Unit {0}) es
each_any [] = tt
each_any (e ∷ es) = (tt, each_any es)

abbrev pub through : (Marks → Marks) → Option Marks → Option Marks
through g none = none
through g (some m) = some (g m)

pub through_id : (r : Option Marks) → through (λ m. m) r ≡ r
through_id none = refl
through_id (some m) = refl

module _ (P : Marks → Type 0) (up : ℕ → Marks → Option Marks) (keeps : (p : ℕ) (m : Marks) → P m → On P (up p m)) (a : Bool) (v : ℕ) where
  parents_keep : (es : List Edge) (m : Marks) → P m → On P (parents up a v es m)
  unfolding parents
  parents_keep [] m h = h
  parents_keep (e ∷ es) m h = go (λ m h. parents_keep es m h) (eqb e.child v) a (up e.parent m) (keeps e.parent m h)
    where
      go : ((m : Marks) → P m → On P (parents up a v es m)) → (b t : Bool) (r : Option Marks) → On P r → On P (cond b (cond t none (onto r (parents up a v es))) (parents up a v es m))
      go ih false t r k = ih m h
      go ih true true r k = tt
      go ih true false none k = tt
      go ih true false (some w) k = ih w k

  -- two climbs that agree, up to g on the marks, agree on the parents
  pub parents_through : (Q : ℕ → Type 0) (g : Marks → Marks) (up' : ℕ → Marks → Option Marks) → ((p : ℕ) (m : Marks) → Q p → P m → through g (up p m) ≡ up' p (g m)) → (es : List Edge) → Each Q es → (m : Marks) → P m → through g (parents up a v es m) ≡ parents up' a v es (g m)
  unfolding parents
  parents_through Q g up' same [] q m h = refl
  parents_through Q g up' same (e ∷ es) q m h = go (λ m h. parents_through Q g up' same es q.1 m h) (eqb e.child v) a (up e.parent m) (up' e.parent (g m)) (keeps e.parent m h) (same e.parent m q.0 h)
    where
      go : ((m : Marks) → P m → through g (parents up a v es m) ≡ parents up' a v es (g m)) → (b t : Bool) (r r' : Option Marks) → On P r → through g r ≡ r' → through g (cond b (cond t none (onto r (parents up a v es))) (parents up a v es m)) ≡ cond b (cond t none (onto r' (parents up' a v es))) (parents up' a v es (g m))
      go ih false t r r' k e = ih m h
      go ih true true r r' k e = refl
      go ih true false none r' k e = ap (λ x. onto x (parents up' a v es)) e
      go ih true false (some w) r' k e = ih w k ∙ ap (λ x. onto x (parents up' a v es)) e

-- a climb keeps what marking keeps
pub climb_keeps : (P : Marks → Type 0) → ((m : Marks) (v : ℕ) → P m → P (set m v true)) → (t : Sight) (k v : ℕ) (m : Marks) → P m → On P (climb_in t k v m)
unfolding climb_in
climb_keeps P marking t zero v m h = tt
climb_keeps P marking t (suc k) v m h = go (λ p m h. climb_keeps P marking t k p m h) (get_or m v true) (allowed_in t v)
  where
    go : ((p : ℕ) (m : Marks) → P m → On P (climb_in t k p m)) → (b c : Bool) → On P (cond b none (cond c (parents (climb_in t k) (array_in t v) v t.edges (set m v true)) none))
    go ih true c = tt
    go ih false true = parents_keep P (climb_in t k) ih (array_in t v) v t.edges (set m v true) (marking m v h)
    go ih false false = tt

pub keeps_clear : (n : ℕ) (t : Sight) (k v : ℕ) (m : Marks) → unmarked m ≤ n → On (λ w. unmarked w ≤ n) (climb_in t k v m)
keeps_clear n t k v m h = climb_keeps (λ w. unmarked w ≤ n) (λ w u l. le_trans (set_less w u) l) t k v m h

-- enough depth is enough
pub climb_same : (t : Sight) (f g v : ℕ) (m : Marks) → unmarked m < f → unmarked m < g → climb_in t f v m ≡ climb_in t g v m
unfolding climb_in
climb_same t zero g v m hf hg = absurd (omega arith)
climb_same t (suc f) zero v m hf hg = absurd (omega arith)
climb_same t (suc f) (suc g) v m hf hg = go (λ p w. climb_same t f g p w) (get_or m v true) refl
  where
    go : ((p : ℕ) (w : Marks) → unmarked w < f → unmarked w < g → climb_in t f p w ≡ climb_in t g p w) → (b : Bool) → get_or m v true ≡ b → climb_in t (suc f) v m ≡ climb_in t (suc g) v m
    go ih true e = simp e
    go ih false e =
        let d = unmarked_set m v e in
        let n = unmarked (set m v true) in
        let q = parents_through (λ w. unmarked w ≤ n) (climb_in t f) (λ p w h. keeps_clear n t f p w h) (array_in t v) v (λ p. Unit {0}) (λ w. w) (climb_in t g) (λ p w u h. through_id (climb_in t f p w) ∙ ih p w (omega arith) (omega arith)) t.edges (each_any t.edges) (set m v true) (le_refl _) in
        simp e (ap (λ r. cond (allowed_in t v) r none) (sym (through_id _) ∙ q))

pub climb_met : (t : Sight) (v : ℕ) (m : Marks) → get_or m v true ≡ true → climb_of t v m ≡ none
unfolding climb_of climb_in
climb_met t v m e = simp e

pub climb_barred : (t : Sight) (v : ℕ) (m : Marks) → allowed_in t v ≡ false → climb_of t v m ≡ none
unfolding climb_of climb_in
climb_barred t v m e = rw e (both_arms (get_or m v true) none)

pub climb_on : (t : Sight) (v : ℕ) (m : Marks) → get_or m v true ≡ false → allowed_in t v ≡ true → climb_of t v m ≡ parents (climb_of t) (array_in t v) v t.edges (set m v true)
unfolding climb_of climb_in
climb_on t v m e a =
    let d = unmarked_set m v e in
    let n = unmarked (set m v true) in
    let q = parents_through (λ w. unmarked w ≤ n) (climb_in t (unmarked m)) (λ p w h. keeps_clear n t (unmarked m) p w h) (array_in t v) v (λ p. Unit {0}) (λ w. w) (climb_of t) (λ p w u h. through_id (climb_in t (unmarked m) p w) ∙ climb_same t (unmarked m) (suc (unmarked w)) p w (omega arith) (omega arith)) t.edges (each_any t.edges) (set m v true) (le_refl _) in
    simp (e, a) (sym (through_id _) ∙ q)

pub climb_clear : (t : Sight) (v : ℕ) (m : Marks) → On (λ w. unmarked w ≤ unmarked m) (climb_of t v m)
unfolding climb_of
climb_clear t v m = keeps_clear (unmarked m) t (suc (unmarked m)) v m (le_refl _)
