-- What is promised of a rebuild with those of its parts before it.
use Rattle.std.specs.Prelude.{ℕ, suc, ◌+◌, ◌-◌, ◌*◌, ◌≤◌, ◌<◌, ◌≡◌, List, [], ◌∷◌, cond, length, get_or, take, eqb, Option as Answered, Result, Ok, Err}
use Rattle.std.proofs.Math.Option.{Option, none, some}
use Rattle.mir.specs.declared.ValueId.{ValueId}
use Rattle.mir.specs.declared.Value.{Value}
use Rattle.mir.specs.Lookup.{Types, row_of}
use Rattle.bytes_index.specs.declared.code.Code.{Code}
use Rattle.fold.specs.Family.{Marks}
use Rattle.fold_climb.specs.Edges.{unmarked}
use Rattle.rewrite.specs.declared.Fault.{Fault}
use Rattle.rewrite.specs.State.{AggStates}
use Rattle.rewrite.specs.Fault.{first_met, last_number}
use Rattle.rewrite.specs.Rebuild.{Rebuilt, rebuild_at, clash_fault, added_fault}
use Rattle.rewrite.specs.Deep.{own_type, wanted_own, kept_parts, loop_fault, deep_all}
use Rattle.rewrite_parts.specs.Rows.{ValueAt, Rep, rows_in}
use Rattle.bytes_emit.specs.Written.{rebuilt_room}
use Rattle.rewrite_build.specs.Written.{rebuild_most, renumbered}
use Rattle.rewrite_progress.specs.declared.Progress.{Progress}
use Rattle.table.specs.Number.{numbers_below}
use Rattle.rewrite_wanted.specs.declared.Build.{Build}
use Rattle.rewrite_wanted.specs.Asked.{Setting, Told}
use Rattle.rewrite_list.specs.Lists.{BuildsPut}
use Rattle.rewrite_descent.specs.declared.Site.{Site}

-- what becomes of values, each at its own type, where the rebuilds of those on the path have begun and not ended: none is deeper than there
-- are values off the path
abbrev pub deep_own : Types → AggStates → Marks → ℕ → List Value → Rebuilt
deep_own τ S path n xs = deep_all τ S (suc (unmarked path)) path n (wanted_own τ xs)

-- the number that a value took, of the fresh ones that were so many before and after: the last of them, or none, which is 0
abbrev pub number_taken : ℕ → ℕ → ℕ → ℕ
number_taken next before after = cond (eqb before after) 0 (next + (after - 1))

-- there is room for all the numbers there are
pub record Spacious (p : Progress) : Type 0 where
  pub to : p.to < rebuilt_room + rebuild_most * p.fresh
  pub fresh : p.fresh ≤ last_number

-- by each number at most one rebuild further, of which none passes the last; nothing is counted yet
pub record Deeper (next : ℕ) (p q : Progress) : Type 0 where
  pub to : q.to + rebuild_most * p.fresh ≤ p.to + rebuild_most * q.fresh
  pub lines : q.lines + p.fresh ≤ p.lines + q.fresh
  pub taken : p.fresh ≤ q.fresh
  pub fresh : q.fresh ≤ last_number
  pub numbered : next + p.fresh < numbers_below → next + q.fresh < numbers_below
  pub counts : q.counts ≡ p.counts

abbrev pub PutDeeper : ℕ → Progress → Result Progress Fault → Type 0
PutDeeper next p (Err f) = Unit {0}
PutDeeper next p (Ok q) = Deeper next p q

-- part k of v stands there
abbrev pub PartStands : List ℕ → ValueId → ℕ → ℕ → Type 0
PartStands work v k r =
    (next : ℕ) (s : List ℕ) (tracked : Marks) (used : ℕ) (S : AggStates) (xs : List Value)
    → Rep next s tracked (rows_in work) used S
    → S v.0 ≡ some xs
    → k < length xs
    → ValueAt next s r (get_or xs k Value.Error)

-- a tracked value with these parts, and its own type
pub record OwnBuild (τ : Types) (S : AggStates) (z : Build) (xs : List Value) : Type 0 where
  pub typed : own_type τ (Value.Operand z.value) ≡ some z.named
  pub parts : S z.value.0 ≡ some xs

-- P holds of a build, where the tables hold what they should
abbrev pub OfBuild : Code → List ℕ → Build → (Types → AggStates → List Value → Type 0) → Type 0
OfBuild code work z P =
    (τ : Types) (S : AggStates) (tracked : Marks) (xs : List Value)
    → Setting code tracked (rows_in work) τ S
    → OwnBuild τ S z xs
    → P τ S xs

-- what is met as the rebuild of z from xs begins
abbrev pub begin_fault : Types → Marks → Build → List Value → Option Fault
begin_fault τ path z xs = first_met (loop_fault path (Value.Operand z.value)) (clash_fault xs (row_of τ (some z.named)))

-- nothing, and so many parts are kept
pub record Begun (τ : Types) (path : Marks) (z : Build) (xs : List Value) (n : ℕ) : Type 0 where
  pub none : begin_fault τ path z xs ≡ none
  pub kept : kept_parts (row_of τ (some z.named)) xs ≡ take n xs
  pub within : n ≤ length xs

abbrev pub BeginsBy : Types → Marks → Build → List Value → Result ℕ Fault → Type 0
BeginsBy τ path z xs (Err f) = begin_fault τ path z xs ≡ some f
BeginsBy τ path z xs (Ok n) = Begun τ path z xs n

abbrev pub Begins : Code → List ℕ → Marks → Build → Result ℕ Fault → Type 0
Begins code work path z r = length path ≡ code.bounds.next → OfBuild code work z (λ τ S xs. BeginsBy τ path z xs r)

-- the whole under number m, its parts under these fresh numbers
unfoldable pub whole_of : Types → Build → List ℕ → List Value → ℕ → Rebuilt
whole_of τ z nums xs m =
    let row = row_of τ (some z.named) in
    let is = rebuild_at (record { 0 = m }) (renumbered nums (kept_parts row xs)) z.named row in
    record {
      before = is;
      values = Value.Operand (record { 0 = m }) ∷ [];
      fresh = z.named ∷ [];
      fault = λ l. added_fault m l is (λ j. none);
    }

abbrev pub WholePut : Code → Build → List ℕ → List ℕ → List ℕ → Progress → List ℕ → List ℕ → Result Progress Fault → Type 0
WholePut code z nums out work p out' work' r =
    code.bounds.next + p.fresh < numbers_below
    → OfBuild code work z (λ τ S xs. BuildsPut (whole_of τ z nums xs (code.bounds.next + p.fresh)) out work p out' work' r)

-- what is wanted of the value x is put out
abbrev pub DeepPut : Site → Marks → Answered Build → List ℕ → List ℕ → Progress → List ℕ → List ℕ → Result Progress Fault → Type 0
DeepPut site path wants out work p out' work' r =
    (τ : Types) (S : AggStates) (x : Value)
    → Setting site.code site.tracked.now (rows_in work) τ S
    → Told τ S x (own_type τ x) wants
    → length path ≡ site.code.bounds.next
    → site.code.bounds.next + p.fresh < numbers_below
    → BuildsPut (deep_own τ S path (site.code.bounds.next + p.fresh) (x ∷ [])) out work p out' work' r
