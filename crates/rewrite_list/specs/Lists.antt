-- What the writers of rebuilds promise and need.
use Rattle.std.specs.Prelude.{ℕ, ◌+◌, ◌*◌, ◌≤◌, ◌<◌, ◌≡◌, Bool, List, [], ◌∷◌, cond, length, eqb}
use Rattle.std.specs.Prelude.{Option as Answered, Result, Ok, Err}
use Rattle.std.proofs.Math.Option.{Option, none, some}
use Rattle.bytes_wire.specs.Value.{value_bytes}
use Rattle.mir.specs.declared.ValueId.{ValueId}
use Rattle.mir.specs.declared.TypeId.{TypeId}
use Rattle.mir.specs.declared.Value.{Value}
use Rattle.bytes_field.specs.Encode.{each_bytes}
use Rattle.bytes_index.specs.declared.code.Code.{Code}
use Rattle.bytes_operands.specs.Fields.{value_end}
use Rattle.mir.specs.Lookup.{Types}
use Rattle.fold.specs.Family.{Marks}
use Rattle.rewrite.specs.State.{AggStates}
use Rattle.rewrite.specs.Fault.{last_number}
use Rattle.rewrite.specs.Fault.{full_fault}
use Rattle.rewrite.specs.Rebuild.{Rebuilt, Wanted, rebuild_all}
use Rattle.rewrite_parts.specs.Rows.{ValueAt, rows_in, fresh_in}
use Rattle.rewrite.specs.declared.Fault.{Fault}
use Rattle.bytes_emit.specs.Written.{Writes}
use Rattle.rewrite_build.specs.Written.{rebuild_most, Rebuilds}
use Rattle.rewrite_progress.specs.declared.Progress.{Progress}
use Rattle.table.specs.Number.{numbers_below}
use Rattle.rewrite_progress.specs.Effect.{output_of, rebuilt_effect, Puts}
use Rattle.rewrite_wanted.specs.declared.Build.{Build}
use Rattle.rewrite_wanted.specs.Asked.{Setting, asked_list, Told}
use Rattle.rewrite_list.specs.declared.values.ValueList.{ValueList}
use Rattle.rewrite_list.specs.declared.values.ListedValues.{ListedValues}
use Rattle.rewrite_list.specs.declared.Written.{Written}

-- the most bytes that are copied at once
abbrev pub most_copied : ℕ
most_copied = 1024

-- the most values of a list: their count is one byte
abbrev pub most_listed : ℕ
most_listed = 255

-- the fresh numbers of a run are below this
abbrev pub fresh_below : ℕ
fresh_below = 2147483648

-- the most bytes of a list of values
abbrev pub values_most : ℕ
values_most = 1280

-- at most k rebuilds further, each under a number of its own, none of which passes the last; nothing is counted yet
pub record Few (p : Progress) (k : ℕ) (q : Progress) : Type 0 where
  pub to : q.to + rebuild_most * p.fresh ≤ p.to + rebuild_most * q.fresh
  pub lines : q.lines ≤ p.lines + k
  pub fresh : q.fresh ≤ p.fresh + k
  pub taken : p.fresh ≤ q.fresh
  pub within : p.fresh ≤ last_number → q.fresh ≤ last_number
  pub counts : q.counts ≡ p.counts

abbrev pub PutFew : Progress → ℕ → Result Progress Fault → Type 0
PutFew p k (Err x) = Unit {0}
PutFew p k (Ok q) = Few p k q

-- there is room for one more
pub record Roomy (p : Progress) : Type 0 where
  pub to : p.to < 137438953472
  pub lines : p.lines < 1073741824
  pub fresh : p.fresh < 1073741824

-- a line is counted where the place moved
abbrev pub line_count : ℕ → ℕ → ℕ
line_count from to = cond (eqb from to) 0 1

-- and there it is one too many where the block is full
abbrev pub line_fault : Bool → ℕ → Option Fault
line_fault added l = cond added (full_fault l) none

-- the values xs stand one behind another in t
infixr 67 ◌&◌
pub data Lies (next : ℕ) (t : List ℕ) : ℕ → List Value → Type 0 where
  empty : {at : ℕ} → Lies next t at []
  ◌&◌ : {at : ℕ} {x : Value} {xs : List Value} → ValueAt next t at x → Lies next t (value_end t at) xs → Lies next t at (x ∷ xs)

-- the value x alone, where o is asked for
abbrev pub one_wanted : Types → AggStates → ℕ → Value → Option TypeId → Rebuilt
one_wanted τ S n x o = rebuild_all τ S n (record { value = x; at = o } ∷ [])

-- the list l of values that stands in t: each value of xs, with the type asked of it
abbrev pub list_wanted : Types → List ℕ → ValueList → List Value → List Wanted
list_wanted τ t l xs = asked_list τ t l.asks 0 xs

-- the fresh numbers from n on are enough for those that R takes
abbrev pub EnoughFor : ℕ → Rebuilt → Type 0
EnoughFor n R = n + length R.fresh < numbers_below

-- P holds of what becomes of a value x of which o is asked and `wants` is told, where so many fresh numbers are taken before, and the
-- next one is a number
abbrev pub OfValue : ℕ → ℕ → Answered Build → (Types → AggStates → Value → Rebuilt → Type 0) → Type 0
OfValue next taken wants P =
    (τ : Types) (S : AggStates) (x : Value) (o : Option TypeId)
    → Told τ S x o wants
    → next + taken < numbers_below
    → P τ S x (one_wanted τ S (next + taken) x o)

-- and of what becomes of the values of a list l that stands in t
abbrev pub OfListIn : Code → List ℕ → Marks → List ℕ → ℕ → (Types → AggStates → Rebuilt → Type 0) → ValueList → Type 0
OfListIn code t tracked rows taken P l =
    (τ : Types) (S : AggStates) (xs : List Value)
    → Setting code tracked rows τ S
    → Lies code.bounds.next t l.first xs
    → length xs ≡ l.many
    → code.bounds.next + taken < numbers_below
    → P τ S (rebuild_all τ S (code.bounds.next + taken) (list_wanted τ t l xs))

abbrev pub OfList : ListedValues → List ℕ → ℕ → (Types → AggStates → Rebuilt → Type 0) → Type 0
OfList vs rows taken P = OfListIn vs.code vs.fields.now vs.tracked.now rows taken P vs.list

-- the builds of R are put out; their types stand behind the rows of the working table
abbrev pub BuildsPut : Rebuilt → List ℕ → List ℕ → Progress → List ℕ → List ℕ → Result Progress Fault → Type 0
BuildsPut R out work p out' work' r =
    (dropped : Marks) → Puts (output_of out (fresh_in work) dropped p) (rebuilt_effect R) R.fault out' (fresh_in work') dropped r

-- the values of R are written
abbrev pub ValuesWritten : Rebuilt → List ℕ → List ℕ → ℕ → ℕ → Type 0
ValuesWritten R out out' to r = Writes (each_bytes value_bytes R.values) out out' to r

-- a tracked value's rebuild, under the number d
abbrev pub TrackedPut : Code → List ℕ → Build → ValueId → List ℕ → List ℕ → ℕ → Result ℕ Fault → Type 0
TrackedPut code work z d out out' to r =
    (τ : Types) (S : AggStates) (tracked : Marks) (xs : List Value)
    → Setting code tracked (rows_in work) τ S
    → S z.value.0 ≡ some xs
    → z.named.0 < length τ.rows
    → Rebuilds τ d xs z.named out out' to r

-- what is wanted of one value
abbrev pub WantedPut : Code → Answered Build → List ℕ → List ℕ → Progress → List ℕ → List ℕ → Result Progress Fault → Type 0
WantedPut code wants out work p out' work' r =
    (tracked : Marks) → OfValue code.bounds.next p.fresh wants (λ τ S x R.
    Setting code tracked (rows_in work) τ S → BuildsPut R out work p out' work' r)

-- what is wanted of the values of a list
abbrev pub AllPut : ListedValues → List ℕ → List ℕ → Progress → List ℕ → List ℕ → Result Progress Fault → Type 0
AllPut vs out work p out' work' r = OfList vs (rows_in work) p.fresh (λ τ S R. BuildsPut R out work p out' work' r)

-- one value, as it stands or under its fresh number
abbrev pub WantedWritten : ℕ → List ℕ → ℕ → Answered Build → List ℕ → Written → List ℕ → Written → Type 0
WantedWritten next t at wants out w out' r =
    OfValue next w.fresh wants (λ τ S x R.
    ValueAt next t at x → ValuesWritten R out out' w.to r.to × (r.fresh ≡ w.fresh + length R.fresh))

-- the values of a list, where there are numbers enough
abbrev pub AllWritten : ListedValues → Written → List ℕ → List ℕ → ℕ → Type 0
AllWritten vs w out out' r =
    (rows : List ℕ) → OfList vs rows w.fresh (λ τ S R. EnoughFor (vs.code.bounds.next + w.fresh) R → ValuesWritten R out out' w.to r)
