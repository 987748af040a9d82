-- What the code does to the tables: it writes rows behind the others, and what it writes are the places of values.
use Rattle.std.specs.Prelude.{ℕ, ◌+◌, ◌≤◌, ◌<◌, ◌≡◌, List, Bool, length, get_or, unwrap_or, is_some as is_answered, Option as Answered}
use Rattle.std.proofs.Math.Option.{Option, some}
use Rattle.std.proofs.Math.ListN.{get_elem?}
use Rattle.mir.specs.declared.Value.{Value}
use Rattle.mir.specs.declared.ValueId.{ValueId}
use Rattle.mir.specs.MirType.{StructField}
use Rattle.mir.specs.Syntax.{FieldInit}
use Rattle.mir.specs.declared.NameId.{NameId}
use Rattle.mir.specs.Parts.{given, from_struct_fields}
use Rattle.mir.specs.Lookup.{is_some, on_some}
use Rattle.fold.specs.Family.{Marks}
use Rattle.rewrite.specs.State.{AggStates, no_states, insert_state, replaced}
use Rattle.mir.specs.Most.{most_values}
use Rattle.rewrite_parts.specs.Rows.{rows_from, most_parts, most_bytes, ValueAt, Rep, Room, Values, Inits, InitAt, RowAt, given_parts}
use Rattle.rewrite_parts.specs.declared.Parts.{Parts}
use Rattle.rewrite_parts.specs.declared.listed.Listed.{Listed}
use Rattle.bytes_struct.specs.Fields.{Names}

-- nothing moves below `to`
pub record Grown (rows : List ℕ) (to : ℕ) (rows' : List ℕ) : Type 0 where
  pub size : length rows' ≡ length rows
  pub old : (j : ℕ) → j < to → get_or rows' j 0 ≡ get_or rows j 0

-- the places of the first i of xs stand in the table from `to` on
pub record Filled (next : ℕ) (s rows : List ℕ) (to : ℕ) (xs : List Value) (i : ℕ) : Type 0 where
  pub each : (j : ℕ) → j < i → ValueAt next s (get_or rows (to + j) 0) (get_or xs j Value.Error)

-- whether all names of a type are given, and where they are, the places of their values
pub record NamedRow (next : ℕ) (s rows : List ℕ) (to m : ℕ) (o : Option (List Value)) (all : Bool) : Type 0 where
  pub told : all ≡ is_some o
  pub row : (xs : List Value) → o ≡ some xs → Filled next s rows to xs m

-- where the value of a name's first init stands
abbrev pub FindsInit : Listed → NameId → Answered ℕ → Type 0
FindsInit inits name r =
    (next : ℕ) (fs : List FieldInit)
    → Inits next inits.bytes.now inits.at fs
    → length fs ≡ inits.count
    → InitAt next inits.bytes.now (given name fs) r

-- of inits the values of names: their places stand from `to` on
abbrev pub NamesPut : Listed → Listed → List ℕ → ℕ → List ℕ → Bool → Type 0
NamesPut inits names rows to rows' all =
    (next : ℕ) (fs : List FieldInit) (ts : List StructField)
    → Inits next inits.bytes.now inits.at fs
    → length fs ≡ inits.count
    → Names names.bytes.now names.at ts
    → length ts ≡ names.count
    → length inits.bytes.now < most_bytes
    → to + names.count ≤ length rows
    → NamedRow next inits.bytes.now rows' to names.count (from_struct_fields fs ts) all

-- d has the parts of v
abbrev pub Shared : ValueId → ValueId → Marks → List ℕ → Marks → List ℕ → Type 0
Shared d v tracked rows tracked' rows' =
    (next : ℕ) (s : List ℕ) (used : ℕ) (S : AggStates) (xs : List Value)
    → Rep next s tracked rows used S
    → S v.0 ≡ some xs
    → d.0 < most_values
    → Rep next s tracked' rows' used (insert_state S d xs)

-- d has the values of a list
abbrev pub ValuesTracked : ValueId → Listed → ℕ → Marks → List ℕ → ℕ → Marks → List ℕ → ℕ → Type 0
ValuesTracked d values before tracked rows used tracked' rows' used' =
    (next : ℕ) (S : AggStates) (xs : List Value)
    → Rep next values.bytes.now tracked rows used S
    → Room rows used
    → d.0 < most_values
    → Values next values.bytes.now before values.at xs
    → length xs ≡ values.count
    → values.count ≤ most_parts
    → Rep next values.bytes.now tracked' rows' used' (insert_state S d xs)

-- d has the parts of v, with the value at a place as part k
abbrev pub Replaced : ValueId → ValueId → ℕ → ℕ → Marks → List ℕ → ℕ → Marks → List ℕ → ℕ → Type 0
Replaced d v k place tracked rows used tracked' rows' used' =
    (next : ℕ) (s : List ℕ) (S : AggStates) (xs ys : List Value) (y : Value)
    → Rep next s tracked rows used S
    → Room rows used
    → d.0 < most_values
    → S v.0 ≡ some xs
    → replaced xs k y ≡ some ys
    → ValueAt next s place y
    → Rep next s tracked' rows' used' (insert_state S d ys)

-- d has the values of inits in the order of a type's names, where each is given
abbrev pub NamesTracked : ValueId → Listed → Listed → Marks → List ℕ → ℕ → Marks → List ℕ → Answered ℕ → Type 0
NamesTracked d inits names tracked rows used tracked' rows' r =
    (next : ℕ) (S : AggStates) (fs : List FieldInit) (ts : List StructField)
    → Rep next inits.bytes.now tracked rows used S
    → Room rows used
    → d.0 < most_values
    → Inits next inits.bytes.now inits.at fs
    → length fs ≡ inits.count
    → Names names.bytes.now names.at ts
    → length ts ≡ names.count
    → names.count ≤ most_parts
    → (is_answered r ≡ is_some (from_struct_fields fs ts))
    × Rep next inits.bytes.now tracked' rows' (unwrap_or r used) (given_parts S d (from_struct_fields fs ts))

-- of values, `before` bytes before each, the places stand from `to` on
abbrev pub PlacesPut : Listed → ℕ → List ℕ → ℕ → List ℕ → Type 0
PlacesPut values before rows to rows' =
    (next : ℕ) (xs : List Value)
    → Values next values.bytes.now before values.at xs
    → length xs ≡ values.count
    → length values.bytes.now < most_bytes
    → to + values.count ≤ length rows
    → Filled next values.bytes.now rows' to xs values.count

-- n numbers of the table from `from` on stand from `to` on, behind them
abbrev pub RowCopied : ℕ → ℕ → ℕ → List ℕ → List ℕ → Type 0
RowCopied from to n rows rows' =
    from + n ≤ to
    → to + n ≤ length rows
    → (j : ℕ)
    → j < n
    → get_or rows' (to + j) 0 ≡ get_or rows (from + j) 0

-- nothing is tracked
abbrev pub Cleared : Marks → Marks → Type 0
Cleared tracked tracked' =
    (next : ℕ) (s rows : List ℕ) (used : ℕ)
    → used ≤ length rows
    → rows_from ≤ used
    → length tracked ≡ most_values
    → length s < most_bytes
    → Rep next s tracked' rows used no_states

-- these are the places of v's parts
abbrev pub PartsStand : List ℕ → ValueId → List ℕ → Type 0
PartsStand rows v places =
    (next : ℕ) (s : List ℕ) (tracked : Marks) (used : ℕ) (S : AggStates) (xs : List Value)
    → Rep next s tracked rows used S
    → S v.0 ≡ some xs
    → RowAt next s places 0 xs × (length xs ≡ length places)

-- n is the number of v's parts
abbrev pub PartsCounted : List ℕ → ValueId → ℕ → Type 0
PartsCounted rows v n =
    (next : ℕ) (s : List ℕ) (tracked : Marks) (used : ℕ) (S : AggStates) (xs : List Value)
    → Rep next s tracked rows used S
    → S v.0 ≡ some xs
    → n ≡ length xs

-- where part k of v stands, if there is one
abbrev pub FindsPart : Parts → ValueId → ℕ → Answered ℕ → Type 0
FindsPart parts v k r =
    (next : ℕ) (s : List ℕ) (used : ℕ) (S : AggStates)
    → Rep next s parts.tracked.now parts.rows.now used S
    → InitAt next s (on_some (S v.0) (λ xs. get_elem? xs k)) r
