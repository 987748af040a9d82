-- A search for a family, as the code makes it: what it leaves, and what it promises.
use Rattle.std.specs.Prelude.{Option, Some, None, is_some, ℕ, ◌+◌, ◌≤◌, ◌<◌, ◌≡◌, List, length, get_or, set, replicate}
use Rattle.std.specs.Prelude.{Bool, true, false, not, ◌&&◌, ◌||◌, eqb, ltb}
use Rattle.mir.specs.declared.ValueId.{ValueId}
use Rattle.mir.specs.Syntax.{Instruction}
use Rattle.mir.specs.Lookup.{Types, value_row, shape}
use Rattle.mir.specs.Most.{most_values, most_instructions}
use Rattle.fold.specs.Family.{Marks, mark, family, has_dynamic_index}
use Rattle.fold_family.specs.Copies.{any_shape, copies, row_at, firsts_at, RowsAt, dynamics}
use Rattle.fold_family.specs.Turns.{size, turns_of}
use Rattle.fold_family.specs.declared.Search.{Search}
use Rattle.fold_family.specs.declared.Found.{Found}

-- as many turns as a search can take: one for each value, and one for each copy of a block (src/lib.rt has the same)
abbrev pub most_turns : ℕ
most_turns = most_values + most_instructions

-- the row of a copy, as the table has it: 0 for none
abbrev pub row_number : Option ℕ → ℕ
row_number (Some k) = k + 1
row_number None = 0

-- whether copy k of the table joins: it asks for the root's shape, or for any, and its dest is a value that is not marked yet
abbrev pub joins_at : List ℕ → ℕ → ℕ → Marks → Bool
joins_at table k root m =
    let d = get_or table (row_at k) 0 in
    let asked = get_or table (row_at k + 1) 0 in
    (eqb asked any_shape || eqb asked root) && not (get_or m d true)

-- what looking at copy k does to the marks and to the members, of which `found` are found: it passes, or its dest joins
pub data Join (table : List ℕ) (k root found : ℕ) (m after : Marks) (members behind : List ℕ) (r : ℕ) : Type 0 where
  passes : joins_at table k root m ≡ false → after ≡ m → behind ≡ members → r ≡ found → Join table k root found m after members behind r
  joins :
      joins_at table k root m ≡ true
      → after ≡ set m (get_or table (row_at k) 0) true
      → behind ≡ set members found (get_or table (row_at k) 0)
      → r ≡ found + 1
      → Join table k root found m after members behind r

-- a turn: where no copy is to be looked at, the next member is taken, and the last of its copies is the one to look at; else the copy is looked at,
-- and the one before it of the same source is next
pub data Turn (table : List ℕ) (root : ℕ) (q r : Search) (m after : Marks) (members behind : List ℕ) : Type 0 where
  takes :
      q.copy ≡ None
      → r.found ≡ q.found
      → r.taken ≡ q.taken + 1
      → row_number r.copy ≡ get_or table (firsts_at + get_or members q.taken 0) 0
      → after ≡ m
      → behind ≡ members
      → Turn table root q r m after members behind
  looks :
      (k : ℕ)
      → q.copy ≡ Some k
      → r.taken ≡ q.taken
      → row_number r.copy ≡ get_or table (row_at k + 2) 0
      → Join table k root q.found m after members behind r.found
      → Turn table root q r m after members behind

-- a search goes on while a copy is to be looked at, or a member to be taken
abbrev pub is_open : Search → Bool
is_open q = is_some q.copy || ltb q.taken q.found

-- x is among the first n of a table
pub data Listed (table : List ℕ) (n x : ℕ) : Type 0 where
  listed_at : (i : ℕ) → i < n → get_or table i 0 ≡ x → Listed table n x

-- the marked values are the first n of a table, each once
pub record Members (table : List ℕ) (n : ℕ) (m : Marks) : Type 0 where
  pub many : n ≡ size m
  pub marked : (i : ℕ) → i < n → get_or m (get_or table i 0) false ≡ true
  pub only : (x : ℕ) → get_or m x false ≡ true → Listed table n x

-- the flags of the first n of a table are `on`, and no other has changed
pub data Flagged (table : List ℕ) (n : ℕ) (on : Bool) (before after : Marks) (x : ℕ) : Type 0 where
  kept : get_or after x false ≡ get_or before x false → Flagged table n on before after x
  listed : Listed table n x → get_or after x false ≡ on → Flagged table n on before after x

pub record Storing (table : List ℕ) (n : ℕ) (on : Bool) (before after : Marks) : Type 0 where
  pub long : length after ≡ length before
  pub stored : (i : ℕ) → i < n → get_or table i 0 < length before → get_or after (get_or table i 0) false ≡ on
  pub each : (x : ℕ) → Flagged table n on before after x

-- the family of v: its marks, its members, and one turn for each of them and for each of their copies
pub record FamilyFound (τ : Types) (is : List Instruction) (v : ValueId) (m : Marks) (members : List ℕ) (r : Found) : Type 0 where
  pub same : m ≡ family τ v is
  pub turned : r.turns ≡ turns_of τ v is
  pub listed : Members members r.members m

-- the promises: of a search, whose marks are clear before,
abbrev pub FindsFamily : List ℕ → ℕ → ValueId → Marks → Marks → List ℕ → List ℕ → Found → Type 0
FindsFamily table root v clear m room members r =
    (τ : Types) (is : List Instruction)
    → RowsAt table (copies τ is)
    → length (copies τ is) ≤ most_instructions
    → root ≡ shape (value_row τ v)
    → v.0 < length τ.recorded
    → length τ.recorded ≤ most_values
    → most_values ≤ length room
    → clear ≡ replicate (length τ.recorded) false
    → FamilyFound τ is v m members r

-- of the answer that no copy has a value as its source (of the other answer nothing),
abbrev pub IsAlone : List ℕ → ValueId → Bool → Type 0
IsAlone table v r =
    r ≡ true
    → (τ : Types) (is : List Instruction)
    → RowsAt table (copies τ is)
    → family τ v is ≡ mark (replicate (length τ.recorded) false) v

-- of clearing the marks of a family by its members,
abbrev pub ClearsMembers : List ℕ → ℕ → Marks → Marks → Type 0
ClearsMembers members n m after = Members members n m → after ≡ replicate (length m) false

-- of the answer that a member, which is marked, is looked into by an index that is not known,
abbrev pub DynamicIndex : Marks → Marks → Bool → Type 0
DynamicIndex m d r =
    (τ : Types) (v : ValueId) (is : List Instruction)
    → m ≡ family τ v is
    → d ≡ dynamics (replicate (length τ.recorded) false) is
    → r ≡ has_dynamic_index τ v is

-- and of the answer that one of the n members is
abbrev pub MemberIndexed : List ℕ → ℕ → Marks → Bool → Type 0
MemberIndexed members n d r =
    (τ : Types) (v : ValueId) (is : List Instruction)
    → Members members n (family τ v is)
    → d ≡ dynamics (replicate (length τ.recorded) false) is
    → r ≡ has_dynamic_index τ v is
