-- Where the rows of a type table stand, as the code finds them again.
use Rattle.std.specs.Prelude.{ℕ, suc, ◌-◌, ◌≤◌, ◌<◌, ◌≡◌, List, Bool, length, get_or, drop}
use Rattle.bytes_wire.specs.Parse.{Parse, ok, and_then, map_parse}
use Rattle.bytes_wire.specs.WellFormed.{Bytes}
use Rattle.mir.specs.declared.NameId.{NameId}
use Rattle.mir.specs.declared.TypeId.{TypeId}
use Rattle.bytes_field.specs.Decode.{type_id_of}
use Rattle.bytes_field.specs.Walk.{unit}
use Rattle.mir.specs.MirType.{MirType}
pub use Rattle.bytes_before.specs.Before.{names_at}
use Rattle.bytes_types.specs.Decode.{new_name_of, type_of, has_type, types_of}

-- a struct's field, of which only its type is kept
abbrev pub field_of : ℕ → List NameId → List ℕ → Parse TypeId
field_of own names s = and_then s (new_name_of names s) (λ n t. type_id_of own t)

-- type k stands from place k of `starts` to place k + 1
pub record TypesAt (most : ℕ) (s starts : List ℕ) (ts : List MirType) : Type 0 where
  pub each : (k : ℕ) → k < length ts → type_of most k (drop (get_or starts k 0) s) ≡ ok (get_or ts k MirType.Unit) (get_or starts (suc k) 0 - get_or starts k 0)
  pub rises : (k : ℕ) → k < length ts → get_or starts k 0 ≤ get_or starts (suc k) 0
  pub within : (k : ℕ) → k ≤ length ts → get_or starts k 0 ≤ length s

-- testing whether one of the k types before has the bytes from `at` to `end`
abbrev pub TestedBefore : List ℕ → List ℕ → ℕ → ℕ → ℕ → Bool → Type 0
TestedBefore s starts k at end r = (most own : ℕ) (ts : List MirType) (t : MirType)
    → Bytes s
    → length ts ≡ k
    → TypesAt most s starts ts
    → type_of most own (drop at s) ≡ ok t (end - at)
    → r ≡ has_type t ts

-- what reading the table gives: the definition's answer and, where that is a table, its places
pub record TypesRead (most_types most : ℕ) (s : List ℕ) (answer : Parse (Unit {0})) (before starts : List ℕ) : Type 0 where
  pub answers : answer ≡ map_parse unit (types_of most_types most s)
  pub long : length starts ≡ length before
  pub places : (ts : List MirType) (n : ℕ) → types_of most_types most s ≡ ok ts n → TypesAt most s starts ts
  pub first : (ts : List MirType) (n : ℕ) → types_of most_types most s ≡ ok ts n → get_or starts 0 0 ≡ 2
