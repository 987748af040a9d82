-- No type reaches further than its bytes.
use Prim.Native.Nat.{ℕ, zero, suc, ◌≤◌, zero-le}
use mathlib.Core.List.{List, [], ◌∷◌, ◌++◌}
use mathlib.Core.Bool.{not}
use native.Mathlib.Nat.{le_trans}
use lib.ListN.{length}
use lib.Dec.{leb}
use Rattle.bytes_wire.specs.Parse.{Parse, map_parse, checked}
use Rattle.bytes_wire.specs.Number.{u16_of}
use Rattle.bytes_wire.specs.declared.Cause.{Cause}
use Rattle.mir.specs.declared.NameId.{NameId}
use Rattle.bytes_wire.proofs.Laws.{size, size_map, size_checked, size_and, size_number, size_below, size_seq, size_tagged, none, ◌&◌}
use Rattle.bytes_field.specs.Decode.{type_id_of, name_id_of, count_of, list_of}
use Rattle.bytes_field.specs.Walk.{unit}
use Rattle.bytes_field.proofs.Sizes.{size_count}
use Rattle.mir.specs.MirType.{MirType}
use Rattle.bytes_types.specs.Decode.{has_name, new_name_of, struct_fields, struct_of, type_kinds, type_of, has_type, type_seq, types_of}

-- a type number
size_type_id : (own : ℕ) (s : List ℕ) → size (type_id_of own s) ≤ length s
size_type_id own s = rw size_map (size_below own s)

-- a name number
size_name_id : (s : List ℕ) → size (name_id_of s) ≤ length s
size_name_id s = rw size_map (size_number 2 s)

-- a new name
size_new_name : (names : List NameId) (s : List ℕ) → size (new_name_of names s) ≤ length s
size_new_name names s = le_trans (size_checked Cause.Repeated (λ x. not (has_name x names)) (name_id_of s)) (size_name_id s)

-- a list
size_list_of : {A : Type 0} (most : ℕ) (dec : List ℕ → Parse A) → ((t : List ℕ) → size (dec t) ≤ length t) → (s : List ℕ) → size (list_of most dec s) ≤ length s
unfolding list_of
size_list_of most dec h s = size_and s (count_of most s) _ (size_count most s) (λ n t. size_seq dec h n t)

-- a struct's fields
pub size_fields : (own : ℕ) (names : List NameId) (k : ℕ) (s : List ℕ) → size (struct_fields own names k s) ≤ length s
unfolding struct_fields
size_fields own names zero s = zero-le
size_fields own names (suc k) s =
    size_and s (new_name_of names s) _ (size_new_name names s) (λ n t.
    size_and t (type_id_of own t) _ (size_type_id own t) (λ p u.
    rw size_map (size_fields own (n ∷ names) k u)))

-- a struct
pub size_struct : (most own : ℕ) (s : List ℕ) → size (struct_of most own s) ≤ length s
unfolding struct_of
size_struct most own s =
    size_and s (name_id_of s) _ (size_name_id s) (λ n t.
    size_and t (count_of most t) _ (size_count most t) (λ k u.
    rw size_map (size_fields own [] k u)))

-- a type
pub size_type : (most own : ℕ) (s : List ℕ) → size (type_of most own s) ≤ length s
unfolding type_of
size_type most own s =
    size_tagged (type_kinds most own)
    ((λ t. zero-le)
    & (λ t. zero-le)
    & (λ t. zero-le)
    & (λ t. rw size_map (size_list_of most (type_id_of own) (size_type_id own) t))
    & (λ t. size_struct most own t)
    & (λ t. size_and t (type_id_of own t) _ (size_type_id own t) (λ p u. rw size_map (size_number 4 u)))
    & (λ t. rw size_map (size_type_id own t))
    & (λ t. size_and t (list_of most (type_id_of own) t) _ (size_list_of most (type_id_of own) (size_type_id own) t) (λ ps u. rw size_map (size_type_id own u)))
    & (λ t. zero-le)
    & (λ t. zero-le)
    & (λ t. zero-le)
    & none)
    s

-- several types
pub size_type_seq : (most : ℕ) (earlier : List MirType) (k : ℕ) (s : List ℕ) → size (type_seq most earlier k s) ≤ length s
unfolding type_seq
size_type_seq most earlier zero s = zero-le
size_type_seq most earlier (suc k) s =
    size_and s (checked Cause.Repeated (λ t. not (has_type t earlier)) (type_of most (length earlier) s)) _
    (le_trans (size_checked Cause.Repeated (λ t. not (has_type t earlier)) (type_of most (length earlier) s)) (size_type most (length earlier) s))
    (λ t u. rw size_map (size_type_seq most (earlier ++ (t ∷ [])) k u))

-- the table
pub size_types : (most_types most : ℕ) (s : List ℕ) → size (types_of most_types most s) ≤ length s
unfolding types_of
size_types most_types most s =
    size_and s (checked Cause.TooMany (λ n. leb n most_types) (u16_of s)) _
    (le_trans (size_checked Cause.TooMany (λ n. leb n most_types) (u16_of s)) (size_number 2 s))
    (λ n t. size_type_seq most [] n t)

-- a type of which nothing is kept
pub size_unit_type : (most own : ℕ) (s : List ℕ) → size (map_parse unit (type_of most own s)) ≤ length s
size_unit_type most own s = rw size_map (size_type most own s)
