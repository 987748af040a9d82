-- No walk reaches further than its bytes.
use Prim.Native.Nat.{ℕ, zero, suc, ◌≤◌, ◌/◌, ◌%◌, zero-le}
use mathlib.Core.List.{List, [], ◌∷◌}
use mathlib.Core.Bool.{Bool, false, not}
use native.Mathlib.Nat.{le_trans}
use lib.ListN.{length, get_or}
use lib.Dec.{leb, ltb, eqb}
use Rattle.bytes_wire.specs.Parse.{Parse, map_parse, checked}
use Rattle.bytes_wire.specs.Number.{u8_of, u32_of}
use Rattle.bytes_wire.specs.Value.{value_of, value_id_of}
use Rattle.bytes_wire.specs.declared.Cause.{Cause}
use Rattle.bytes_wire.proofs.Laws.{size, size_map, size_cond, size_checked, size_and, size_number, size_below, size_id, size_value, size_tagged, none, ◌&◌}
use Rattle.mir.specs.declared.Projection.{Projection}
use Rattle.bytes_field.specs.Decode.{name_id_of, count_of, defined_of, operation_of, projection_of}
use Rattle.bytes_field.specs.Walk.{Walk, simple_walk, atom_walk, pair_walk, times, counts, list_walk, any_many, exactly, place_walk, field_walk, row_walk}
use Rattle.bytes_field.specs.declared.Bounds.{Bounds}
use Rattle.bytes_field.specs.declared.Lists.{Lists}

-- a value that is defined here
size_defined : (next : ℕ) (seen : List Bool) (s : List ℕ) → size (defined_of next seen s) ≤ length s
size_defined next seen s = le_trans (size_checked Cause.Redefined (λ d. not (get_or seen d.0 false)) (value_id_of next s)) (size_id next s)

-- an operation
pub size_operation : (many : ℕ) (s : List ℕ) → size (operation_of many s) ≤ length s
size_operation many s = le_trans (size_checked Cause.Undefined (λ x. ltb x many) (u8_of s)) (size_number 1 s)

-- a count
pub size_count : (most : ℕ) (s : List ℕ) → size (count_of most s) ≤ length s
size_count most s = le_trans (size_checked Cause.TooMany (λ n. leb n most) (u8_of s)) (size_number 1 s)

-- a projection
pub size_projection : (next : ℕ) (s : List ℕ) → size (projection_of next s) ≤ length s
unfolding projection_of
size_projection next s =
    size_tagged
    ((λ t. map_parse Projection.Index (value_of next t)) ∷ (λ t. map_parse Projection.Field (name_id_of t)) ∷ (λ t. map_parse Projection.Tuple (u32_of t)) ∷ [])
    ((λ t. rw size_map (size_value next t)) & (λ t. rw (size_map, size_map) (size_number 2 t)) & (λ t. rw size_map (size_number 4 t)) & none)
    s

-- one field
pub size_simple : (b : Bounds) (c : ℕ) (w : Walk) (s : List ℕ) → size (simple_walk b c w s) ≤ length s
unfolding simple_walk
size_simple b zero w s = zero-le
size_simple b (suc zero) w s = rw size_map (size_defined b.next w.seen s)
size_simple b (suc (suc zero)) w s = rw size_map (size_value b.next s)
size_simple b (suc (suc (suc zero))) w s = rw size_map (size_below b.types s)
size_simple b (suc (suc (suc (suc zero)))) w s = rw size_map (size_number 2 s)
size_simple b (suc (suc (suc (suc (suc zero))))) w s = rw size_map (size_number 4 s)
size_simple b (suc (suc (suc (suc (suc (suc zero)))))) w s = rw size_map (size_below b.blocks s)
size_simple b (suc (suc (suc (suc (suc (suc (suc zero))))))) w s = rw size_map (size_id b.next s)
size_simple b (suc (suc (suc (suc (suc (suc (suc (suc zero)))))))) w s = rw size_map (size_operation 26 s)
size_simple b (suc (suc (suc (suc (suc (suc (suc (suc (suc zero))))))))) w s = rw size_map (size_operation 16 s)
size_simple b (suc (suc (suc (suc (suc (suc (suc (suc (suc (suc c)))))))))) w s = zero-le

-- one field, or a projection
pub size_atom : (b : Bounds) (c : ℕ) (w : Walk) (s : List ℕ) → size (atom_walk b c w s) ≤ length s
unfolding atom_walk
size_atom b c w s = size_cond (eqb c 10) _ _ _ (λ e. rw size_map (size_projection b.next s)) (size_simple b c w s)

-- an element
pub size_pair : (b : Bounds) (c d : ℕ) (w : Walk) (s : List ℕ) → size (pair_walk b c d w s) ≤ length s
size_pair b c d w s = size_and s (atom_walk b c w s) (λ v t. atom_walk b d v t) (size_atom b c w s) (λ v t. size_atom b d v t)

-- several elements
pub size_times : (f : Walk → List ℕ → Parse Walk) → ((w : Walk) (t : List ℕ) → size (f w t) ≤ length t) → (k : ℕ) (w : Walk) (s : List ℕ) → size (times f k w s) ≤ length s
unfolding times
size_times f h zero w s = zero-le
size_times f h (suc k) w s = size_and s (f w s) (λ v t. times f k v t) (h w s) (λ v t. size_times f h k v t)

-- a list
pub size_list : (b : Bounds) (l : Lists) (c d : ℕ) (w : Walk) (s : List ℕ) → size (list_walk b l c d w s) ≤ length s
unfolding list_walk
size_list b l c d w s =
    size_and s (checked Cause.CallCounts (counts l) (count_of l.most s)) (λ n t. times (pair_walk b c d) n w t)
    (le_trans (size_checked Cause.CallCounts (counts l) (count_of l.most s)) (size_count l.most s))
    (λ n t. size_times (pair_walk b c d) (size_pair b c d) n w t)

-- a place
pub size_place : (b : Bounds) (w : Walk) (s : List ℕ) → size (place_walk b w s) ≤ length s
unfolding place_walk
size_place b w s = size_and s (simple_walk b 7 w s) (λ v t. list_walk b (any_many b.projections) 10 0 v t) (size_simple b 7 w s) (λ v t. size_list b (any_many b.projections) 10 0 v t)

-- a field of a row
pub size_field : (b : Bounds) (many c : ℕ) (w : Walk) (s : List ℕ) → size (field_walk b many c w s) ≤ length s
unfolding field_walk
size_field b many zero w s = size_simple b 0 w s
size_field b many (suc zero) w s = size_simple b 1 w s
size_field b many (suc (suc zero)) w s = size_simple b 2 w s
size_field b many (suc (suc (suc zero))) w s = size_simple b 3 w s
size_field b many (suc (suc (suc (suc zero)))) w s = size_simple b 4 w s
size_field b many (suc (suc (suc (suc (suc zero))))) w s = size_simple b 5 w s
size_field b many (suc (suc (suc (suc (suc (suc zero)))))) w s = size_simple b 6 w s
size_field b many (suc (suc (suc (suc (suc (suc (suc zero))))))) w s = size_place b w s
size_field b many (suc (suc (suc (suc (suc (suc (suc (suc zero)))))))) w s = size_simple b 8 w s
size_field b many (suc (suc (suc (suc (suc (suc (suc (suc (suc zero))))))))) w s = size_simple b 9 w s
size_field b many (suc (suc (suc (suc (suc (suc (suc (suc (suc (suc zero)))))))))) w s = size_list b (any_many b.list) 2 0 w s
size_field b many (suc (suc (suc (suc (suc (suc (suc (suc (suc (suc (suc zero))))))))))) w s = size_list b (any_many b.list) 3 0 w s
size_field b many (suc (suc (suc (suc (suc (suc (suc (suc (suc (suc (suc (suc zero)))))))))))) w s = size_list b (any_many b.list) 1 0 w s
size_field b many (suc (suc (suc (suc (suc (suc (suc (suc (suc (suc (suc (suc (suc zero))))))))))))) w s = size_list b (any_many b.list) 4 2 w s
size_field b many (suc (suc (suc (suc (suc (suc (suc (suc (suc (suc (suc (suc (suc (suc zero)))))))))))))) w s = size_list b (any_many b.list) 6 2 w s
size_field b many (suc (suc (suc (suc (suc (suc (suc (suc (suc (suc (suc (suc (suc (suc (suc zero))))))))))))))) w s = size_list b (exactly b.list many) 3 0 w s
size_field b many (suc (suc (suc (suc (suc (suc (suc (suc (suc (suc (suc (suc (suc (suc (suc (suc c)))))))))))))))) w s = zero-le

-- a row
pub size_row : (b : Bounds) (many k row : ℕ) (w : Walk) (s : List ℕ) → size (row_walk b many k row w s) ≤ length s
unfolding row_walk
size_row b many zero row w s = zero-le
size_row b many (suc k) row w s = size_and s (field_walk b many (row % 16) w s) (λ v t. row_walk b many k (row / 16) v t) (size_field b many (row % 16) w s) (λ v t. size_row b many k (row / 16) v t)
