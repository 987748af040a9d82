-- Every definition on the way of a rewriting, opened for computation.
use Rattle.mir.specs.Lookup.{row_of, recorded_type, value_row, shape, is_tuple, is_struct, is_array, is_aggregate, struct_fields_of, is_operand, is_integer, as_const_integer, any, is_some, on_some, types_in}
use Rattle.bytes_struct.specs.FindField.{find_from, find_field, field_index}
use Rattle.mir.specs.Parts.{given, or_else, struct_row, cons_part, from_struct_fields, struct_parts}
use Rattle.mir.specs.Phis.{behind_phis, phis_of}
use Rattle.fold.specs.Scalarizable.{is_scalarizable}
use Rattle.fold.specs.Family.{joins, member, sweep, sweeps, family, build_dest, accessed, dynamic_first, dynamic_at, has_dynamic_index, reads_one, read_elsewhere, union, cross_family, cross_build, cross_builds, cross_blocks, cross_block_aggregates}
use Rattle.fold.specs.Climb.{buildable, is_build_of, build_of, buildable_of, given_parts, constant_first, on_base, onward, climb_parts, climb_build, climb_one, climb_all, climb, can_scalarize}
use Rattle.fold.specs.Fold.{tuple_parent, folds_tuple, folds_struct, folds_array, aggregate_phi, skipped}
use Rattle.rewrite.specs.State.{no_states, insert_state, state_of, cons_some, replaced, step_index, step_part, chain, first_integer, store_part, store_last, store_deeper, store_from, forward_store}
use Rattle.rewrite.specs.Fault.{first_met, full_fault, lines_fault}
use Rattle.rewrite.specs.Rebuild.{fitted, named, rebuild_at, clashes, clash_fault, keep_value, added_fault, rebuild_value, one_value, rebuild_all, aggregate_type, wanted_arguments, return_type, wanted_returns}
use Rattle.rewrite.specs.Deep.{own_type, wanted_own, kept_parts, loop_fault, begun, whole_then, deep_value, deep_values, deep_all, rebuild_deep}
use Rattle.rewrite.specs.Readings.{readings, first, others, base_of, with_indices, behind_indices, with_inits, with_readings}
use Rattle.rewrite.specs.Piece.{kept, left, tracked, assigned}
use Rattle.rewrite.specs.Stays.{store_rebuilt, store_kept, step_call, guarded, stays_first, any_fresh, kept_behind, stays_second, stays_in, stays}
use Rattle.rewrite.specs.Step.{is_boolean, walkable, step_build, folded_parts, step_insert, hand_on, step_extract, extract_index, step_loaded, step_load, step_store, step_assign, step_kind, step}
use Rattle.rewrite.specs.Run.{ends, returned, rebuilt_return, finish, glue, walk, folds_build, folds_in, block_then, skip_then, one_block, all_blocks, choice, rewritten_blocks, rewrite_with, rewrite}

-- look-ups in a routine, and the parts of types
unfoldable open_lookups : Unit {0}
unfolding row_of recorded_type value_row shape is_tuple is_struct is_array is_aggregate struct_fields_of find_from find_field field_index is_operand is_integer as_const_integer any is_some on_some types_in given or_else struct_row cons_part from_struct_fields struct_parts behind_phis phis_of is_scalarizable
open_lookups = tt

-- which aggregates are used across blocks
unfoldable open_families : Unit {0}
unfolding joins member sweep sweeps family build_dest accessed dynamic_first dynamic_at has_dynamic_index reads_one read_elsewhere union cross_family cross_build cross_builds cross_blocks cross_block_aggregates
open_families = tt

-- which builds are folded, which blocks are skipped
unfoldable open_choice : Unit {0}
unfolding buildable is_build_of build_of buildable_of given_parts constant_first on_base onward climb_parts climb_build climb_one climb_all climb can_scalarize tuple_parent folds_tuple folds_struct folds_array aggregate_phi skipped
open_choice = tt

-- the parts of tracked values, and rebuilds
unfoldable open_states : Unit {0}
unfolding no_states insert_state state_of cons_some replaced step_index step_part chain first_integer store_part store_last store_deeper store_from forward_store fitted named rebuild_at clashes first_met full_fault lines_fault clash_fault keep_value added_fault rebuild_value one_value rebuild_all aggregate_type wanted_arguments return_type wanted_returns
open_states = tt

-- edition 2's rebuilds and readings
unfoldable open_deep : Unit {0}
unfolding own_type wanted_own kept_parts loop_fault begun whole_then deep_value deep_values deep_all rebuild_deep readings first others base_of with_indices behind_indices with_inits with_readings
open_deep = tt

-- one instruction
unfoldable open_steps : Unit {0}
unfolding kept left tracked assigned step_build folded_parts step_insert hand_on step_extract extract_index step_loaded step_load store_rebuilt store_kept step_store step_assign step_call guarded stays_first any_fresh kept_behind stays_second stays_in stays is_boolean walkable step_kind step
open_steps = tt

-- a routine
unfoldable open_run : Unit {0}
unfolding ends returned rebuilt_return finish glue walk folds_build folds_in block_then skip_then one_block all_blocks choice rewritten_blocks rewrite_with rewrite
open_run = tt

-- all of it
unfoldable pub all_open : Unit {0}
unfolding open_lookups open_families open_choice open_states open_deep open_steps open_run
all_open = tt
