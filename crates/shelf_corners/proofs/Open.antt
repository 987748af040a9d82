-- Every definition on the way of a rewriting, of its bytes, of a shelf reason and of an answer, opened for computation.
use Rattle.mir.specs.Parts.{field_type, part_type, part_count, counts, operand_row, is_pointer}
use Rattle.shelf.specs.Fits.{literal_kind, scalar_kind, same_type, fits, all_fit, parts_fit, step_type, place_type, given_fits, fields_fit, arguments_fit}
use Rattle.bytes_struct.specs.FindField.{field_type_of}
use Rattle.shelf.specs.Agrees.{is_scalar_type, is_scalar, is_index, index_fits, pointee, pointed, reached, place_fits, dests_fit, equal_types, agrees, is_condition, is_known, end_agrees, counted_agrees, block_agrees}
use Rattle.shelf.specs.Reads.{defined_in, ordered, aggregate_base, bases_in, bases, apart, is_deep, shallow, clean, clean_terminator}
use Rattle.shelf.specs.Reason.{types_agree, in_order, kept_apart, no_deep_store, reads_no_dropped, shelf_reason}
use Rattle.rewrite.proofs.Open.{all_open}
use Rattle.bytes_field.specs.Encode.{field_bytes, instruction_bytes, terminator_bytes}
use Rattle.bytes_block.specs.Encode.{block_bytes}
use Rattle.bytes_types.specs.Encode.{type_bytes, types_bytes}
use Rattle.bytes_sections.specs.Encode.{encode}
use Rattle.bytes_sections.proofs.Examples.{reading}
use Rattle.rewrite.specs.Outcome.{fitted_in, unless, rewritten, of_input, outcome}
use Rattle.shelf.specs.Answer.{reason_of, with_reason, answer}
use Rattle.shelf_corners.specs.Words.{summary, aside_of}

-- the bytes of a routine
unfoldable open_bytes : Unit {0}
unfolding encode type_bytes types_bytes block_bytes field_bytes instruction_bytes terminator_bytes
open_bytes = tt

-- the parts of types
unfoldable open_parts : Unit {0}
unfolding field_type part_type part_count counts operand_row is_pointer
open_parts = tt

-- shelf reason 1
unfoldable open_types : Unit {0}
unfolding literal_kind scalar_kind same_type fits all_fit parts_fit field_type_of step_type place_type given_fits fields_fit arguments_fit is_scalar_type is_scalar is_index index_fits pointee pointed reached place_fits dests_fit equal_types agrees is_condition is_known end_agrees counted_agrees block_agrees
open_types = tt

-- the other reasons, and the lowest that holds
unfoldable open_reasons : Unit {0}
unfolding defined_in ordered aggregate_base bases_in bases apart is_deep shallow clean clean_terminator types_agree in_order kept_apart no_deep_store reads_no_dropped shelf_reason
open_reasons = tt

-- all of it
unfoldable pub opened : Unit {0}
unfolding all_open open_bytes open_parts open_types open_reasons
opened = tt

-- what is answered of bytes
unfoldable pub answering : Unit {0}
unfolding opened reading fitted_in unless rewritten of_input outcome reason_of with_reason answer summary aside_of
answering = tt
