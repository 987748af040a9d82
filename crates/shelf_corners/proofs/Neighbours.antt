-- What document 01 says beside the corners that it marks with (P): the same words, computed in the same way.
use mathlib.Core.Path.{◌≡◌, refl}
use mathlib.Core.List.{[], ◌∷◌}
use mathlib.Core.Bool.{true, false}
use mathlib.Core.Option.{some}
use lib.ListN.{replicate}
use Rattle.bytes_wire.specs.Value.{integer, boolean, unit}
use Rattle.bytes_sections.specs.Encode.{encode}
use Rattle.bytes_sections.proofs.Examples.{example}
use Rattle.rewrite.specs.declared.Fault.{Fault}
use Rattle.rewrite.specs.Run.{rewritten_blocks, rewrite}
use Rattle.fold.specs.declared.Edition.{Edition}
use Rattle.fold.specs.Scalarizable.{defaults}
use Rattle.shelf_corners.specs.Words.{felt, pair, point, felts, eight, pairs, points, nine_pairs}
use Rattle.shelf_corners.specs.Words.{op, two, by, part, tuple, struct, array, extract, insert, assign, load, store, call, marked, routine}
use Rattle.shelf_corners.specs.Words.{counts, pass, shows, Untouched, reason}
use Rattle.shelf_corners.proofs.Open.{opened}

-- ## document 01's example: a tuple of 7 and 8, part 1 returned

-- the bytes that it prints
pub worked : encode (rewrite defaults example) ≡ 2 ∷ 0 ∷ 0 ∷ 3 ∷ 2 ∷ 0 ∷ 0 ∷ 0 ∷ 0 ∷ 2 ∷ 0 ∷ 1 ∷ 0 ∷ 0 ∷ 0 ∷ 0 ∷ 3 ∷ 1 ∷ 0 ∷ 0 ∷ 0 ∷ 1 ∷ 0 ∷ 0 ∷ 0 ∷ 1 ∷ 0 ∷ 0 ∷ 8 ∷ 0 ∷ 0 ∷ 0 ∷ 0 ∷ 0 ∷ 3 ∷ 1 ∷ 3 ∷ 1 ∷ 0 ∷ []
unfolding opened
worked = refl

-- its shelf reason
pub worked_passes : reason example ≡ 0
unfolding opened
worked_passes = refl

-- ## instruction.rs

-- a Call without a rebuilt argument keeps span, expression id and comment
pub call_keeps : Untouched defaults (routine [] (marked (call two (felt ∷ felt ∷ [])) ∷ []) [])
unfolding opened
call_keeps = refl

-- "so does the Assign that stands for an extract or Load": it loses them
pub assign_loses :
    pass defaults (routine (pair ∷ felt ∷ felt ∷ []) (tuple 0 two ∷ marked (extract 1 0 1 felt) ∷ marked (load 2 0 (by (integer 0) ∷ [])) ∷ []) (op 1 ∷ op 2 ∷ []))
    ≡ shows (assign 1 (integer 8) felt ∷ assign 2 (integer 7) felt ∷ []) (op 1 ∷ op 2 ∷ []) (0 ∷ []) (counts 1 2 0 0 0)
unfolding opened
assign_loses = refl

-- "A rebuilt array has is_const false"
pub array_not_const :
    pass defaults (routine (felts ∷ []) (array 0 two felt true ∷ []) (op 0 ∷ []))
    ≡ shows (array 1 two felt false ∷ []) (op 1 ∷ []) (0 ∷ []) (counts 1 0 0 0 1)
unfolding opened
array_not_const = refl

-- ## sroa.rs: what is tracked

-- "The count is the type's, not the build's": 9 parts at the type of 8
pub count_of_the_type :
    pass defaults (routine (eight ∷ []) (tuple 0 (replicate 9 (integer 7)) ∷ []) [])
    ≡ shows [] [] (0 ∷ []) (counts 1 0 0 0 0)
unfolding opened
count_of_the_type = refl

-- a struct standing once in a tuple is tracked, and the extract hands its parts on
pub struct_once :
    pass defaults (routine (point ∷ points ∷ point ∷ []) (struct 0 7 8 ∷ tuple 1 (op 0 ∷ unit ∷ []) ∷ extract 2 1 0 point ∷ []) (op 2 ∷ []))
    ≡ shows (struct 3 7 8 ∷ []) (op 3 ∷ []) (0 ∷ 1 ∷ 2 ∷ []) (counts 2 1 0 0 1)
unfolding opened
struct_once = refl

-- "A tuple's build looks only at MakeTuple parents, so a tuple inside a kept array is still dropped"
pub tuple_in_kept_array :
    pass defaults (routine (pair ∷ nine_pairs ∷ []) (tuple 0 two ∷ array 1 (replicate 9 (op 0)) pair false ∷ []) [])
    ≡ shows (array 1 (replicate 9 (op 0)) pair false ∷ []) [] (0 ∷ []) (counts 1 0 0 0 0)
unfolding opened
tuple_in_kept_array = refl

-- "With enable_tuples off, arrays, Loads and Stores are left too"
pub tuples_off :
    Untouched (record { tuples = false; structs = true; most = 8; edition = Edition.First })
    (routine (felts ∷ felt ∷ []) (array 0 two felt false ∷ store 0 (by (integer 1) ∷ []) (integer 9) felt ∷ load 1 0 (by (integer 1) ∷ []) ∷ []) (op 1 ∷ []))
unfolding opened
tuples_off = refl

-- ## sroa.rs: Loads and inserts

-- by a Boolean, too, a tuple is dropped, and the Load that stays reads a dropped value
pub load_boolean_tuple :
    pass defaults (routine (pair ∷ felt ∷ []) (tuple 0 two ∷ load 1 0 (by (boolean true) ∷ []) ∷ []) (op 1 ∷ []))
    ≡ shows (load 1 0 (by (boolean true) ∷ []) ∷ []) (op 1 ∷ []) (0 ∷ []) (counts 1 0 0 0 0)
unfolding opened
load_boolean_tuple = refl

-- so it does by a Tuple step, where types agree: shelf reason 5
pub load_tuple_reason : reason (routine (pair ∷ felt ∷ []) (tuple 0 two ∷ load 1 0 (part 1 ∷ []) ∷ []) (op 1 ∷ [])) ≡ 5
unfolding opened
load_tuple_reason = refl

-- the Store by a Tuple step counts as a read of its base: shelf reason 5
pub store_tuple_reason : reason (routine (pair ∷ []) (tuple 0 two ∷ store 0 (part 1 ∷ []) (integer 9) felt ∷ []) (op 0 ∷ [])) ≡ 5
unfolding opened
store_tuple_reason = refl

-- behind an insert the new part is read, of the old value the old one
pub insert_read :
    pass defaults (routine (pair ∷ pair ∷ felt ∷ felt ∷ []) (tuple 0 two ∷ insert 1 0 1 (integer 9) pair ∷ extract 2 1 1 felt ∷ extract 3 0 1 felt ∷ []) (op 2 ∷ op 3 ∷ []))
    ≡ shows (assign 2 (integer 9) felt ∷ assign 3 (integer 8) felt ∷ []) (op 2 ∷ op 3 ∷ []) (0 ∷ 1 ∷ []) (counts 1 2 1 0 0)
unfolding opened
insert_read = refl

-- ## sroa.rs: rebuilds

-- "A rebuilt value takes the next value number, which rises by one": two arguments and a returned value take three
pub three_rebuilds :
    pass defaults (routine (pair ∷ []) (tuple 0 two ∷ call (op 0 ∷ op 0 ∷ []) (pair ∷ pair ∷ []) ∷ []) (op 0 ∷ []))
    ≡ shows (tuple 1 two ∷ tuple 2 two ∷ call (op 1 ∷ op 2 ∷ []) (pair ∷ pair ∷ []) ∷ tuple 3 two ∷ []) (op 3 ∷ []) (0 ∷ []) (counts 1 0 0 0 3)
unfolding opened
three_rebuilds = refl

-- "A returned value recorded at a type that is no aggregate takes a number and a count, but no instruction"
pub returned_bare :
    pass defaults (routine (pair ∷ pairs ∷ felt ∷ []) (tuple 0 two ∷ tuple 1 (op 0 ∷ op 0 ∷ []) ∷ extract 2 1 0 felt ∷ []) (op 2 ∷ []))
    ≡ shows [] (op 3 ∷ []) (0 ∷ 1 ∷ 2 ∷ []) (counts 2 1 0 0 1)
unfolding opened
returned_bare = refl

-- "An array of another count panics: refusal 10"
pub array_clashes : (rewritten_blocks defaults (routine (felts ∷ []) (array 0 (unit ∷ []) felt false ∷ []) (op 0 ∷ []))).fault ≡ some Fault.Clash
unfolding opened
array_clashes = refl
