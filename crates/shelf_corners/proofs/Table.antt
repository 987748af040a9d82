-- The corners that document 01 marks with (P), in its order, in one table. Each row quotes its sentence and is computed from the definitions: what the pass makes
-- of a small routine (the instructions and returned values, the values dropped, the five counts), and where the sentence speaks of it the shelf reason.
use Prim.Native.Nat.{ℕ}
use mathlib.Core.Path.{◌≡◌, refl}
use mathlib.Core.List.{[], ◌∷◌}
use mathlib.Core.Bool.{Bool, true, false}
use mathlib.Core.Option.{none, some}
use lib.ListN.{replicate}
use Rattle.bytes_wire.specs.Value.{integer, boolean, unit}
use Rattle.mir.specs.declared.ValueId.{ValueId}
use Rattle.mir.specs.declared.NameId.{NameId}
use Rattle.mir.specs.declared.Value.{Value}
use Rattle.mir.specs.declared.Projection.{Projection}
use Rattle.mir.specs.Lookup.{as_const_integer}
use Rattle.fold.specs.Scalarizable.{defaults}
use Rattle.shelf_corners.specs.Words.{felt, pair, point, felts, eight, nine, empty, pairs, points, triple, single, pointer}
use Rattle.shelf_corners.specs.Words.{op, two, by, field, part, tuple, struct, array, extract, assign, load, store, call, phi, marked, routine}
use Rattle.shelf_corners.specs.Words.{counts, pass, shows, Untouched, reason, LoadStays, StoreStays}
use Rattle.shelf_corners.proofs.Open.{opened}

-- ## value.rs

-- (P) "`as_const_integer` reads Integer n as n .."
pub const_integer : (n : ℕ) → as_const_integer (integer n) ≡ some n
unfolding opened
const_integer n = refl

-- (P) ".. and Boolean as 0 or 1"
pub const_boolean : (as_const_integer (boolean false) ≡ some 0) × (as_const_integer (boolean true) ≡ some 1)
unfolding opened
const_boolean = (refl, refl)

-- (P) "Unit, Error and operands as none"
pub const_none : (x : ValueId) → (as_const_integer unit ≡ none) × (as_const_integer Value.Error ≡ none) × (as_const_integer (Value.Operand x) ≡ none)
unfolding opened
const_none x = (refl, refl, refl)

-- ## instruction.rs

-- (P) "`Instruction::call` builds a call without span, expression id and comment, so a Call whose argument was rebuilt loses them"
pub call_loses :
    pass defaults (routine (pair ∷ []) (tuple 0 two ∷ marked (call (op 0 ∷ []) (pair ∷ [])) ∷ []) [])
    ≡ shows (tuple 1 two ∷ call (op 1 ∷ []) (pair ∷ []) ∷ []) [] (0 ∷ []) (counts 1 0 0 0 1)
unfolding opened
call_loses = refl

-- ## sroa.rs: the limit

-- (P) "Limit 8: a tuple of 8 is tracked .."
pub tuple_of_8 :
    pass defaults (routine (eight ∷ []) (tuple 0 (replicate 8 (integer 7)) ∷ []) [])
    ≡ shows [] [] (0 ∷ []) (counts 1 0 0 0 0)
unfolding opened
tuple_of_8 = refl

-- (P) ".. of 9 kept"
pub tuple_of_9 : Untouched defaults (routine (nine ∷ []) (tuple 0 (replicate 9 (integer 7)) ∷ []) [])
unfolding opened
tuple_of_9 = refl

-- (P) "A tuple of 0 is tracked"
pub tuple_of_0 :
    pass defaults (routine (empty ∷ []) (tuple 0 [] ∷ []) [])
    ≡ shows [] [] (0 ∷ []) (counts 1 0 0 0 0)
unfolding opened
tuple_of_0 = refl

-- ## sroa.rs: phis

-- (P) "A block with a tuple .. phi is skipped"
pub tuple_phi : Untouched defaults (routine (pair ∷ pair ∷ felt ∷ []) (phi 0 pair ∷ tuple 1 two ∷ extract 2 1 0 felt ∷ []) (op 2 ∷ []))
unfolding opened
tuple_phi = refl

-- (P) "A block with a .. struct phi is skipped"
pub struct_phi : Untouched defaults (routine (point ∷ pair ∷ felt ∷ []) (phi 0 point ∷ tuple 1 two ∷ extract 2 1 0 felt ∷ []) (op 2 ∷ []))
unfolding opened
struct_phi = refl

-- (P) "a FixedArray phi does not skip it"
pub array_phi :
    pass defaults (routine (felts ∷ pair ∷ felt ∷ []) (phi 0 felts ∷ tuple 1 two ∷ extract 2 1 0 felt ∷ []) (op 2 ∷ []))
    ≡ shows (phi 0 felts ∷ assign 2 (integer 7) felt ∷ []) (op 2 ∷ []) (1 ∷ []) (counts 1 1 0 0 0)
unfolding opened
array_phi = refl

-- ## sroa.rs: the first projection, and later ones

-- (P) "The first projection of a Load or Store must be an Integer literal": by one a Load is forwarded
pub load_integer :
    pass defaults (routine (felts ∷ felt ∷ []) (array 0 two felt false ∷ load 1 0 (by (integer 1) ∷ []) ∷ []) (op 1 ∷ []))
    ≡ shows (assign 1 (integer 8) felt ∷ []) (op 1 ∷ []) (0 ∷ []) (counts 1 1 0 0 0)
unfolding opened
load_integer = refl

-- (P) "The first projection of a Load or Store must be an Integer literal": by one a Store is forwarded, and the new part is read behind it
pub store_integer :
    pass defaults (routine (felts ∷ felt ∷ []) (array 0 two felt false ∷ store 0 (by (integer 1) ∷ []) (integer 9) felt ∷ load 1 0 (by (integer 1) ∷ []) ∷ []) (op 1 ∷ []))
    ≡ shows (assign 1 (integer 9) felt ∷ []) (op 1 ∷ []) (0 ∷ []) (counts 1 1 1 0 0)
unfolding opened
store_integer = refl

-- (P) "The first projection of a Load or Store must be an Integer literal": by an operand neither is forwarded, whatever is tracked and whatever steps follow
pub first_operand : (x : ValueId) → LoadStays (by (Value.Operand x)) × StoreStays (by (Value.Operand x))
unfolding opened
first_operand x = (λ τ folds S n m d b ps t. refl, λ τ S b ps y. refl)

-- (P) "The first projection of a Load or Store must be an Integer literal": nor by a Boolean
pub first_boolean : (a : Bool) → LoadStays (by (boolean a)) × StoreStays (by (boolean a))
unfolding opened
first_boolean a = (λ τ folds S n m d b ps t. refl, λ τ S b ps y. refl)

-- (P) "The first projection of a Load or Store must be an Integer literal": nor by a Field
pub first_field : (f : NameId) → LoadStays (Projection.Field f) × StoreStays (Projection.Field f)
unfolding opened
first_field f = (λ τ folds S n m d b ps t. refl, λ τ S b ps y. refl)

-- (P) "The first projection of a Load or Store must be an Integer literal": nor by a Tuple step
pub first_tuple : (k : ℕ) → LoadStays (part k) × StoreStays (part k)
unfolding opened
first_tuple k = (λ τ folds S n m d b ps t. refl, λ τ S b ps y. refl)

-- (P) "The first projection of a Load or Store must be an Integer literal": a Load by an operand stays, and the array is kept
pub load_operand : Untouched defaults (routine (felts ∷ felt ∷ felt ∷ []) (array 0 two felt false ∷ assign 1 (integer 1) felt ∷ load 2 0 (by (op 1) ∷ []) ∷ []) (op 2 ∷ []))
unfolding opened
load_operand = refl

-- (P) "The first projection of a Load or Store must be an Integer literal": a Load by a Boolean stays, and the array is kept
pub load_boolean : Untouched defaults (routine (felts ∷ felt ∷ []) (array 0 two felt false ∷ load 1 0 (by (boolean true) ∷ []) ∷ []) (op 1 ∷ []))
unfolding opened
load_boolean = refl

-- (P) "The first projection of a Load or Store must be an Integer literal": a Load by a Field stays, and the struct is kept
pub load_field : Untouched defaults (routine (point ∷ felt ∷ []) (struct 0 7 8 ∷ load 1 0 (field 1 ∷ []) ∷ []) (op 1 ∷ []))
unfolding opened
load_field = refl

-- (P) "The first projection of a Load or Store must be an Integer literal": a Load by a Tuple step stays, and the tuple is dropped all the same
pub load_tuple :
    pass defaults (routine (pair ∷ felt ∷ []) (tuple 0 two ∷ load 1 0 (part 1 ∷ []) ∷ []) (op 1 ∷ []))
    ≡ shows (load 1 0 (part 1 ∷ []) ∷ []) (op 1 ∷ []) (0 ∷ []) (counts 1 0 0 0 0)
unfolding opened
load_tuple = refl

-- (P) "The first projection of a Load or Store must be an Integer literal": a Store by an operand stays, and the array is kept
pub store_operand : Untouched defaults (routine (felts ∷ felt ∷ []) (array 0 two felt false ∷ assign 1 (integer 1) felt ∷ store 0 (by (op 1) ∷ []) (integer 9) felt ∷ []) (op 0 ∷ []))
unfolding opened
store_operand = refl

-- (P) "The first projection of a Load or Store must be an Integer literal": a Store by a Boolean stays, and the array is kept
pub store_boolean : Untouched defaults (routine (felts ∷ []) (array 0 two felt false ∷ store 0 (by (boolean true) ∷ []) (integer 9) felt ∷ []) (op 0 ∷ []))
unfolding opened
store_boolean = refl

-- (P) "The first projection of a Load or Store must be an Integer literal": a Store by a Field stays, and the struct is kept
pub store_field : Untouched defaults (routine (point ∷ []) (struct 0 7 8 ∷ store 0 (field 1 ∷ []) (integer 9) felt ∷ []) (op 0 ∷ []))
unfolding opened
store_field = refl

-- (P) "The first projection of a Load or Store must be an Integer literal": a Store by a Tuple step stays, the tuple is dropped all the same, and the parts returned are the old ones
pub store_tuple :
    pass defaults (routine (pair ∷ []) (tuple 0 two ∷ store 0 (part 1 ∷ []) (integer 9) felt ∷ []) (op 0 ∷ []))
    ≡ shows (store 0 (part 1 ∷ []) (integer 9) felt ∷ tuple 1 two ∷ []) (op 1 ∷ []) (0 ∷ []) (counts 1 0 0 0 1)
unfolding opened
store_tuple = refl

-- (P) "a later Index may be Boolean", of a Load
pub later_boolean :
    pass defaults (routine (pair ∷ pair ∷ pairs ∷ felt ∷ []) (tuple 0 two ∷ tuple 1 two ∷ tuple 2 (op 0 ∷ op 1 ∷ []) ∷ load 3 2 (by (integer 0) ∷ by (boolean true) ∷ []) ∷ []) (op 3 ∷ []))
    ≡ shows (assign 3 (integer 8) felt ∷ []) (op 3 ∷ []) (0 ∷ 1 ∷ 2 ∷ []) (counts 3 1 0 0 0)
unfolding opened
later_boolean = refl

-- (P) "a later Index may be Boolean", of a Store
pub later_boolean_store :
    pass defaults (routine (pair ∷ pair ∷ pairs ∷ felt ∷ []) (tuple 0 two ∷ tuple 1 two ∷ tuple 2 (op 0 ∷ op 1 ∷ []) ∷ store 2 (by (integer 0) ∷ by (boolean true) ∷ []) (integer 9) felt ∷ extract 3 0 1 felt ∷ []) (op 3 ∷ []))
    ≡ shows (assign 3 (integer 9) felt ∷ []) (op 3 ∷ []) (0 ∷ 1 ∷ 2 ∷ []) (counts 3 1 1 0 0)
unfolding opened
later_boolean_store = refl

-- ## sroa.rs: a part that stands twice

-- (P) "A struct standing twice in one tuple is kept, as the visited set meets the parent twice": value 0; the tuple is tracked
pub struct_twice :
    pass defaults (routine (point ∷ points ∷ point ∷ []) (struct 0 7 8 ∷ tuple 1 (op 0 ∷ op 0 ∷ []) ∷ extract 2 1 1 point ∷ []) (op 2 ∷ []))
    ≡ shows (struct 0 7 8 ∷ assign 2 (op 0) point ∷ []) (op 2 ∷ []) (1 ∷ []) (counts 1 1 0 0 0)
unfolding opened
struct_twice = refl

-- (P) "a tuple standing twice is tracked": value 0
pub tuple_twice :
    pass defaults (routine (pair ∷ pairs ∷ pair ∷ felt ∷ []) (tuple 0 two ∷ tuple 1 (op 0 ∷ op 0 ∷ []) ∷ extract 2 1 1 pair ∷ extract 3 2 0 felt ∷ []) (op 3 ∷ []))
    ≡ shows (assign 3 (integer 7) felt ∷ []) (op 3 ∷ []) (0 ∷ 1 ∷ 2 ∷ []) (counts 2 2 0 0 0)
unfolding opened
tuple_twice = refl

-- ## sroa.rs: rebuilds

-- (P) "Rebuilding does not rebuild parts. Returning a tuple of a tracked tuple leaves a read of a dropped value": of value 0
pub returned_nest :
    pass defaults (routine (pair ∷ pairs ∷ []) (tuple 0 two ∷ tuple 1 (op 0 ∷ op 0 ∷ []) ∷ []) (op 1 ∷ []))
    ≡ shows (tuple 2 (op 0 ∷ op 0 ∷ []) ∷ []) (op 2 ∷ []) (0 ∷ 1 ∷ []) (counts 2 0 0 0 1)
unfolding opened
returned_nest = refl

-- (P) "Returning a tuple of a tracked tuple leaves a read of a dropped value (P): shelf reason 5"
pub returned_nest_reason : reason (routine (pair ∷ pairs ∷ []) (tuple 0 two ∷ tuple 1 (op 0 ∷ op 0 ∷ []) ∷ []) (op 1 ∷ [])) ≡ 5
unfolding opened
returned_nest_reason = refl

-- (P) "A tuple rebuilt at a longer type gets Unit parts .."
pub rebuilt_longer :
    pass defaults (routine (pair ∷ []) (tuple 0 two ∷ call (op 0 ∷ []) (triple ∷ []) ∷ []) [])
    ≡ shows (tuple 1 (integer 7 ∷ integer 8 ∷ unit ∷ []) ∷ call (op 1 ∷ []) (triple ∷ []) ∷ []) [] (0 ∷ []) (counts 1 0 0 0 1)
unfolding opened
rebuilt_longer = refl

-- (P) ".. at a shorter one loses its last"
pub rebuilt_shorter :
    pass defaults (routine (pair ∷ []) (tuple 0 two ∷ call (op 0 ∷ []) (single ∷ []) ∷ []) [])
    ≡ shows (tuple 1 (integer 7 ∷ []) ∷ call (op 1 ∷ []) (single ∷ []) ∷ []) [] (0 ∷ []) (counts 1 0 0 0 1)
unfolding opened
rebuilt_shorter = refl

-- (P) "A rebuild for a Store does not raise the materializations count"; and "A Store whose value was rebuilt keeps its own" span, expression id and comment
pub store_rebuilds :
    pass defaults (routine (pointer ∷ pair ∷ []) (tuple 1 two ∷ marked (store 0 (by (integer 0) ∷ []) (op 1) pair) ∷ []) [])
    ≡ shows (tuple 2 two ∷ marked (store 0 (by (integer 0) ∷ []) (op 2) pair) ∷ []) [] (1 ∷ []) (counts 1 0 0 0 0)
unfolding opened
store_rebuilds = refl
