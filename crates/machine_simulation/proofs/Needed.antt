-- Each static fact is needed: a small routine that lacks it alone, whose rewriting runs otherwise; by computation.
-- (A terminator that reads a number not below next has none: nothing writes that number, so the premise fails.)
use Prim.Native.Nat.{ℕ}
use mathlib.Core.Path.{◌≡◌, refl}
use mathlib.Core.Bool.{true, false}
use mathlib.Core.Option.{Option, some}
use mathlib.Core.List.{List, [], ◌∷◌}
use lib.ListN.{length}
use Rattle.bytes_wire.specs.Value.{integer, boolean}
use Rattle.mir.specs.declared.TypeId.{TypeId}
use Rattle.mir.specs.declared.Literal.{Literal}
use Rattle.mir.specs.declared.Value.{Value}
use Rattle.mir.specs.MirType.{MirType}
use Rattle.mir.specs.declared.Projection.{Projection}
use Rattle.mir.specs.Syntax.{Instruction, InstructionKind, Terminator, Place}
use Rattle.mir.specs.Routine.{Routine}
use Rattle.machine.specs.Meaning.{Meaning}
use Rattle.machine.specs.Values.{Val, scalar, aggregate, ends, then}
use Rattle.machine.specs.Records.{called, asserted, returned, ended, at_return, at_unreachable, unequal_sides, stopped, unwritten, no_source, no_value, Trace}
use Rattle.machine.specs.Run.{run}
use Rattle.fold.specs.Scalarizable.{defaults}
use Rattle.machine.proofs.Words.{val, typ, op, ins, index_of, numbers_by, numbers}
use Rattle.machine_simulation.specs.Statement.{rewritten}
use Rattle.machine_simulation.proofs.Open.{everything, shelf, facts}
use Rattle.machine_simulation.proofs.Examples.{all}

-- one block, no parameters
abbrev routine : List MirType → List (Option TypeId) → List Instruction → List Value → Routine
routine ts rs is xs =
    record { types = ts; next = length rs; entry = record { 0 = 0 }; parameters = []; recorded = rs; blocks = record { instructions = is; terminator = Terminator.Return xs } ∷ [] }

-- the first part of a value
abbrev number : ℕ → Place
number b = record { base = val b; projections = Projection.Index (integer 0) ∷ [] }

-- one value is returned
abbrev gives : Val ℕ → Trace ℕ
gives y = record { recorded = returned (then y ends) ∷ []; standing = ended at_return }

-- an aggregate of one part
abbrev one : Val ℕ → Val ℕ
one y = aggregate (then y ends)

-- reason 1: a tuple of one part recorded at a type of two is rebuilt with a Unit part
abbrev pub wide_tuple : Routine
wide_tuple = routine (MirType.Felt ∷ MirType.Tuple (typ 0 ∷ typ 0 ∷ []) ∷ []) (some (typ 1) ∷ []) (ins (InstructionKind.MakeTuple (val 0) (integer 7 ∷ [])) ∷ []) (op 0 ∷ [])

pub wide_tuple_facts : facts false defaults all wide_tuple ≡ true ∷ true ∷ true ∷ true ∷ true ∷ true ∷ true ∷ false ∷ true ∷ true ∷ true ∷ true ∷ true ∷ []
unfolding shelf
wide_tuple_facts = refl

pub wide_tuple_original : run numbers wide_tuple [] 1 ≡ gives (one (scalar 7))
unfolding everything
wide_tuple_original = refl

pub wide_tuple_rewritten : run numbers (rewritten defaults all wide_tuple) [] 1 ≡ gives (aggregate (then (scalar 7) (then (scalar 0) ends)))
unfolding everything
wide_tuple_rewritten = refl

-- reason 3: the Store changes the array, not its copy in the tuple
abbrev pub shared_part : Routine
shared_part =
    routine (MirType.Felt ∷ MirType.FixedArray (typ 0) 1 ∷ MirType.Tuple (typ 1 ∷ []) ∷ []) (some (typ 1) ∷ some (typ 2) ∷ some (typ 1) ∷ some (typ 0) ∷ [])
    (ins (InstructionKind.MakeFixedArray (val 0) (integer 7 ∷ []) (typ 0) false)
    ∷ ins (InstructionKind.MakeTuple (val 1) (op 0 ∷ []))
    ∷ ins (InstructionKind.Store (number 0) (integer 9) (typ 0))
    ∷ ins (InstructionKind.ExtractTupleElement (val 2) (op 1) 0 (typ 1))
    ∷ ins (InstructionKind.Load (val 3) (number 2) (typ 0))
    ∷ []) (op 3 ∷ [])

pub shared_part_facts : facts false defaults all shared_part ≡ true ∷ true ∷ true ∷ true ∷ true ∷ true ∷ true ∷ true ∷ true ∷ false ∷ true ∷ true ∷ true ∷ []
unfolding shelf
shared_part_facts = refl

pub shared_part_original : run numbers shared_part [] 1 ≡ gives (scalar 7)
unfolding everything
shared_part_original = refl

pub shared_part_rewritten : run numbers (rewritten defaults all shared_part) [] 1 ≡ gives (scalar 9)
unfolding everything
shared_part_rewritten = refl

-- reason 4: a Store of two projections changes the parts of the array that stood in the base, and it should change the copy
abbrev pub deep_store : Routine
deep_store =
    routine (MirType.Felt ∷ MirType.FixedArray (typ 0) 1 ∷ MirType.FixedArray (typ 1) 1 ∷ []) (some (typ 1) ∷ some (typ 2) ∷ some (typ 0) ∷ [])
    (ins (InstructionKind.MakeFixedArray (val 0) (integer 7 ∷ []) (typ 0) false)
    ∷ ins (InstructionKind.MakeFixedArray (val 1) (op 0 ∷ []) (typ 1) false)
    ∷ ins (InstructionKind.Store (record { base = val 1; projections = Projection.Index (integer 0) ∷ Projection.Index (integer 0) ∷ [] }) (integer 9) (typ 0))
    ∷ ins (InstructionKind.Load (val 2) (number 0) (typ 0))
    ∷ []) (op 2 ∷ [])

pub deep_store_facts : facts false defaults all deep_store ≡ true ∷ true ∷ true ∷ true ∷ true ∷ true ∷ true ∷ true ∷ true ∷ true ∷ false ∷ true ∷ true ∷ []
unfolding shelf
deep_store_facts = refl

pub deep_store_original : run numbers deep_store [] 1 ≡ gives (scalar 7)
unfolding everything
deep_store_original = refl

pub deep_store_rewritten : run numbers (rewritten defaults all deep_store) [] 1 ≡ gives (scalar 9)
unfolding everything
deep_store_rewritten = refl

-- reason 5: rebuilding does not rebuild parts
abbrev pub dropped_read : Routine
dropped_read =
    routine (MirType.Felt ∷ MirType.Tuple (typ 0 ∷ []) ∷ MirType.Tuple (typ 1 ∷ []) ∷ []) (some (typ 1) ∷ some (typ 2) ∷ [])
    (ins (InstructionKind.MakeTuple (val 0) (integer 7 ∷ [])) ∷ ins (InstructionKind.MakeTuple (val 1) (op 0 ∷ [])) ∷ []) (op 1 ∷ [])

pub dropped_read_facts : facts false defaults all dropped_read ≡ true ∷ true ∷ true ∷ true ∷ true ∷ true ∷ true ∷ true ∷ true ∷ true ∷ true ∷ false ∷ true ∷ []
unfolding shelf
dropped_read_facts = refl

pub dropped_read_original : run numbers dropped_read [] 1 ≡ gives (one (one (scalar 7)))
unfolding everything
dropped_read_original = refl

pub dropped_read_rewritten : run numbers (rewritten defaults all dropped_read) [] 1 ≡ record { recorded = []; standing = stopped unwritten }
unfolding everything
dropped_read_rewritten = refl

-- reason 1, of an Index: where the literal true is 0, the Index true names part 0, and the pass reads it as 1
abbrev pub boolean_index : Routine
boolean_index =
    routine (MirType.Felt ∷ MirType.FixedArray (typ 0) 2 ∷ MirType.FixedArray (typ 1) 1 ∷ []) (some (typ 1) ∷ some (typ 2) ∷ some (typ 0) ∷ [])
    (ins (InstructionKind.MakeFixedArray (val 0) (integer 7 ∷ integer 8 ∷ []) (typ 0) false)
    ∷ ins (InstructionKind.MakeFixedArray (val 1) (op 0 ∷ []) (typ 1) false)
    ∷ ins (InstructionKind.Load (val 2) (record { base = val 1; projections = Projection.Index (integer 0) ∷ Projection.Index (boolean true) ∷ [] }) (typ 0))
    ∷ []) (op 2 ∷ [])

unfoldable pub turned : Literal → ℕ
turned (Literal.Integer x) = x
turned (Literal.Boolean true) = 0
turned (Literal.Boolean false) = 1
turned Literal.Unit = 0

unfoldable pub turned_numbers : Meaning ℕ
unfolding turned index_of
turned_numbers = numbers_by turned (λ k. refl)

pub boolean_index_facts : facts false defaults all boolean_index ≡ true ∷ true ∷ true ∷ true ∷ true ∷ true ∷ true ∷ false ∷ true ∷ true ∷ true ∷ true ∷ true ∷ []
unfolding shelf
boolean_index_facts = refl

pub boolean_index_original : run turned_numbers boolean_index [] 1 ≡ gives (scalar 7)
unfolding everything turned_numbers turned
boolean_index_original = refl

pub boolean_index_rewritten : run turned_numbers (rewritten defaults all boolean_index) [] 1 ≡ gives (scalar 8)
unfolding everything turned_numbers turned
boolean_index_rewritten = refl

-- refusal 6: the second definition of value 0 is kept and the tracked parts are stale
abbrev pub defined_twice : Routine
defined_twice =
    routine (MirType.Felt ∷ MirType.Tuple (typ 0 ∷ []) ∷ []) (some (typ 1) ∷ some (typ 0) ∷ [])
    (ins (InstructionKind.MakeTuple (val 0) (integer 7 ∷ [])) ∷ ins (InstructionKind.Call (val 0 ∷ []) 5 [] [] (typ 1 ∷ [])) ∷ ins (InstructionKind.ExtractTupleElement (val 1) (op 0) 0 (typ 0)) ∷ []) (op 1 ∷ [])

pub defined_twice_facts : facts false defaults all defined_twice ≡ true ∷ true ∷ true ∷ true ∷ true ∷ false ∷ true ∷ true ∷ true ∷ true ∷ true ∷ true ∷ true ∷ []
unfolding shelf
defined_twice_facts = refl

pub defined_twice_original : run numbers defined_twice (one (scalar 9) ∷ []) 1 ≡ record { recorded = called 5 ends ∷ returned (then (scalar 9) ends) ∷ []; standing = ended at_return }
unfolding everything
defined_twice_original = refl

pub defined_twice_rewritten : run numbers (rewritten defaults all defined_twice)
    (one (scalar 9) ∷ []) 1 ≡ record { recorded = called 5 ends ∷ returned (then (scalar 7) ends) ∷ []; standing = ended at_return }
unfolding everything
defined_twice_rewritten = refl

-- refusal 5: a struct with one name twice is rebuilt with the first value twice
abbrev pub same_names : Routine
same_names =
    routine (MirType.Felt ∷ MirType.Struct (record { 0 = 0 }) (record { name = record { 0 = 1 }; part = typ 0 } ∷ record { name = record { 0 = 1 }; part = typ 0 } ∷ []) ∷ []) (some (typ 1) ∷ some (typ 1) ∷ [])
    (ins (InstructionKind.MakeStruct (val 0) (record { name = record { 0 = 1 }; value = integer 7 } ∷ record { name = record { 0 = 1 }; value = integer 7 } ∷ []) (typ 1))
    ∷ ins (InstructionKind.InsertField (val 1) (op 0) (record { 0 = 1 }) (integer 9) (typ 1))
    ∷ []) (op 1 ∷ [])

pub same_names_facts : facts false defaults all same_names ≡ true ∷ true ∷ true ∷ true ∷ false ∷ true ∷ true ∷ true ∷ true ∷ true ∷ true ∷ true ∷ true ∷ []
unfolding shelf
same_names_facts = refl

pub same_names_original : run numbers same_names [] 1 ≡ gives (aggregate (then (scalar 9) (then (scalar 7) ends)))
unfolding everything
same_names_original = refl

pub same_names_rewritten : run numbers (rewritten defaults all same_names) [] 1 ≡ gives (aggregate (then (scalar 9) (then (scalar 9) ends)))
unfolding everything
same_names_rewritten = refl

-- the map has next-value bits: a type recorded beyond next is taken for the fresh number
abbrev pub late_field : Routine
late_field =
    record {
      types =
          MirType.Felt
          ∷ MirType.Struct (record { 0 = 0 }) (record { name = record { 0 = 1 }; part = typ 0 } ∷ record { name = record { 0 = 2 }; part = typ 0 } ∷ [])
          ∷ MirType.Struct (record { 0 = 0 }) (record { name = record { 0 = 2 }; part = typ 0 } ∷ record { name = record { 0 = 1 }; part = typ 0 } ∷ [])
          ∷ [];
      next = 1;
      entry = record { 0 = 0 };
      parameters = [];
      recorded = some (typ 1) ∷ some (typ 2) ∷ [];
      blocks =
          record {
            instructions = ins (InstructionKind.MakeStruct (val 0) (record { name = record { 0 = 1 }; value = integer 7 } ∷ record { name = record { 0 = 2 }; value = integer 8 } ∷ []) (typ 1)) ∷ [];
            terminator = Terminator.Return (op 0 ∷ []);
          }
          ∷ [];
    }

pub late_field_facts : facts false defaults all late_field ≡ false ∷ true ∷ true ∷ true ∷ true ∷ true ∷ true ∷ true ∷ true ∷ true ∷ true ∷ true ∷ true ∷ []
unfolding shelf
late_field_facts = refl

pub late_field_original : run numbers late_field [] 1 ≡ gives (aggregate (then (scalar 7) (then (scalar 8) ends)))
unfolding everything
late_field_original = refl

pub late_field_rewritten : run numbers (rewritten defaults all late_field) [] 1 ≡ gives (aggregate (then (scalar 8) (then (scalar 7) ends)))
unfolding everything
late_field_rewritten = refl

-- refusal 4: value 1 is not below next, and the rebuild takes that number
abbrev pub fresh_clash : Routine
fresh_clash =
    record {
      types = MirType.Felt ∷ MirType.Tuple (typ 0 ∷ []) ∷ [];
      next = 1;
      entry = record { 0 = 0 };
      parameters = [];
      recorded = some (typ 1) ∷ [];
      blocks =
          record {
            instructions =
                ins (InstructionKind.UnaryOp 0 (val 1) (integer 5))
                ∷ ins (InstructionKind.MakeTuple (val 0) (integer 7 ∷ []))
                ∷ ins (InstructionKind.Call [] 5 (op 0 ∷ []) (typ 1 ∷ []) [])
                ∷ ins (InstructionKind.AssertEq (op 1) (integer 5))
                ∷ [];
            terminator = Terminator.Unreachable;
          }
          ∷ [];
    }

pub fresh_clash_facts : facts false defaults all fresh_clash ≡ true ∷ true ∷ false ∷ true ∷ true ∷ true ∷ true ∷ true ∷ true ∷ true ∷ true ∷ true ∷ true ∷ []
unfolding shelf
fresh_clash_facts = refl

pub fresh_clash_original : run numbers fresh_clash [] 1 ≡ record { recorded = called 5 (then (one (scalar 7)) ends) ∷ asserted (scalar 5) (scalar 5) ∷ []; standing = ended at_unreachable }
unfolding everything
fresh_clash_original = refl

pub fresh_clash_rewritten : run numbers (rewritten defaults all fresh_clash) [] 1 ≡ record { recorded = called 5 (then (one (scalar 7)) ends) ∷ asserted (one (scalar 7)) (scalar 5) ∷ []; standing = ended unequal_sides }
unfolding everything
fresh_clash_rewritten = refl

-- refusal 4: a parameter that is not below next is recorded by the rewriting alone
abbrev pub fresh_parameter : Routine
fresh_parameter =
    record {
      types = MirType.Felt ∷ MirType.Tuple (typ 0 ∷ []) ∷ [];
      next = 1;
      entry = record { 0 = 0 };
      parameters = val 1 ∷ [];
      recorded = some (typ 1) ∷ [];
      blocks = record { instructions = ins (InstructionKind.MakeTuple (val 0) (integer 7 ∷ [])) ∷ []; terminator = Terminator.Return (op 0 ∷ []) } ∷ [];
    }

pub fresh_parameter_facts : facts false defaults all fresh_parameter ≡ true ∷ false ∷ true ∷ true ∷ true ∷ true ∷ true ∷ true ∷ true ∷ true ∷ true ∷ true ∷ true ∷ []
unfolding shelf
fresh_parameter_facts = refl

pub fresh_parameter_original : run numbers fresh_parameter (one (scalar 3) ∷ []) 1 ≡ record { recorded = []; standing = stopped no_value }
unfolding everything
fresh_parameter_original = refl

pub fresh_parameter_rewritten : run numbers (rewritten defaults all fresh_parameter) (one (scalar 3) ∷ []) 1 ≡ gives (one (scalar 7))
unfolding everything
fresh_parameter_rewritten = refl

-- refusal 7: with the build left out, the phi behind it stands in front
abbrev pub late_phi : Routine
late_phi =
    record {
      types = MirType.Felt ∷ MirType.Tuple (typ 0 ∷ []) ∷ [];
      next = 2;
      entry = record { 0 = 0 };
      parameters = [];
      recorded = some (typ 1) ∷ some (typ 0) ∷ [];
      blocks =
          record { instructions = []; terminator = Terminator.Jump (record { 0 = 1 }) }
          ∷ record {
            instructions = ins (InstructionKind.MakeTuple (val 0) (integer 7 ∷ [])) ∷ ins (InstructionKind.Phi (val 1) (typ 0) (record { block = record { 0 = 0 }; value = integer 5 } ∷ [])) ∷ [];
            terminator = Terminator.Return (op 1 ∷ []);
          }
          ∷ [];
    }

pub late_phi_facts : facts false defaults all late_phi ≡ true ∷ true ∷ true ∷ true ∷ true ∷ true ∷ false ∷ true ∷ true ∷ true ∷ true ∷ true ∷ true ∷ []
unfolding shelf
late_phi_facts = refl

pub late_phi_original : run numbers late_phi [] 2 ≡ record { recorded = []; standing = stopped no_source }
unfolding everything
late_phi_original = refl

pub late_phi_rewritten : run numbers (rewritten defaults all late_phi) [] 2 ≡ gives (scalar 5)
unfolding everything
late_phi_rewritten = refl

-- reason 2: the part that the build read is defined again behind it, in a second pass of that number
abbrev pub read_before : Routine
read_before =
    record {
      types = MirType.Felt ∷ MirType.Tuple (typ 0 ∷ []) ∷ [];
      next = 3;
      entry = record { 0 = 0 };
      parameters = [];
      recorded = some (typ 1) ∷ some (typ 0) ∷ some (typ 0) ∷ [];
      blocks =
          record { instructions = ins (InstructionKind.Assign (val 1) (integer 5) (typ 0)) ∷ []; terminator = Terminator.Jump (record { 0 = 1 }) }
          ∷ record {
            instructions =
                ins (InstructionKind.MakeTuple (val 0) (op 1 ∷ []))
                ∷ ins (InstructionKind.Assign (val 1) (integer 9) (typ 0))
                ∷ ins (InstructionKind.ExtractTupleElement (val 2) (op 0) 0 (typ 0))
                ∷ [];
            terminator = Terminator.Return (op 2 ∷ []);
          }
          ∷ [];
    }

pub read_before_facts : facts false defaults all read_before ≡ true ∷ true ∷ true ∷ true ∷ true ∷ true ∷ true ∷ true ∷ false ∷ true ∷ true ∷ true ∷ true ∷ []
unfolding shelf
read_before_facts = refl

pub read_before_original : run numbers read_before [] 2 ≡ gives (scalar 5)
unfolding everything
read_before_original = refl

pub read_before_rewritten : run numbers (rewritten defaults all read_before) [] 2 ≡ gives (scalar 9)
unfolding everything
read_before_rewritten = refl

-- reason 5, of a terminator
abbrev pub branch_on_dropped : Routine
branch_on_dropped =
    record {
      types = MirType.Felt ∷ MirType.Tuple (typ 0 ∷ []) ∷ [];
      next = 1;
      entry = record { 0 = 0 };
      parameters = [];
      recorded = some (typ 1) ∷ [];
      blocks =
          record { instructions = ins (InstructionKind.MakeTuple (val 0) (integer 7 ∷ [])) ∷ []; terminator = Terminator.BranchCmp 0 (op 0) (op 0) (record { 0 = 1 }) (record { 0 = 1 }) }
          ∷ record { instructions = []; terminator = Terminator.Return (integer 1 ∷ []) }
          ∷ [];
    }

pub branch_on_dropped_facts : facts false defaults all branch_on_dropped ≡ true ∷ true ∷ true ∷ true ∷ true ∷ true ∷ true ∷ true ∷ true ∷ true ∷ true ∷ true ∷ false ∷ []
unfolding shelf
branch_on_dropped_facts = refl

pub branch_on_dropped_original : run numbers branch_on_dropped [] 2 ≡ gives (scalar 1)
unfolding everything
branch_on_dropped_original = refl

pub branch_on_dropped_rewritten : run numbers (rewritten defaults all branch_on_dropped) [] 2 ≡ record { recorded = []; standing = stopped unwritten }
unfolding everything
branch_on_dropped_rewritten = refl
