-- Worked runs of the original and of the rewritten routine, by computation.
use Prim.Native.Nat.{ℕ}
use mathlib.Core.Path.{◌≡◌, refl}
use mathlib.Core.Bool.{true, false}
use mathlib.Core.Option.{some}
use mathlib.Core.List.{[], ◌∷◌}
use Rattle.bytes_wire.specs.Value.{integer}
use Rattle.mir.specs.declared.Value.{Value}
use Rattle.mir.specs.MirType.{MirType}
use Rattle.mir.specs.declared.Projection.{Projection}
use Rattle.mir.specs.Syntax.{InstructionKind, Terminator}
use Rattle.mir.specs.Routine.{Routine}
use Rattle.bytes_sections.proofs.Examples.{example}
use Rattle.fold.specs.declared.Edition.{Edition}
use Rattle.fold.specs.declared.Settings.{Settings}
use Rattle.rewrite.specs.Run.{Choice, choice, rewrite}
use Rattle.shelf.specs.Reads.{with_debug}
use Rattle.machine.specs.Values.{Val, scalar, aggregate, ends, then}
use Rattle.machine.specs.Records.{called, printed, returned, ended, at_return, stopped, unwritten, too_large, Trace}
use Rattle.machine.specs.Run.{run}
use Rattle.fold.specs.Scalarizable.{defaults}
use Rattle.machine.proofs.OutsideRows.{long, cramped}
use Rattle.machine.proofs.Words.{val, typ, op, ins, pair, numbers}
use Rattle.machine_simulation.specs.Static.{Static}
use Rattle.machine_simulation.specs.Statement.{RunsAlike, rewritten}
use Rattle.machine_simulation.proofs.Theorem.{pass_simulates}
use Rattle.machine_simulation.proofs.Open.{everything, shelf}

-- document 01's routine: the tuple's build is left out, the extract is an Assign, the record is the same
pub example_rewritten : run numbers (rewrite defaults example) [] 1 ≡ record { recorded = returned (then (scalar 8) ends) ∷ []; standing = ended at_return }
unfolding everything
example_rewritten = refl

pub example_same : run numbers example [] 1 ≡ run numbers (rewrite defaults example) [] 1
unfolding everything
example_same = refl

-- it has the static facts with Debug counted, so the theorem is of it, for every meaning that records Debug
pub example_static : Static with_debug defaults (choice defaults example) example
unfolding shelf
example_static = record { recorded = refl; parameters = tt; below = tt; below_ends = tt; fields = tt; once = tt; phis_first = tt; typed = tt; ordered = tt; apart = tt; shallow = tt; clean = tt; clean_ends = tt }

pub example_alike : RunsAlike numbers example (rewrite defaults example)
unfolding everything
example_alike = pass_simulates numbers defaults example example_static

-- ---- a routine with an insert, a Store and a Load of an array, a struct, a hand-on and rebuilds for a Call and a Return

-- every build is folded and no block skipped
abbrev pub all : Choice
all = record { folds = λ k v. true; skips = λ k. false }

abbrev pub mixed : Routine
mixed =
    record {
      types =
          MirType.Felt
          ∷ MirType.Tuple (typ 0 ∷ typ 0 ∷ [])
          ∷ MirType.FixedArray (typ 0) 2
          ∷ MirType.Struct (record { 0 = 0 }) (record { name = record { 0 = 10 }; part = typ 0 } ∷ record { name = record { 0 = 11 }; part = typ 1 } ∷ [])
          ∷ [];
      next = 8;
      entry = record { 0 = 0 };
      parameters = val 0 ∷ [];
      recorded = some (typ 0) ∷ some (typ 1) ∷ some (typ 1) ∷ some (typ 2) ∷ some (typ 0) ∷ some (typ 3) ∷ some (typ 1) ∷ some (typ 0) ∷ [];
      blocks =
          record {
            instructions =
                ins (InstructionKind.MakeTuple (val 1) (op 0 ∷ integer 8 ∷ []))
                ∷ ins (InstructionKind.InsertTuple (val 2) (op 1) 0 (integer 5) (typ 1))
                ∷ ins (InstructionKind.MakeFixedArray (val 3) (op 0 ∷ integer 4 ∷ []) (typ 0) false)
                ∷ ins (InstructionKind.Store (record { base = val 3; projections = Projection.Index (integer 1) ∷ [] }) (integer 6) (typ 0))
                ∷ ins (InstructionKind.Load (val 4) (record { base = val 3; projections = Projection.Index (integer 1) ∷ [] }) (typ 0))
                ∷ ins (InstructionKind.MakeStruct (val 5) (record { name = record { 0 = 11 }; value = op 2 } ∷ record { name = record { 0 = 10 }; value = op 4 } ∷ []) (typ 3))
                ∷ ins (InstructionKind.ExtractStructField (val 6) (op 5) (record { 0 = 11 }) (typ 1))
                ∷ ins (InstructionKind.Call (val 7 ∷ []) 99 (op 6 ∷ op 3 ∷ op 0 ∷ []) (typ 1 ∷ typ 2 ∷ typ 0 ∷ []) (typ 0 ∷ []))
                ∷ [];
            terminator = Terminator.Return (op 6 ∷ op 7 ∷ []);
          }
          ∷ [];
    }

abbrev mixed_trace : Trace ℕ
mixed_trace =
    record {
      recorded = called 99 (then (pair 5 8) (then (pair 3 6) (then (scalar 3) ends))) ∷ returned (then (pair 5 8) (then (scalar 70) ends)) ∷ [];
      standing = ended at_return;
    }

-- what comes out: the Load is an Assign; the Call and the Return are behind their rebuilds
pub mixed_out : (rewritten defaults all mixed).blocks ≡
    record {
      instructions =
          ins (InstructionKind.Assign (val 4) (integer 6) (typ 0))
          ∷ ins (InstructionKind.MakeTuple (val 8) (integer 5 ∷ integer 8 ∷ []))
          ∷ ins (InstructionKind.MakeFixedArray (val 9) (op 0 ∷ integer 6 ∷ []) (typ 0) false)
          ∷ ins (InstructionKind.Call (val 7 ∷ []) 99 (op 8 ∷ op 9 ∷ op 0 ∷ []) (typ 1 ∷ typ 2 ∷ typ 0 ∷ []) (typ 0 ∷ []))
          ∷ ins (InstructionKind.MakeTuple (val 10) (integer 5 ∷ integer 8 ∷ []))
          ∷ [];
      terminator = Terminator.Return (op 10 ∷ op 7 ∷ []);
    }
    ∷ []
unfolding everything
mixed_out = refl

pub mixed_original : run numbers mixed (scalar 3 ∷ scalar 70 ∷ []) 1 ≡ mixed_trace
unfolding everything
mixed_original = refl

pub mixed_rewritten : run numbers (rewritten defaults all mixed) (scalar 3 ∷ scalar 70 ∷ []) 1 ≡ mixed_trace
unfolding everything
mixed_rewritten = refl

pub mixed_static : Static with_debug defaults all mixed
unfolding shelf
mixed_static = record { recorded = refl; parameters = tt; below = tt; below_ends = tt; fields = tt; once = tt; phis_first = tt; typed = tt; ordered = tt; apart = tt; shallow = tt; clean = tt; clean_ends = tt }

-- ---- the premise is needed: this routine has every static fact; it stops at an unwritten part of a build
-- that the rewritten routine no longer has

abbrev pub unwritten_part : Routine
unwritten_part =
    record {
      types = MirType.Felt ∷ MirType.Tuple (typ 0 ∷ []) ∷ [];
      next = 2;
      entry = record { 0 = 0 };
      parameters = [];
      recorded = some (typ 0) ∷ some (typ 1) ∷ [];
      blocks = record { instructions = ins (InstructionKind.MakeTuple (val 1) (op 0 ∷ [])) ∷ []; terminator = Terminator.Return [] } ∷ [];
    }

pub unwritten_static : Static with_debug defaults (choice defaults unwritten_part) unwritten_part
unfolding shelf
unwritten_static = record { recorded = refl; parameters = tt; below = tt; below_ends = tt; fields = tt; once = tt; phis_first = tt; typed = tt; ordered = tt; apart = tt; shallow = tt; clean = tt; clean_ends = tt }

pub unwritten_original : run numbers unwritten_part [] 1 ≡ record { recorded = []; standing = stopped unwritten }
unfolding everything
unwritten_original = refl

pub unwritten_rewritten : run numbers (rewrite defaults unwritten_part) [] 1 ≡ record { recorded = returned ends ∷ []; standing = ended at_return }
unfolding everything
unwritten_rewritten = refl

-- ---- and so is that it meets no aggregate too large for the machine: the build that stops the original is left out

abbrev pub large_build : Routine
large_build =
    record {
      types = MirType.Felt ∷ MirType.Tuple (typ 0 ∷ typ 0 ∷ typ 0 ∷ []) ∷ [];
      next = 1;
      entry = record { 0 = 0 };
      parameters = [];
      recorded = some (typ 1) ∷ [];
      blocks = record { instructions = ins (InstructionKind.MakeTuple (val 0) (integer 1 ∷ integer 2 ∷ integer 3 ∷ [])) ∷ []; terminator = Terminator.Return [] } ∷ [];
    }

pub large_static : Static false defaults (choice defaults large_build) large_build
unfolding shelf
large_static = record { recorded = refl; parameters = tt; below = tt; below_ends = tt; fields = tt; once = tt; phis_first = tt; typed = tt; ordered = tt; apart = tt; shallow = tt; clean = tt; clean_ends = tt }

pub large_original : run cramped large_build [] 1 ≡ record { recorded = []; standing = stopped too_large }
unfolding everything cramped long
large_original = refl

pub large_rewritten : run cramped (rewrite defaults large_build) [] 1 ≡ record { recorded = returned ends ∷ []; standing = ended at_return }
unfolding everything cramped long
large_rewritten = refl

-- ---- "What a reader cannot tell apart includes the Debug record" (document 02)

-- a tuple of 7, its part 0, and a Debug
abbrev pub printing : Value → Routine
printing x =
    record {
      types = MirType.Felt ∷ MirType.Tuple (typ 0 ∷ []) ∷ [];
      next = 2;
      entry = record { 0 = 0 };
      parameters = [];
      recorded = some (typ 1) ∷ some (typ 0) ∷ [];
      blocks =
          record {
            instructions =
                ins (InstructionKind.MakeTuple (val 0) (integer 7 ∷ []))
                ∷ ins (InstructionKind.ExtractTupleElement (val 1) (op 0) 0 (typ 0))
                ∷ ins (InstructionKind.Debug 4 (x ∷ integer 9 ∷ []))
                ∷ [];
            terminator = Terminator.Return [];
          }
          ∷ [];
    }

-- what it prints first is x
abbrev printed_first : Val ℕ → Trace ℕ
printed_first x = record { recorded = printed 4 (then x (then (scalar 9) ends)) ∷ returned ends ∷ []; standing = ended at_return }

-- of the part, both print it
pub part_printed : (run numbers (printing (op 1)) [] 1 ≡ printed_first (scalar 7)) × (run numbers (rewrite defaults (printing (op 1))) [] 1 ≡ printed_first (scalar 7))
unfolding everything
part_printed = (refl, refl)

-- of the tuple, whose build is left out, only the original does: shelf reason 5 is needed for Debug too
pub dropped_printed : (run numbers (printing (op 0)) [] 1 ≡ printed_first (aggregate (then (scalar 7) ends)))
    × (run numbers (rewrite defaults (printing (op 0))) [] 1 ≡ record { recorded = []; standing = stopped unwritten })
unfolding everything
dropped_printed = (refl, refl)

-- ---- edition 2: "each of them rebuilt first at its recorded type, the tracked parts it keeps before the whole" (document 02)

-- `defaults`, edition 2
abbrev pub second : Settings
second = record { tuples = true; structs = true; most = 8; edition = Edition.Second }

-- a tuple with another tuple in it twice, returned
abbrev pub nested : Routine
nested =
    record {
      types = MirType.Felt ∷ MirType.Tuple (typ 0 ∷ typ 0 ∷ []) ∷ MirType.Tuple (typ 1 ∷ typ 1 ∷ []) ∷ [];
      next = 2;
      entry = record { 0 = 0 };
      parameters = [];
      recorded = some (typ 1) ∷ some (typ 2) ∷ [];
      blocks =
          record {
            instructions =
                ins (InstructionKind.MakeTuple (val 0) (integer 7 ∷ integer 8 ∷ []))
                ∷ ins (InstructionKind.MakeTuple (val 1) (op 0 ∷ op 0 ∷ []))
                ∷ [];
            terminator = Terminator.Return (op 1 ∷ []);
          }
          ∷ [];
    }

-- both builds are left out; before the Return the part is rebuilt twice, then the whole
pub nested_out : (rewrite second nested).blocks ≡
    record {
      instructions =
          ins (InstructionKind.MakeTuple (val 2) (integer 7 ∷ integer 8 ∷ []))
          ∷ ins (InstructionKind.MakeTuple (val 3) (integer 7 ∷ integer 8 ∷ []))
          ∷ ins (InstructionKind.MakeTuple (val 4) (op 2 ∷ op 3 ∷ []))
          ∷ [];
      terminator = Terminator.Return (op 4 ∷ []);
    }
    ∷ []
unfolding everything
nested_out = refl

abbrev nested_trace : Trace ℕ
nested_trace = record { recorded = returned (then (aggregate (then (pair 7 8) (then (pair 7 8) ends))) ends) ∷ []; standing = ended at_return }

pub nested_original : run numbers nested [] 1 ≡ nested_trace
unfolding everything
nested_original = refl

pub nested_rewritten : run numbers (rewrite second nested) [] 1 ≡ nested_trace
unfolding everything
nested_rewritten = refl

-- the theorem is of it; in edition 1 it has shelf reason 5, and the rebuild reads a value that is gone
pub nested_static : Static with_debug second (choice second nested) nested
unfolding shelf
nested_static = record { recorded = refl; parameters = tt; below = tt; below_ends = tt; fields = tt; once = tt; phis_first = tt; typed = tt; ordered = tt; apart = tt; shallow = tt; clean = tt; clean_ends = tt }

pub nested_first : run numbers (rewrite defaults nested) [] 1 ≡ record { recorded = []; standing = stopped unwritten }
unfolding everything
nested_first = refl

-- a Debug of the tuple whose build is left out prints it: it is rebuilt before it
pub rebuilt_printed : run numbers (rewrite second (printing (op 0))) [] 1 ≡ printed_first (aggregate (then (scalar 7) ends))
unfolding everything
rebuilt_printed = refl
