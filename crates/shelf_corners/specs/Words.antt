-- The words of the table: small routines, and what a row shows of them.
use Rattle.std.specs.Prelude.{ℕ, ◌≡◌, List, [], ◌∷◌, map, Bool, false, length, replicate}
use Rattle.std.proofs.Math.Option.{Option, none, some}
use Rattle.bytes_wire.specs.Parse.{Parse, ok, bad}
use Rattle.bytes_wire.specs.Value.{integer}
use Rattle.mir.specs.declared.ValueId.{ValueId}
use Rattle.mir.specs.declared.TypeId.{TypeId}
use Rattle.mir.specs.declared.Value.{Value}
use Rattle.mir.specs.MirType.{MirType}
use Rattle.mir.specs.declared.Projection.{Projection}
use Rattle.mir.specs.Syntax.{Meta, Instruction, InstructionKind, Return, Block, plain}
use Rattle.mir.specs.Routine.{Routine}
use Rattle.mir.specs.Lookup.{Types}
use Rattle.fold.specs.declared.Settings.{Settings}
use Rattle.fold.specs.Scalarizable.{defaults}
use Rattle.rewrite.specs.declared.Counts.{Counts}
use Rattle.rewrite.specs.State.{AggStates, forward_store}
use Rattle.rewrite.specs.Piece.{kept}
use Rattle.rewrite.specs.Step.{step}
use Rattle.rewrite.specs.Run.{rewritten_blocks}
use Rattle.bytes_sections.specs.Decode.{mosts, whole_of}
use Rattle.shelf.specs.Reads.{with_debug}
use Rattle.shelf.specs.Reason.{shelf_reason}
use Rattle.shelf.specs.Answer.{Answer, refused, lowered, answer}

-- ## The types, one table for all rows

abbrev pub felt : TypeId
felt = record { 0 = 0 }

abbrev pub pair : TypeId
pair = record { 0 = 1 }

abbrev pub point : TypeId
point = record { 0 = 2 }

abbrev pub felts : TypeId
felts = record { 0 = 3 }

abbrev pub eight : TypeId
eight = record { 0 = 4 }

abbrev pub nine : TypeId
nine = record { 0 = 5 }

abbrev pub empty : TypeId
empty = record { 0 = 6 }

abbrev pub pairs : TypeId
pairs = record { 0 = 7 }

abbrev pub points : TypeId
points = record { 0 = 8 }

abbrev pub triple : TypeId
triple = record { 0 = 9 }

abbrev pub single : TypeId
single = record { 0 = 10 }

abbrev pub pointer : TypeId
pointer = record { 0 = 11 }

abbrev pub nine_pairs : TypeId
nine_pairs = record { 0 = 12 }

abbrev pub table : List MirType
table =
    MirType.Felt
    ∷ MirType.Tuple (felt ∷ felt ∷ [])
    ∷ MirType.Struct (record { 0 = 0 }) (record { name = record { 0 = 0 }; part = felt } ∷ record { name = record { 0 = 1 }; part = felt } ∷ [])
    ∷ MirType.FixedArray felt 2
    ∷ MirType.Tuple (replicate 8 felt)
    ∷ MirType.Tuple (replicate 9 felt)
    ∷ MirType.Tuple []
    ∷ MirType.Tuple (pair ∷ pair ∷ [])
    ∷ MirType.Tuple (point ∷ point ∷ [])
    ∷ MirType.Tuple (felt ∷ felt ∷ felt ∷ [])
    ∷ MirType.Tuple (felt ∷ [])
    ∷ MirType.Pointer pair
    ∷ MirType.FixedArray pair 9
    ∷ []

-- ## Values and steps

-- a value's number
abbrev pub v : ℕ → ValueId
v n = record { 0 = n }

-- the value that is an operand
abbrev pub op : ℕ → Value
op n = Value.Operand (v n)

-- the parts 7 and 8
abbrev pub two : List Value
two = integer 7 ∷ integer 8 ∷ []

-- the steps of a place: by a value, to a struct's field, to a tuple's part
abbrev pub by : Value → Projection
by x = Projection.Index x

abbrev pub field : ℕ → Projection
field n = Projection.Field (record { 0 = n })

abbrev pub part : ℕ → Projection
part k = Projection.Tuple k

-- ## Instructions without span, expression id and comment

abbrev pub tuple : ℕ → List Value → Instruction
tuple d xs = plain (InstructionKind.MakeTuple (v d) xs)

abbrev pub struct : ℕ → ℕ → ℕ → Instruction
struct d x y = plain (InstructionKind.MakeStruct (v d) (record { name = record { 0 = 0 }; value = integer x } ∷ record {
  name = record { 0 = 1 };
  value = integer y;
} ∷ []) point)

abbrev pub array : ℕ → List Value → TypeId → Bool → Instruction
array d xs t c = plain (InstructionKind.MakeFixedArray (v d) xs t c)

abbrev pub extract : ℕ → ℕ → ℕ → TypeId → Instruction
extract d x k t = plain (InstructionKind.ExtractTupleElement (v d) (op x) k t)

abbrev pub insert : ℕ → ℕ → ℕ → Value → TypeId → Instruction
insert d x k y t = plain (InstructionKind.InsertTuple (v d) (op x) k y t)

abbrev pub assign : ℕ → Value → TypeId → Instruction
assign d x t = plain (InstructionKind.Assign (v d) x t)

abbrev pub load : ℕ → ℕ → List Projection → Instruction
load d b ps = plain (InstructionKind.Load (v d) (record { base = v b; projections = ps }) felt)

abbrev pub store : ℕ → List Projection → Value → TypeId → Instruction
store b ps x t = plain (InstructionKind.Store (record { base = v b; projections = ps }) x t)

abbrev pub call : List Value → List TypeId → Instruction
call xs ps = plain (InstructionKind.Call [] 3 xs ps [])

abbrev pub phi : ℕ → TypeId → Instruction
phi d t = plain (InstructionKind.Phi (v d) t [])

-- the same instruction with a span, an expression id and a comment
abbrev pub marked : Instruction → Instruction
marked i = record {
  meta = record {
    span = some (record { start = 1; stop = 2 });
    expression = some (record {
      index = 3;
      file = 4;
    });
    comment = some 5;
  };
  kind = i.kind;
}

-- ## Routines of one block that returns values

abbrev pub block : List Instruction → List Value → Block
block is xs = record { instructions = is; terminator = Return xs }

-- what is recorded of its values 0, 1, ..
abbrev pub recorded_routine : List (Option TypeId) → List Instruction → List Value → Routine
recorded_routine ts is xs = record { types = table; next = length ts; entry = record { 0 = 0 }; parameters = []; recorded = ts; blocks = block is xs ∷ [] }

-- its values 0, 1, .. have these types
abbrev pub routine : List TypeId → List Instruction → List Value → Routine
routine ts is xs = recorded_routine (map some ts) is xs

-- ## What a row shows

-- the rewritten blocks, the values dropped, the five counts
pub record Shown : Type 0 where
  pub blocks : List Block
  pub dropped : List ValueId
  pub counts : Counts

-- builds, extracts, inserts, assigns, materializations
abbrev pub counts : ℕ → ℕ → ℕ → ℕ → ℕ → Counts
counts b e i a m = record { builds = b; extracts = e; inserts = i; assigns = a; materializations = m }

-- what the pass makes of a routine
abbrev pub pass : Settings → Routine → Shown
pass σ r = let w = rewritten_blocks σ r in record { blocks = w.blocks; dropped = w.dropped; counts = w.counts }

-- one block of these instructions and returned values, these values dropped, these counts
abbrev pub shows : List Instruction → List Value → List ℕ → Counts → Shown
shows is xs ds c = record { blocks = block is xs ∷ []; dropped = map v ds; counts = c }

-- the routine is left as it is
abbrev pub Untouched : Settings → Routine → Type 0
Untouched σ r = pass σ r ≡ record { blocks = r.blocks; dropped = []; counts = counts 0 0 0 0 0 }

-- its shelf reason
abbrev pub reason : Routine → ℕ
reason r = shelf_reason with_debug r (rewritten_blocks defaults r)

-- ## What is answered of bytes, the output's aside

pub record Summary : Type 0 where
  pub changed : Bool
  pub counts : Counts
  pub reason : ℕ

unfoldable pub summary : Answer → Option Summary
summary (refused n o) = none
summary (lowered w c k bytes) = some (record { changed = w; counts = c; reason = k })

-- the shelf reason with Debug left aside, as it was before document 02
unfoldable pub aside_of : Parse Routine → ℕ
aside_of (ok r n) = shelf_reason false r (rewritten_blocks defaults r)
aside_of (bad c o) = 0

-- under the usual settings: result, counts and shelf reason, and what the reason was
abbrev pub Says : List ℕ → Bool → Counts → ℕ → ℕ → Type 0
Says s w c before after =
    (aside_of (whole_of mosts s) ≡ before)
    × (summary (answer defaults (length s) s) ≡ some (record { changed = w; counts = c; reason = after }))

-- ## A step that comes first

-- a Load whose first step it is stays as it is, whatever is tracked and whatever steps follow
abbrev pub LoadStays : Projection → Type 0
LoadStays p =
    (τ : Types) (folds : ValueId → Bool) (S : AggStates) (n : ℕ) (m : Meta)
    (d b : ValueId) (ps : List Projection) (t : TypeId)
    → let i : Instruction = record { meta = m; kind = InstructionKind.Load d (record { base = b; projections = p ∷ ps }) t } in
    step defaults τ folds S n i ≡ kept S i

-- a Store whose first step it is is not forwarded
abbrev pub StoreStays : Projection → Type 0
StoreStays p =
    (τ : Types) (S : AggStates) (b : ValueId) (ps : List Projection) (y : Value)
    → forward_store τ S (record { base = b; projections = p ∷ ps }) y ≡ none
