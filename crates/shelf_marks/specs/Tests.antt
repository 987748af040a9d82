-- Shelf reasons 2, 3 and 4 as the code tests them: over marks, one for each value.
use Rattle.std.specs.Prelude.{ℕ, zero, suc, ◌+◌, ◌-◌, ◌≤◌, ◌<◌, ◌≡◌, List, [], ◌∷◌, Bool, false, cond, ◌||◌, length, get_or, drop, eqb}
use Rattle.std.proofs.Math.Option.{Option, none, some}
use Rattle.bytes_wire.specs.Number.{at16}
use Rattle.mir.specs.declared.Value.{Value}
use Rattle.mir.specs.declared.BlockId.{BlockId}
use Rattle.mir.specs.declared.ValueId.{ValueId}
use Rattle.mir.specs.Syntax.{Instruction, InstructionKind, Block}
use Rattle.mir.specs.Reads.{operand}
use Rattle.bytes_index.specs.Table.{starts_in}
use Rattle.bytes_index.specs.Code.{no_block, InstructionIn}
use Rattle.bytes_index.specs.declared.code.Code.{Code}
use Rattle.bytes_index.specs.declared.slots.Slots.{Slots}
use Rattle.fold.specs.Tables.{Coded, CodeGround}
use Rattle.bytes_operands.specs.Fields.{fields_place}
use Rattle.mir.specs.Lookup.{Types}
use Rattle.mir.specs.Phis.{behind_phis}
use Rattle.shelf.specs.Lists.{every, among, clear}
use Rattle.shelf.specs.Reads.{ordered, parts_taken, bases, apart, shallow, with_debug}

-- an accepted routine as the code has it: its types and blocks, and the instruction in a slot
abbrev pub CodedIn : Code → Types → List Block → Type 0
CodedIn code τ ks = Coded code.bounds code.bytes.now code.facts.now τ ks

abbrev pub SlotIn : Code → ℕ → Instruction → Type 0
SlotIn code slot i = InstructionIn code.bounds code.bytes.now code.facts.now slot i

-- what is answered of the instruction in a slot, of block k, of all blocks
abbrev pub OfSlot : {A : Type 0} → Code → ℕ → (Types → InstructionKind → A) → A → Type 0
OfSlot code slot f r = (τ : Types) (i : Instruction) → CodeGround code τ → SlotIn code slot i → r ≡ f τ i.kind

abbrev pub OfBlock : {A : Type 0} → Code → ℕ → (Types → Block → A) → A → Type 0
OfBlock code k f r = (τ : Types) (ks : List Block) → CodedIn code τ ks → k < length ks → r ≡ f τ (get_or ks k no_block)

abbrev pub OfRoutine : {A : Type 0} → Code → (Types → List Block → A) → A → Type 0
OfRoutine code f r = (τ : Types) (ks : List Block) → CodedIn code τ ks → r ≡ f τ ks

-- a test of slots asks p of their instructions, and one of blocks q of them; `post` is what the test may answer
abbrev pub AsksSlots : Code → (ℕ → Bool → Type 0) → (Types → InstructionKind → Bool) → Type 0
AsksSlots code post p = (slot : ℕ) (r : Bool) → slot < 65536 → post slot r → OfSlot code slot p r

abbrev pub AsksBlocks : Code → (BlockId → Bool → Type 0) → (Types → Block → Bool) → Type 0
AsksBlocks code post q = (k : BlockId) (r : Bool) → k.0 < 65536 → post k r → OfBlock code k.0 q r

-- the value that a lookup has found, where it is an operand
abbrev pub found_reads : Option Value → List ValueId
found_reads none = []
found_reads (some x) = operand x []

-- none of the parts that an instruction takes is marked
abbrev pub parts_clear : List Bool → InstructionKind → Bool
parts_clear marks i = clear marks (parts_taken i)

-- no Store of two or more projections on a marked base
abbrev pub shallow_in : List Bool → InstructionKind → Bool
shallow_in dropped i = shallow (λ x. get_or dropped x false) i

-- each instruction passes, and each block
abbrev pub each_kind : (InstructionKind → Bool) → List Instruction → Bool
each_kind p is = every (λ i. p i.kind) is

abbrev pub each_block : (List Instruction → Bool) → List Block → Bool
each_block q ks = every (λ k. q k.instructions) ks

-- reason 2 of a block, Debug counted
abbrev pub ordered_behind : List Instruction → Bool
ordered_behind is = ordered with_debug (behind_phis is)

-- reasons 2, 3 and 4 of all blocks
abbrev pub all_ordered : List Block → Bool
all_ordered ks = every (λ k. ordered_behind k.instructions) ks

abbrev pub all_apart : Types → List Block → Bool
all_apart τ ks = every (λ k. apart (λ x. among x (bases τ ks)) (behind_phis k.instructions)) ks

abbrev pub all_shallow : List ValueId → List Block → Bool
all_shallow ds ks = every (λ k. every (λ i. shallow (λ x. among x ds) i.kind) (behind_phis k.instructions)) ks

-- Where an instruction's dests stand in its fields: how many there are, and where the first begins.
-- Nothing here is believed: proofs/Dests.antt ties them to the decoders.
abbrev pub dest_count : List ℕ → ℕ → ℕ
dest_count u kind = cond (eqb kind 3) (get_or u 0 0) (cond (eqb kind 6 || (eqb kind 7 || (eqb kind 8 || eqb kind 17))) 0 1)

abbrev pub dest_first : ℕ → ℕ
dest_first kind = cond (eqb kind 1 || (eqb kind 2 || eqb kind 3)) 1 0

-- n values that stand one behind the other
unfoldable pub dests_at : List ℕ → ℕ → ℕ → List ValueId
dests_at u at zero = []
dests_at u at (suc n) = record { 0 = at16 u at } ∷ dests_at u (at + 2) n

-- an instruction's, which stands at the head of t
abbrev pub dests_of : List ℕ → ℕ → List ValueId
dests_of t kind = dests_at (drop (fields_place t) t) (dest_first kind) (dest_count (drop (fields_place t) t) kind)

-- slots of a block that begins at `first`: the last of its instructions `is`, those behind its phis
pub record Behind (first : ℕ) (at : Slots) (is : List Instruction) : Type 0 where
  pub from : first ≤ at.first
  pub all : at.first + at.count ≡ first + length is
  pub same : behind_phis is ≡ drop (at.first - first) is

abbrev pub BehindPhis : Code → ℕ → Slots → Type 0
BehindPhis code k at =
    (τ : Types) (ks : List Block)
    → CodedIn code τ ks
    → k < length ks
    → Behind (get_or (starts_in code.facts.now) k 0) at (get_or ks k no_block).instructions
