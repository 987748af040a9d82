-- What the code keeps while it looks for aggregates that are used across blocks.
use Rattle.std.specs.Prelude.{Option, Some, None, ℕ, ◌<◌, ◌≤◌, ◌≡◌, List, Bool, true, false, cond, length, get_or, replicate}
use Rattle.std.proofs.Math.Option.{some}
use Rattle.mir.specs.declared.ValueId.{ValueId}
use Rattle.mir.specs.Syntax.{InstructionKind, Instruction, Block}
use Rattle.bytes_index.specs.declared.code.Code.{Code}
use Rattle.bytes_index.specs.Code.{no_instruction, no_block}
use Rattle.mir.specs.Lookup.{Types}
use Rattle.mir.specs.Most.{most_values, most_instructions}
use Rattle.fold.specs.Tables.{ShapesAt, Coded}
use Rattle.fold.specs.Family.{Marks, family, union, build_dest, read_elsewhere, cross_builds, cross_block_aggregates}
use Rattle.fold.specs.declared.Settings.{Settings}
use Rattle.fold_family.specs.Copies.{copies, RowsAt}
use Rattle.fold_family.specs.Search.{Members}
use Rattle.fold_readers.specs.Readers.{read_blocks}
use Rattle.fold_cross.specs.declared.cross_facts.CrossFacts.{CrossFacts}

-- a routine's code, the shapes of its values, and the block that reads each
pub record Ready (known : CrossFacts) (σ : Settings) (τ : Types) (ks : List Block) : Type 0 where
  pub coded : Coded known.code.bounds known.code.bytes.now known.code.facts.now τ ks
  pub given : ShapesAt σ τ known.shapes.now known.eligible.now
  pub readers : known.readers.now ≡ read_blocks 0 (replicate known.code.bounds.next 0) ks

-- a build of v, whether its type is eligible
pub record Root (eligible : List Bool) (next v : ℕ) (on : Bool) (i : InstructionKind) : Type 0 where
  pub dest : build_dest i ≡ some (record { 0 = v })
  pub low : v < next
  pub fits : get_or eligible v false ≡ on

-- no build of an eligible type
pub record Idle (eligible : List Bool) (next : ℕ) (i : InstructionKind) : Type 0 where
  pub each : (v : ValueId) → build_dest i ≡ some v → Root eligible next v.0 false i

pub record IdleAll (eligible : List Bool) (next : ℕ) (is : List Instruction) : Type 0 where
  pub each : (k : ℕ) → k < length is → Idle eligible next (get_or is k no_instruction).kind

-- what a build's reader tells: the dest of a build of an eligible type, or that there is none
pub record Built (eligible : List Bool) (next : ℕ) (r : Option ValueId) (i : InstructionKind) : Type 0 where
  pub dest : (v : ValueId) → r ≡ Some v → Root eligible next v.0 true i
  pub idle : r ≡ None → Idle eligible next i

-- what the builds of block k add
abbrev pub cross_block : Settings → Types → List Block → ℕ → Marks → Marks
cross_block σ τ ks k m = cross_builds σ τ ks k (get_or ks k no_block) (get_or ks k no_block).instructions m

-- the family of what was read of an instruction: none where no build was read
abbrev pub family_read : Types → List Instruction → Option ValueId → Marks
family_read τ is (Some v) = family τ v is
family_read τ is None = replicate (length τ.recorded) false

-- the promises: the n members of a family are marked where another block than `own` reads one,
abbrev pub MembersCrossed : ℕ → List ℕ → ℕ → List ℕ → Marks → Marks → Type 0
MembersCrossed own members n reader before after =
    (m : Marks) (ks : List Block)
    → Members members n m
    → length m ≡ length before
    → reader ≡ read_blocks 0 (replicate (length m) 0) ks
    → after ≡ cond (read_elsewhere m own 0 ks) (union m before) before

-- the family of what was read of an instruction of a block is found,
abbrev pub FamilyRead : Option ValueId → List ℕ → List ℕ → Marks → Marks → List ℕ → List ℕ → ℕ → Type 0
FamilyRead d table shapes clear m room members n =
    (σ : Settings) (τ : Types) (is : List Instruction) (i : InstructionKind) (eligible : List Bool) (next : ℕ)
    → RowsAt table (copies τ is)
    → length is ≤ most_instructions
    → ShapesAt σ τ shapes eligible
    → Built eligible next d i
    → next ≡ length τ.recorded
    → next ≤ most_values
    → most_values ≤ length room
    → clear ≡ replicate next false
    → (m ≡ family_read τ is d) × Members members n m

-- what f says of a routine's code,
abbrev pub Crossed : Types → List Block → (Settings → Marks → Marks) → CrossFacts → Marks → Marks → Type 0
Crossed τ ks f known before after =
    (σ : Settings)
    → Ready known σ τ ks
    → length before ≡ known.code.bounds.next
    → after ≡ f σ before

-- and the whole
abbrev pub CrossMarks : Code → List ℕ → List Bool → Marks → Marks → Type 0
CrossMarks code shapes eligible clear marks =
    (σ : Settings) (τ : Types) (ks : List Block)
    → Coded code.bounds code.bytes.now code.facts.now τ ks
    → ShapesAt σ τ shapes eligible
    → clear ≡ replicate (length τ.recorded) false
    → marks ≡ cross_block_aggregates σ τ ks
