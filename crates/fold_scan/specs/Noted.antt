-- What the scan notes in the graph, one thing at a time.
use Rattle.std.specs.Prelude.{ℕ, ◌+◌, ◌≤◌, ◌<◌, ◌≡◌, List, [], ◌∷◌, Bool}
use Rattle.std.specs.Prelude.{false, cond, not, ◌&&◌, length, get_or, set, drop, ltb, eqb}
use Rattle.std.proofs.Math.Option.{Option, none, some}
use Rattle.bytes_wire.specs.Number.{at16}
use Rattle.mir.specs.declared.ValueId.{ValueId}
use Rattle.mir.specs.declared.Projection.{Projection}
use Rattle.mir.specs.Syntax.{Instruction}
use Rattle.mir.specs.Reads.{kind_number}
use Rattle.bytes_field.specs.declared.Bounds.{Bounds}
use Rattle.bytes_index.specs.Table.{place_in, read_in, ReadsIn}
use Rattle.bytes_index.specs.declared.code.Code.{Code}
use Rattle.bytes_index.specs.declared.slots.Slots.{Slots}
use Rattle.bytes_index.specs.Code.{no_instruction, InstructionIn, InstructionsIn}
use Rattle.bytes_operands.specs.Fields.{place_steps, fields_place}
use Rattle.mir.specs.Lookup.{Types}
use Rattle.mir.specs.Most.{most_values}
use Rattle.fold.specs.Numbers.{call_kind, struct_kind}
use Rattle.fold.specs.Family.{Marks}
use Rattle.fold.specs.declared.Settings.{Settings}
use Rattle.fold.specs.Tables.{ShapesAt}
use Rattle.fold.specs.Climb.{buildable}
use Rattle.mir.specs.Phis.{behind_phis}
use Rattle.fold_climb.specs.Edges.{varies_first, edges_of}
use Rattle.fold_scan.specs.declared.ValueFacts.{ValueFacts}
use Rattle.fold_climb.specs.Scanned.{built_from, barred_from, edge_at, most_edges, graph_size, many_in, Scanned}

-- the value that the instruction in a slot defines: its first field
abbrev pub first_field : List ℕ → ℕ
first_field t = at16 (drop (fields_place t) t) 0

abbrev pub dest_in : List ℕ → List ℕ → ℕ → ℕ
dest_in s facts slot = first_field (drop (place_in facts slot) s)

-- an edge; a block has room for 16 for each of 128 builds
abbrev pub pushed : ℕ → ℕ → ℕ → List ℕ → List ℕ
pushed c p kind g =
    cond (ltb (many_in g) most_edges)
    (set (set (set (set g (edge_at (many_in g)) c) (edge_at (many_in g) + 1) p) (edge_at (many_in g) + 2) kind) 0 (many_in g + 1))
    g

-- a value that is wanted whole
abbrev pub barring : ℕ → List ℕ → List ℕ
barring v g = cond (ltb v most_values) (set g (barred_from + v) 1) g

-- a value that an instruction reads: a Call wants it whole, to a build d it is a part
abbrev pub noted_read : ℕ → ℕ → List ℕ → ℕ → List ℕ
noted_read kind d g w = cond (eqb kind call_kind) (barring w g) (cond (eqb w d) g (pushed w d kind g))

-- all that it reads, the last one first
unfoldable pub noted_reads : ℕ → ℕ → List ℕ → List ValueId → List ℕ
noted_reads kind d g [] = g
noted_reads kind d g (w ∷ ws) = noted_read kind d (noted_reads kind d g ws) w.0

-- a first projection that was found
abbrev pub varies_found : Option Projection → Bool
varies_found none = false
varies_found (some p) = varies_first (p ∷ [])

-- what noting the place of a Load or Store gives
abbrev pub PlaceNoted : Code → ℕ → List ℕ → List ℕ → Type 0
PlaceNoted code slot before behind =
    (i : Instruction)
    → InstructionIn code.bounds code.bytes.now code.facts.now slot i
    → behind ≡ cond (varies_first (place_steps i.kind)) (barring (read_in code.facts.now slot 0) before) before

-- what noting the reads of the instruction in a slot gives, whose kind and dest are these
abbrev pub ReadsNoted : List ℕ → ℕ → ℕ → ValueId → List ℕ → List ℕ → Type 0
ReadsNoted facts slot kind d before behind =
    (ws : List ValueId) → ReadsIn facts slot ws → behind ≡ noted_reads kind d.0 before ws

-- what noting a build d gives; `good`: it passes its conditions
abbrev pub BuildNoted : List ℕ → ℕ → ℕ → ValueId → Bool → List ℕ → List ℕ → Type 0
BuildNoted facts slot kind d good before behind =
    (ws : List ValueId) → ReadsIn facts slot ws → behind ≡ noted_reads kind d.0 (set before (built_from + d.0) (cond good 1 0)) ws

-- the conditions of a tuple's or an array's build v: the shape, an eligible type, no use in another block
abbrev pub passes_by : ValueFacts → ℕ → ℕ → Bool
passes_by values v shape = eqb (get_or values.shapes.now v 0) shape && (get_or values.eligible.now v false && not (get_or values.cross.now v false))

-- the same of the build in a slot, whose type has to have a shape
abbrev pub ShapedNoted : Code → ℕ → ℕ → ℕ → ValueFacts → List ℕ → List ℕ → Type 0
ShapedNoted code slot kind shape values before behind =
    let d = dest_in code.bytes.now code.facts.now slot in
    BuildNoted code.facts.now slot kind (record { 0 = d }) (passes_by values d shape) before behind

-- the graph has room, and the instructions' values are those that have a recorded type
pub record Ready (b : Bounds) (τ : Types) (graph : List ℕ) : Type 0 where
  pub next : b.next ≡ length τ.recorded
  pub few : length τ.recorded ≤ most_values
  pub room : graph_size ≤ length graph

-- what scanning the instruction in a slot gives; `given`: a MakeStruct passes its conditions
abbrev pub OneScanned : Code → ℕ → ValueFacts → Bool → List ℕ → List ℕ → Type 0
OneScanned code slot values given before behind =
    (σ : Settings) (τ : Types) (is : List Instruction) (i : Instruction)
    → InstructionIn code.bounds code.bytes.now code.facts.now slot i
    → ShapesAt σ τ values.shapes.now values.eligible.now
    → Ready code.bounds τ before
    → (kind_number i.kind ≡ struct_kind → given ≡ buildable σ τ values.cross.now i.kind)
    → length (edges_of (i ∷ is)) ≤ most_edges
    → Scanned σ τ values.cross.now is before
    → Scanned σ τ values.cross.now (i ∷ is) behind

-- a mark for each instruction: a MakeStruct's says whether it passes its conditions
abbrev pub StructsAt : Settings → Types → Marks → List Bool → List Instruction → Type 0
StructsAt σ τ cross structs all =
    (k : ℕ)
    → k < length all
    → kind_number (get_or all k no_instruction).kind ≡ struct_kind
    → get_or structs k false ≡ buildable σ τ cross (get_or all k no_instruction).kind

-- what scanning a block gives, of its instructions behind the phis
abbrev pub BlockScanned : Code → Slots → ValueFacts → List Bool → List ℕ → List ℕ → Type 0
BlockScanned code slots values structs before behind =
    (σ : Settings) (τ : Types) (all : List Instruction)
    → InstructionsIn code.bounds code.bytes.now code.facts.now slots.first all
    → length all ≡ slots.count
    → ShapesAt σ τ values.shapes.now values.eligible.now
    → Ready code.bounds τ before
    → StructsAt σ τ values.cross.now structs all
    → length (edges_of all) ≤ most_edges
    → Scanned σ τ values.cross.now (behind_phis all) behind
