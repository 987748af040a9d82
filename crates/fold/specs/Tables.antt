-- What the code keeps of types and values beside the bytes: tables by number, and what they hold.
use Rattle.std.specs.Prelude.{ℕ, ◌<◌, ◌≤◌, ◌≡◌, List, Bool, false, length, get_or}
use Rattle.std.proofs.Math.Option.{none, some}
use Rattle.bytes_wire.specs.WellFormed.{Bytes}
use Rattle.mir.specs.declared.TypeId.{TypeId}
use Rattle.mir.specs.Syntax.{Block}
use Rattle.bytes_field.specs.declared.Bounds.{Bounds}
use Rattle.bytes_index.specs.declared.code.Code.{Code}
use Rattle.bytes_index.specs.declared.code.Typing.{Typing}
use Rattle.bytes_index.specs.Table.{recorded_in, blocks_in}
use Rattle.bytes_index.specs.Code.{no_block, CodeIn}
use Rattle.bytes_types.specs.Index.{TypesAt}
use Rattle.bytes_sections.specs.Decode.{mosts}
use Rattle.bytes_sections.specs.Index.{RecordedAt, BlocksAt}
use Rattle.fold.specs.declared.Settings.{Settings}
use Rattle.mir.specs.Lookup.{Types, value_row, shape}
use Rattle.fold.specs.Scalarizable.{is_scalarizable}

-- the type table stands at `types`, the recorded types at `recorded` (routine's Index says how)
pub record Known (most : ℕ) (s types recorded : List ℕ) (τ : Types) : Type 0 where
  pub rows : TypesAt most s types τ.rows
  pub recorded_types : RecordedAt recorded τ.recorded
  pub long : length τ.recorded ≤ length recorded

-- by value: the shape of its recorded type, and whether that type is eligible under the settings
pub record ShapesAt (σ : Settings) (τ : Types) (shapes : List ℕ) (eligible : List Bool) : Type 0 where
  pub shaped : (v : ℕ) → v < length τ.recorded → get_or shapes v 0 ≡ shape (value_row τ (record { 0 = v }))
  pub fits : (v : ℕ) → v < length τ.recorded → get_or eligible v false ≡ is_scalarizable σ (value_row τ (record { 0 = v }))

-- what is known of a routine's types: its bytes, and where its types and its recorded types stand
pub record Ground (b : Bounds) (s types recorded : List ℕ) (τ : Types) : Type 0 where
  pub bytes : Bytes s
  pub known : Known b.list s types recorded τ
  pub rows : length τ.rows ≡ b.types
  pub values : length τ.recorded ≡ b.next
  pub typed : (v : ℕ) (t : TypeId) → get_or τ.recorded v none ≡ some t → t.0 < b.types
  pub few : b.next ≤ 256
  pub listed : b.list ≤ 16
  pub projected : b.projections ≤ 8

-- and of its code: what the table of facts holds of its types τ and its blocks ks
pub record Coded (b : Bounds) (s facts : List ℕ) (τ : Types) (ks : List Block) : Type 0 where
  pub ground : Ground b s facts (recorded_in facts) τ
  pub code : CodeIn b s facts ks
  pub blocks : BlocksAt mosts b s (blocks_in facts) ks
  pub many : length ks ≡ b.blocks
  pub few : b.blocks ≤ 32
  pub small : (k : ℕ) → k < length ks → length (get_or ks k no_block).instructions ≤ 128
  pub short : length s < 65536

-- what is known of the types of a routine as the code has it, and of its types and recorded types
abbrev pub CodeGround : Code → Types → Type 0
CodeGround code τ = Ground code.bounds code.bytes.now code.facts.now (recorded_in code.facts.now) τ

abbrev pub TypingGround : Typing → Types → Type 0
TypingGround typing τ = Ground typing.code.bounds typing.code.bytes.now typing.code.facts.now typing.recorded.now τ
