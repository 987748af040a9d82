-- The fields of instructions and terminators are read back.
use Prim.Native.Nat.{ℕ, ◌≤◌, ◌<◌}
use mathlib.Core.Path.{◌≡◌, ap}
use mathlib.Core.List.{List, [], ◌∷◌}
use mathlib.Core.Bool.{Bool, true, false, not}
use mathlib.Core.Option.{Option, none, some}
use native.Mathlib.Omega.{arith}
use borrow.Author.Tests.{lt-ltb, eq-eqb, le-leb}
use lib.ListN.{length, get_or}
use lib.Dec.{leb, ltb, eqb}
use Rattle.bytes_wire.specs.Parse.{Parse, map_parse}
use Rattle.bytes_wire.specs.Number.{to_bytes, u32_of, below}
use Rattle.bytes_wire.specs.Value.{value_of, value_id_of, value_bytes, bool_byte}
use Rattle.bytes_wire.specs.WellFormed.{FitValue}
use Rattle.bytes_wire.specs.declared.Cause.{Cause}
use Rattle.mir.specs.declared.Value.{Value}
use Rattle.mir.specs.declared.ValueId.{ValueId}
use Rattle.mir.specs.declared.TypeId.{TypeId}
use Rattle.mir.specs.declared.BlockId.{BlockId}
use Rattle.mir.specs.declared.NameId.{NameId}
use Rattle.bytes_wire.proofs.RoundTrip.{value_back}
use Rattle.mir.specs.declared.Projection.{Projection}
use Rattle.mir.specs.declared.Projection.TheVariants.{Index, Field, Tuple}
use Rattle.mir.specs.Syntax.{Place, Source, FieldInit, Span, ExpressionId, Meta}
use Rattle.bytes_field.specs.Decode.{type_id_of, block_id_of, name_id_of, list_of, mark, defined_of, defined_seq, defineds_of, returns_of, operation_of, projection_of, place_of, source_of, field_init_of, optional, bit, span_of, expression_of, meta_of}
use Rattle.bytes_field.specs.Encode.{value_id_bytes, type_id_bytes, block_id_bytes, name_id_bytes, each_bytes, list_bytes, projection_bytes, place_bytes, source_bytes, field_init_bytes, option_bytes, span_bytes, expression_bytes, meta_bytes, stands}
use Rattle.bytes_field.specs.declared.Bounds.{Bounds}
use Rattle.bytes_laws.specs.WellFormed.{Wide, FitList, FitOption, FitType, FitBlock, FitName, FitNew, FitNews, FitProjection, FitPlace, FitSource, FitInit, FitSpan, FitExpression, FitMeta}
use Rattle.bytes_laws.proofs.Back.{Back, then, last, alone, tested, number, byte, sequence, counted, list, tag}

-- a u16 below a bound
limited : (bound x : ℕ) → bound ≤ 65536 → x < bound → Back (below bound) (to_bytes 2 x) x
limited bound x l h = tested Cause.OutOfRange (λ x. ltb x bound) (lt-ltb x bound h) (number 2 x (omega arith))

-- a name
pub name : (n : NameId) → FitName n → Back name_id_of (name_id_bytes n) n
name n h = last _ (number 2 n.0 h)

-- an operation
pub operation : (many x : ℕ) → many ≤ 256 → x < many → Back (operation_of many) (x ∷ []) x
operation many x l h = tested Cause.Undefined (λ x. ltb x many) (lt-ltb x many h) (byte x (omega arith))

-- the table of `projection_of`
abbrev steps : ℕ → List (List ℕ → Parse Projection)
steps next = (λ t. map_parse Projection.Index (value_of next t)) ∷ (λ t. map_parse Projection.Field (name_id_of t)) ∷ (λ t. map_parse Projection.Tuple (u32_of t)) ∷ []

module _ (b : Bounds) (w : Wide b) where
  -- the numbers of values, types and blocks
  pub operand : (v : ValueId) → v.0 < b.next → Back (value_id_of b.next) (value_id_bytes v) v
  operand v h = last _ (limited b.next v.0 w.next h)

  pub type : (t : TypeId) → FitType b t → Back (type_id_of b.types) (type_id_bytes t) t
  type t h = last _ (limited b.types t.0 w.types h)

  pub block : (p : BlockId) → FitBlock b p → Back (block_id_of b.blocks) (block_id_bytes p) p
  block p h = last _ (limited b.blocks p.0 w.blocks h)

  -- values
  pub value : (v : Value) → FitValue b.next v → Back (value_of b.next) (value_bytes v) v
  value v h = record { says = λ t. value_back b.next v t h }

  pub values : (xs : List Value) → FitList b.list (FitValue b.next) xs → Back (list_of b.list (value_of b.next)) (list_bytes value_bytes xs) xs
  values xs h = list b.list w.list value xs h

  pub types : (ts : List TypeId) → FitList b.list (FitType b) ts → Back (list_of b.list (type_id_of b.types)) (list_bytes type_id_bytes ts) ts
  types ts h = list b.list w.list type ts h

  -- a value that is defined here, and the dests of a Call
  pub dest : (seen : List Bool) (d : ValueId) → FitNew b seen d → Back (defined_of b.next seen) (value_id_bytes d) d
  dest seen d h = tested Cause.Redefined (λ d. not (get_or seen d.0 false)) (ap not h.1) (operand d h.0)

  news : (seen : List Bool) (ds : List ValueId) → FitNews b seen ds → Back (defined_seq b.next seen (length ds)) (each_bytes value_id_bytes ds) ds
  unfolding defined_seq
  news seen [] h = alone
  news seen (d ∷ ds) h = then _ (dest seen d h.0) (last _ (news (mark seen d) ds h.1))

  pub dests : (seen : List Bool) (ds : List ValueId) → (length ds ≤ b.list) × FitNews b seen ds → Back (defineds_of b.list b.next seen) (list_bytes value_id_bytes ds) ds
  unfolding defineds_of
  dests seen ds h = counted _ b.list (length ds) h.0 w.list (news seen ds h.1)

  -- the return types of a Call: as many as it has dests
  pub returns : (seen : List Bool) (many : ℕ) (rs : List TypeId) → FitList b.list (FitType b) rs → length rs ≡ many → Back (returns_of b seen many) (list_bytes type_id_bytes rs) rs
  unfolding returns_of
  returns seen many rs h e =
      let l : length rs < 256 = omega (arith, h.0, w.list) in
      then _ (tested Cause.CallCounts (λ n. eqb n many) (eq-eqb (length rs) many e) (tested Cause.TooMany (λ n. leb n b.list) (le-leb (length rs) b.list h.0) (byte (length rs) l))) (sequence type rs h.1)

  -- a place
  projection : (p : Projection) → FitProjection b p → Back (projection_of b.next) (projection_bytes p) p
  unfolding projection_of
  projection (Index x) h = tag (steps b.next) 0 (last _ (value x h))
  projection (Field n) h = tag (steps b.next) 1 (last _ (name n h))
  projection (Tuple k) h = tag (steps b.next) 2 (last _ (number 4 k h))

  pub place : (p : Place) → FitPlace b p → Back (place_of b) (place_bytes p) p
  place p h = then _ (operand p.base h.0) (last _ (list b.projections w.projections projection p.projections h.1))

  -- the pairs of a Phi and of a MakeStruct
  source : (s : Source) → FitSource b s → Back (source_of b) (source_bytes s) s
  source s h = then _ (block s.block h.0) (last _ (value s.value h.1))

  pub sources : (ss : List Source) → FitList b.list (FitSource b) ss → Back (list_of b.list (source_of b)) (list_bytes source_bytes ss) ss
  sources ss h = list b.list w.list source ss h

  init : (f : FieldInit) → FitInit b f → Back (field_init_of b) (field_init_bytes f) f
  init f h = then _ (name f.name h.0) (last _ (value f.value h.1))

  pub inits : (fs : List FieldInit) → FitList b.list (FitInit b) fs → Back (list_of b.list (field_init_of b)) (list_bytes field_init_bytes fs) fs
  inits fs h = list b.list w.list init fs h

-- a field whose bit stands as the option says
maybe : {A : Type 0} {dec : List ℕ → Parse A} {enc : A → List ℕ} {P : A → Type 0} → ((a : A) → P a → Back dec (enc a) a) → (c : Bool) (o : Option A) → stands o ≡ bool_byte c → FitOption P o → Back (optional c dec) (option_bytes enc o) o
maybe x true none e h = absurd (omega arith)
maybe x true (some a) e h = last _ (x a h)
maybe x false none e h = alone
maybe x false (some a) e h = absurd (omega arith)

-- a span, and an expression id
span : (p : Span) → FitSpan p → Back span_of (span_bytes p) p
span p h = then _ (number 4 p.start h.0) (last _ (number 4 p.stop h.1))

expression : (e : ExpressionId) → FitExpression e → Back expression_of (expression_bytes e) e
expression e h = then _ (number 4 e.index h.0) (last _ (number 8 e.file h.1))

-- what stands beside the kind, with its bits
pub beside : (bits : ℕ) (m : Meta) → stands m.span ≡ bool_byte (bit 0 bits) → stands m.expression ≡ bool_byte (bit 1 bits) → stands m.comment ≡ bool_byte (bit 2 bits) → FitMeta m → Back (meta_of bits) (meta_bytes m) m
unfolding meta_of
beside bits m e f g h = then _ (maybe span (bit 0 bits) m.span e h.0) (then _ (maybe expression (bit 1 bits) m.expression f h.1) (last _ (maybe (λ x l. number 4 x l) (bit 2 bits) m.comment g h.2)))
