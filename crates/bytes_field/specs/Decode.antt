-- The decoder of instructions and terminators, in the order of document 01, "The routine in bytes".
-- `Bounds` is what an instruction's numbers stay below, and the mosts of lists and projections.
-- `seen` has a mark for each value that is defined so far.
use Rattle.std.specs.Prelude.{ℕ, zero, suc, ◌/◌, ◌%◌, ◌^◌, List, [], ◌∷◌, map, Bool, true, false, not, ◌&&◌, length, get_or, set, ltb, eqb}
use Rattle.std.proofs.Math.Option.{Option, none, some}
use Rattle.bytes_wire.specs.Parse.{Parse, ok, bad, and_then, map_parse, checked, tagged, seq_of}
use Rattle.bytes_wire.specs.Number.{number_of, u8_of, u16_of, u32_of, below, counted}
use Rattle.bytes_wire.specs.Value.{value_of, value_id_of}
use Rattle.bytes_wire.specs.declared.Cause.{Cause}
use Rattle.mir.specs.declared.Value.{Value}
use Rattle.mir.specs.declared.ValueId.{ValueId}
use Rattle.mir.specs.declared.BlockId.{BlockId}
use Rattle.mir.specs.declared.TypeId.{TypeId}
use Rattle.mir.specs.declared.NameId.{NameId}
use Rattle.mir.specs.declared.Projection.{Projection}
use Rattle.mir.specs.Syntax.{Place, Source, FieldInit, Span, ExpressionId, Meta, InstructionKind, Instruction, Terminator}
use Rattle.bytes_field.specs.declared.Bounds.{Bounds}

-- the numbers of types, blocks and names
abbrev pub type_id_of : ℕ → List ℕ → Parse TypeId
type_id_of types s = map_parse (λ x. record { 0 = x }) (below types s)

abbrev pub block_id_of : ℕ → List ℕ → Parse BlockId
block_id_of blocks s = map_parse (λ x. record { 0 = x }) (below blocks s)

abbrev pub name_id_of : List ℕ → Parse NameId
name_id_of s = map_parse (λ x. record { 0 = x }) (u16_of s)

-- "lists u8 count first"; a count that passes its most is refused at its offset
abbrev pub count_of : ℕ → List ℕ → Parse ℕ
count_of most s = counted most (u8_of s)

unfoldable pub list_of : {A : Type 0} → ℕ → (List ℕ → Parse A) → List ℕ → Parse (List A)
list_of most dec s = and_then s (count_of most s) (λ n t. seq_of dec n t)

-- a value that is defined here: not before, in this routine
abbrev pub mark : List Bool → ValueId → List Bool
mark seen d = set seen d.0 true

abbrev pub defined_of : ℕ → List Bool → List ℕ → Parse ValueId
defined_of next seen s = checked Cause.Redefined (λ d. not (get_or seen d.0 false)) (value_id_of next s)

unfoldable pub defined_seq : ℕ → List Bool → ℕ → List ℕ → Parse (List ValueId)
defined_seq next seen zero s = ok [] 0
defined_seq next seen (suc k) s =
    and_then s (defined_of next seen s) (λ d t. map_parse (λ ds. d ∷ ds) (defined_seq next (mark seen d) k t))

unfoldable pub defineds_of : ℕ → ℕ → List Bool → List ℕ → Parse (List ValueId)
defineds_of most next seen s = and_then s (count_of most s) (λ n t. defined_seq next seen n t)

-- "`BinaryOp` is a u8 0 to 25, `UnaryOp` a u8 0 to 15"
abbrev pub operation_of : ℕ → List ℕ → Parse ℕ
operation_of many s = checked Cause.Undefined (λ x. ltb x many) (u8_of s)

-- "a place is base, then list of projections: u8 0 Index value, 1 Field name, 2 Tuple index"
unfoldable pub projection_of : ℕ → List ℕ → Parse Projection
projection_of next s =
    tagged
    ((λ t. map_parse Projection.Index (value_of next t))
    ∷ (λ t. map_parse Projection.Field (name_id_of t))
    ∷ (λ t. map_parse Projection.Tuple (u32_of t))
    ∷ [])
    s

abbrev pub place_of : Bounds → List ℕ → Parse Place
place_of b s =
    and_then s (value_id_of b.next s) (λ v t.
    map_parse (λ ps. record { base = v; projections = ps }) (list_of b.projections (projection_of b.next) t))

-- the pairs of a Phi and of a MakeStruct
abbrev pub source_of : Bounds → List ℕ → Parse Source
source_of b s = and_then s (block_id_of b.blocks s) (λ p t. map_parse (λ x. record { block = p; value = x }) (value_of b.next t))

abbrev pub field_init_of : Bounds → List ℕ → Parse FieldInit
field_init_of b s = and_then s (name_id_of s) (λ n t. map_parse (λ x. record { name = n; value = x }) (value_of b.next t))

-- the fields of each kind "as declared", in `InstructionKind` order; `c` is bit 3 of the bit map, is_const
module _ (b : Bounds) (seen : List Bool) where
  abbrev dest_of : List ℕ → Parse ValueId
  dest_of s = defined_of b.next seen s

  abbrev value : List ℕ → Parse Value
  value s = value_of b.next s

  abbrev values : List ℕ → Parse (List Value)
  values s = list_of b.list (value_of b.next) s

  abbrev type : List ℕ → Parse TypeId
  type s = type_id_of b.types s

  abbrev types : List ℕ → Parse (List TypeId)
  types s = list_of b.list (type_id_of b.types) s

  unfoldable pub assign_of : List ℕ → Parse InstructionKind
  assign_of s = and_then s (dest_of s) (λ d s. and_then s (value s) (λ x s. map_parse (λ t. InstructionKind.Assign d x t) (type s)))

  unfoldable pub unary_of : List ℕ → Parse InstructionKind
  unary_of s = and_then s (operation_of 16 s) (λ op s. and_then s (dest_of s) (λ d s. map_parse (λ x. InstructionKind.UnaryOp op d x) (value s)))

  unfoldable pub binary_of : List ℕ → Parse InstructionKind
  binary_of s =
      and_then s (operation_of 26 s) (λ op s.
      and_then s (dest_of s) (λ d s.
      and_then s (value s) (λ x s.
      map_parse (λ y. InstructionKind.BinaryOp op d x y) (value s))))

  -- a Call has as many return types as dests: else it is refused at the return count
  unfoldable pub returns_of : ℕ → List ℕ → Parse (List TypeId)
  returns_of many s = and_then s (checked Cause.CallCounts (λ n. eqb n many) (count_of b.list s)) (λ n t. seq_of (type_id_of b.types) n t)

  unfoldable pub call_of : List ℕ → Parse InstructionKind
  call_of s =
      and_then s (defineds_of b.list b.next seen s) (λ ds s.
      and_then s (u16_of s) (λ f s.
      and_then s (values s) (λ xs s.
      and_then s (types s) (λ ps s.
      map_parse (λ rs. InstructionKind.Call ds f xs ps rs) (returns_of (length ds) s)))))

  unfoldable pub cast_of : List ℕ → Parse InstructionKind
  cast_of s = and_then s (dest_of s) (λ d s. and_then s (value s) (λ x s. and_then s (type s) (λ t s. map_parse (λ u. InstructionKind.Cast d x t u) (type s))))

  unfoldable pub load_of : List ℕ → Parse InstructionKind
  load_of s = and_then s (dest_of s) (λ d s. and_then s (place_of b s) (λ p s. map_parse (λ t. InstructionKind.Load d p t) (type s)))

  unfoldable pub store_of : List ℕ → Parse InstructionKind
  store_of s = and_then s (place_of b s) (λ p s. and_then s (value s) (λ x s. map_parse (λ t. InstructionKind.Store p x t) (type s)))

  unfoldable pub debug_of : List ℕ → Parse InstructionKind
  debug_of s = and_then s (u32_of s) (λ m s. map_parse (λ xs. InstructionKind.Debug m xs) (values s))

  unfoldable pub phi_of : List ℕ → Parse InstructionKind
  phi_of s = and_then s (dest_of s) (λ d s. and_then s (type s) (λ t s. map_parse (λ ss. InstructionKind.Phi d t ss) (list_of b.list (source_of b) s)))

  unfoldable pub make_tuple_of : List ℕ → Parse InstructionKind
  make_tuple_of s = and_then s (dest_of s) (λ d s. map_parse (λ xs. InstructionKind.MakeTuple d xs) (values s))

  unfoldable pub extract_tuple_of : List ℕ → Parse InstructionKind
  extract_tuple_of s =
      and_then s (dest_of s) (λ d s.
      and_then s (value s) (λ x s.
      and_then s (u32_of s) (λ k s.
      map_parse (λ t. InstructionKind.ExtractTupleElement d x k t) (type s))))

  unfoldable pub make_struct_of : List ℕ → Parse InstructionKind
  make_struct_of s =
      and_then s (dest_of s) (λ d s.
      and_then s (list_of b.list (field_init_of b) s) (λ fs s.
      map_parse (λ t. InstructionKind.MakeStruct d fs t) (type s)))

  unfoldable pub extract_field_of : List ℕ → Parse InstructionKind
  extract_field_of s =
      and_then s (dest_of s) (λ d s.
      and_then s (value s) (λ x s.
      and_then s (name_id_of s) (λ n s.
      map_parse (λ t. InstructionKind.ExtractStructField d x n t) (type s))))

  unfoldable pub insert_field_of : List ℕ → Parse InstructionKind
  insert_field_of s =
      and_then s (dest_of s) (λ d s.
      and_then s (value s) (λ x s.
      and_then s (name_id_of s) (λ n s.
      and_then s (value s) (λ y s.
      map_parse (λ t. InstructionKind.InsertField d x n y t) (type s)))))

  unfoldable pub insert_tuple_of : List ℕ → Parse InstructionKind
  insert_tuple_of s =
      and_then s (dest_of s) (λ d s.
      and_then s (value s) (λ x s.
      and_then s (u32_of s) (λ k s.
      and_then s (value s) (λ y s.
      map_parse (λ t. InstructionKind.InsertTuple d x k y t) (type s)))))

  unfoldable pub make_array_of : Bool → List ℕ → Parse InstructionKind
  make_array_of c s = and_then s (dest_of s) (λ d s. and_then s (values s) (λ xs s. map_parse (λ t. InstructionKind.MakeFixedArray d xs t c) (type s)))

  unfoldable pub assert_eq_of : List ℕ → Parse InstructionKind
  assert_eq_of s = and_then s (value s) (λ x s. map_parse (λ y. InstructionKind.AssertEq x y) (value s))

  unfoldable pub heap_alloc_of : List ℕ → Parse InstructionKind
  heap_alloc_of s = and_then s (dest_of s) (λ d s. map_parse (λ x. InstructionKind.HeapAllocCells d x) (value s))

  -- "u8 kind in `InstructionKind` order (0 to 18)"
  abbrev pub kinds : Bool → List (List ℕ → Parse InstructionKind)
  kinds c =
      (λ s. assign_of s) ∷ (λ s. unary_of s) ∷ (λ s. binary_of s) ∷ (λ s. call_of s) ∷ (λ s. cast_of s)
      ∷ (λ s. load_of s) ∷ (λ s. store_of s) ∷ (λ s. debug_of s) ∷ (λ s. ok InstructionKind.Nop 0) ∷ (λ s. phi_of s)
      ∷ (λ s. make_tuple_of s) ∷ (λ s. extract_tuple_of s) ∷ (λ s. make_struct_of s) ∷ (λ s. extract_field_of s)
      ∷ (λ s. insert_field_of s) ∷ (λ s. insert_tuple_of s) ∷ (λ s. make_array_of c s) ∷ (λ s. assert_eq_of s)
      ∷ (λ s. heap_alloc_of s) ∷ []

-- "bit 0 span, two u32; 1 expression id, u32 and u64; 2 comment, u32; 3 is_const, no field, MakeFixedArray only"
abbrev pub bit : ℕ → ℕ → Bool
bit k x = eqb (x / 2 ^ k % 2) 1

abbrev pub optional : {A : Type 0} → Bool → (List ℕ → Parse A) → List ℕ → Parse (Option A)
optional true dec s = map_parse some (dec s)
optional false dec s = ok none 0

abbrev pub span_of : List ℕ → Parse Span
span_of s = and_then s (u32_of s) (λ a t. map_parse (λ e. record { start = a; stop = e }) (u32_of t))

abbrev pub expression_of : List ℕ → Parse ExpressionId
expression_of s = and_then s (u32_of s) (λ i t. map_parse (λ f. record { index = i; file = f }) (number_of 8 t))

-- "the fields whose bit stands"
unfoldable pub meta_of : ℕ → List ℕ → Parse Meta
meta_of bits s =
    and_then s (optional (bit 0 bits) span_of s) (λ p s.
    and_then s (optional (bit 1 bits) expression_of s) (λ e s.
    map_parse (λ c. record { span = p; expression = e; comment = c }) (optional (bit 2 bits) u32_of s)))

-- the bit map: bits 4 to 7 are undefined, and bit 3 "where a kind other than 16 follows"
abbrev pub defined_bits : List ℕ → ℕ → Bool
defined_bits s x = ltb x 16 && not (bit 3 x && (ltb 1 (length s) && not (eqb (get_or s 1 0) 16)))

-- an undefined bit is refused at the bit map
abbrev pub bits_of : List ℕ → Parse ℕ
bits_of s = checked Cause.Undefined (defined_bits s) (u8_of s)

-- the kind: `late` is whether another kind than Phi stands before it in the block
abbrev pub kind_of : Bool → List ℕ → Parse ℕ
kind_of late s = checked Cause.LatePhi (λ k. not (late && eqb k 9)) (checked Cause.Undefined (λ k. ltb k 19) (u8_of s))

-- "an instruction is a u8 bit map, u8 kind, the fields whose bit stands, then the kind's fields"
unfoldable pub instruction_of : Bounds → List Bool → Bool → List ℕ → Parse Instruction
instruction_of b seen late s =
    and_then s (bits_of s) (λ bits s.
    and_then s (kind_of late s) (λ k s.
    and_then s (meta_of bits s) (λ m s.
    map_parse (λ i. record { meta = m; kind = i }) (get_or (map (λ f. f s) (kinds b seen (bit 3 bits))) k (bad Cause.Undefined 0)))))

-- "terminators are a u8 0 to 4 in declared order, then fields"
unfoldable pub jump_of : Bounds → List ℕ → Parse Terminator
jump_of b s = map_parse Terminator.Jump (block_id_of b.blocks s)

unfoldable pub if_of : Bounds → List ℕ → Parse Terminator
if_of b s = and_then s (value_of b.next s) (λ x s. and_then s (block_id_of b.blocks s) (λ p s. map_parse (λ q. Terminator.If x p q) (block_id_of b.blocks s)))

unfoldable pub branch_of : Bounds → List ℕ → Parse Terminator
branch_of b s =
    and_then s (operation_of 26 s) (λ op s.
    and_then s (value_of b.next s) (λ x s.
    and_then s (value_of b.next s) (λ y s.
    and_then s (block_id_of b.blocks s) (λ p s.
    map_parse (λ q. Terminator.BranchCmp op x y p q) (block_id_of b.blocks s)))))

unfoldable pub return_of : Bounds → List ℕ → Parse Terminator
return_of b s = map_parse Terminator.Return (list_of b.list (value_of b.next) s)

-- Jump, If, BranchCmp, Return, Unreachable
abbrev pub terminators : Bounds → List (List ℕ → Parse Terminator)
terminators b = (λ s. jump_of b s) ∷ (λ s. if_of b s) ∷ (λ s. branch_of b s) ∷ (λ s. return_of b s) ∷ (λ s. ok Terminator.Unreachable 0) ∷ []

unfoldable pub terminator_of : Bounds → List ℕ → Parse Terminator
terminator_of b s = tagged (terminators b) s
