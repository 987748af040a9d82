-- How the code walks over an instruction's bytes: one table of field classes.
-- Nothing here is believed: the laws of proofs/Rows.antt tie each row to the decoder of its kind.
use Rattle.std.specs.Prelude.{ℕ, zero, suc, ◌+◌, ◌/◌, ◌%◌, ◌≡◌, List, [], ◌∷◌, map, Bool}
use Rattle.std.specs.Prelude.{true, cond, not, ◌||◌, length, get_or, set, ltb, eqb, Option, Some, None, Result, Ok, Err}
use Rattle.bytes_wire.specs.Parse.{Parse, as_answer, ok, and_then, map_parse, checked}
pub use Rattle.bytes_wire.specs.Parse.{places}
use Rattle.bytes_wire.specs.Number.{u16_of, u32_of, below}
use Rattle.bytes_wire.specs.Value.{value_of, value_id_of}
use Rattle.bytes_wire.specs.declared.Cause.{Cause}
use Rattle.bytes_wire.specs.declared.Refusal.{Refusal}
use Rattle.mir.specs.declared.Value.{Value}
use Rattle.mir.specs.declared.ValueId.{ValueId}
use Rattle.mir.specs.declared.Projection.{Projection}
use Rattle.mir.specs.declared.Projection.TheVariants.{Index, Field, Tuple}
use Rattle.mir.specs.Syntax.{Place, InstructionKind, Instruction, Terminator}
use Rattle.mir.specs.Reads.{place_reads, reads, dests, is_phi, terminator_reads}
use Rattle.bytes_field.specs.Decode.{count_of, mark, defined_of, operation_of, projection_of}
use Rattle.bytes_field.specs.declared.Bounds.{Bounds}
use Rattle.bytes_field.specs.declared.Lists.{Lists}
use Rattle.bytes_field.specs.declared.Scan.{Scan}

-- what a walk carries: a mark for each value defined so far, a buffer with the values read so far, how many
-- of them, and whether another kind than Phi was met in the block
pub record Walk : Type 0 where
  pub seen : List Bool
  pub buffer : List ℕ
  pub count : ℕ
  pub late : Bool

abbrev pub walk_of : List Bool → List ℕ → ℕ → Bool → Walk
walk_of seen buffer n late = record { seen = seen; buffer = buffer; count = n; late = late }

-- what was noted before a field, with the lent marks and buffer
abbrev pub walk_before : List Bool → List ℕ → Scan → Walk
walk_before seen buffer x = walk_of seen buffer x.reads x.late

abbrev pub defines : Walk → ValueId → Walk
defines w d = record { seen = mark w.seen d; buffer = w.buffer; count = w.count; late = w.late }

-- a read is noted while there is room
abbrev pub uses : Walk → ValueId → Walk
uses w v =
    record {
      seen = w.seen;
      buffer = set w.buffer w.count v.0;
      count = cond (ltb w.count (length w.buffer)) (w.count + 1) w.count;
      late = w.late;
    }

abbrev pub uses_value : Walk → Value → Walk
uses_value w (Value.Literal l) = w
uses_value w (Value.Operand v) = uses w v
uses_value w Value.Error = w

abbrev pub uses_projection : Walk → Projection → Walk
uses_projection w (Index x) = uses_value w x
uses_projection w (Field n) = w
uses_projection w (Tuple k) = w

abbrev pub fold : {X A : Type 0} → (X → A → X) → X → List A → X
fold f x [] = x
fold f x (a ∷ xs) = fold f (f x a) xs

abbrev pub uses_place : Walk → Place → Walk
uses_place w p = fold uses w (place_reads p)

-- the walk behind an instruction, and behind a terminator
abbrev pub behind : Walk → InstructionKind → Walk
behind w i = fold uses (fold defines w (dests i)) (reads i)

abbrev pub passes : Walk → Instruction → Walk
passes w i =
    let v = behind w i.kind in
    record { seen = v.seen; buffer = v.buffer; count = v.count; late = w.late || not (is_phi i.kind) }

abbrev pub leaves : Walk → Terminator → Walk
leaves w t = fold uses w (terminator_reads t)

-- the classes of a single field: 0 none, 1 a defined value, 2 a value, 3 a type, 4 a name, 5 a u32, 6 a block,
-- 7 a value number that is read, 8 a binary operation, 9 a unary operation
abbrev pub simple : Bounds → Walk → List (List ℕ → Parse Walk)
simple b w =
    (λ s. ok w 0)
    ∷ (λ s. map_parse (defines w) (defined_of b.next w.seen s))
    ∷ (λ s. map_parse (uses_value w) (value_of b.next s))
    ∷ (λ s. map_parse (λ x. w) (below b.types s))
    ∷ (λ s. map_parse (λ x. w) (u16_of s))
    ∷ (λ s. map_parse (λ x. w) (u32_of s))
    ∷ (λ s. map_parse (λ x. w) (below b.blocks s))
    ∷ (λ s. map_parse (uses w) (value_id_of b.next s))
    ∷ (λ s. map_parse (λ x. w) (operation_of 26 s))
    ∷ (λ s. map_parse (λ x. w) (operation_of 16 s))
    ∷ []

unfoldable pub simple_walk : Bounds → ℕ → Walk → List ℕ → Parse Walk
simple_walk b c w s = get_or (map (λ f. f s) (simple b w)) c (ok w 0)

-- and 10 a projection
unfoldable pub atom_walk : Bounds → ℕ → Walk → List ℕ → Parse Walk
atom_walk b c w s = cond (eqb c 10) (map_parse (uses_projection w) (projection_of b.next s)) (simple_walk b c w s)

-- an element of a list: one field, or two
abbrev pub pair_walk : Bounds → ℕ → ℕ → Walk → List ℕ → Parse Walk
pair_walk b c d w s = and_then s (atom_walk b c w s) (λ v t. atom_walk b d v t)

unfoldable pub times : (Walk → List ℕ → Parse Walk) → ℕ → Walk → List ℕ → Parse Walk
times f zero w s = ok w 0
times f (suc k) w s = and_then s (f w s) (λ v t. times f k v t)

-- the fields of an element, by the kind of its list: values, types, defined values, names with values, blocks with
-- values, a Call's return types (their count is exact); and projections
abbrev pub first_of : ℕ → ℕ
first_of k = get_or (2 ∷ 3 ∷ 1 ∷ 4 ∷ 6 ∷ 3 ∷ []) k 10

abbrev pub second_of : ℕ → ℕ
second_of k = get_or (0 ∷ 0 ∷ 0 ∷ 2 ∷ 2 ∷ 0 ∷ []) k 0

-- where `exact` has a number, a list counts that and no other
abbrev pub asks : Option ℕ → ℕ → Bool
asks None n = true
asks (Some many) n = eqb n many

abbrev pub counts : Lists → ℕ → Bool
counts l n = asks l.exact n

unfoldable pub list_walk : Bounds → Lists → ℕ → ℕ → Walk → List ℕ → Parse Walk
list_walk b l c d w s =
    and_then s (checked Cause.CallCounts (counts l) (count_of l.most s)) (λ n t. times (pair_walk b c d) n w t)

abbrev pub any_many : ℕ → Lists
any_many most = record { most = most; exact = None }

abbrev pub exactly : ℕ → ℕ → Lists
exactly most many = record { most = most; exact = Some many }

unfoldable pub place_walk : Bounds → Walk → List ℕ → Parse Walk
place_walk b w s = and_then s (simple_walk b 7 w s) (λ v t. list_walk b (any_many b.projections) 10 0 v t)

-- the classes of a field: 0 to 6, 8 and 9 as above, 7 a place; 10 values, 11 types, 12 defined values,
-- 13 names with values, 14 blocks with values, 15 `many` types
abbrev pub fields : Bounds → ℕ → Walk → List (List ℕ → Parse Walk)
fields b many w =
    (λ s. simple_walk b 0 w s)
    ∷ (λ s. simple_walk b 1 w s)
    ∷ (λ s. simple_walk b 2 w s)
    ∷ (λ s. simple_walk b 3 w s)
    ∷ (λ s. simple_walk b 4 w s)
    ∷ (λ s. simple_walk b 5 w s)
    ∷ (λ s. simple_walk b 6 w s)
    ∷ (λ s. place_walk b w s)
    ∷ (λ s. simple_walk b 8 w s)
    ∷ (λ s. simple_walk b 9 w s)
    ∷ (λ s. list_walk b (any_many b.list) 2 0 w s)
    ∷ (λ s. list_walk b (any_many b.list) 3 0 w s)
    ∷ (λ s. list_walk b (any_many b.list) 1 0 w s)
    ∷ (λ s. list_walk b (any_many b.list) 4 2 w s)
    ∷ (λ s. list_walk b (any_many b.list) 6 2 w s)
    ∷ (λ s. list_walk b (exactly b.list many) 3 0 w s)
    ∷ []

-- a field, by its class
unfoldable pub field_walk : Bounds → ℕ → ℕ → Walk → List ℕ → Parse Walk
field_walk b many c w s = get_or (map (λ f. f s) (fields b many w)) c (ok w 0)

-- a row is a number: its hexadecimal digits are the classes of the fields, the first field's the lowest
unfoldable pub row_walk : Bounds → ℕ → ℕ → ℕ → Walk → List ℕ → Parse Walk
row_walk b many zero row w s = ok w 0
row_walk b many (suc k) row w s = and_then s (field_walk b many (row % 16) w s) (λ v t. row_walk b many k (row / 16) v t)

-- the row of each kind, in `InstructionKind` order
abbrev pub rows : List ℕ
rows =
    0x321 ∷ 0x219 ∷ 0x2218 ∷ 0xfba4c ∷ 0x3321 ∷ 0x371 ∷ 0x327 ∷ 0xa5 ∷ 0x0 ∷ 0xe31
    ∷ 0xa1 ∷ 0x3521 ∷ 0x3d1 ∷ 0x3421 ∷ 0x32421 ∷ 0x32521 ∷ 0x3a1 ∷ 0x22 ∷ 0x21 ∷ []

-- and of each terminator, in declared order
abbrev pub terminator_rows : List ℕ
terminator_rows = 0x6 ∷ 0x662 ∷ 0x66228 ∷ 0xa ∷ 0x0 ∷ []

-- what the code's answers say, with the lent marks and buffer
abbrev pub scanned : List Bool → List ℕ → Scan → Parse Walk
scanned seen buffer x = ok (walk_before seen buffer x) x.size

abbrev pub as_scan : Result Scan Refusal → List Bool → List ℕ → Parse Walk
as_scan r seen buffer = as_answer (scanned seen buffer) r

-- how many bytes an answer speaks of
abbrev pub bytes_of : Result Scan Refusal → ℕ
bytes_of (Ok x) = x.size
bytes_of (Err e) = e.offset

-- a field was passed over: the reads of the walk before it are noted as before
abbrev pub Skipped : {A : Type 0} → Result Scan Refusal → Scan → Parse A → Type 0
Skipped r x d = (seen : List Bool) (buffer : List ℕ) → as_scan r seen buffer ≡ map_parse (λ a. walk_before seen buffer x) d

-- a field was read, and what it uses noted behind the reads of the walk before it: the buffer `before` became `after`
abbrev pub Noted : {A : Type 0} → Result Scan Refusal → Scan → List ℕ → List ℕ → (Walk → A → Walk) → Parse A → Type 0
Noted r x before after noting d = (seen : List Bool) → as_scan r seen after ≡ map_parse (noting (walk_before seen before x)) d

-- a walk that keeps nothing of what it reads
abbrev pub unit : {A : Type 0} → A → Unit {0}
unit a = tt

abbrev pub part_used : ℕ → Parse (Unit {0})
part_used n = ok tt n

abbrev pub as_part : Result ℕ Refusal → Parse (Unit {0})
as_part r = as_answer part_used r
