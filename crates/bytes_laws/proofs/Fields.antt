-- The fields of instructions and terminators are written as they stood.
use Prim.Native.Nat.{ℕ, zero, suc, ◌+◌, ◌*◌, ◌≤◌, ◌<◌, zero-le}
use mathlib.Core.Path.{◌≡◌, refl, ap}
use mathlib.Core.List.{List, [], ◌∷◌}
use mathlib.Core.Bool.{Bool, true, false, not}
use native.Mathlib.Nat.{le_refl, suc-mul}
use native.Mathlib.Omega.{arith}
use borrow.Author.Tests.{ltb-true, not-true}
use lib.ListN.{length, get_or}
use lib.Dec.{ltb}
use Rattle.bytes_wire.specs.Parse.{Parse}
use Rattle.bytes_wire.specs.Number.{to_bytes, below}
use Rattle.bytes_wire.specs.Value.{value_of, value_id_of, value_bytes, bool_byte}
use Rattle.bytes_wire.specs.WellFormed.{FitValue}
use Rattle.bytes_wire.specs.declared.Cause.{Cause}
use Rattle.bytes_wire.proofs.Canon.{value_canon, value_fit, value_short}
use Rattle.bytes_field.specs.Decode.{type_id_of, block_id_of, name_id_of, list_of, mark, defined_of, defined_seq, defineds_of, operation_of, projection_of, place_of, source_of, field_init_of, optional, bit, span_of, expression_of, meta_of}
use Rattle.bytes_field.specs.Encode.{value_id_bytes, type_id_bytes, block_id_bytes, name_id_bytes, each_bytes, list_bytes, projection_bytes, place_bytes, source_bytes, field_init_bytes, option_bytes, span_bytes, expression_bytes, meta_bytes, stands}
use Rattle.bytes_field.specs.declared.Bounds.{Bounds}
use Rattle.mir.specs.Lists.{Each}
use Rattle.bytes_laws.specs.WellFormed.{Wide, FitList, FitOption, FitType, FitBlock, FitName, FitNew, FitNews, FitProjection, FitPlace, FitSource, FitInit, FitSpan, FitExpression, FitMeta}
use Rattle.bytes_laws.proofs.Exact.{Exact, then, last, alone, whole, within, tested, because, number, byte, counted, list}
use Rattle.bytes_laws.proofs.Rows.{none, ◌&◌, tag}

-- a u16 below a bound
limited : (bound : ℕ) → Exact (below bound) (to_bytes 2) (λ x. x < bound) 2
limited bound = because (tested Cause.OutOfRange (λ x. ltb x bound) (number 2)) (λ x p. ltb-true x bound p.1)

-- the numbers of values, types, blocks and names
pub operand : (next : ℕ) → Exact (value_id_of next) value_id_bytes (λ v. v.0 < next) 2
operand next = whole (last _ (limited next) (λ x p. (refl, p))) (le_refl 2)

pub type : (b : Bounds) → Exact (type_id_of b.types) type_id_bytes (FitType b) 2
type b = whole (last _ (limited b.types) (λ x p. (refl, p))) (le_refl 2)

pub block : (b : Bounds) → Exact (block_id_of b.blocks) block_id_bytes (FitBlock b) 2
block b = whole (last _ (limited b.blocks) (λ x p. (refl, p))) (le_refl 2)

pub name : Exact name_id_of name_id_bytes FitName 2
name = whole (last _ (number 2) (λ x p. (refl, p))) (le_refl 2)

-- a value
pub value : (b : Bounds) → Exact (value_of b.next) value_bytes (λ v. Wide b → FitValue b.next v) 5
value b =
    record {
      each = λ s v n h e.
          let c = value_canon b.next s h e in
          record { canon = c; good = λ w. value_fit b.next s h e w.next; small = omega (arith, value_short v, c.size) };
    }

-- what each of a list is, given the bounds
given : {A W : Type 0} (P : A → Type 0) (xs : List A) → Each (λ a. W → P a) xs → W → Each P xs
given P [] e w = tt
given P (a ∷ xs) e w = (e.0 w, given P xs e.1 w)

-- a list of things that are good, given the bounds
pub items : {A W : Type 0} {dec : List ℕ → Parse A} {enc : A → List ℕ} {P : A → Type 0} {m : ℕ} (most : ℕ) → Exact dec enc (λ a. W → P a) m → Exact (list_of most dec) (list_bytes enc) (λ xs. W → FitList most P xs) (1 + most * m)
items {P} most x = because (list most x) (λ xs p w. (p.0, given P xs p.1 w))

pub values : (b : Bounds) → Exact (list_of b.list (value_of b.next)) (list_bytes value_bytes) (λ xs. Wide b → FitList b.list (FitValue b.next) xs) (1 + b.list * 5)
values b = items b.list (value b)

pub types : (b : Bounds) → Exact (list_of b.list (type_id_of b.types)) (list_bytes type_id_bytes) (FitList b.list (FitType b)) (1 + b.list * 2)
types b = list b.list (type b)

-- a value that is defined here
pub dest : (b : Bounds) (seen : List Bool) → Exact (defined_of b.next seen) value_id_bytes (FitNew b seen) 2
dest b seen = because (tested Cause.Redefined (λ d. not (get_or seen d.0 false)) (operand b.next)) (λ d p. (p.0, not-true _ p.1))

-- the dests of a Call
news : (b : Bounds) (seen : List Bool) (k : ℕ) → Exact (defined_seq b.next seen k) (each_bytes value_id_bytes) (λ ds. (length ds ≡ k) × FitNews b seen ds) (k * 2)
unfolding defined_seq
news b seen zero = whole (alone refl (refl, tt)) zero-le
news b seen (suc k) = whole (then (dest b seen) (λ d p. last _ (news b (mark seen d) k) (λ ds q. (refl, (ap suc q.0, (p, q.1)))))) (omega (arith, suc-mul k 2))

pub dests : (b : Bounds) (seen : List Bool) → Exact (defineds_of b.list b.next seen) (list_bytes value_id_bytes) (λ ds. (length ds ≤ b.list) × FitNews b seen ds) (1 + b.list * 2)
unfolding defineds_of
dests b seen = counted value_id_bytes b.list 2 (λ k. news b seen k)

-- an operation
pub operation : (many : ℕ) → Exact (operation_of many) (λ x. x ∷ []) (λ x. x < many) 1
operation many = because (tested Cause.Undefined (λ x. ltb x many) byte) (λ x p. ltb-true x many p.1)

-- a place
projection : (b : Bounds) → Exact (projection_of b.next) projection_bytes (λ p. Wide b → FitProjection b p) 6
unfolding projection_of
projection b =
    tag
    (last _ (value b) (λ x p. (refl, p))
    & within (last _ name (λ n p. (refl, λ w. p))) (omega arith)
    & within (last _ (number 4) (λ k p. (refl, λ w. p))) (omega arith)
    & none)

pub place : (b : Bounds) → Exact (place_of b) place_bytes (λ p. Wide b → FitPlace b p) (3 + b.projections * 6)
place b = whole (then (operand b.next) (λ v p. last _ (items b.projections (projection b)) (λ ps q. (refl, λ w. (p, q w))))) (omega arith)

-- the pairs of a Phi and of a MakeStruct
pub sources : (b : Bounds) → Exact (list_of b.list (source_of b)) (list_bytes source_bytes) (λ ss. Wide b → FitList b.list (FitSource b) ss) (1 + b.list * 7)
sources b = items {enc = source_bytes} b.list (whole (then (block b) (λ p q. last _ (value b) (λ x r. (refl, λ w. (q, r w))))) (le_refl 7))

pub inits : (b : Bounds) → Exact (list_of b.list (field_init_of b)) (list_bytes field_init_bytes) (λ fs. Wide b → FitList b.list (FitInit b) fs) (1 + b.list * 7)
inits b = items {enc = field_init_bytes} b.list (whole (then name (λ n q. last _ (value b) (λ x r. (refl, λ w. (q, r w))))) (le_refl 7))

-- a field whose bit may stand
maybe : {A : Type 0} {dec : List ℕ → Parse A} {enc : A → List ℕ} {P : A → Type 0} {m : ℕ} (c : Bool) → Exact dec enc P m → Exact (optional c dec) (option_bytes enc) (λ o. (stands o ≡ bool_byte c) × FitOption P o) m
maybe true x = whole (last _ x (λ a p. (refl, (refl, p)))) (le_refl _)
maybe false x = whole (alone refl (refl, tt)) zero-le

-- what stands beside the kind has the bits that were read
pub beside : (bits : ℕ) → Exact (meta_of bits) meta_bytes (λ m. ((stands m.span ≡ bool_byte (bit 0 bits)) × (stands m.expression ≡ bool_byte (bit 1 bits)) × (stands m.comment ≡ bool_byte (bit 2 bits))) × FitMeta m) 24
unfolding meta_of
beside bits =
    whole
    (then (maybe (bit 0 bits) span) (λ p f.
    then (maybe (bit 1 bits) expression) (λ e g.
    last _ (maybe (bit 2 bits) (number 4)) (λ c h. (refl, ((f.0, g.0, h.0), (f.1, g.1, h.1)))))))
    (le_refl 24)
  where
    span : Exact span_of span_bytes FitSpan 8
    span = whole (then (number 4) (λ a p. last _ (number 4) (λ e q. (refl, (p, q))))) (le_refl 8)

    expression : Exact expression_of expression_bytes FitExpression 12
    expression = whole (then (number 4) (λ a p. last _ (number 8) (λ e q. (refl, (p, q))))) (le_refl 12)
