-- The last step of a chain: what all but the last projection lead to holds the part.
use Prim.Native.Nat.{ℕ, zero, suc, ◌+◌, ◌-◌, ◌<◌}
use mathlib.Core.Path.{◌≡◌, refl, ap, ◌∙◌, sym}
use mathlib.Core.List.{List, [], ◌∷◌}
use mathlib.Core.Bool.{false}
use mathlib.Core.Option.{Option, none, some}
use native.Mathlib.Omega.{arith}
use lib.ListN.{length, get_or, get_elem?, drop, take}
use Rattle.bytes_wire.specs.Parse.{ok}
use Rattle.mir.specs.declared.Literal.{Literal}
use Rattle.mir.specs.declared.Value.{Value}
use Rattle.mir.specs.declared.ValueId.{ValueId}
use Rattle.bytes_wire.proofs.Canon.{bytes_drop}
use Rattle.mir.specs.declared.Projection.{Projection}
use Rattle.mir.specs.declared.Projection.TheVariants.{Index, Field, Tuple}
use Rattle.mir.specs.Syntax.{Place, Instruction, InstructionKind}
use Rattle.mir.specs.Reads.{reads, kind_number}
use Rattle.bytes_field.specs.Decode.{instruction_of}
use Rattle.bytes_field.specs.declared.Bounds.{Bounds}
use Rattle.bytes_laws.specs.WellFormed.{Wide, FitKind}
use Rattle.bytes_laws.proofs.Instruction.{instruction}
use Rattle.bytes_index.specs.Code.{InstructionIn}
use Rattle.bytes_index.specs.Table.{place_in, end_in, read_in}
use Rattle.bytes_operands.specs.Fields.{place_steps, fields_place, step_count}
use Rattle.bytes_operands.proofs.Instruction.{instruction_fields, instruction_stands}
use Rattle.fold.specs.Family.{Marks}
use Rattle.mir.specs.Lookup.{Types, as_const_integer, on_some}
use Rattle.rewrite.specs.State.{AggStates, step_index, step_part, chain, first_integer, store_last, store_deeper, store_from, forward_store}
use Rattle.rewrite_parts.specs.Here.{Here}
use Rattle.std.specs.Prelude.{Some, None}
use Rattle.rewrite_chains.specs.Chained.{operand_in, LeadsTo, StepsAt, steps_at, held, loaded_part, OfPlace, of_load, of_store, EndsNowhere, EndsIn}
use Rattle.table.proofs.Elements.{some_at}
use Rattle.rewrite_chains.proofs.Walks.{leads_some, leads_none, no_next}

-- two steps at once
on_both : {A B C : Type 0} (o : Option A) (f : A → Option B) (g : A → Option C) (h : C → Option B) → ((a : A) → f a ≡ on_some (g a) h) → on_some o f ≡ on_some (on_some o g) h
unfolding on_some
on_both none f g h e = refl
on_both (some a) f g h e = e a

on_same : {A : Type 0} (o : Option A) → on_some o (λ a. some a) ≡ o
unfolding on_some
on_same none = refl
on_same (some a) = refl

-- a chain is its first steps and the last one
pub chain_last : (τ : Types) (S : AggStates) (ps : List Projection) (last : ℕ) (q : Projection) → length ps ≡ last + 1 → get_elem? ps last ≡ some q → (x : Value) → chain τ S x ps ≡ on_some (chain τ S x (take last ps)) (λ z. step_part τ S z q)
unfolding chain on_some
chain_last τ S [] last q l e x = absurd (omega arith)
chain_last τ S (p ∷ []) zero q l e x = let z : p ≡ q = cc in rw z (on_same (step_part τ S x q))
chain_last τ S (p ∷ r ∷ ps) zero q l e x = absurd (omega arith)
chain_last τ S (p ∷ ps) (suc k) q l e x =
    on_both (step_part τ S x p) (λ y. chain τ S y ps) (λ y. chain τ S y (take k ps)) (λ z. step_part τ S z q) (chain_last τ S ps k q (omega arith) e)

-- so is a deeper store
deeper_last : (τ : Types) (S : AggStates) (y : Value) (ps : List Projection) (last : ℕ) (q : Projection) → length ps ≡ last + 1 → get_elem? ps last ≡ some q → (x : Value) → store_deeper τ S x ps y ≡ on_some (chain τ S x (take last ps)) (λ z. store_last τ S z q y)
unfolding store_deeper chain on_some
deeper_last τ S y [] last q l e x = absurd (omega arith)
deeper_last τ S y (p ∷ []) zero q l e x = let z : p ≡ q = cc in rw z
deeper_last τ S y (p ∷ []) (suc k) q l e x = absurd (omega arith)
deeper_last τ S y (p ∷ r ∷ ps) zero q l e x = absurd (omega arith)
deeper_last τ S y (p ∷ r ∷ ps) (suc k) q l e x =
    on_both (step_part τ S x p) (λ z. store_deeper τ S z (r ∷ ps) y) (λ z. chain τ S z (take k (r ∷ ps))) (λ z. store_last τ S z q y) (deeper_last τ S y (r ∷ ps) k q (omega arith) e)

-- the first step by an Integer literal is a step like any other
integer_store : (τ : Types) (S : AggStates) (v : ValueId) (k : ℕ) (ps : List Projection) (y : Value) → store_from τ S v (Index (Value.Literal (Literal.Integer k)) ∷ ps) y k ≡ store_deeper τ S (Value.Operand v) (Index (Value.Literal (Literal.Integer k)) ∷ ps) y
unfolding store_from store_deeper store_last step_part step_index as_const_integer on_some
integer_store τ S v k [] y = refl
integer_store τ S v k (q ∷ ps) y = on_both (S v.0) (λ xs. on_some (get_elem? xs k) (λ x. store_deeper τ S x (q ∷ ps) y)) (λ xs. get_elem? xs k) (λ x. store_deeper τ S x (q ∷ ps) y) (λ xs. refl)

-- and an untracked base has no chain
integer_load : (τ : Types) (S : AggStates) (v : ValueId) (k : ℕ) (ps : List Projection) → on_some (S v.0) (λ xs. chain τ S (Value.Operand v) (Index (Value.Literal (Literal.Integer k)) ∷ ps)) ≡ chain τ S (Value.Operand v) (Index (Value.Literal (Literal.Integer k)) ∷ ps)
unfolding chain step_part step_index as_const_integer on_some
integer_load τ S v k ps = go (S v.0)
  where
    go : (o : Option (List Value)) → on_some o (λ zs. on_some (on_some o (λ xs. get_elem? xs k)) (λ z. chain τ S z ps)) ≡ on_some (on_some o (λ xs. get_elem? xs k)) (λ z. chain τ S z ps)
    go none = refl
    go (some xs) = refl

-- a Load's part and a Store's states, by the value that all but the last projection lead to
module _ (τ : Types) (S : AggStates) (v : ValueId) where
  load_held : (ps : List Projection) (last : ℕ) (q : Projection) → length ps ≡ last + 1 → get_elem? ps last ≡ some q → loaded_part τ S (record { base = v; projections = ps }) ≡ on_some (held τ S v ps last) (λ z. step_part τ S z q)
  unfolding loaded_part held first_integer on_some
  load_held [] last q l e = refl
  load_held (Index (Value.Literal (Literal.Integer k)) ∷ ps) last q l e = integer_load τ S v k ps ∙ chain_last τ S (Index (Value.Literal (Literal.Integer k)) ∷ ps) last q l e (Value.Operand v)
  load_held (Index (Value.Literal (Literal.Boolean b)) ∷ ps) last q l e = refl
  load_held (Index (Value.Literal Literal.Unit) ∷ ps) last q l e = refl
  load_held (Index (Value.Operand u) ∷ ps) last q l e = refl
  load_held (Index Value.Error ∷ ps) last q l e = refl
  load_held (Field n ∷ ps) last q l e = refl
  load_held (Tuple k ∷ ps) last q l e = refl

  store_held : (y : Value) (ps : List Projection) (last : ℕ) (q : Projection) → length ps ≡ last + 1 → get_elem? ps last ≡ some q → forward_store τ S (record { base = v; projections = ps }) y ≡ on_some (held τ S v ps last) (λ z. store_last τ S z q y)
  unfolding forward_store held first_integer on_some
  store_held y [] last q l e = refl
  store_held y (Index (Value.Literal (Literal.Integer k)) ∷ ps) last q l e = integer_store τ S v k ps y ∙ deeper_last τ S y (Index (Value.Literal (Literal.Integer k)) ∷ ps) last q l e (Value.Operand v)
  store_held y (Index (Value.Literal (Literal.Boolean b)) ∷ ps) last q l e = refl
  store_held y (Index (Value.Literal Literal.Unit) ∷ ps) last q l e = refl
  store_held y (Index (Value.Operand u) ∷ ps) last q l e = refl
  store_held y (Index Value.Error ∷ ps) last q l e = refl
  store_held y (Field n ∷ ps) last q l e = refl
  store_held y (Tuple k ∷ ps) last q l e = refl

-- no projection
load_nothing : (τ : Types) (S : AggStates) (v : ValueId) (ps : List Projection) → length ps ≡ 0 → loaded_part τ S (record { base = v; projections = ps }) ≡ none
unfolding loaded_part first_integer on_some
load_nothing τ S v [] e = refl
load_nothing τ S v (p ∷ ps) e = absurd (omega arith)

store_nothing : (τ : Types) (S : AggStates) (y : Value) (v : ValueId) (ps : List Projection) → length ps ≡ 0 → forward_store τ S (record { base = v; projections = ps }) y ≡ none
unfolding forward_store first_integer on_some
store_nothing τ S y v [] e = refl
store_nothing τ S y v (p ∷ ps) e = absurd (omega arith)

-- the steps of a Load's or Store's place
pub record StepsRead (b : Bounds) (t : List ℕ) (p : Place) (many : ℕ) : Type 0 where
  pub steps : StepsAt b t p.projections
  pub long : length p.projections ≡ many

module _ {b : Bounds} {s facts : List ℕ} {slot : ℕ} {i : Instruction} (o : InstructionIn b s facts slot i) {t u : List ℕ} (et : t ≡ drop (place_in facts slot) s) (eu : u ≡ drop (fields_place t) t) where
  abbrev size : ℕ
  size = end_in facts slot - place_in facts slot

  e : instruction_of b [] false t ≡ ok i size
  e = ap (instruction_of b [] false) et ∙ o.read

  counted : (j : ℕ) → kind_number i.kind ≡ j → length (place_steps i.kind) ≡ step_count u j
  counted j k = (instruction_stands b [] false t i size e).stepped ∙ ap (λ a. step_count a (get_or t 1 0)) (sym eu) ∙ ap (step_count u) (sym (instruction_fields b [] false t i size e).numbered ∙ k)

  pub steps_read : {j : InstructionKind} {kind : ℕ} {p : Place} {many : ℕ} → OfPlace j kind p → i.kind ≡ j → many ≡ step_count u kind → StepsRead b t p many
  steps_read (of_load d p y) k em = record { steps = steps_at i size e (ap place_steps k); long = sym (ap (λ j. length (place_steps j)) k) ∙ counted 5 (ap kind_number k) ∙ sym em }
  steps_read (of_store p x y) k em = record { steps = steps_at i size e (ap place_steps k); long = sym (ap (λ j. length (place_steps j)) k) ∙ counted 6 (ap kind_number k) ∙ sym em }

-- what is read of a Load's or Store's place
pub record PlaceRead (b : Bounds) (t : List ℕ) (p : Place) (at many : ℕ) : Type 0 where
  pub steps : StepsAt b t p.projections
  pub based : at ≡ p.base.0
  pub below : at < b.next
  pub long : length p.projections ≡ many

module _ {b : Bounds} {s facts : List ℕ} {slot : ℕ} {tracked : Marks} {rows : List ℕ} {used : ℕ} {τ : Types} {S : AggStates} {i : Instruction} (o : Here b s facts slot tracked rows used τ S i) (few_types : b.types < 65536) (few_blocks : b.blocks < 65536) {t u : List ℕ} (et : t ≡ drop (place_in facts slot) s) (eu : u ≡ drop (fields_place t) t) where
  fits : FitKind b [] i.kind
  fits = (((instruction b [] false).each (drop (place_in facts slot) s) i (end_in facts slot - place_in facts slot) (bytes_drop s (place_in facts slot) o.ground.bytes) o.line.read).good wide).1
    where
      wide : Wide b
      wide = record { types = omega arith; next = omega (arith, o.ground.few); blocks = omega arith; list = omega (arith, o.ground.listed); projections = omega (arith, o.ground.projected) }

  first : {at : ℕ} (v : ValueId) (vs : List ValueId) → reads i.kind ≡ v ∷ vs → at ≡ read_in facts slot 0 → at ≡ v.0
  first v vs k ea = ea ∙ o.line.reads_in.each 0 (rw k (omega arith)) ∙ ap (λ (xs : List ValueId). (get_or xs 0 (record { 0 = 0 })).0) k

  placed : {p : Place} {at many : ℕ} → StepsRead b t p many → at ≡ p.base.0 → p.base.0 < b.next → PlaceRead b t p at many
  placed r z h = record { steps = r.steps; based = z; below = rw z h; long = r.long }

  pub place_read : {j : InstructionKind} {kind : ℕ} {p : Place} {at many : ℕ} → OfPlace j kind p → i.kind ≡ j → at ≡ read_in facts slot 0 → many ≡ step_count u kind → PlaceRead b t p at many
  place_read (of_load d p y) k ea em = placed (steps_read o.line et eu (of_load d p y) k em) (first p.base _ (ap reads k) ea) (rw k at fits).1.0
  place_read (of_store p x y) k ea em = placed (steps_read o.line et eu (of_store p x y) k em) (first p.base _ (ap reads k) ea) (rw k at fits).0.0

-- the last projection
data LastOf (ps : List Projection) (last : ℕ) : Type 0 where
  last_of : (q : Projection) → get_elem? ps last ≡ some q → LastOf ps last

the_last : (ps : List Projection) (last : ℕ) → length ps ≡ last + 1 → LastOf ps last
the_last ps last l = last_of (get_or ps last (Tuple 0)) (some_at ps last (Tuple 0) (omega arith))

-- the number of the last projection
pub last_long : (ps : List Projection) {many : ℕ} → length ps ≡ many → (many ≡ 0 → ⊥) → length ps ≡ many - 1 + 1
last_long ps {many} l h = omega arith

module _ {b : Bounds} {t : List ℕ} (τ : Types) (S : AggStates) (p : Place) {at many : ℕ} (r : PlaceRead b t p at many) where
  -- no projection
  pub ends_empty : many ≡ 0 → EndsNowhere τ S p
  ends_empty h = record { load = load_nothing τ S p.base p.projections (r.long ∙ h); store = λ y. store_nothing τ S y p.base p.projections (r.long ∙ h) }

  -- where the base is read
  held_base : (last : ℕ) → held τ S (record { 0 = at }) p.projections last ≡ held τ S p.base p.projections last
  held_base last = ap (λ a. held τ S (record { 0 = a }) p.projections last) r.based

  module _ (h : many ≡ 0 → ⊥) where
    -- no operand holds the part
    pub ends_stuck : LeadsTo b.next (held τ S (record { 0 = at }) p.projections (many - 1)) None → EndsNowhere τ S p
    unfolding step_part store_last
    ends_stuck w =
        let l = last_long p.projections r.long h in
        let n = w.told ∙ ap operand_in (held_base (many - 1)) in
        elim (the_last p.projections (many - 1) l) [
          | last_of q e ↦
              record {
                load = load_held τ S p.base p.projections (many - 1) q l e ∙ leads_none (held τ S p.base p.projections (many - 1)) (λ z. step_part τ S z q) (λ k. refl) refl n;
                store = λ y. store_held τ S p.base y p.projections (many - 1) q l e ∙ leads_none (held τ S p.base p.projections (many - 1)) (λ z. store_last τ S z q y) (λ k. refl) refl n;
              }
        ]

    -- the last projection is there
    pub last_there : {A : Type 0} → none ≡ get_elem? p.projections (many - 1) → A
    last_there e = no_next p.projections (many - 1) (omega (arith, last_long p.projections r.long h)) e

    -- an operand does
    pub ends_there : {v : ValueId} {q : Projection} → LeadsTo b.next (held τ S (record { 0 = at }) p.projections (many - 1)) (Some v) → some q ≡ get_elem? p.projections (many - 1) → EndsIn b.next τ S p (record { holder = v; step = q })
    unfolding on_some
    ends_there {v} {q} to look =
        let l = last_long p.projections r.long h in
        let z : held τ S p.base p.projections (many - 1) ≡ some (Value.Operand v) = sym (held_base (many - 1)) ∙ leads_some to in
        record {
          below = to.below v refl;
          load = load_held τ S p.base p.projections (many - 1) q l (sym look) ∙ ap (λ a. on_some a (λ x. step_part τ S x q)) z;
          store = λ y. store_held τ S p.base y p.projections (many - 1) q l (sym look) ∙ ap (λ a. on_some a (λ x. store_last τ S x q y)) z;
        }
