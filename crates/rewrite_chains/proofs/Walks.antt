-- The walk over the first projections, and what it leads to.
use Prim.Native.Nat.{ℕ, zero, suc, ◌+◌, ◌-◌, ◌≤◌, ◌<◌}
use mathlib.Core.Path.{◌≡◌, refl, ap, ◌∙◌, sym}
use mathlib.Core.List.{List, [], ◌∷◌}
use mathlib.Core.Bool.{Bool, true, false}
use mathlib.Core.Option.{Option, none, some}
use native.Mathlib.Omega.{arith}
use lib.ListN.{length, get_or, get_elem?, drop, take}
use Rattle.table.proofs.Elements.{some_at}
use Rattle.mir.specs.declared.Literal.{Literal}
use Rattle.mir.specs.declared.Value.{Value}
use Rattle.mir.specs.declared.ValueId.{ValueId}
use Rattle.bytes_wire.specs.Parse.{ok}
use Rattle.mir.specs.declared.Projection.{Projection}
use Rattle.mir.specs.declared.Projection.TheVariants.{Index, Field, Tuple}
use Rattle.mir.specs.Syntax.{Instruction}
use Rattle.bytes_field.specs.Decode.{instruction_of}
use Rattle.bytes_field.specs.declared.Bounds.{Bounds}
use Rattle.bytes_operands.specs.Fields.{place_steps}
use Rattle.mir.specs.Lookup.{is_some, is_integer, Types, on_some}
use Rattle.bytes_index.specs.declared.code.Code.{Code}
use Rattle.rewrite_parts.specs.declared.Parts.{Parts}
use Rattle.rewrite_parts.specs.Here.{Here}
use Rattle.rewrite.specs.State.{AggStates, step_part, chain, first_integer}
use Rattle.mir.specs.Option.{as_option}
use Rattle.rewrite_chains.specs.Chained.{operand_in, LeadsTo, Walking, StepsAt, steps_at, held, integer_step}
use Rattle.std.specs.Prelude.{Some, None, Option as Answered}

-- the operand that was found
operand_inv : (o : Option Value) {w : ValueId} → some w ≡ operand_in o → o ≡ some (Value.Operand w)
operand_inv none {w} e = absurd (let z : ◌≡◌ {A = ℕ} 0 1 = cc in omega arith)
operand_inv (some (Value.Literal l)) {w} e = absurd (let z : ◌≡◌ {A = ℕ} 0 1 = cc in omega arith)
operand_inv (some (Value.Operand v)) {w} e = let z : v ≡ w = cc in rw z
operand_inv (some Value.Error) {w} e = absurd (let z : ◌≡◌ {A = ℕ} 0 1 = cc in omega arith)

pub leads_some : {next : ℕ} {o : Option Value} {w : ValueId} → LeadsTo next o (Some w) → o ≡ some (Value.Operand w)
leads_some {next} {o} h = operand_inv o h.told

-- where no operand is found, no further step is made
pub leads_none : {A : Type 0} (o : Option Value) (f : Value → Option A) → ((l : Literal) → f (Value.Literal l) ≡ none) → f Value.Error ≡ none → none ≡ operand_in o → on_some o f ≡ none
unfolding on_some
leads_none none f g h e = refl
leads_none (some (Value.Literal l)) f g h e = g l
leads_none (some (Value.Operand v)) f g h e = absurd (let z : ◌≡◌ {A = ℕ} 0 1 = cc in omega arith)
leads_none (some Value.Error) f g h e = h

-- and a chain comes to none
chain_none : (τ : Types) (S : AggStates) (o : Option Value) (qs : List Projection) → none ≡ operand_in o → none ≡ operand_in (on_some o (λ y. chain τ S y qs))
unfolding on_some chain step_part
chain_none τ S none qs e = refl
chain_none τ S (some (Value.Literal l)) [] e = refl
chain_none τ S (some (Value.Literal l)) (q ∷ qs) e = refl
chain_none τ S (some (Value.Operand v)) qs e = absurd (let z : ◌≡◌ {A = ℕ} 0 1 = cc in omega arith)
chain_none τ S (some Value.Error) [] e = refl
chain_none τ S (some Value.Error) (q ∷ qs) e = refl

-- the next of the first k projections
data Next (ps : List Projection) (k i : ℕ) : Type 0 where
  this : (q : Projection) → get_elem? ps i ≡ some q → take (k - i) (drop i ps) ≡ q ∷ take (k - (i + 1)) (drop (i + 1) ps) → Next ps k i

next_of : (ps : List Projection) (k i : ℕ) → i < k → k ≤ length ps → Next ps k i
next_of [] k i h l = absurd (omega arith)
next_of (p ∷ ps) zero i h l = absurd (omega arith)
next_of (p ∷ ps) (suc k) zero h l =
    let a : suc k - 0 ≡ suc k = omega arith in
    let z : suc k - (0 + 1) ≡ k = omega arith in
    this p refl (rw (a, z) refl)
next_of (p ∷ ps) (suc k) (suc i) h l =
    elim (next_of ps k i (omega arith) (omega arith)) [
      | this q e f ↦
          let y : suc k - suc i ≡ k - i = omega arith in
          let z : suc k - (suc i + 1) ≡ k - (i + 1) = omega arith in
          let w : suc i + 1 ≡ suc (i + 1) = omega arith in
          this q e (rw (y, z, w) f)
    ]

-- it is the one that is looked up
next_is : (ps : List Projection) (k i : ℕ) (p : Projection) → i < k → k ≤ length ps → some p ≡ get_elem? ps i → take (k - i) (drop i ps) ≡ p ∷ take (k - (i + 1)) (drop (i + 1) ps)
next_is ps k i p h l e = elim (next_of ps k i h l) [ this q f g ↦ let z : some p ≡ some q = e ∙ f in let y : p ≡ q = cc in rw y g ]

-- there is one
pub no_next : {A : Type 0} (ps : List Projection) (i : ℕ) → i < length ps → none ≡ get_elem? ps i → A
no_next ps i h e = absurd (let z : none ≡ some (get_or ps i (Tuple 0)) = e ∙ some_at ps i (Tuple 0) h in let y : ◌≡◌ {A = ℕ} 0 1 = cc in omega arith)

-- i of k projections are behind, and v is the operand that they lead to
pub record Going (code : Code) (t : List ℕ) (parts : Parts) (base : ValueId) (k : ℕ) (v : ValueId) (i : ℕ) : Type 0 where
  pub under : i ≤ k
  pub below : (τ : Types) (S : AggStates) (ps : List Projection) → Walking code parts τ S → StepsAt code.bounds t ps → base.0 < code.bounds.next → k ≤ length ps → v.0 < code.bounds.next
  pub left : (τ : Types) (S : AggStates) (ps : List Projection) → Walking code parts τ S → StepsAt code.bounds t ps → base.0 < code.bounds.next → k ≤ length ps → chain τ S (Value.Operand base) (take k ps) ≡ chain τ S (Value.Operand v) (take (k - i) (drop i ps))

module _ {code : Code} {t : List ℕ} {parts : Parts} {base : ValueId} {k : ℕ} where
  module _ {v : ValueId} {i : ℕ} (o : Going code t parts base k v i) (h : i < k) where
    -- there is a next projection
    pub going_nowhere : ((ps : List Projection) → StepsAt code.bounds t ps → none ≡ get_elem? ps i) → {A : Type 0} (ps : List Projection) → StepsAt code.bounds t ps → k ≤ length ps → A
    going_nowhere look ps c l = no_next ps i (omega arith) (look ps c)

    module _ (p : Projection) (look : (ps : List Projection) → StepsAt code.bounds t ps → some p ≡ get_elem? ps i) where
      -- one more
      pub going_more : (w : ValueId) → ((τ : Types) (S : AggStates) → Walking code parts τ S → v.0 < code.bounds.next → LeadsTo code.bounds.next (step_part τ S (Value.Operand v) p) (Some w)) → Going code t parts base k w (i + 1)
      unfolding chain on_some
      going_more w step =
          record {
            under = omega arith;
            below = λ τ S ps a c d l. (step τ S a (o.below τ S ps a c d l)).below w refl;
            left = λ τ S ps a c d l.
                let z = leads_some (step τ S a (o.below τ S ps a c d l)) in
                o.left τ S ps a c d l ∙ ap (chain τ S (Value.Operand v)) (next_is ps k i p h l (look ps c)) ∙ rw z;
          }

      -- no operand
      pub going_ends : ((τ : Types) (S : AggStates) → Walking code parts τ S → v.0 < code.bounds.next → LeadsTo code.bounds.next (step_part τ S (Value.Operand v) p) None) → (τ : Types) (S : AggStates) (ps : List Projection) → Walking code parts τ S → StepsAt code.bounds t ps → base.0 < code.bounds.next → k ≤ length ps → LeadsTo code.bounds.next (chain τ S (Value.Operand base) (take k ps)) None
      unfolding chain
      going_ends step τ S ps a c d l =
          let to = step τ S a (o.below τ S ps a c d l) in
          let z = o.left τ S ps a c d l ∙ ap (chain τ S (Value.Operand v)) (next_is ps k i p h l (look ps c)) in
          record {
            told = chain_none τ S (step_part τ S (Value.Operand v) p) (take (k - (i + 1)) (drop (i + 1) ps)) to.told ∙ ap operand_in (sym z);
            below = λ u y. absurd (let n : ◌≡◌ {A = ℕ} 0 1 = cc in omega arith);
          }

  -- all are behind
  pub going_done : {v : ValueId} {i : ℕ} → Going code t parts base k v i → k ≤ i → (τ : Types) (S : AggStates) (ps : List Projection) → Walking code parts τ S → StepsAt code.bounds t ps → base.0 < code.bounds.next → k ≤ length ps → LeadsTo code.bounds.next (chain τ S (Value.Operand base) (take k ps)) (Some v)
  unfolding chain
  going_done {v} {i} o h τ S ps a c d l =
      let n : k - i ≡ 0 = omega arith in
      let z : chain τ S (Value.Operand base) (take k ps) ≡ some (Value.Operand v) = o.left τ S ps a c d l ∙ ap (λ m. chain τ S (Value.Operand v) (take m (drop i ps))) n in
      record {
        told = sym (ap operand_in z);
        below = λ u y. let e : u ≡ v = cc in rw e (o.below τ S ps a c d l);
      }

-- the first projection is an Integer literal
first_integer_lem : (ps : List Projection) → integer_step (get_elem? ps 0) ≡ is_some (first_integer ps)
unfolding first_integer is_some is_integer
first_integer_lem [] = refl
first_integer_lem (Index (Value.Literal (Literal.Integer k)) ∷ ps) = refl
first_integer_lem (Index (Value.Literal (Literal.Boolean b)) ∷ ps) = refl
first_integer_lem (Index (Value.Literal Literal.Unit) ∷ ps) = refl
first_integer_lem (Index (Value.Operand v) ∷ ps) = refl
first_integer_lem (Index Value.Error ∷ ps) = refl
first_integer_lem (Field n ∷ ps) = refl
first_integer_lem (Tuple k ∷ ps) = refl

module _ (τ : Types) (S : AggStates) (v : ValueId) (ps : List Projection) (last : ℕ) (p : Answered Projection) {h : Bool} (e : h ≡ integer_step (as_option p)) (look : as_option p ≡ get_elem? ps 0) where
  told_first : h ≡ is_some (first_integer ps)
  told_first = e ∙ ap integer_step look ∙ first_integer_lem ps

  -- it is not
  pub held_not : {next : ℕ} → h ≡ false → LeadsTo next (held τ S v ps last) None
  unfolding held on_some is_some
  held_not {next} f = go (first_integer ps) refl
    where
      go : (o : Option ℕ) → first_integer ps ≡ o → LeadsTo next (held τ S v ps last) None
      go none g = record { told = rw g; below = λ u y. absurd (let n : ◌≡◌ {A = ℕ} 0 1 = cc in omega arith) }
      go (some k) g = absurd (let z : false ≡ true = sym f ∙ told_first ∙ rw g in let n : ◌≡◌ {A = ℕ} 0 1 = cc in omega arith)

  -- it is: the walk's answer
  pub held_walked : {next : ℕ} {r : Answered ValueId} → h ≡ true → LeadsTo next (chain τ S (Value.Operand v) (take last ps)) r → LeadsTo next (held τ S v ps last) r
  unfolding held on_some is_some
  held_walked {next} {r} f w = go (first_integer ps) refl
    where
      go : (o : Option ℕ) → first_integer ps ≡ o → LeadsTo next (held τ S v ps last) r
      go none g = absurd (let z : true ≡ false = sym f ∙ told_first ∙ rw g in let n : ◌≡◌ {A = ℕ} 0 1 = cc in omega arith)
      go (some k) g = rw g w

-- the walks of an instruction look at what stands before it
pub here_walks : {code : Code} {parts : Parts} {slot used : ℕ} {τ : Types} {S : AggStates} {i : Instruction} → Here code.bounds code.bytes.now code.facts.now slot parts.tracked.now parts.rows.now used τ S i → Walking code parts τ S
here_walks {used} o = record { ground = o.ground; used = used; rep = o.rep }

-- what a lookup finds
pub looked : (b : Bounds) (t : List ℕ) (i : ℕ) (p : Option Projection) → ((seen : List Bool) (late : Bool) (j : Instruction) (n : ℕ) → instruction_of b seen late t ≡ ok j n → p ≡ get_elem? (place_steps j.kind) i) → (ps : List Projection) → StepsAt b t ps → p ≡ get_elem? ps i
looked b t i p f ps (steps_at j n e g) = f [] false j n e ∙ ap (λ (qs : List Projection). get_elem? qs i) g
