-- The relation between the two runs inside a block, and what a step does to it.
use mathlib.Core.Path.{◌≡◌, ◌∙◌}
use Prim.Native.Nat.{ℕ}
use mathlib.Core.Bool.{false, Bool, not}
use mathlib.Core.Option.{Option, some}
use mathlib.Core.List.{List, ◌∷◌}
use lib.Dec.{T, ltb}
use Rattle.mir.specs.declared.ValueId.{ValueId}
use Rattle.mir.specs.declared.TypeId.{TypeId}
use Rattle.mir.specs.declared.Value.{Value}
use Rattle.mir.specs.MirType.{MirType}
use Rattle.mir.specs.Syntax.{Instruction}
use Rattle.mir.specs.Reads.{operands, dests}
use Rattle.fold.specs.declared.Settings.{Settings}
use Rattle.mir.specs.Lookup.{Types, row_of, recorded_type, value_row, struct_fields_of}
use Rattle.rewrite.specs.State.{AggStates}
use Rattle.machine.specs.Values.{Val, Vals, aggregate}
use Rattle.machine.specs.Meaning.{Meaning}
use Rattle.machine.specs.Records.{Env, Writes, write_all, Event, goes}
use Rattle.machine.specs.Places.{part_row}
use Rattle.machine.specs.Evaluate.{eval_all}
use Rattle.machine.specs.Exec.{exec}
use Rattle.shelf.proofs.Both.{every_imp}
use Rattle.shelf.specs.Lists.{every, among}
use Rattle.machine_simulation.specs.Typing.{Whole}
use Rattle.shelf.specs.Reads.{defined_in}
use Rattle.machine_simulation.specs.Static.{fields_once}
use Rattle.machine_simulation.proofs.Tools.{every_two→Each, among_l, among_r, none_of}
use Rattle.machine_simulation.proofs.Frame.{Same, eval_all_same, Keeps, changes, exec_keeps}
use Rattle.machine_simulation.proofs.Retype.{Alike}

-- the value of a number
abbrev pub numbered : ℕ → ValueId
numbered v = record { 0 = v }

-- what stays the same through a proof: the meaning, the settings, the types of the original and as the rewritten routine
-- records them, the first fresh number, which values are dropped, which are an aggregate's base of a Store
pub record Ctx (A : Type 0) : Type 0 where
  pub mean : Meaning A
  pub set : Settings
  pub types : Types
  pub later : List (Option TypeId)
  pub m : ℕ
  pub dr : ℕ → Bool
  pub sb : ℕ → Bool
  pub alike : (v : ValueId) → T (ltb v.0 m) → Alike types later v
  pub names : (t : TypeId) → T (fields_once (struct_fields_of (row_of types (some t))))

-- the tests that the parts of a tracked value pass, before the instructions `is`: none is defined there, none is a Store's
-- base, none is fresh
pub record Parts {A : Type 0} (κ : Ctx A) (is : List Instruction) (xs : List Value) : Type 0 where
  pub calm : T (every (λ v. not (among v.0 (defined_in is))) (operands xs))
  pub free : T (every (λ v. not (κ.sb v.0)) (operands xs))
  pub low : T (every (λ v. ltb v.0 κ.m) (operands xs))

-- a tracked value: the machine has it written, with the values that its parts have now, each at its type
pub record Tracked {A : Type 0} (κ : Ctx A) (E : Env A) (is : List Instruction) (v : ℕ) (xs : List Value) : Type 0 where
  pub vals : Vals A
  pub whole : E v ≡ some (aggregate vals)
  pub each : eval_all κ.mean E (part_row κ.types (value_row κ.types (numbered v))) xs ≡ some vals
  pub gone : T (κ.dr v)
  pub once : T (not (among v (defined_in is)))
  pub parts : Parts κ is xs
  pub shape : Whole κ.types (recorded_type κ.types (numbered v)) xs
  pub small : κ.mean.large κ.types.rows (recorded_type κ.types (numbered v)) ≡ false

-- all that is tracked
abbrev pub Tracks : {A : Type 0} → Ctx A → AggStates → Env A → List Instruction → Type 0
Tracks κ S E is = (v : ℕ) (xs : List Value) → S v ≡ some xs → Tracked κ E is v xs

-- both have every value alike that is neither fresh nor dropped
abbrev pub Agree : {A : Type 0} → Ctx A → Env A → Env A → Type 0
Agree κ E F = (x : ℕ) → T (ltb x κ.m) → T (not (κ.dr x)) → E x ≡ F x

-- ---- a step

-- what an instruction neither defines nor changes stays
kept_at : {A : Type 0} (κ : Ctx A) (i : Instruction) (E : Env A) (w w' : List (Val A)) (ws : Writes A) (ev : List (Event A))
    → exec κ.mean κ.types i.kind E w ≡ goes ws w' ev
    → (x : ℕ) → T (not (among x (dests i.kind))) → T (not (among x (changes κ.types i.kind))) → write_all ws E x ≡ E x
unfolding Keeps
kept_at κ i E w w' ws ev e x s t = rw e at (exec_keeps κ.mean κ.types i.kind E w x s t)

-- so do parts
pub kept_values : {A : Type 0} (κ : Ctx A) (i : Instruction) (is : List Instruction) (E : Env A) (w w' : List (Val A)) (ws : Writes A)
    (ev : List (Event A)) → exec κ.mean κ.types i.kind E w ≡ goes ws w' ev
    → T (every (λ v. κ.sb v.0) (changes κ.types i.kind)) → (rows : ℕ → Option MirType) (xs : List Value) → Parts κ (i ∷ is) xs
    → eval_all κ.mean (write_all ws E) rows xs ≡ eval_all κ.mean E rows xs
unfolding defined_in
kept_values κ i is E w w' ws ev e b rows xs p =
    eval_all_same κ.mean (write_all ws E) E rows xs
    (every_two→Each (λ v. not (among v.0 (defined_in (i ∷ is)))) (λ v. not (κ.sb v.0)) (Same (write_all ws E) E)
    (λ v s t. kept_at κ i E w w' ws ev e v.0 (among_l v.0 (dests i.kind) (defined_in is) s) (none_of κ.sb v.0 (changes κ.types i.kind) b t))
    (operands xs) p.calm p.free)

-- their tests, one instruction on
pub parts_later : {A : Type 0} (κ : Ctx A) (i : Instruction) (is : List Instruction) (xs : List Value) → Parts κ (i ∷ is) xs → Parts κ is xs
unfolding defined_in
parts_later κ i is xs p =
    record {
      calm = every_imp (λ v. not (among v.0 (defined_in (i ∷ is)))) (λ v. not (among v.0 (defined_in is))) (λ v s. among_r v.0 (dests i.kind) (defined_in is) s) (operands xs) p.calm;
      free = p.free;
      low = p.low;
    }

-- a value not defined here or later is not defined later
pub once_later : (i : Instruction) (is : List Instruction) (v : ℕ) → T (not (among v (defined_in (i ∷ is)))) → T (not (among v (defined_in is)))
unfolding defined_in
once_later i is v t = among_r v (dests i.kind) (defined_in is) t

-- nor here
pub once_now : (i : Instruction) (is : List Instruction) (v : ℕ) → T (not (among v (defined_in (i ∷ is)))) → T (not (among v (dests i.kind)))
unfolding defined_in
once_now i is v t = among_l v (dests i.kind) (defined_in is) t

-- a tracked value that the step does not change stays so
pub tracked_on : {A : Type 0} (κ : Ctx A) (i : Instruction) (is : List Instruction) (E : Env A) (w w' : List (Val A)) (ws : Writes A)
    (ev : List (Event A)) → exec κ.mean κ.types i.kind E w ≡ goes ws w' ev
    → T (every (λ v. κ.sb v.0) (changes κ.types i.kind)) → (v : ℕ) (xs : List Value) → T (not (among v (changes κ.types i.kind)))
    → Tracked κ E (i ∷ is) v xs → Tracked κ (write_all ws E) is v xs
tracked_on κ i is E w w' ws ev e b v xs nb h =
    record {
      vals = h.vals;
      whole = kept_at κ i E w w' ws ev e v (once_now i is v h.once) nb ∙ h.whole;
      each = kept_values κ i is E w w' ws ev e b _ xs h.parts ∙ h.each;
      gone = h.gone;
      once = once_later i is v h.once;
      parts = parts_later κ i is xs h.parts;
      shape = h.shape;
      small = h.small;
    }
