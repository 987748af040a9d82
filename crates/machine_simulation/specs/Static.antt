-- The static facts of a routine that the runs need, each from a refusal or from a shelf reason that does not hold.
use Rattle.std.specs.Prelude.{ℕ, ◌≡◌, List, [], ◌∷◌, true, not, ◌&&◌, T, eqb, ltb, length}
use Rattle.std.proofs.Math.Option.{some}
use Rattle.std.proofs.Math.Bool as B
use Rattle.mir.specs.declared.NameId.{NameId}
use Rattle.mir.specs.MirType.{StructField}
use Rattle.mir.specs.Syntax.{Instruction}
use Rattle.mir.specs.Reads.{reads, dests, is_phi, terminator_reads}
use Rattle.mir.specs.Routine.{Routine}
use Rattle.fold.specs.declared.Settings.{Settings}
use Rattle.mir.specs.Lookup.{struct_fields_of, types_in}
use Rattle.mir.specs.Phis.{behind_phis}
use Rattle.rewrite.specs.Run.{Choice, rewritten_by}
use Rattle.shelf.specs.Lists.{every, among}
use Rattle.shelf.specs.Reads.{defined_in, ordered, bases, apart, shallow, clean, clean_terminator}
use Rattle.machine_simulation.specs.Typing.{typed}

-- "value not below next" (refusal 4)
unfoldable pub below : ℕ → List Instruction → B.Bool
below m [] = true
below m (i ∷ is) = every (λ v. ltb v.0 m) (reads i.kind) && (every (λ v. ltb v.0 m) (dests i.kind) && below m is)

-- "a value defined twice" (refusal 6), in one block
unfoldable pub once : List Instruction → B.Bool
once [] = true
once (i ∷ is) = every (λ d. not (among d.0 (defined_in is))) (dests i.kind) && once is

-- "Phi after another kind" (refusal 7)
unfoldable pub no_phi : List Instruction → B.Bool
no_phi [] = true
no_phi (i ∷ is) = not (is_phi i.kind) && no_phi is

-- "a field name twice in a struct" (refusal 5)
unfoldable pub unlike : NameId → List StructField → B.Bool
unlike n [] = true
unlike n (f ∷ fs) = not (eqb n.0 f.name.0) && unlike n fs

-- no name twice
unfoldable pub fields_once : List StructField → B.Bool
fields_once [] = true
fields_once (f ∷ fs) = unlike f.name fs && fields_once fs

-- the facts, each with the refusal or the shelf reason that gives it
pub record Static (debug : B.Bool) (σ : Settings) (c : Choice) (r : Routine) : Type 0 where
  -- the byte form: "a bit map of next-value bits"
  pub recorded : length r.recorded ≡ r.next
  -- refusal 4
  pub parameters : T (every (λ v. ltb v.0 r.next) r.parameters)
  pub below : T (every (λ k. below r.next k.instructions) r.blocks)
  pub below_ends : T (every (λ k. every (λ v. ltb v.0 r.next) (terminator_reads k.terminator)) r.blocks)
  -- refusal 5
  pub fields : T (every (λ row. fields_once (struct_fields_of (some row))) r.types)
  -- refusal 6
  pub once : T (every (λ k. once (behind_phis k.instructions)) r.blocks)
  -- refusal 7
  pub phis_first : T (every (λ k. no_phi (behind_phis k.instructions)) r.blocks)
  -- reason 1; of Debug the runs need nothing
  pub typed : T (every (λ k. every (λ i. typed (types_in r) i.kind) (behind_phis k.instructions)) r.blocks)
  -- reason 2, Debug under the flag
  pub ordered : T (every (λ k. ordered debug (behind_phis k.instructions)) r.blocks)
  -- reason 3
  pub apart : T (every (λ k. apart (λ x. among x (bases (types_in r) r.blocks)) (behind_phis k.instructions)) r.blocks)
  -- reason 4
  pub shallow : T (every (λ k. every (λ i. shallow (λ x. among x (rewritten_by σ c r).dropped) i.kind) (behind_phis k.instructions)) r.blocks)
  -- reason 5, Debug under the flag
  pub clean : T (every (λ k. clean debug (λ x. among x (rewritten_by σ c r).dropped) k.instructions) (rewritten_by σ c r).blocks)
  pub clean_ends : T (every (λ k. clean_terminator (λ x. among x (rewritten_by σ c r).dropped) k.terminator) (rewritten_by σ c r).blocks)
