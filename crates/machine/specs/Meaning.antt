-- What document 01 leaves open, as one record: "Scalar operations have any fixed meaning." A run takes any such record.
use Rattle.std.specs.Prelude.{ℕ, ◌≡◌, Bool, List}
use Rattle.std.proofs.Math.Option.{Option, none, some}
use Rattle.mir.specs.declared.TypeId.{TypeId}
use Rattle.mir.specs.declared.Literal.{Literal}
use Rattle.mir.specs.MirType.{MirType}
use Rattle.machine.specs.Values.{Val}

-- what an operation answers: a value, a stop with a cause of its own, or that its result is the next reply
pub data Operated (A : Type 0) : Type 0 where
  gives : Val A → Operated A
  fails : ℕ → Operated A
  asks : Operated A

-- what a comparison says, or a cause of its own
pub data Verdict : Type 0 where
  says : Bool → Verdict
  balks : ℕ → Verdict

-- what is taken from the outside list for a value of a type: a value and the list that is left, or none of that type, or
-- nothing is left
pub data Taken (A : Type 0) : Type 0 where
  took : Val A → List (Val A) → Taken A
  refuses : Taken A
  exhausted : Taken A

-- all that is left open; demand 3 is for every one. Its one law: an Integer literal that is an Index names the part of its number.
-- Of a Boolean as an Index nothing is asked: shelf reason 0 has none ("its value is Integer, Felt or U32")
pub record Meaning (A : Type 0) : Type 0 where
  pub literal : Literal → Option MirType → Val A  -- a literal, where it stands at a type
  pub unary : ℕ → Option MirType → Val A → Operated A  -- by the operation and the type of the dest
  pub binary : ℕ → Option MirType → Val A → Val A → Operated A
  pub cast : Option MirType → Option MirType → Val A → Operated A  -- by the two named types
  pub truth : Val A → Bool  -- of If
  pub compare : ℕ → Val A → Val A → Verdict  -- of BranchCmp
  pub same : A → A → Bool  -- equal scalars
  pub position : Val A → Option ℕ  -- the part that an Index value names
  pub literal_position : (k : ℕ) → position (literal (Literal.Integer k) none) ≡ some k
  pub take : List MirType → Option TypeId → List (Val A) → Taken A  -- "a reply or parameter .. of its recorded type"
  pub large : List MirType → Option TypeId → Bool  -- whether the machine cannot hold an aggregate of that type; document 01's holds all
  pub debug : Bool  -- whether Debug is recorded
