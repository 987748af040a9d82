-- Document 01's own machine, with document 02's Debug: a literal is what it is at every type, an operation gives a value, no aggregate
-- is too large, Debug is recorded, and a value is of a type as document 01 says ("Error, Unknown and no type have none").
use Rattle.std.specs.Prelude.{ℕ, zero, suc, ◌≡◌, List, [], ◌∷◌, true, false, cond, ◌&&◌}
use Rattle.std.proofs.Math.Option.{Option, none, some}
use Rattle.std.proofs.Math.Bool as B
use Rattle.mir.specs.declared.TypeId.{TypeId}
use Rattle.mir.specs.declared.Literal.{Literal}
use Rattle.mir.specs.MirType.{MirType, Felt, Bool, U32, Tuple, Struct, FixedArray, Pointer, Function, Unit, Error, Unknown}
use Rattle.mir.specs.Lookup.{Types, row_of}
use Rattle.machine.specs.Values.{Val, scalar, aggregate, Vals, ends, then}
use Rattle.mir.specs.Parts.{part_type, part_count, counts}
use Rattle.machine.specs.Meaning.{Meaning, gives, says, Taken, took, refuses, exhausted}

-- the part of a meaning that document 01 leaves open
pub record Operations (A : Type 0) : Type 0 where
  pub literal : Literal → Val A
  pub unary : ℕ → Val A → Val A
  pub binary : ℕ → Val A → Val A → Val A
  pub cast : Option MirType → Option MirType → Val A → Val A
  pub truth : Val A → B.Bool
  pub same : A → A → B.Bool
  pub position : Val A → Option ℕ
  pub literal_position : (k : ℕ) → position (literal (Literal.Integer k)) ≡ some k
  pub has : MirType → A → B.Bool  -- the scalars of a scalar type

-- the scalars of a type; an aggregate type has none, "Error, Unknown and no type have none"
unfoldable pub scalar_of : {A : Type 0} → (MirType → A → B.Bool) → Option MirType → A → B.Bool
scalar_of has none a = false
scalar_of has (some Felt) a = has Felt a
scalar_of has (some Bool) a = has Bool a
scalar_of has (some U32) a = has U32 a
scalar_of has (some (Tuple ts)) a = false
scalar_of has (some (Struct n fs)) a = false
scalar_of has (some (FixedArray t size)) a = false
scalar_of has (some (Pointer t)) a = has (Pointer t) a
scalar_of has (some (Function ps r)) a = has (Function ps r) a
scalar_of has (some Unit) a = has Unit a
scalar_of has (some Error) a = false
scalar_of has (some Unknown) a = false

-- how many there are
unfoldable pub vals_length : {A : Type 0} → Vals A → ℕ
vals_length ends = 0
vals_length (then x xs) = suc (vals_length xs)

-- "value of its recorded type": an aggregate has its type's count of parts, each of its type
unfoldable mutual
  pub is_of : {A : Type 0} → (MirType → A → B.Bool) → Types → Val A → Option TypeId → B.Bool
  is_of has τ (scalar a) t = scalar_of has (row_of τ t) a
  is_of has τ (aggregate xs) t = counts (part_count (row_of τ t)) (vals_length xs) && are_of has τ xs (part_type (row_of τ t))

  pub are_of : {A : Type 0} → (MirType → A → B.Bool) → Types → Vals A → (ℕ → Option TypeId) → B.Bool
  are_of has τ ends ts = true
  are_of has τ (then x xs) ts = is_of has τ x (ts zero) && are_of has τ xs (λ k. ts (suc k))

-- a type table with nothing recorded
unfoldable pub on_rows : List MirType → Types
on_rows rows = record { rows = rows; recorded = [] }

-- "The outside world is any list of values": the first is taken where it is of the type
unfoldable pub take_first : {A : Type 0} → (Val A → B.Bool) → List (Val A) → Taken A
take_first is [] = exhausted
take_first is (y ∷ w) = cond (is y) (took y w) refuses

-- the machine of document 01, for any operations; "Debug becomes a recorded event of the machine" (document 02)
abbrev pub document01 : {A : Type 0} → Operations A → Meaning A
document01 O =
    record {
      literal = λ l row. O.literal l;
      unary = λ op row x. gives (O.unary op x);
      binary = λ op row x y. gives (O.binary op x y);
      cast = λ t u x. gives (O.cast t u x);
      truth = O.truth;
      compare = λ op x y. says (O.truth (O.binary op x y));
      same = O.same;
      position = O.position;
      literal_position = O.literal_position;
      take = λ rows t w. take_first (λ y. is_of O.has (on_rows rows) y t) w;
      large = λ rows t. false;
      debug = true;
    }
