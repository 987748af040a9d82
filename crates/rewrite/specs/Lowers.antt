-- How the output stands to the input: "every output instruction is an input instruction kept or rewritten, in order,
-- or a rebuild directly before what needs it".
use Rattle.std.specs.Prelude.{ℕ, suc, ◌≤◌, ◌<◌, List, [], ◌∷◌, ◌++◌, Bool, true, false}
use Rattle.mir.specs.declared.ValueId.{ValueId}
use Rattle.mir.specs.declared.TypeId.{TypeId}
use Rattle.mir.specs.declared.NameId.{NameId}
use Rattle.mir.specs.declared.Value.{Value}
use Rattle.mir.specs.Syntax.{Place, FieldInit, Meta, Instruction, InstructionKind, Terminator, Return, Block, plain}
use Rattle.mir.specs.Syntax.{Assign, Call, Load, Store, MakeTuple}
use Rattle.mir.specs.Syntax.{ExtractTupleElement, MakeStruct, ExtractStructField, InsertField, InsertTuple, MakeFixedArray}
use Rattle.mir.specs.Phis.{behind_phis, phis_of}
use Rattle.rewrite.specs.Readings.{readings, with_readings}

-- a rebuild of a value: a build without span, expression id and comment; "a rebuilt array has is_const false"
pub data Rebuild : ValueId → Instruction → Type 0 where
  tuple : {d : ValueId} (xs : List Value) → Rebuild d (plain (MakeTuple d xs))
  struct : {d : ValueId} (fs : List FieldInit) (t : TypeId) → Rebuild d (plain (MakeStruct d fs t))
  array : {d : ValueId} (xs : List Value) (t : TypeId) → Rebuild d (plain (MakeFixedArray d xs t false))

-- Values in order, each kept or rebuilt under the next value number, and the rebuilds.
-- Only where the flag stands (for a Return) may a number be taken without a rebuild.
pub data Rebuilds : Bool → ℕ → List Value → List Value → List Instruction → ℕ → Type 0 where
  none : {b : Bool} {n : ℕ} → Rebuilds b n [] [] [] n
  same : {b : Bool} {n m : ℕ} {x : Value} {xs ys : List Value} {is : List Instruction} → Rebuilds b n xs ys is m → Rebuilds b n (x ∷ xs) (x ∷ ys) is m
  anew : {b : Bool} {n m : ℕ} {x : Value} {i : Instruction} {xs ys : List Value} {is : List Instruction}
      → Rebuild (record { 0 = n }) i
      → Rebuilds b (suc n) xs ys is m
      → Rebuilds b n (x ∷ xs) (Value.Operand (record { 0 = n }) ∷ ys) (i ∷ is) m
  bare : {n m : ℕ} {x : Value} {xs ys : List Value} {is : List Instruction}
      → Rebuilds true (suc n) xs ys is m
      → Rebuilds true n (x ∷ xs) (Value.Operand (record { 0 = n }) ∷ ys) is m

-- edition 2: rebuilds one behind another, each under the next value number
pub data Builds : ℕ → List Instruction → ℕ → Type 0 where
  none : {n : ℕ} → Builds n [] n
  build : {n m : ℕ} {i : Instruction} {is : List Instruction} → Rebuild (record { 0 = n }) i → Builds (suc n) is m → Builds n (i ∷ is) m

-- values in order, each kept, or one of those numbers from n on and below m in its place
pub data Renamed (n m : ℕ) : List Value → List Value → Type 0 where
  none : Renamed n m [] []
  same : {x : Value} {xs ys : List Value} → Renamed n m xs ys → Renamed n m (x ∷ xs) (x ∷ ys)
  anew : {x : Value} {xs ys : List Value} (k : ℕ) → n ≤ k → k < m → Renamed n m xs ys
      → Renamed n m (x ∷ xs) (Value.Operand (record { 0 = k }) ∷ ys)

-- an Assign of the same dest at the same type stands for an extract or a Load
pub data Stands : InstructionKind → InstructionKind → Type 0 where
  element : (d : ValueId) (x : Value) (k : ℕ) (t : TypeId) (y : Value) → Stands (ExtractTupleElement d x k t) (Assign d y t)
  field : (d : ValueId) (x : Value) (f : NameId) (t : TypeId) (y : Value) → Stands (ExtractStructField d x f t) (Assign d y t)
  load : (d : ValueId) (p : Place) (t : TypeId) (y : Value) → Stands (Load d p t) (Assign d y t)

-- the kinds that may be left out, with the values that are dropped then: builds, Assigns, inserts, extracts and Loads
-- alike; a Store that is left out drops none
pub data Leaves : InstructionKind → List ValueId → Type 0 where
  assign : (d : ValueId) (x : Value) (t : TypeId) → Leaves (Assign d x t) (d ∷ [])
  load : (d : ValueId) (p : Place) (t : TypeId) → Leaves (Load d p t) (d ∷ [])
  store : (p : Place) (x : Value) (t : TypeId) → Leaves (Store p x t) []
  tuple : (d : ValueId) (xs : List Value) → Leaves (MakeTuple d xs) (d ∷ [])
  element : (d : ValueId) (x : Value) (k : ℕ) (t : TypeId) → Leaves (ExtractTupleElement d x k t) (d ∷ [])
  struct : (d : ValueId) (fs : List FieldInit) (t : TypeId) → Leaves (MakeStruct d fs t) (d ∷ [])
  field : (d : ValueId) (x : Value) (f : NameId) (t : TypeId) → Leaves (ExtractStructField d x f t) (d ∷ [])
  insert_field : (d : ValueId) (x : Value) (f : NameId) (y : Value) (t : TypeId) → Leaves (InsertField d x f y t) (d ∷ [])
  insert_tuple : (d : ValueId) (x : Value) (k : ℕ) (y : Value) (t : TypeId) → Leaves (InsertTuple d x k y t) (d ∷ [])
  array : (d : ValueId) (xs : List Value) (t : TypeId) (c : Bool) → Leaves (MakeFixedArray d xs t c) (d ∷ [])

-- Lowers n is t os u ds m: from the next value n on, instructions is and terminator t came out as os and u, the values
-- ds were dropped, and the next value is m then.
pub data Lowers : ℕ → List Instruction → Terminator → List Instruction → Terminator → List ValueId → ℕ → Type 0 where
  ended : {n : ℕ} {t : Terminator} → Lowers n [] t [] t [] n
  returned : {n m : ℕ} {xs ys : List Value} {bs : List Instruction} → Rebuilds true n xs ys bs m → Lowers n [] (Return xs) bs (Return ys) [] m
  returned_behind : {n m : ℕ} {xs ys : List Value} {bs : List Instruction}
      → Builds n bs m
      → Renamed n m xs ys
      → Lowers n [] (Return xs) bs (Return ys) [] m
  kept : {n m : ℕ} {i : Instruction} {is os : List Instruction} {t u : Terminator} {ds : List ValueId}
      → Lowers n is t os u ds m
      → Lowers n (i ∷ is) t (i ∷ os) u ds m
  left : {n m : ℕ} {i : Instruction} {is os : List Instruction} {t u : Terminator} {ds es : List ValueId}
      → Leaves i.kind es
      → Lowers n is t os u ds m
      → Lowers n (i ∷ is) t os u (es ++ ds) m
  assigned : {n m : ℕ} {i : Instruction} {k : InstructionKind} {is os : List Instruction} {t u : Terminator} {ds : List ValueId}
      → Stands i.kind k
      → Lowers n is t os u ds m
      → Lowers n (i ∷ is) t (plain k ∷ os) u ds m
  called : {n k m : ℕ} {a : Meta} {rs : List ValueId} {f : ℕ} {xs ys : List Value} {ps qs : List TypeId}
      {bs is os : List Instruction} {t u : Terminator} {ds : List ValueId}
      → Rebuilds false n xs ys bs k
      → Lowers k is t os u ds m
      → Lowers n (record { meta = a; kind = Call rs f xs ps qs } ∷ is) t (bs ++ (plain (Call rs f ys ps qs) ∷ os)) u ds m
  stored : {n k m : ℕ} {a : Meta} {p : Place} {x y : Value} {e : TypeId} {bs is os : List Instruction} {t u : Terminator} {ds : List ValueId}
      → Rebuilds false n (x ∷ []) (y ∷ []) bs k
      → Lowers k is t os u ds m
      → Lowers n (record { meta = a; kind = Store p x e } ∷ is) t (bs ++ (record { meta = a; kind = Store p y e } ∷ os)) u ds m
  kept_behind : {n k m : ℕ} {i : Instruction} {ys : List Value} {bs is os : List Instruction} {t u : Terminator} {ds : List ValueId}
      → Builds n bs k
      → Renamed n k (readings i.kind) ys
      → Lowers k is t os u ds m
      → Lowers n (i ∷ is) t (bs ++ (record { meta = i.meta; kind = with_readings i.kind ys } ∷ os)) u ds m

-- the same of blocks: one is skipped, or its phis stay and the rest is lowered
pub data LowersAll : ℕ → List Block → List Block → List ValueId → ℕ → Type 0 where
  none : {n : ℕ} → LowersAll n [] [] [] n
  skipped : {n m : ℕ} {k : Block} {ks js : List Block} {ds : List ValueId} → LowersAll n ks js ds m → LowersAll n (k ∷ ks) (k ∷ js) ds m
  lowered : {n l m : ℕ} {k : Block} {os : List Instruction} {u : Terminator} {ks js : List Block} {es ds : List ValueId}
      → Lowers n (behind_phis k.instructions) k.terminator os u es l
      → LowersAll l ks js ds m
      → LowersAll n (k ∷ ks) (record { instructions = phis_of k.instructions ++ os; terminator = u } ∷ js) (es ++ ds) m
