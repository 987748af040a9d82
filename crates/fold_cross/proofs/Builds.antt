-- The builds of a block, and their families.
use Prim.Native.Nat.{ℕ, ◌<◌}
use mathlib.Core.Path.{◌≡◌, refl, ap, ◌∙◌, sym}
use mathlib.Core.List.{List, []}
use mathlib.Core.Bool.{Bool, true, false, cond, not, ◌||◌, true≢false}
use mathlib.Core.Logic.{◌⊎◌, inl, inr, ⊎_elim}
use mathlib.Core.Option.{Option, none, some}
use native.Mathlib.Omega.{arith}
use borrow.Author.Tests.{eqb-true}
use lib.Dec.{eqb}
use lib.ListN.{length, get_or, drop, replicate, length-replicate}
use Rattle.table.proofs.Elements.{clear_at}
use Rattle.bytes_wire.specs.Parse.{ok, and_then, map_parse}
use Rattle.bytes_wire.specs.Number.{below, at16}
use Rattle.bytes_wire.specs.Value.{value_of, value_id_of}
use Rattle.bytes_wire.specs.declared.Cause.{Cause}
use Rattle.mir.specs.declared.ValueId.{ValueId}
use Rattle.bytes_wire.proofs.Inv.{both, image, and_inv, map_inv, checked_inv, below_inv}
use Rattle.mir.specs.Syntax.{Instruction, InstructionKind, Block}
use Rattle.mir.specs.Syntax.{Assign, UnaryOp, BinaryOp, Call, Cast, Load, Store, Debug, Nop, Phi}
use Rattle.mir.specs.Syntax.{MakeTuple, ExtractTupleElement, MakeStruct, ExtractStructField, InsertField, InsertTuple, MakeFixedArray, AssertEq, HeapAllocCells}
use Rattle.mir.specs.Kind.{build_kind}
use Rattle.mir.specs.Reads.{kind_number}
use Rattle.bytes_field.specs.Decode.{defined_of, type_id_of, list_of, field_init_of, make_tuple_of, make_struct_of, make_array_of, bit}
use Rattle.bytes_field.specs.declared.Bounds.{Bounds}
use Rattle.bytes_index.specs.declared.code.Code.{Code}
use Rattle.bytes_index.specs.Table.{kind_in}
use Rattle.bytes_index.specs.Code.{InstructionIn}
use Rattle.bytes_operands.specs.Fields.{fields_place}
use Rattle.mir.specs.Lookup.{Types, value_row}
use Rattle.fold.specs.Scalarizable.{is_scalarizable}
use Rattle.fold.specs.Tables.{ShapesAt}
use Rattle.fold.specs.Family.{Marks, family, build_dest, union, read_elsewhere, cross_family, cross_build}
use Rattle.fold.specs.declared.Settings.{Settings}
use Rattle.fold_family.proofs.Sweeps.{family_length}
use Rattle.fold_family.specs.Search.{FindsFamily}
use Rattle.fold_family.specs.declared.Found.{Found}
use Rattle.fold_family.proofs.Closed.{copies_few}
use Rattle.fold_family.proofs.Finding.{size_clear}
use Rattle.fold_copies.proofs.Fields.{Headed, dest_at, fields_of}
use Rattle.std.specs.Bool.{then_some}
use Rattle.std.specs.Prelude.{Some, None, Option as Answered}
use Rattle.fold_cross.specs.Cross.{Root, Idle, Built, family_read, FamilyRead}
use Rattle.fold_cross.proofs.Uniting.{union_clear}

-- a dest that is defined is one of the values
dest_below : (next : ℕ) (seen : List Bool) (u : List ℕ) {d : ValueId} {m : ℕ} → defined_of next seen u ≡ ok d m → d.0 < next
dest_below next seen u e =
    elim (map_inv (λ x. record { 0 = x }) (below next u) (checked_inv Cause.Redefined (λ d. not (get_or seen d.0 false)) (value_id_of next u) e).0) [
      | image x f g ↦ omega (arith, ap (λ y. y.0) g, (below_inv next u f).1)
    ]

-- a build whose fields are u
pub record BuildAt (next : ℕ) (u : List ℕ) (k : InstructionKind) : Type 0 where
  pub dest : build_dest k ≡ some (record { 0 = at16 u 0 })
  pub low : at16 u 0 < next

tuple_at : (b : Bounds) (u : List ℕ) {k : InstructionKind} {n : ℕ} → make_tuple_of b [] u ≡ ok k n → BuildAt b.next u k
unfolding make_tuple_of build_dest
tuple_at b u e =
    elim (and_inv u (defined_of b.next [] u) (λ d s. map_parse (λ xs. MakeTuple d xs) (list_of b.list (value_of b.next) s)) e) [
      | both d m j p q r ↦
          elim (map_inv (λ xs. MakeTuple d xs) (list_of b.list (value_of b.next) (drop m u)) q) [
            | image xs f g ↦ let z = (dest_at b.next [] u p).0 in rw g record { dest = rw (← z); low = omega (arith, dest_below b.next [] u p) }
          ]
    ]

struct_at : (b : Bounds) (u : List ℕ) {k : InstructionKind} {n : ℕ} → make_struct_of b [] u ≡ ok k n → BuildAt b.next u k
unfolding make_struct_of build_dest
struct_at b u e =
    elim (and_inv u (defined_of b.next [] u)
    (λ d s. and_then s (list_of b.list (field_init_of b) s) (λ fs s. map_parse (λ t. MakeStruct d fs t) (type_id_of b.types s))) e) [
      | both d m j p q r ↦
          elim (and_inv (drop m u) (list_of b.list (field_init_of b) (drop m u)) (λ fs s. map_parse (λ t. MakeStruct d fs t) (type_id_of b.types s)) q) [
            | both fs m2 j2 p2 q2 r2 ↦
                elim (map_inv (λ t. MakeStruct d fs t) (type_id_of b.types (drop m2 (drop m u))) q2) [
                  | image t f g ↦ let z = (dest_at b.next [] u p).0 in rw g record { dest = rw (← z); low = omega (arith, dest_below b.next [] u p) }
                ]
          ]
    ]

array_at : (b : Bounds) (c : Bool) (u : List ℕ) {k : InstructionKind} {n : ℕ} → make_array_of b [] c u ≡ ok k n → BuildAt b.next u k
unfolding make_array_of build_dest
array_at b c u e =
    elim (and_inv u (defined_of b.next [] u)
    (λ d s. and_then s (list_of b.list (value_of b.next) s) (λ xs s. map_parse (λ t. MakeFixedArray d xs t c) (type_id_of b.types s))) e) [
      | both d m j p q r ↦
          elim (and_inv (drop m u) (list_of b.list (value_of b.next) (drop m u)) (λ xs s. map_parse (λ t. MakeFixedArray d xs t c) (type_id_of b.types s)) q) [
            | both xs m2 j2 p2 q2 r2 ↦
                elim (map_inv (λ t. MakeFixedArray d xs t c) (type_id_of b.types (drop m2 (drop m u))) q2) [
                  | image t f g ↦ let z = (dest_at b.next [] u p).0 in rw g record { dest = rw (← z); low = omega (arith, dest_below b.next [] u p) }
                ]
          ]
    ]

-- the kinds of builds
abbrev BuildKind : ℕ → Type 0
BuildKind k = (k ≡ 10) ⊎ ((k ≡ 12) ⊎ (k ≡ 16))

pub one_of_three : (n : ℕ) → build_kind n ≡ true → BuildKind n
one_of_three n h = go (eqb n 10) refl (eqb n 12) refl (eqb n 16) refl h
  where
    go : (a : Bool) → eqb n 10 ≡ a → (b : Bool) → eqb n 12 ≡ b → (c : Bool) → eqb n 16 ≡ c → (a || (b || c)) ≡ true → BuildKind n
    go true e b f c g h = inl (eqb-true n 10 e)
    go false e true f c g h = inr (inl (eqb-true n 12 f))
    go false e false f true g h = inr (inr (eqb-true n 16 g))
    go false e false f false g h = absurd (true≢false (sym h))

other_build : (i : InstructionKind) → build_kind (kind_number i) ≡ false → build_dest i ≡ none
unfolding build_dest
other_build (MakeTuple e vs) f = absurd (true≢false f)
other_build (MakeStruct e fs t) f = absurd (true≢false f)
other_build (MakeFixedArray e vs t c) f = absurd (true≢false f)
other_build (Assign e v t) f = refl
other_build (UnaryOp op e v) f = refl
other_build (BinaryOp op e v w) f = refl
other_build (Call es c vs ps rs) f = refl
other_build (Cast e v t w) f = refl
other_build (Load e p t) f = refl
other_build (Store p v t) f = refl
other_build (Debug m vs) f = refl
other_build Nop f = refl
other_build (Phi e t ss) f = refl
other_build (ExtractTupleElement e v m t) f = refl
other_build (ExtractStructField e v m t) f = refl
other_build (InsertField e v m w t) f = refl
other_build (InsertTuple e v m w t) f = refl
other_build (AssertEq v w) f = refl
other_build (HeapAllocCells e v) f = refl

-- what eligible_build finds: another kind,
pub found_none : (code : Code) (slot : ℕ) (eligible : List Bool) → build_kind (kind_in code.facts.now slot) ≡ false → (i : Instruction)
    → InstructionIn code.bounds code.bytes.now code.facts.now slot i → Built eligible code.bounds.next None i.kind
found_none code slot eligible f i a =
    record {
      dest = λ v e. absurd (let z : ◌≡◌ {A = ℕ} 0 1 = cc in omega arith);
      idle = λ e. record {
        each = λ v g.
            let y : none ≡ some v = sym (other_build i.kind (rw a.kind at f)) ∙ g in
            absurd (let z : ◌≡◌ {A = ℕ} 0 1 = cc in omega arith);
      };
    }

-- or a build, whose fields are u
module _ (b : Bounds) (t u : List ℕ) (kind : ℕ) (dest : ValueId) (eligible : List Bool) (on : Bool) (eu : u ≡ drop (fields_place t) t)
    (ed : dest.0 ≡ at16 u 0) (eo : on ≡ get_or eligible dest.0 false) (k : BuildKind kind) (i : Instruction) (a : Headed b t kind i) where
  build_at : BuildAt b.next u i.kind
  build_at =
      ⊎_elim (λ h. tuple_at b u (fields_of b t 10 refl eu i a h).read)
      (⊎_elim (λ h. struct_at b u (fields_of b t 12 refl eu i a h).read) (λ h. array_at b (bit 3 (get_or t 0 0)) u (fields_of b t 16 refl eu i a h).read)) k

  root : Root eligible b.next dest.0 on i.kind
  root = record { dest = build_at.dest ∙ ap (λ x. some (record { 0 = x })) (sym ed); low = omega (arith, build_at.low); fits = sym eo }

  pub found_build : Built eligible b.next (then_some on dest) i.kind
  found_build = go on refl
    where
      go : (w : Bool) → on ≡ w → Built eligible b.next (then_some w dest) i.kind
      go true h =
          record {
            dest = λ v e. let z : dest ≡ v = cc in rw (← z, ← h) root;
            idle = λ e. absurd (let z : ◌≡◌ {A = ℕ} 0 1 = cc in omega arith);
          }
      go false h =
          record {
            dest = λ v e. absurd (let z : ◌≡◌ {A = ℕ} 0 1 = cc in omega arith);
            idle = λ e.
                record {
                  each = λ v g.
                      let y : some dest ≡ some v = sym root.dest ∙ g in
                      let z : dest ≡ v = cc in
                      let q : dest.0 ≡ v.0 = ap (λ x. x.0) z in
                      rw (← q, ← h) root;
                };
          }

-- what was read of an instruction: no root, or one, whose family is held to the readers
module _ (σ : Settings) (τ : Types) (shapes : List ℕ) (eligible : List Bool) (next : ℕ) (a : ShapesAt σ τ shapes eligible)
    (m : length τ.recorded ≡ next) (ks : List Block) (own : ℕ) (x : Block) (c : Marks) where
  pub idle_build : (i : InstructionKind) → Idle eligible next i → cross_build σ τ ks own x (build_dest i) c ≡ c
  unfolding cross_build
  idle_build i h = go (build_dest i) (λ v e. let r = h.each v e in sym (a.fits v.0 (omega (arith, r.low))) ∙ r.fits)
    where
      go : (d : Option ValueId) → ((v : ValueId) → d ≡ some v → is_scalarizable σ (value_row τ v) ≡ false) → cross_build σ τ ks own x d c ≡ c
      go none f = refl
      go (some v) f = rw (f v refl)

  -- what the family adds, where another block reads it
  abbrev added : Marks → Marks
  added f = cond (read_elsewhere f own 0 ks) (union f c) c

  root_crossed : (i : InstructionKind) (v : ValueId) → Root eligible next v.0 true i
      → added (family τ v x.instructions) ≡ cross_build σ τ ks own x (build_dest i) c
  unfolding cross_build cross_family
  root_crossed i v r =
      let e : is_scalarizable σ (value_row τ v) ≡ true = sym (a.fits v.0 (omega (arith, r.low))) ∙ r.fits in
      let z : cross_build σ τ ks own x (some v) c ≡ cross_family τ ks own x v c = rw e in
      sym (ap (λ q. cross_build σ τ ks own x q c) r.dest ∙ z)

  pub read_crossed : (i : InstructionKind) (d : Answered ValueId) → Built eligible next d i → length c ≡ next
      → added (family_read τ x.instructions d) ≡ cross_build σ τ ks own x (build_dest i) c
  read_crossed i (Some v) b l = root_crossed i v (b.dest v refl)
  read_crossed i None b l = go (read_elsewhere none_marked own 0 ks) ∙ sym (idle_build i (b.idle refl))
    where
      none_marked : Marks
      none_marked = replicate (length τ.recorded) false

      go : (b : Bool) → cond b (union none_marked c) c ≡ c
      go true = union_clear (length τ.recorded) c (l ∙ sym m)
      go false = refl

-- a mark for each value
pub read_length : (τ : Types) (is : List Instruction) (d : Answered ValueId) → length (family_read τ is d) ≡ length τ.recorded
read_length τ is (Some v) = family_length τ v is
read_length τ is None = length-replicate (length τ.recorded) false

-- the family that is found: of no build,
pub found_nothing : (d : Answered ValueId) (copies shapes : List ℕ) (clear : Marks) (members : List ℕ) → d ≡ None
    → FamilyRead d copies shapes clear clear members members 0
found_nothing d copies shapes clear members e σ τ is i eligible next rows few a b n most wide ec =
    let z : clear ≡ replicate (length τ.recorded) false = ec ∙ ap (λ y. replicate y false) n in (
      z ∙ sym (ap (λ y. family_read τ is y) e),
      rw z record {
        many = sym (size_clear (length τ.recorded));
        marked = λ j h. absurd (omega arith);
        only = λ x h. absurd (true≢false (sym h ∙ clear_at (length τ.recorded) x));
      },
    )

-- and of a root
pub found_dest : (d : Answered ValueId) (v : ValueId) (copies shapes : List ℕ) (clear m : Marks) (room members : List ℕ) {q : ℕ} (r : Found)
    → d ≡ Some v
    → q ≡ get_or shapes v.0 0
    → FindsFamily copies q v clear m room members r
    → FamilyRead d copies shapes clear m room members r.members
found_dest d v copies shapes clear m room members r e eq f σ τ is i eligible next rows few a b n most wide ec =
    let low : v.0 < length τ.recorded = omega (arith, (b.dest v e).low) in
    let z = f τ is rows (omega (arith, copies_few τ is)) (eq ∙ a.shaped v.0 low) low (omega arith) wide (ec ∙ ap (λ y. replicate y false) n) in
    (z.same ∙ sym (ap (λ y. family_read τ is y) e), z.listed)
