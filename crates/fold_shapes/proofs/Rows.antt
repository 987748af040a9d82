-- A type's row says its shape and its number of parts.
use Prim.Native.Nat.{ℕ, zero, suc, ◌<◌}
use mathlib.Core.Path.{◌≡◌, refl, ◌∙◌, sym}
use mathlib.Core.List.{List, [], ◌∷◌}
use mathlib.Core.Bool.{true, false, cond}
use mathlib.Core.Bool as B
use mathlib.Core.Option.{Option, none, some}
use native.Mathlib.Omega.{arith}
use borrow.Author.Tests.{ltb-true, ltb-false}
use lib.ListN.{length, get_or, get_elem?, drop}
use lib.Dec.{ltb}
use Rattle.table.proofs.Elements.{some_at, none_at}
use Rattle.bytes_wire.specs.Parse.{Parse, ok, and_then, map_parse, seq_of}
use Rattle.bytes_wire.specs.Number.{u32_of, below, at32}
use Rattle.mir.specs.declared.TypeId.{TypeId}
use Rattle.bytes_wire.proofs.Laws.{from_32}
use Rattle.bytes_wire.proofs.Inv.{no_ok, both, behind, image, later_inv, and_inv, map_inv, number_inv, below_inv, tagged_inv, seq_length}
use Rattle.bytes_field.specs.Decode.{type_id_of, count_of, list_of}
use Rattle.bytes_field.proofs.Rows.{count_first}
use Rattle.mir.specs.MirType.{MirType}
use Rattle.bytes_types.specs.Decode.{struct_of, type_kinds, type_of}
use Rattle.bytes_struct.proofs.Placed.{StructAt, struct_at, struct_stands}
use Rattle.bytes_types.specs.Index.{TypesAt}
use Rattle.bytes_index.specs.declared.code.Code.{Code}
use Rattle.fold.specs.declared.Settings.{Settings}
use Rattle.mir.specs.Lookup.{Types, row_of, shape}
use Rattle.fold.specs.Scalarizable.{is_scalarizable}
use Rattle.fold_shapes.specs.Shapes.{row_shape, row_eligible, row_in, OfType}

-- what a row says of its type, and the empty one of none
pub record Said (o : Option MirType) (t : List ℕ) : Type 0 where
  pub shaped : shape o ≡ row_shape t
  pub fits : (σ : Settings) → is_scalarizable σ o ≡ row_eligible σ t

abbrev pub RowSays : Code → Option TypeId → List ℕ → Type 0
RowSays code o row =
    (most : ℕ) (τ : Types)
    → TypesAt most code.bytes.now code.facts.now τ.rows
    → length τ.rows ≡ code.bounds.types
    → Said (row_of τ o) row

-- a list has as many as its first byte says
list_length : {A : Type 0} (most : ℕ) (dec : List ℕ → Parse A) (s : List ℕ) {xs : List A} {n : ℕ} → list_of most dec s ≡ ok xs n → length xs ≡ get_or s 0 0
unfolding list_of
list_length most dec s e =
    elim (and_inv s (count_of most s) (λ n t. seq_of dec n t) e) [ both k m j p q r ↦ seq_length dec k (drop m s) q ∙ count_first most s p ]

-- two bytes for a type
type_size : (own : ℕ) (s : List ℕ) {x : TypeId} {n : ℕ} → type_id_of own s ≡ ok x n → n ≡ 2
type_size own s e = elim (map_inv (λ x. record { 0 = x }) (below own s) e) [ image x f g ↦ (number_inv 2 s (below_inv own s f).0).2 ]

-- a Tuple
tuple_said : (most own : ℕ) (t : List ℕ) {ty : MirType} {n : ℕ} → map_parse MirType.Tuple (list_of most (type_id_of own) t) ≡ ok ty n → Said (some ty) (3 ∷ t)
unfolding shape is_scalarizable
tuple_said most own t e =
    elim (map_inv MirType.Tuple (list_of most (type_id_of own) t) e) [
      | image ts f g ↦ let h = list_length most (type_id_of own) t f in rw g record { shaped = refl; fits = λ σ. rw h }
    ]

-- a Struct
struct_said : (most own : ℕ) (t : List ℕ) {ty : MirType} {n : ℕ} → struct_of most own t ≡ ok ty n → Said (some ty) (4 ∷ t)
unfolding shape is_scalarizable
struct_said most own t {ty} {n} e = go ((struct_stands own (4 ∷ t) most).each ty n e)
  where
    go : {y : MirType} → StructAt own (4 ∷ t) y → Said (some y) (4 ∷ t)
    go (struct_at n fs l c) = record { shaped = refl; fits = λ σ. rw c }

-- a FixedArray
array_said : (own : ℕ) (t : List ℕ) {ty : MirType} {n : ℕ} → and_then t (type_id_of own t) (λ p s. map_parse (λ size. MirType.FixedArray p size) (u32_of s)) ≡ ok ty n → Said (some ty) (5 ∷ t)
unfolding shape is_scalarizable
array_said own t e =
    elim (and_inv t (type_id_of own t) (λ p s. map_parse (λ size. MirType.FixedArray p size) (u32_of s)) e) [
      | both p m j f q r ↦
          elim (map_inv (λ size. MirType.FixedArray p size) (u32_of (drop m t)) q) [
            | image size h g ↦
                let a : m ≡ 2 = type_size own t f in
                let k : size ≡ at32 (5 ∷ t) 3 = (number_inv 4 (drop m t) h).1 ∙ rw a (from_32 t 2) in
                rw g record { shaped = refl; fits = λ σ. rw k }
          ]
    ]

-- any type
pub type_said : (most own : ℕ) (t : List ℕ) {ty : MirType} {n : ℕ} → type_of most own t ≡ ok ty n → Said (some ty) t
unfolding type_of shape is_scalarizable
type_said most own [] e = absurd (no_ok e)
type_said most own (zero ∷ t) {ty} e = let f = (tagged_inv (type_kinds most own) (0 ∷ t) e).1 in let p : ty ≡ MirType.Felt = cc in rw p record { shaped = refl; fits = λ σ. refl }
type_said most own (suc zero ∷ t) {ty} e = let f = (tagged_inv (type_kinds most own) (1 ∷ t) e).1 in let p : ty ≡ MirType.Bool = cc in rw p record { shaped = refl; fits = λ σ. refl }
type_said most own (suc (suc zero) ∷ t) {ty} e = let f = (tagged_inv (type_kinds most own) (2 ∷ t) e).1 in let p : ty ≡ MirType.U32 = cc in rw p record { shaped = refl; fits = λ σ. refl }
type_said most own (suc (suc (suc zero)) ∷ t) e =
    elim (later_inv 1 (map_parse MirType.Tuple (list_of most (type_id_of own) t)) (tagged_inv (type_kinds most own) (3 ∷ t) e).1) [ behind k p q ↦ tuple_said most own t p ]
type_said most own (suc (suc (suc (suc zero))) ∷ t) e =
    elim (later_inv 1 (struct_of most own t) (tagged_inv (type_kinds most own) (4 ∷ t) e).1) [ behind k p q ↦ struct_said most own t p ]
type_said most own (suc (suc (suc (suc (suc zero)))) ∷ t) e =
    elim (later_inv 1 (and_then t (type_id_of own t) (λ p s. map_parse (λ size. MirType.FixedArray p size) (u32_of s))) (tagged_inv (type_kinds most own) (5 ∷ t) e).1) [ behind k p q ↦ array_said own t p ]
type_said most own (suc (suc (suc (suc (suc (suc zero))))) ∷ t) e =
    elim (later_inv 1 (map_parse MirType.Pointer (type_id_of own t)) (tagged_inv (type_kinds most own) (6 ∷ t) e).1) [
      | behind k p q ↦ elim (map_inv MirType.Pointer (type_id_of own t) p) [ image x f g ↦ rw g record { shaped = refl; fits = λ σ. refl } ]
    ]
type_said most own (suc (suc (suc (suc (suc (suc (suc zero)))))) ∷ t) e =
    elim (later_inv 1 (and_then t (list_of most (type_id_of own) t) (λ ps s. map_parse (λ r. MirType.Function ps r) (type_id_of own s))) (tagged_inv (type_kinds most own) (7 ∷ t) e).1) [
      | behind k p q ↦
          elim (and_inv t (list_of most (type_id_of own) t) (λ ps s. map_parse (λ r. MirType.Function ps r) (type_id_of own s)) p) [
            | both ps m j f h r ↦ elim (map_inv (λ r. MirType.Function ps r) (type_id_of own (drop m t)) h) [ image x u g ↦ rw g record { shaped = refl; fits = λ σ. refl } ]
          ]
    ]
type_said most own (suc (suc (suc (suc (suc (suc (suc (suc zero))))))) ∷ t) {ty} e = let f = (tagged_inv (type_kinds most own) (8 ∷ t) e).1 in let p : ty ≡ MirType.Unit = cc in rw p record { shaped = refl; fits = λ σ. refl }
type_said most own (suc (suc (suc (suc (suc (suc (suc (suc (suc zero)))))))) ∷ t) {ty} e = let f = (tagged_inv (type_kinds most own) (9 ∷ t) e).1 in let p : ty ≡ MirType.Error = cc in rw p record { shaped = refl; fits = λ σ. refl }
type_said most own (suc (suc (suc (suc (suc (suc (suc (suc (suc (suc zero))))))))) ∷ t) {ty} e = let f = (tagged_inv (type_kinds most own) (10 ∷ t) e).1 in let p : ty ≡ MirType.Unknown = cc in rw p record { shaped = refl; fits = λ σ. refl }
type_said most own (suc (suc (suc (suc (suc (suc (suc (suc (suc (suc (suc a)))))))))) ∷ t) e =
    absurd (no_ok (tagged_inv (type_kinds most own) (suc (suc (suc (suc (suc (suc (suc (suc (suc (suc (suc a)))))))))) ∷ t) e).1)

-- what holds of each type and the bytes that it is read from, and of none and no bytes, holds of a type of a routine and its row
pub row_holds : (P : Option MirType → List ℕ → Type 0) (code : Code) (o : Option TypeId) (τ : Types) {most : ℕ} {u : List ℕ}
    → P none []
    → ((own : ℕ) (t : List ℕ) (ty : MirType) (n : ℕ) → type_of most own t ≡ ok ty n → P (some ty) t)
    → u ≡ row_in code o
    → TypesAt most code.bytes.now code.facts.now τ.rows
    → length τ.rows ≡ code.bounds.types
    → P (row_of τ o) u
unfolding row_of
row_holds P code none τ p f e a m = rw e p
row_holds P code (some t) τ p f e a m = rw e (go (ltb t.0 code.bounds.types) refl)
  where
    there : List ℕ
    there = drop (get_or code.facts.now t.0 0) code.bytes.now

    go : (b : B.Bool) → ltb t.0 code.bounds.types ≡ b → P (get_elem? τ.rows t.0) (cond b there [])
    go true h =
        let q : t.0 < length τ.rows = omega (arith, ltb-true t.0 code.bounds.types h) in
        rw (some_at τ.rows t.0 MirType.Unit q) (f t.0 there _ _ (a.each t.0 q))
    go false h = rw (none_at τ.rows t.0 (omega (arith, ltb-false t.0 code.bounds.types h))) p

-- so the row says its shapes
none_said : Said none []
unfolding shape is_scalarizable
none_said = record { shaped = refl; fits = λ σ. refl }

pub row_says : (code : Code) (o : Option TypeId) {u : List ℕ} → u ≡ row_in code o → RowSays code o u
row_says code o e most τ a m = row_holds Said code o τ none_said (λ own t ty n. type_said most own t) e a m

-- what is said of a type is what its row says
abbrev types_of : List MirType → Types
types_of ts = record { rows = ts; recorded = [] }

pub shape_found : (code : Code) (t : TypeId) {r : ℕ} {u : List ℕ} → r ≡ row_shape u → RowSays code (some t) u → OfType shape code t r
unfolding row_of
shape_found code t e f most ts a m = e ∙ sym (f most (types_of ts) a m).shaped

pub eligible_found : (code : Code) (t : TypeId) (σ : Settings) {r : B.Bool} {u : List ℕ} → r ≡ row_eligible σ u → RowSays code (some t) u → OfType (is_scalarizable σ) code t r
unfolding row_of
eligible_found code t σ e f most ts a m = e ∙ sym ((f most (types_of ts) a m).fits σ)
