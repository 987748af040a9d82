-- Struct among the kinds of types, by their numbers.
use Rattle.std.proofs.Common.{ℕ, ◌≡◌, ◌<◌, ◌∙◌, true, false, refl, sym, eqb, lit<}
use denote.Enum.Bare.{sameb}
use borrow.Author.Tests.{true-eqb, false-eqb}
use Rattle.mir.specs.contracts.type_kind.TypeKind.{the_type}
use Rattle.mir.specs.declared.type_kind.TypeKind.{TypeKind}
use Rattle.mir.specs.TypeKind.{number_of_type_kind}

-- a kind is one of the 11
type_kind_below : (k : TypeKind) → number_of_type_kind k < 11
type_kind_below TypeKind.Felt = lit< tt
type_kind_below TypeKind.Bool = lit< tt
type_kind_below TypeKind.U32 = lit< tt
type_kind_below TypeKind.Tuple = lit< tt
type_kind_below TypeKind.Struct = lit< tt
type_kind_below TypeKind.FixedArray = lit< tt
type_kind_below TypeKind.Pointer = lit< tt
type_kind_below TypeKind.Function = lit< tt
type_kind_below TypeKind.Unit = lit< tt
type_kind_below TypeKind.Error = lit< tt
type_kind_below TypeKind.Unknown = lit< tt

-- and Struct where its number is Struct's
is_struct : (k : TypeKind) → sameb the_type k TypeKind.Struct ≡ eqb (number_of_type_kind k) 4
is_struct TypeKind.Felt = refl
is_struct TypeKind.Bool = refl
is_struct TypeKind.U32 = refl
is_struct TypeKind.Tuple = refl
is_struct TypeKind.Struct = refl
is_struct TypeKind.FixedArray = refl
is_struct TypeKind.Pointer = refl
is_struct TypeKind.Function = refl
is_struct TypeKind.Unit = refl
is_struct TypeKind.Error = refl
is_struct TypeKind.Unknown = refl

-- a number of a kind
module _ (k : TypeKind) {n : ℕ} (e : number_of_type_kind k ≡ n) where
  pub numbered_below : n < 11
  numbered_below = rw (← e) (type_kind_below k)

  pub struct_number : true ≡ sameb the_type k TypeKind.Struct → n ≡ 4
  struct_number h = sym e ∙ true-eqb _ _ (h ∙ is_struct k)

  pub other_number : false ≡ sameb the_type k TypeKind.Struct → n ≡ 4 → ⊥
  other_number h z = false-eqb _ _ (h ∙ is_struct k) (e ∙ z)
