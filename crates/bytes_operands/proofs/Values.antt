-- A value that stands at a place.
use Prim.Native.Nat.{ℕ, ◌+◌}
use mathlib.Core.Path.{◌≡◌, ap, ◌∙◌}
use mathlib.Core.List.{List}
use lib.ListN.{drop}
use lib.Seq.{drop-drop}
use Rattle.bytes_wire.specs.Value.{value_of}
use Rattle.mir.specs.declared.Value.{Value}
use Rattle.bytes_field.specs.declared.Bounds.{Bounds}
use Rattle.bytes_field.proofs.Laws.{head}
use Rattle.bytes_operands.specs.Fields.{ValueAt, stands, value_size, value_end}
use Rattle.bytes_operands.proofs.Places.{Field}
use Rattle.bytes_operands.proofs.EachKind.{At, at, value_size_lem}

-- it ends where the next field begins
pub value_field : (b : Bounds) (t : List ℕ) {p : ℕ} → Field t p (value_of b.next) (ValueAt b.next t p) (value_end t p)
value_field b t {p} = record { each = λ a n e. (stands n e, ap (λ m. p + m) (value_size_lem b.next (drop p t) e ∙ ap value_size (head t p))) }

-- it stands further behind in a longer list
pub value_behind : (next : ℕ) (s : List ℕ) (off p q : ℕ) (x : Value) → off + p ≡ q → At (value_of next) (drop off s) p x → ValueAt next s q x
value_behind next s off p q x e (at n f) = stands n (rw (drop-drop, e) at f)
