-- Values: "a value is a u8: 0 Integer u32; 1 Boolean u8 (0, 1); 2 Unit; 3 Operand u16; 4 Error".
use Rattle.std.specs.Prelude.{ℕ, List, [], ◌∷◌, Bool, true, false, ltb, eqb}
use Rattle.bytes_wire.specs.Parse.{Parse, ok, map_parse, checked, tagged}
use Rattle.bytes_wire.specs.Number.{u8_of, u32_of, below, to_bytes}
use Rattle.bytes_wire.specs.declared.Cause.{Cause}
use Rattle.mir.specs.declared.Literal.{Literal}
use Rattle.mir.specs.declared.Value.{Value}
use Rattle.mir.specs.declared.ValueId.{ValueId}

-- value.rs, `Value::integer`, `boolean`, `unit`
abbrev pub integer : ℕ → Value
integer x = Value.Literal (Literal.Integer x)

abbrev pub boolean : Bool → Value
boolean b = Value.Literal (Literal.Boolean b)

abbrev pub unit : Value
unit = Value.Literal Literal.Unit

-- a byte that is 0 or 1
abbrev pub bool_of : List ℕ → Parse Bool
bool_of s = map_parse (λ x. eqb x 1) (checked Cause.Undefined (λ x. ltb x 2) (u8_of s))

abbrev pub value_id_of : ℕ → List ℕ → Parse ValueId
value_id_of next s = map_parse (λ x. record { 0 = x }) (below next s)

abbrev pub value_kinds : ℕ → List (List ℕ → Parse Value)
value_kinds next =
    (λ s. map_parse integer (u32_of s))
    ∷ (λ s. map_parse boolean (bool_of s))
    ∷ (λ s. ok unit 0)
    ∷ (λ s. map_parse Value.Operand (value_id_of next s))
    ∷ (λ s. ok Value.Error 0)
    ∷ []

unfoldable pub value_of : ℕ → List ℕ → Parse Value
value_of next s = tagged (value_kinds next) s

-- the bytes of a value
abbrev pub bool_byte : Bool → ℕ
bool_byte true = 1
bool_byte false = 0

abbrev pub value_bytes : Value → List ℕ
value_bytes (Value.Literal (Literal.Integer x)) = 0 ∷ to_bytes 4 x
value_bytes (Value.Literal (Literal.Boolean b)) = 1 ∷ bool_byte b ∷ []
value_bytes (Value.Literal Literal.Unit) = 2 ∷ []
value_bytes (Value.Operand v) = 3 ∷ to_bytes 2 v.0
value_bytes Value.Error = 4 ∷ []
