-- The shapes of types as the code has them, and their numbers.
use Rattle.std.specs.Prelude.{ℕ}
use Rattle.mir.specs.declared.shape.Shape.{Shape}
use Rattle.mir.specs.declared.shape.Shape.TheVariants.{Other, Tuple, Struct, FixedArray}

abbrev pub number_of_shape : Shape → ℕ
number_of_shape Other = 0
number_of_shape Tuple = 1
number_of_shape Struct = 2
number_of_shape FixedArray = 3
