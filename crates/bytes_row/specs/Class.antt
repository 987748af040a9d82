-- The classes of a row's fields and the kinds of lists as the code has them, and their numbers (`fields` and `first_of` of
-- bytes_field/specs/Walk).
use Rattle.std.specs.Prelude.{ℕ, ◌+◌, ◌*◌, List, [], ◌∷◌, Option, None, Some}
use Rattle.bytes_row.specs.declared.class.ListKind.{ListKind}
use Rattle.bytes_row.specs.declared.class.Class.{Class}
use Rattle.bytes_row.specs.declared.class.Class.TheVariants.{Dest, Value, Name, Number, Block, Place, Binary, Unary}
use Rattle.bytes_row.specs.declared.class.Class.TheVariants.{Values, Types, Dests, Named, Sources, Returns}

-- (5 is that of a Call's return types, which are types whose count is exact)
abbrev pub number_of_list : ListKind → ℕ
number_of_list ListKind.Values = 0
number_of_list ListKind.Types = 1
number_of_list ListKind.Dests = 2
number_of_list ListKind.Named = 3
number_of_list ListKind.Sources = 4
number_of_list ListKind.Projections = 6

-- a row's digit
abbrev pub number_of_class : Class → ℕ
number_of_class Dest = 1
number_of_class Value = 2
number_of_class Class.Type = 3
number_of_class Name = 4
number_of_class Number = 5
number_of_class Block = 6
number_of_class Place = 7
number_of_class Binary = 8
number_of_class Unary = 9
number_of_class Values = 10
number_of_class Types = 11
number_of_class Dests = 12
number_of_class Named = 13
number_of_class Sources = 14
number_of_class Returns = 15

-- a digit of any number: 0 is that of no class
abbrev pub number_of_digit : Option Class → ℕ
number_of_digit None = 0
number_of_digit (Some c) = number_of_class c

-- the number of a row, as `row_walk` reads it: its hexadecimal digits are the classes, the first the lowest
abbrev pub number_of_row : List Class → ℕ
number_of_row [] = 0
number_of_row (c ∷ cs) = number_of_class c + 16 * number_of_row cs
