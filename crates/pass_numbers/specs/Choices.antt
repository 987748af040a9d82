-- The choices that a caller gives as numbers, by place.
use Rattle.std.specs.Prelude.{ℕ, List, Bool, cond, not, eqb, get_or}
use Rattle.fold.specs.declared.Edition.{Edition}
use Rattle.fold.specs.declared.Settings.{Settings}

-- where each stands
abbrev pub enable_tuples_place : ℕ
enable_tuples_place = 0

abbrev pub enable_structs_place : ℕ
enable_structs_place = 1

abbrev pub max_aggregate_size_place : ℕ
max_aggregate_size_place = 2

abbrev pub edition_place : ℕ
edition_place = 3

-- what each is where the choices end before its place: the usual settings, edition 1
abbrev pub enable_tuples_default : ℕ
enable_tuples_default = 1

abbrev pub enable_structs_default : ℕ
enable_structs_default = 1

abbrev pub max_aggregate_size_default : ℕ
max_aggregate_size_default = 8

abbrev pub edition_default : ℕ
edition_default = 1

-- "a flag is on when its number is not 0"
abbrev pub flag_of : ℕ → Bool
flag_of n = not (eqb n 0)

-- edition 2 "is chosen with the number 2 (any other means 1)"
abbrev pub edition_of : ℕ → Edition
edition_of n = cond (eqb n 2) Edition.Second Edition.First

-- the settings; no further choice is read
abbrev pub settings_by : List ℕ → Settings
settings_by choices =
    record {
      tuples = flag_of (get_or choices enable_tuples_place enable_tuples_default);
      structs = flag_of (get_or choices enable_structs_place enable_structs_default);
      most = get_or choices max_aggregate_size_place max_aggregate_size_default;
      edition = edition_of (get_or choices edition_place edition_default);
    }
