-- "The output may pass these": the mosts of an output, by the edition.
use Rattle.std.specs.Prelude.{ℕ}
use Rattle.bytes_block.specs.declared.Mosts.{Mosts}
use Rattle.fold.specs.declared.Edition.{Edition}
use Rattle.fold.specs.declared.Settings.{Settings}

-- "its next value is at most 4,864"; in edition 2 "15 when the next value or a block's instruction count would pass 65,535"
abbrev pub most_numbers : Edition → ℕ
most_numbers Edition.First = 4864
most_numbers Edition.Second = 65535

-- an output has the input's 256 instructions at most, and one for each fresh number at most: 4,608, or 65,535
abbrev pub most_instructions : Edition → ℕ
most_instructions Edition.First = 4864
most_instructions Edition.Second = 65791

-- the mosts of an output
abbrev pub lifted : Settings → Mosts
lifted σ =
    record {
      types = 64;
      next = most_numbers σ.edition;
      blocks = 32;
      block = most_numbers σ.edition;
      all = most_instructions σ.edition;
      list = 16;
      projections = 8;
    }
