-- A block's count has two mosts: its own, and that of all blocks, of which `total` instructions stand before it.
use Rattle.std.specs.Prelude.{ℕ, ◌+◌, ◌&&◌, leb}
use Rattle.bytes_wire.specs.Parse.{Parse, checked}
use Rattle.bytes_wire.specs.declared.Cause.{Cause}

abbrev pub counted_twice : ℕ → ℕ → ℕ → Parse ℕ → Parse ℕ
counted_twice most all total d = checked Cause.TooMany (λ n. leb n most && leb (total + n) all) d
