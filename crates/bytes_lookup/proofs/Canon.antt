-- The bytes between a block's places are its bytes.
use Prim.Native.Nat.{ℕ, suc, ◌+◌, ◌-◌, ◌<◌}
use mathlib.Core.Path.{◌≡◌, sym}
use mathlib.Core.List.{List}
use native.Mathlib.Omega.{arith}
use lib.ListN.{length, get_or, take, drop}
use Rattle.bytes_wire.specs.WellFormed.{Bytes}
use Rattle.bytes_wire.proofs.Canon.{bytes_drop}
use Rattle.mir.specs.Syntax.{Block}
use Rattle.bytes_field.specs.declared.Bounds.{Bounds}
use Rattle.bytes_block.specs.Encode.{block_bytes}
use Rattle.bytes_block.specs.declared.Mosts.{Mosts}
use Rattle.bytes_block.proofs.Canon.{block_canon}
use Rattle.bytes_index.specs.Code.{no_block}
use Rattle.bytes_block.specs.Places.{BlocksAt, standing}

-- the bytes from a block's place to the next
pub block_part : (m : Mosts) (b : Bounds) (s starts : List ℕ) (xs : List Block) (k : ℕ) {from to : ℕ} → Bytes s → BlocksAt m b s starts xs → k < length xs → from ≡ get_or starts k 0 → to ≡ get_or starts (k + 1) 0 → take (to - from) (drop from s) ≡ block_bytes (get_or xs k no_block)
block_part m b s starts xs k h a l e f =
    let z : k + 1 ≡ suc k = omega arith in
    rw (e, f, z) (elim (a.each k l) [ standing total seen p ↦ sym (block_canon m b total seen (drop (get_or starts k 0) s) (bytes_drop s (get_or starts k 0) h) p).same ])
