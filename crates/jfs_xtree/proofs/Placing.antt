-- Where an extent goes among the entries of a page.
use Rattle.std.proofs.Common.{ℕ, ◌+◌, List, Some, arith}
use Rattle.jfs_xtpage.specs.Page.{count_of, IsRising, IsLastAt}
use Rattle.jfs_xtpage.proofs.Rising.{later}
use Rattle.jfs_xtree.specs.Node.{IsPlace}

-- behind the last entry that isn't past the offset
pub behind_last : (bytes : List ℕ) (offset i : ℕ) → IsRising bytes (count_of bytes) → IsLastAt bytes offset (Some i) → IsPlace bytes offset (i + 1)
behind_last bytes offset i r at = record {
  most = (let a = at.0 in omega (arith, a));
  before = λ j l. (let a = later bytes (count_of bytes) j i r (omega (arith, l)) at.0 in let b = at.1 in omega (arith, a, b));
  behind = λ j l b. at.2 j (omega (arith, l)) b;
}
