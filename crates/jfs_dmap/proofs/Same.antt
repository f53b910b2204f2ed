-- Maps of 8,192 blocks that say the same hold the same bytes.
use Rattle.std.proofs.Common.{◌≡◌, ◌<◌, ◌≤◌, ◌+◌, ◌*◌, ℕ, List, length, arith}
use Rattle.jfs_bits.specs.Bits.{is_taken}
use Rattle.jfs_bits.specs.Field.{field_of, range_of}
use Rattle.jfs_buddy.specs.Laws.{AreBytes}
use Rattle.jfs_buddy.proofs.Places.{SameAt}
use Rattle.jfs_bits.proofs.SameMaps.{map-same as maps-same, word-same as words-same}

pub word-same : (one other : List ℕ) (w : ℕ) → AreBytes one → AreBytes other → w < 256 → ((b : ℕ) → b < 8192 → is_taken one b ≡ is_taken other b) → field_of one (4 * w) 4 ≡ field_of other (4 * w) 4
word-same one other w bytes others within same = words-same one other w bytes others (λ i h. same (32 * w + i) (omega arith))

pub map-same : (at : ℕ) (one other : List ℕ) → AreBytes one → AreBytes other → at + 1024 ≤ length one → at + 1024 ≤ length other → ((b : ℕ) → b < 8192 → is_taken (range_of one at 1024) b ≡ is_taken (range_of other at 1024) b) → SameAt one other at 1024
map-same at one other bytes others long wide same = maps-same at 256 one other bytes others long wide same
