-- What makes a dmap page a function of its set.
use Rattle.std.specs.Prelude.{◌≡◌, ℕ, ◌<◌, List}
use Rattle.jfs_buddy.specs.Laws.{AreBytes}
use Rattle.jfs_dmap.specs.Dmap.{blocks_of, first_block_of, taken_in, IsDmap}

-- two canonical pages of the same blocks, of which the same are taken, hold the same bytes
abbrev pub PagesAgree : Type 0
PagesAgree = (one other : List ℕ) → AreBytes one → AreBytes other → IsDmap one → IsDmap other → blocks_of one ≡ blocks_of other → first_block_of one ≡ first_block_of other → ((b : ℕ) → b < blocks_of one → taken_in one b ≡ taken_in other b) → one ≡ other
