-- What a call's writes leave alone.
use Rattle.std.specs.Prelude.{◌≡◌, ℕ}
use Rattle.jfs_disk.specs.declared.disk.Disk.{Ghosts}
use Rattle.jfs_logpages.specs.Fresh.{IsOutside, OthersStay, HistoriesStay}

-- only `count` pages from `first` on were written: the others are as they were, and so is what a crash at any moment since leaves of them
pub record WroteWithin {D : Type 0} (d : Ghosts D) (first count : ℕ) (old new : D) : Type 0 where
  pub pages : d.page_count new ≡ d.page_count old
  pub others : d.tells → OthersStay first count (d.image old) (d.image new)
  pub past : d.tells_crashes → HistoriesStay (IsOutside first count) (d.past old) (d.past new)
