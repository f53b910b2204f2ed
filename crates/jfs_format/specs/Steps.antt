-- What the steps of formatting leave alone. For the prover alone.
use Rattle.std.specs.Prelude.{◌≡◌, ◌⊎◌, ℕ, ◌+◌, ◌-◌, ◌<◌, ◌≤◌}
use Rattle.jfs_disk.specs.declared.disk.Disk.{Ghosts}
use Rattle.jfs_disk.specs.Image.{page_of}
use Rattle.jfs_logpages.specs.Fresh.{IsOutside, HistoriesStay}
use Rattle.jfs_format.specs.declared.layout.Layout.{Layout}
use Rattle.jfs_format.specs.Layout.{owned_blocks}

-- page 8, and the pages that aren't named
abbrev pub IsKept : Layout → ℕ → Type 0
IsKept l n = (n < 9) ⊎ ((owned_blocks l ≤ n) × IsOutside (l.log.addr + 1) (l.log.len - 1) n)

-- none of them was written
pub record WroteNamed {D : Type 0} (d : Ghosts D) (l : Layout) (old new : D) : Type 0 where
  pub pages : d.page_count new ≡ d.page_count old
  pub others : d.tells → (n : ℕ) → IsKept l n → page_of (d.image new) n ≡ page_of (d.image old) n
  pub past : d.tells_crashes → HistoriesStay (IsKept l) (d.past old) (d.past new)
