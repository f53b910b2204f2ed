-- What a crash leaves of the pages of a disk in memory.
use Rattle.std.specs.Prelude.{◌≡◌, ◌<◌, ◌≤◌, ℕ, List, length, Option, Box}
use Rattle.std.specs.Global.{Global}
use Rattle.jfs_disk.specs.Crash.{PageHistory, resting}
use Rattle.jfs_disk.specs.Choice.{left_by, choice_of}
use Rattle.jfs_disk.specs.Table.{page_at}
use Rattle.jfs_disk.specs.declared.choice.Choice.{Choice}
use Rattle.jfs_disk.specs.declared.slot.PageSlot.{PageSlot}

-- what a crash leaves of a page by a choice is stable, and nothing is pending
abbrev pub settled_by : Option Choice → PageHistory → PageHistory
settled_by choice page = resting (left_by choice page page.seen)

-- the first pages are settled by their choices, and the others are as they were
pub record AreSettled (choices : List Choice) (count : ℕ) (old new : List (Option (Box PageSlot Global))) : Type 0 where
  pub number : length new ≡ length old
  pub first : (n : ℕ) → n < count → page_at new n ≡ settled_by (choice_of choices n) (page_at old n)
  pub rest : (n : ℕ) → count ≤ n → page_at new n ≡ page_at old n
