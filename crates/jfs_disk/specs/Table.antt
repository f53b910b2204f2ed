-- The pages of a disk in memory: a place for each page, with a slot where it was written.
use Rattle.std.specs.Prelude.{ℕ, List, map, get_or, replicate, Option, Some, None, Box}
use Rattle.std.specs.List.{range_with_len}
use Rattle.std.specs.Global.{Global}
use Rattle.jfs_disk.specs.Crash.{PageHistory, DiskState, resting}
use Rattle.jfs_disk.specs.Slot.{history_in}
use Rattle.jfs_disk.specs.declared.slot.PageSlot.{PageSlot}

-- a page that was never written has zeros
abbrev pub blank : PageHistory
blank = resting (replicate 4096 0)

abbrev pub page_in : Option (Box PageSlot Global) → PageHistory
page_in None = blank
page_in (Some slot) = history_in slot.value

-- the page with a number; the last pages may have no place yet
abbrev pub page_at : List (Option (Box PageSlot Global)) → ℕ → PageHistory
page_at slots n = page_in (get_or slots n None)

-- so many pages
abbrev pub state_in : ℕ → List (Option (Box PageSlot Global)) → DiskState
state_in count slots = map (λ n. page_at slots n) (range_with_len 0 count)
