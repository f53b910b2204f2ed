-- A write of a page of a disk in memory, which may fail with none of its sectors.
use Rattle.std.specs.Prelude.{ℕ, Bool, List, if◌then◌else◌}
use Rattle.jfs_disk.specs.Crash.{PageHistory, DiskState, page_written, page_failed, written, failed}

abbrev pub page_after : Bool → List ℕ → PageHistory → PageHistory
page_after fails bytes page = if fails then page_failed bytes 0 page else page_written bytes page

abbrev pub state_after : Bool → ℕ → List ℕ → DiskState → DiskState
state_after fails n bytes state = if fails then failed n bytes 0 state else written n bytes state
