use Rattle.std.proofs.Common.{◌≡◌, ◌≤◌, ℕ, List, length, drop}
use Rattle.jfs_ranges.specs.declared.edit.Edit.{Edit}
use Rattle.jfs_redo_steps.specs.ByPage.{edits_at, RiseFrom, IsIndex}
use Rattle.jfs_disk.specs.Crash.{last_of}
use Rattle.jfs_disk.specs.Moment.{IsResting, now_of}
use Rattle.jfs_redo_steps.specs.Pages.{ArePagesRedone, AreOnTheWay}
use Rattle.jfs_redo_steps.proofs.pages.redo_by_index.Given as goal

abbrev pub invariant-loop-p : goal.invariant-loop-p
invariant-loop-p g l =
    (g.D.Disk.page_count l.disk ≡ g.D.Disk.page_count l.fn.disk) × (g.D.Disk.room l.disk ≡ g.D.Disk.room l.fn.disk) × (g.D.Disk.fault_count l.disk ≡ g.D.Disk.fault_count l.fn.disk)
    × (l.at ≤ length l.index) × RiseFrom l.p (drop l.at l.index) × ((q : ℕ) → l.p ≤ q → edits_at q (drop l.at l.index) ≡ edits_at q l.index)
    × (g.D.Disk.tells → (es : List Edit) → IsIndex l.count es l.index → ArePagesRedone l.p es (g.D.Disk.image l.fn.disk) (g.D.Disk.image l.disk))
    × (g.D.Disk.tells → g.D.Disk.tells_crashes → (es : List Edit) → IsIndex l.count es l.index → IsResting (last_of (g.D.Disk.past l.fn.disk)) → AreOnTheWay l.p es (g.D.Disk.image l.fn.disk) (now_of (g.D.Disk.past l.fn.disk)) (g.D.Disk.past l.disk))
