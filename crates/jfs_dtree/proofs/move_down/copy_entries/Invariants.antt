use Rattle.std.proofs.Common.{◌≡◌, length, take}
use Rattle.jfs_dtpage.specs.declared.head.DtForm.TheVariants.{Root, Full}
use Rattle.jfs_dtpage.specs.Form.{KeepsHead}
use Rattle.jfs_dtpage.specs.Page.{entries_of, IsDtPage}
use Rattle.jfs_dtree.proofs.move_down.copy_entries.Given as goal

abbrev pub invariant-loop-place : goal.invariant-loop-place
invariant-loop-place l = (length l.page ≡ 4096) × IsDtPage Full l.page × (entries_of Full l.page ≡ take l.place (entries_of Root l.root)) × KeepsHead Full l.initial.page l.page
