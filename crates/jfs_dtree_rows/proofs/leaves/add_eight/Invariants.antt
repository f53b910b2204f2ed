use Rattle.std.proofs.Common.{◌≡◌, true}
use Rattle.jfs_dtpage.specs.declared.head.DtForm.TheVariants.{Root}
use Rattle.jfs_dtpage.specs.Form.{is_leaf}
use Rattle.jfs_dtpage.specs.Page.{IsDtPage}
use Rattle.jfs_dtree_rows.proofs.leaves.add_eight.Given as goal

abbrev pub invariant-loop-digit : goal.invariant-loop-digit
invariant-loop-digit l = IsDtPage Root l.root × (is_leaf l.root ≡ true)
