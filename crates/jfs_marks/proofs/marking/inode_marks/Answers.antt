use Rattle.std.proofs.Common.{sym, subst}
use Rattle.jfs_marks.specs.declared.marking.Marking.{Marking}
use Rattle.jfs_marks.specs.Marking.{FitsMarking}
use Rattle.jfs_marks.proofs.Fitted.{marking_fits}
use Rattle.jfs_marks.proofs.marking.inode_marks.Goals as goal

pub returns-clause-fits : goal.returns-clause-fits
returns-clause-fits g c = subst (λ (m : Marking). FitsMarking c.args.inodes.now m) (sym c.marking_by.ensures)
    (marking_fits c.args.inodes.now c.pick.result c.founded_in-founded.result c.in-Ok.changes c.pick.ensures c.founded_in-founded.ensures.small)
