use Rattle.jfs_tree.proofs.LinesOnly.{runs_told}
use Rattle.jfs_tree.proofs.tell_all.tell_drafted.Goals as goal

pub returns-in-Ok-tell_page-clause-lines : goal.returns-in-Ok-tell_page-clause-lines
returns-in-Ok-tell_page-clause-lines g c = runs_told c.args.drafted.now.number c.args.kind c.in_ok-old.old.now.0 c.args.drafted.now.page.0 c.args.tx.now c.tell_page.new.tx c.in-Ok-tell_page.ensures.runs
