use Rattle.jfs_tree.proofs.Telling.{whole_told}
use Rattle.jfs_tree.proofs.RunsTold.{whole_is}
use Rattle.jfs_tree.proofs.tell.tell_whole.Goals as goal

pub returns-clause-told : goal.returns-clause-told
returns-clause-told c = whole_told c.args.n c.lines_of-size.result.0 c.lines_of-size.result.1 c.args.new.now.0 c.args.tx.now c.tell_run.new.tx c.tell_run.result c.lines_of-size.ensures.lines c.bytes-size.ensures.size c.tell_run.ensures.told

pub returns-clause-whole : goal.returns-clause-whole
returns-clause-whole c = whole_is c.args.n c.args.kind c.lines_of-size.result.0 c.lines_of-size.result.1 c.args.new.now.0 c.args.tx.now c.tell_run.new.tx c.tell_run.result c.lines_of-size.ensures.lines c.bytes-size.ensures.size c.tell_run.ensures.edit
