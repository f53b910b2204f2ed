use Rattle.std.proofs.Common.{arith}
use Rattle.jfs_dtree.proofs.Entered.{few_entries}
use Rattle.jfs_dtree.proofs.Losses.{child_there, child_taken}
use Rattle.jfs_dtree.proofs.Frames.{head_frame}
use Rattle.jfs_dtree.proofs.loss.DtPagesPageLoss.remove_child.Goals as goal

pub overflow_cast-place : goal.overflow_cast-place
overflow_cast-place c =
    let t = child_there c.args.self.now.form c.args.self.now.blocks c.args.place c.args.bytes.now c.requires.others in
    let w = t.1 in let few = few_entries c.args.self.now.form c.args.bytes.now t.0 in omega (arith, w, few)

pub dt_remove-requires-clause-page : goal.dt_remove-requires-clause-page
dt_remove-requires-clause-page c = (child_there c.args.self.now.form c.args.self.now.blocks c.args.place c.args.bytes.now c.requires.others).0

pub dt_remove-requires-clause-place : goal.dt_remove-requires-clause-place
dt_remove-requires-clause-place c = (child_there c.args.self.now.form c.args.self.now.blocks c.args.place c.args.bytes.now c.requires.others).1

pub returns-clause-takes : goal.returns-clause-takes
returns-clause-takes c =
    child_taken c.args.self.now.form c.args.self.now.blocks c.args.place c.args.bytes.now c.dt_remove.new.bytes c.requires.others c.dt_remove.ensures.sound c.dt_remove.ensures.entries c.dt_remove.ensures.head

pub returns-clause-frame : goal.returns-clause-frame
returns-clause-frame c = head_frame c.args.self.now.form c.args.bytes.now c.dt_remove.new.bytes c.dt_remove.ensures.head
