use Rattle.jfs_dtree.proofs.Frames.{split_kept, split_new}
use Rattle.jfs_dtree.proofs.form.DtPagesPageForm.split.Goals as goal

pub returns-clause-frame : goal.returns-clause-frame
returns-clause-frame c = split_kept c.args.self.now.form c.args.bytes.now c.split.new.bytes c.requires.below c.split.ensures.frame

pub returns-clause-new : goal.returns-clause-new
returns-clause-new c = split_new c.args.self.now.form c.args.self.now.blocks c.args.n c.args.q c.args.last c.args.x.now c.args.bytes.now c.split.new.bytes c.split.new.right c.split.result c.requires.below c.split.ensures.rules
