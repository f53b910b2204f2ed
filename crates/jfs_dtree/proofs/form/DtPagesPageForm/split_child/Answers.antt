use Rattle.jfs_dtree.proofs.Frames.{split_kept, inner_new}
use Rattle.jfs_dtree.proofs.form.DtPagesPageForm.split_child.Goals as goal

pub returns-clause-frame : goal.returns-clause-frame
returns-clause-frame c = split_kept c.args.self.now.form c.args.bytes.now c.split_child.new.bytes c.requires.below c.split_child.ensures.frame

pub returns-clause-new : goal.returns-clause-new
returns-clause-new c =
    inner_new c.args.self.now.form c.args.self.now.blocks c.args.n c.args.q c.args.last c.args.place _ c.args.bytes.now c.split_child.new.bytes c.split_child.new.right c.split_child.result c.requires.below c.split_child.ensures.rules
