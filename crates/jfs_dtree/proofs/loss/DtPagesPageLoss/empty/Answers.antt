use Rattle.std.proofs.Common.{◌∙◌}
use Rattle.jfs_dtree.proofs.Frames.{root_frame}
use Rattle.jfs_dtree.proofs.loss.DtPagesPageLoss.empty.Goals as goal

pub returns-clause-frame : goal.returns-clause-frame
returns-clause-frame c = root_frame c.args.self.now.form c.args.root.now c.new_root.new.root c.requires.top (c.new_root.ensures.parent ∙ c.parent-up.ensures)
