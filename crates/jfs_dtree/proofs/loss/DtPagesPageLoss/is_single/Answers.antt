use Rattle.std.proofs.Common.{refl, ◌==◌}
use Rattle.jfs_dtree.proofs.Losses.{single_is}
use Rattle.jfs_dtree.proofs.loss.DtPagesPageLoss.is_single.Goals as goal

pub returns : goal.returns
returns c = single_is c.args.self.now.form c.args.self.now.blocks c.count_of.result c.args.bytes.now (c.count_of.result == 1) c.count_of.ensures refl
