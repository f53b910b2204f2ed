use Rattle.jfs_dtree.proofs.Losses.{bare_is}
use Rattle.jfs_dtree.proofs.form.DtPagesPageForm.is_bare.Goals as goal

pub returns : goal.returns
returns c = bare_is c.args.self.now.form c.args.self.now.blocks c.count_of.result c.args.bytes.now c.count_of.ensures
