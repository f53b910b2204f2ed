use Rattle.jfs_xtree.proofs.Forms.{bare_is}
use Rattle.jfs_xtree.proofs.form.XtPagesPageForm.is_bare.Goals as goal

pub returns : goal.returns
returns c = bare_is c.args.self.now.form c.args.self.now.blocks c.get_u16.result c.args.bytes.now c.get_u16.ensures.value
