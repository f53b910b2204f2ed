use Rattle.jfs_put_range.proofs.Opening.{opened_kind, laid_kind}
use Rattle.jfs_put_range.proofs.root.read_root.Goals as goal

pub items-requires : goal.items-requires
items-requires c = record { page = laid_kind c.args.top.now.form c.args.top.now.blocks c.args.root.now c.args.leaf c.requires.form c.requires.root c.requires.kind }

pub returns-in-Ok-clause-opened : goal.returns-in-Ok-clause-opened
returns-in-Ok-clause-opened c =
    opened_kind c.args.top.now.form c.args.top.now.blocks c.args.root.now c.args.leaf c.in-Ok.entries.items c.requires.form c.requires.root c.requires.kind c.in-Ok.ensures.list c.in-Ok.ensures.fits
