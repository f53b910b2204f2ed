use Rattle.jfs_dtpage.specs.Page.{name_of}
use Rattle.jfs_dtpage.proofs.Entries.{first_within}
use Rattle.jfs_dtpage.proofs.Compared.{not_both}
use Rattle.jfs_dtpage.proofs.order.is_before.Goals as goal

pub by_first_units-requires-clause-one : goal.by_first_units-requires-clause-one
by_first_units-requires-clause-one c = first_within c.args.leaf c.args.bytes.now c.args.one c.requires.one

pub by_first_units-requires-clause-other : goal.by_first_units-requires-clause-other
by_first_units-requires-clause-other c = first_within c.args.leaf c.args.bytes.now c.args.other c.requires.other

pub returns-in-Greater-clause-no : goal.returns-in-Greater-clause-no
returns-in-Greater-clause-no c = λ e b.
    not_both (name_of c.args.leaf c.args.bytes.now c.args.one) (name_of c.args.leaf c.args.bytes.now c.args.other) b (c.by_first_units.ensures.greater c.in-Greater.is)
