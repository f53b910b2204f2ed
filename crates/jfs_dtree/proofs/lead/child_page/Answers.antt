use Rattle.std.proofs.Common.{arith}
use Rattle.jfs_dtpage.specs.Order.{name_at}
use Rattle.jfs_dtpage.specs.Page.{entries_of, names_of}
use Rattle.jfs_dtree.proofs.Leading.{within_at}
use Rattle.jfs_dtree.proofs.lead.child_page.Goals as goal

pub returns-clause-within : goal.returns-clause-within
returns-clause-within c =
    within_at c.args.blocks (entries_of c.args.form c.args.bytes.now) c.args.place c.dt_child.result (name_at (names_of c.args.form c.args.bytes.now) c.args.place) c.dt_child.ensures.value c.requires.within

pub overflow_cast-result : goal.overflow_cast-result
overflow_cast-result c =
    let w = within_at c.args.blocks (entries_of c.args.form c.args.bytes.now) c.args.place c.dt_child.result (name_at (names_of c.args.form c.args.bytes.now) c.args.place) c.dt_child.ensures.value c.requires.within in
    let f = c.ranges.blocks.fits in omega (arith, w, f)
