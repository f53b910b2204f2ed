use Rattle.std.proofs.Common.{arith}
use Rattle.jfs_xtree.proofs.Entered.{row_place, place_within, row_gets}
use Rattle.jfs_xtree.proofs.entries.XtPagesPageRead.read_entry.Goals as goal

pub overflow_cast-i : goal.overflow_cast-i
overflow_cast-i c = let h = (place_within c.args.self.now.form c.args.self.now.blocks c.args.bytes.now c.args.i c.requires.size (row_place c.args.self.now.form c.args.self.now.blocks c.args.bytes.now c.args.i c.requires.place).0).1 in omega (arith, h)

pub xt_entry-requires : goal.xt_entry-requires
xt_entry-requires c = (place_within c.args.self.now.form c.args.self.now.blocks c.args.bytes.now c.args.i c.requires.size (row_place c.args.self.now.form c.args.self.now.blocks c.args.bytes.now c.args.i c.requires.place).0).0

pub returns : goal.returns
returns c = row_gets c.args.self.now.form c.args.self.now.blocks c.args.bytes.now c.args.i c.xt_entry.result c.requires.place c.xt_entry.ensures.value
