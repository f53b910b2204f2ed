use Rattle.std.proofs.Common.{◌∙◌, ap, arith}
use Rattle.std.specs.Prelude.{slice_get}
use Rattle.jfs_dtree.proofs.Entered.{row_place, few_entries}
use Rattle.jfs_dtree.proofs.entries.DtPagesPageRead.read_entry.Goals as goal

pub overflow_cast-i : goal.overflow_cast-i
overflow_cast-i c =
    let p = row_place c.args.self.now.form c.args.self.now.blocks c.args.bytes.now c.args.i c.requires.place in
    let w = p.within in let few = few_entries c.args.self.now.form c.args.bytes.now p.page.0 in omega (arith, w, few)

pub read-requires-clause-page : goal.read-requires-clause-page
read-requires-clause-page c = (row_place c.args.self.now.form c.args.self.now.blocks c.args.bytes.now c.args.i c.requires.place).page.0

pub read-requires-clause-leaf : goal.read-requires-clause-leaf
read-requires-clause-leaf c = (row_place c.args.self.now.form c.args.self.now.blocks c.args.bytes.now c.args.i c.requires.place).page.1

pub read-requires-clause-place : goal.read-requires-clause-place
read-requires-clause-place c = (row_place c.args.self.now.form c.args.self.now.blocks c.args.bytes.now c.args.i c.requires.place).within

pub returns : goal.returns
returns c = ap (λ rows. slice_get rows c.args.i) (row_place c.args.self.now.form c.args.self.now.blocks c.args.bytes.now c.args.i c.requires.place).rows ∙ c.read.ensures
