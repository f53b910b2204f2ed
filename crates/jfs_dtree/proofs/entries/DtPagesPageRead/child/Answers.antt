use Rattle.std.proofs.Common.{arith}
use Rattle.jfs_dtree.proofs.Entered.{child_place_at, few_entries, child_gets}
use Rattle.jfs_dtree.proofs.entries.DtPagesPageRead.child.Goals as goal

pub overflow_cast-place : goal.overflow_cast-place
overflow_cast-place c =
    let p = child_place_at c.args.self.now.form c.args.self.now.blocks c.args.bytes.now c.args.i c.requires.place in
    let w = p.within in let few = few_entries c.args.self.now.form c.args.bytes.now p.page.0 in omega (arith, w, few)

pub key_at-requires-clause-page : goal.key_at-requires-clause-page
key_at-requires-clause-page c = (child_place_at c.args.self.now.form c.args.self.now.blocks c.args.bytes.now c.args.i c.requires.place).page.0

pub key_at-requires-clause-place : goal.key_at-requires-clause-place
key_at-requires-clause-place c = (child_place_at c.args.self.now.form c.args.self.now.blocks c.args.bytes.now c.args.i c.requires.place).within

pub child_page-requires-clause-page : goal.child_page-requires-clause-page
child_page-requires-clause-page c = (child_place_at c.args.self.now.form c.args.self.now.blocks c.args.bytes.now c.args.i c.requires.place).page.0

pub child_page-requires-clause-inner : goal.child_page-requires-clause-inner
child_page-requires-clause-inner c = (child_place_at c.args.self.now.form c.args.self.now.blocks c.args.bytes.now c.args.i c.requires.place).page.1

pub child_page-requires-clause-place : goal.child_page-requires-clause-place
child_page-requires-clause-place c = (child_place_at c.args.self.now.form c.args.self.now.blocks c.args.bytes.now c.args.i c.requires.place).within

pub child_page-requires-clause-within : goal.child_page-requires-clause-within
child_page-requires-clause-within c = (child_place_at c.args.self.now.form c.args.self.now.blocks c.args.bytes.now c.args.i c.requires.place).page.2

pub returns-clause-is : goal.returns-clause-is
returns-clause-is c =
    child_gets c.args.self.now.form c.args.self.now.blocks c.args.bytes.now c.args.i c.key_at.result c.child_page.result
    (child_place_at c.args.self.now.form c.args.self.now.blocks c.args.bytes.now c.args.i c.requires.place) c.key_at.ensures c.child_page.ensures.page
