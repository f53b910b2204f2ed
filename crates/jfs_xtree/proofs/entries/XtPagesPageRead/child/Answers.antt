use Rattle.std.proofs.Common.{ap, arith}
use Rattle.jfs_bits.specs.declared.extent.Xad.{Xad}
use Rattle.jfs_xtree.proofs.Entered.{child_place_at, place_within, laid_out, child_gets}
use Rattle.jfs_xtree.proofs.entries.XtPagesPageRead.child.Goals as goal

pub overflow_cast-place : goal.overflow_cast-place
overflow_cast-place c = let h = (place_within c.args.self.now.form c.args.self.now.blocks c.args.bytes.now c.args.i c.requires.size (child_place_at c.args.self.now.form c.args.self.now.blocks c.args.bytes.now c.args.i c.requires.place).0).1 in omega (arith, h)

pub xt_entry-requires : goal.xt_entry-requires
xt_entry-requires c = (place_within c.args.self.now.form c.args.self.now.blocks c.args.bytes.now c.args.i c.requires.size (child_place_at c.args.self.now.form c.args.self.now.blocks c.args.bytes.now c.args.i c.requires.place).0).0

pub page_of-requires : goal.page_of-requires
page_of-requires c =
    let p = (child_place_at c.args.self.now.form c.args.self.now.blocks c.args.bytes.now c.args.i c.requires.place).0 in
    record { page = laid_out c.args.self.now.form c.args.self.now.blocks c.args.bytes.now c.args.i c.requires.size p; place = p.before; within = p.sound.range }

pub returns-clause-is : goal.returns-clause-is
returns-clause-is c =
    child_gets c.args.self.now.form c.args.self.now.blocks c.args.bytes.now c.args.i c.xt_entry.result.offset c.page_of.result c.requires.place (ap (λ (x : Xad). x.offset) c.xt_entry.ensures.value) c.page_of.ensures.page
