use Rattle.std.proofs.Common.{refl, None, arith}
use Rattle.jfs_xtpage.specs.declared.head.XtForm.TheVariants.{Full}
use Rattle.jfs_refill.proofs.Spreading.{inner_spreads, inners_spread, leaf_spreads, leaves_spread}
use Rattle.jfs_tree.proofs.Drafts.{drafts_one}
use Rattle.jfs_refill.proofs.storing.store.Goals as goal

pub returns-then-list-gt-ENTRIES-clause-leaf : goal.returns-then-list-gt-ENTRIES-clause-leaf
returns-then-list-gt-ENTRIES-clause-leaf c = λ blocks.
    leaves_spread blocks c.args.list.now c.args.full c.args.page.0 c.args.n c.args.draft.now.pages.items c.split.new.draft.pages.items c.args.stack.now.items c.split.new.stack.items c.split.result c.split.ensures.stored

pub returns-then-list-gt-ENTRIES-clause-inner : goal.returns-then-list-gt-ENTRIES-clause-inner
returns-then-list-gt-ENTRIES-clause-inner c = λ blocks.
    inners_spread blocks c.args.list.now c.args.full c.args.page.0 c.args.n c.args.draft.now.pages.items c.split.new.draft.pages.items c.args.stack.now.items c.split.new.stack.items c.split.result c.split.ensures.stored

pub returns-clause-leaf : goal.returns-clause-leaf
returns-clause-leaf c = λ blocks.
    leaf_spreads blocks c.args.list.now c.args.full c.args.page.0 c.args.n c.args.draft.now.pages.items c.put_one.new.draft.pages.items c.args.stack.now.items c.args.stack.now.items None
    ((let l = c.if-list-gt-ENTRIES.false in omega (arith, l)), refl, record { page = c.refill.new.bytes; puts = c.in_ok-put_one.ensures.puts; entries = c.refill.ensures.entries; head = c.refill.ensures.head; reads = c.refill.ensures.reads Full })

pub returns-clause-inner : goal.returns-clause-inner
returns-clause-inner c = λ blocks.
    inner_spreads blocks c.args.list.now c.args.full c.args.page.0 c.args.n c.args.draft.now.pages.items c.put_one.new.draft.pages.items c.args.stack.now.items c.args.stack.now.items None
    ((let l = c.if-list-gt-ENTRIES.false in omega (arith, l)), refl, record { page = c.refill.new.bytes; puts = c.in_ok-put_one.ensures.puts; entries = c.refill.ensures.entries; head = c.refill.ensures.head; reads = c.refill.ensures.reads Full })

pub returns-clause-drafted : goal.returns-clause-drafted
returns-clause-drafted c = drafts_one c.args.draft.now.pages.items c.put_one.new.draft.pages.items c.args.n c.refill.new.bytes c.args.stack.now.items c.in_ok-put_one.ensures.puts
