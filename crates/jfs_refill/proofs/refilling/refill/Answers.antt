use Rattle.std.proofs.Common.{◌+◌, refl, length, arith}
use Rattle.jfs_refill.proofs.Listed.{count_set, relisted, same_kind, tail_kept}
use Rattle.jfs_refill.proofs.refilling.refill.Goals as goal

pub returns-clause-entries : goal.returns-clause-entries
returns-clause-entries c =
    (count_set c.args.bytes.now c.put_entries.new.bytes c.put_u16.new.bytes c.args.list.now (length c.args.list.now + 2) refl (let r = c.requires.room in let w = c.requires.page.within in omega (arith, r, w)) c.put_u16.ensures.fits c.put_entries.ensures.head c.put_entries.ensures.entries c.put_u16.ensures.bytes).0

pub returns-clause-head : goal.returns-clause-head
returns-clause-head c =
    (count_set c.args.bytes.now c.put_entries.new.bytes c.put_u16.new.bytes c.args.list.now (length c.args.list.now + 2) refl (let r = c.requires.room in let w = c.requires.page.within in omega (arith, r, w)) c.put_u16.ensures.fits c.put_entries.ensures.head c.put_entries.ensures.entries c.put_u16.ensures.bytes).1

pub returns-clause-header : goal.returns-clause-header
returns-clause-header c =
    (count_set c.args.bytes.now c.put_entries.new.bytes c.put_u16.new.bytes c.args.list.now (length c.args.list.now + 2) refl (let r = c.requires.room in let w = c.requires.page.within in omega (arith, r, w)) c.put_u16.ensures.fits c.put_entries.ensures.head c.put_entries.ensures.entries c.put_u16.ensures.bytes).2

pub returns-clause-tail : goal.returns-clause-tail
returns-clause-tail c =
    tail_kept c.args.bytes.now c.put_entries.new.bytes c.put_u16.new.bytes (length c.args.list.now) (length c.args.list.now + 2) c.requires.page c.requires.room c.put_entries.ensures.size c.put_entries.ensures.head c.put_entries.ensures.tail c.put_u16.ensures.bytes

pub returns-clause-reads : goal.returns-clause-reads
returns-clause-reads c form blocks good =
    let set = count_set c.args.bytes.now c.put_entries.new.bytes c.put_u16.new.bytes c.args.list.now (length c.args.list.now + 2) refl (let r = c.requires.room in let w = c.requires.page.within in omega (arith, r, w)) c.put_u16.ensures.fits c.put_entries.ensures.head c.put_entries.ensures.entries c.put_u16.ensures.bytes in
    relisted form blocks c.args.list.now c.args.bytes.now c.put_u16.new.bytes (same_kind c.args.bytes.now c.put_u16.new.bytes (length c.args.list.now) set.1 c.requires.room) set.0 good
