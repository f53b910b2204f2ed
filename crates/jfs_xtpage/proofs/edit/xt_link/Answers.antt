use Rattle.jfs_xtpage.proofs.Header.{links}
use Rattle.jfs_xtpage.proofs.Tails.{tail_links}
use Rattle.jfs_xtpage.proofs.edit.xt_link.Goals as goal

pub returns-clause-head : goal.returns-clause-head
returns-clause-head c = (links c.args.bytes.now c.put_u64.new.bytes c.put_u64-2.new.bytes c.args.next c.args.prev c.requires c.put_u64.ensures.fits c.put_u64-2.ensures.fits c.put_u64.ensures.bytes c.put_u64-2.ensures.bytes).0

pub returns-clause-entries : goal.returns-clause-entries
returns-clause-entries c = (links c.args.bytes.now c.put_u64.new.bytes c.put_u64-2.new.bytes c.args.next c.args.prev c.requires c.put_u64.ensures.fits c.put_u64-2.ensures.fits c.put_u64.ensures.bytes c.put_u64-2.ensures.bytes).1

pub returns-clause-tail : goal.returns-clause-tail
returns-clause-tail c page = tail_links c.args.bytes.now c.put_u64.new.bytes c.put_u64-2.new.bytes c.args.next c.args.prev c.put_u64.ensures.bytes c.put_u64-2.ensures.bytes page
