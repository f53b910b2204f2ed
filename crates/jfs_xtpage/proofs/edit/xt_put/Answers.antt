use Rattle.jfs_xtpage.proofs.Header.{put_by_code}
use Rattle.jfs_xtpage.proofs.Tails.{tail_entry}
use Rattle.jfs_xtpage.proofs.edit.xt_put.Goals as goal

pub returns-clause-head : goal.returns-clause-head
returns-clause-head c = (put_by_code c.args.bytes.now c.put_xad.new.bytes c.args.i c.from.result c.args.x c.requires.page c.from.ensures c.requires.place c.put_xad.ensures.bytes c.put_xad.ensures.read_back).0

pub returns-clause-entries : goal.returns-clause-entries
returns-clause-entries c = (put_by_code c.args.bytes.now c.put_xad.new.bytes c.args.i c.from.result c.args.x c.requires.page c.from.ensures c.requires.place c.put_xad.ensures.bytes c.put_xad.ensures.read_back).1

pub returns-clause-tail : goal.returns-clause-tail
returns-clause-tail c = tail_entry c.args.bytes.now c.put_xad.new.bytes c.args.i c.from.result c.args.x c.requires.page c.from.ensures c.requires.place c.put_xad.ensures.bytes c.put_xad.ensures.read_back
