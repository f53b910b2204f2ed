use Rattle.std.proofs.Common.{◌+◌, ap, ◌∙◌, arith}
use Rattle.jfs_xtpage.specs.Page.{head_of, entries_of, behind_slots}
use Rattle.jfs_xtpage.proofs.Slots.{head_next}
use Rattle.jfs_xtpage.proofs.Header.{cut_entries}
use Rattle.jfs_xtpage.proofs.Tails.{tail_put}
use Rattle.jfs_xtpage.proofs.edit.xt_cut.Goals as goal

pub returns-clause-head : goal.returns-clause-head
returns-clause-head c = ap head_of c.put_u16.ensures.bytes ∙ head_next c.args.bytes.now (c.args.keep + 2) c.requires.size c.put_u16.ensures.fits

pub returns-clause-entries : goal.returns-clause-entries
returns-clause-entries c = ap entries_of c.put_u16.ensures.bytes ∙ cut_entries c.args.bytes.now c.args.keep c.requires.size c.put_u16.ensures.fits c.requires.keep

pub returns-clause-tail : goal.returns-clause-tail
returns-clause-tail c page = ap behind_slots c.put_u16.ensures.bytes ∙ tail_put c.args.bytes.now 18 2 (c.args.keep + 2) (omega arith) page
