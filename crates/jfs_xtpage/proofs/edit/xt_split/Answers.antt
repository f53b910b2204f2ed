use Rattle.std.proofs.Common.{ap, ◌∙◌, ◌+◌, arith, subst, sym}
use Rattle.jfs_xtpage.specs.Page.{head_of, entries_of, behind_slots, IsLaidOut}
use Rattle.jfs_xtpage.proofs.Slots.{head_next}
use Rattle.jfs_xtpage.proofs.Header.{cut_entries, split_by_code}
use Rattle.jfs_xtpage.proofs.Tails.{cut_laid_out, tail_put}
use Rattle.jfs_xtpage.proofs.edit.xt_split.Goals as goal

pub returns-clause-head : goal.returns-clause-head
returns-clause-head c = ap head_of c.put_u16-2.ensures.bytes ∙ head_next c.args.from.now (c.args.keep + 2) (let a = c.requires.page.least in let b = c.requires.page.most in let d = c.requires.page.within in omega (arith, a, b, d)) c.put_u16-2.ensures.fits

pub returns-clause-entries : goal.returns-clause-entries
returns-clause-entries c = ap entries_of c.put_u16-2.ensures.bytes ∙ cut_entries c.args.from.now c.args.keep (let a = c.requires.page.least in let b = c.requires.page.most in let d = c.requires.page.within in omega (arith, a, b, d)) c.put_u16-2.ensures.fits c.requires.keep

pub returns-clause-to_head : goal.returns-clause-to_head
returns-clause-to_head c =
    (split_by_code c.args.from.now c.args.to.now c.put_slice.new.bytes c.put_u16.new.bytes c.args.keep c.from.result c.from-end.result c.get_u16-next.result c.requires.page c.from.ensures c.get_u16-next.ensures.value c.from-end.ensures c.requires.keep c.requires.room.0 c.requires.room.1
    c.put_slice.ensures c.get_u16-next.ensures.fits c.put_u16.ensures.bytes).0

pub returns-clause-to_entries : goal.returns-clause-to_entries
returns-clause-to_entries c =
    (split_by_code c.args.from.now c.args.to.now c.put_slice.new.bytes c.put_u16.new.bytes c.args.keep c.from.result c.from-end.result c.get_u16-next.result c.requires.page c.from.ensures c.get_u16-next.ensures.value c.from-end.ensures c.requires.keep c.requires.room.0 c.requires.room.1
    c.put_slice.ensures c.get_u16-next.ensures.fits c.put_u16.ensures.bytes).1

pub returns-clause-tail : goal.returns-clause-tail
returns-clause-tail c = ap behind_slots c.put_u16-2.ensures.bytes ∙ tail_put c.args.from.now 18 2 (c.args.keep + 2) (omega arith) c.requires.page

pub returns-clause-page : goal.returns-clause-page
returns-clause-page c = subst IsLaidOut (sym c.put_u16-2.ensures.bytes) (cut_laid_out c.args.from.now c.args.keep c.requires.page c.requires.keep c.put_u16-2.ensures.fits)
