use Rattle.std.proofs.Common.{arith}
use Rattle.jfs_xtpage.proofs.Header.{more_by_code}
use Rattle.jfs_xtpage.proofs.Tails.{tail_more}
use Rattle.jfs_xtpage.proofs.edit.xt_insert.Goals as goal

pub returns-clause-head : goal.returns-clause-head
returns-clause-head c =
    let full = c.if-next-get_u16.false in let a = c.get_u16-next.ensures.value in let b = c.get_u16.ensures.value in let f = c.get_u16.ensures.fits in
    (more_by_code c.args.bytes.now c.copy_within.new.self c.put_xad.new.bytes c.put_u16.new.bytes c.args.i c.from.result c.get_u16-next.result c.from-end.result c.args.x c.requires.page c.from.ensures c.get_u16-next.ensures.value c.from-end.ensures
    (omega (arith, full, a, b)) (omega (arith, full, f)) c.requires.place c.copy_within.ensures.after c.put_xad.ensures.bytes c.put_xad.ensures.read_back c.put_u16.ensures.bytes).0

pub returns-clause-entries : goal.returns-clause-entries
returns-clause-entries c =
    let full = c.if-next-get_u16.false in let a = c.get_u16-next.ensures.value in let b = c.get_u16.ensures.value in let f = c.get_u16.ensures.fits in
    (more_by_code c.args.bytes.now c.copy_within.new.self c.put_xad.new.bytes c.put_u16.new.bytes c.args.i c.from.result c.get_u16-next.result c.from-end.result c.args.x c.requires.page c.from.ensures c.get_u16-next.ensures.value c.from-end.ensures
    (omega (arith, full, a, b)) (omega (arith, full, f)) c.requires.place c.copy_within.ensures.after c.put_xad.ensures.bytes c.put_xad.ensures.read_back c.put_u16.ensures.bytes).1

pub returns-clause-tail : goal.returns-clause-tail
returns-clause-tail c =
    let full = c.if-next-get_u16.false in let a = c.get_u16-next.ensures.value in let b = c.get_u16.ensures.value in let f = c.get_u16.ensures.fits in
    tail_more c.args.bytes.now c.copy_within.new.self c.put_xad.new.bytes c.put_u16.new.bytes c.args.i c.from.result c.get_u16-next.result c.from-end.result c.args.x c.requires.page c.from.ensures c.get_u16-next.ensures.value c.from-end.ensures
    (omega (arith, full, a, b)) (omega (arith, full, f)) c.requires.place c.copy_within.ensures.after c.put_xad.ensures.bytes c.put_xad.ensures.read_back c.put_u16.ensures.bytes
