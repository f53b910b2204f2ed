use Rattle.jfs_command.proofs.Printing.{front_before, front_after}
use Rattle.jfs_command.proofs.print.put_both.Goals as goal

pub returns-in_err-put_all-clause-front : goal.returns-in_err-put_all-clause-front
returns-in_err-put_all-clause-front g c =
    let k = g.K.Sink in
    front_before k.tells (k.taken c.args.out.now) (k.taken c.put_all.new.out) c.args.text.now c.args.line.now c.put_all.ensures.front

pub returns-clause-front : goal.returns-clause-front
returns-clause-front g c =
    let k = g.K.Sink in
    front_after k.tells (k.taken c.args.out.now) (k.taken c.put_all.new.out) (k.taken c.put_all-2.new.out) c.args.text.now c.args.line.now c.in_ok-put_all.ensures.all c.put_all-2.ensures.front
