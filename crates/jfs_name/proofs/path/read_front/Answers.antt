use Rattle.std.proofs.Common.{◌<◌, length, arith}
use Rattle.jfs_name.proofs.Names.{leads_none, leads_more, not_zero}
use Rattle.jfs_name.proofs.path.read_front.Goals as goal

pub loop-at-init : goal.loop-at-init
loop-at-init c =
    let some : 0 < length c.args.text.now = let n = not_zero (length c.args.text.now) c.is_empty.result c.is_empty.ensures c.if-is_empty.false in omega (arith, n) in
    leads_none c.args.text.now c.new-path.result c.new-path.ensures some c.if-text-ne47.false

pub loop-at-preserved : goal.loop-at-preserved
loop-at-preserved c =
    let n = c.in_ok-name.ensures in
    leads_more c.args.text.now c.loop-at.at c.in_ok-name.end c.loop-at.path c.push.new.self c.in_ok-name.name c.loop-at.invariant c.loop-at-test.true n.0 n.1 n.2 n.4 c.in_ok-push.ensures.ok
