use Rattle.std.proofs.Common.{◌+◌, arith}
use Rattle.jfs_buddy.proofs.Ranks.{leaf-root, room-below, descends}
use Rattle.jfs_buddy.proofs.tree.find_leaf.Goals as goal

pub returns-then-rank-least : goal.returns-then-rank-least
returns-then-rank-least c v h = omega (arith, leaf-root c.args.height c.args.tree.now c.requires.size c.requires.inner v h)

pub first_fitting-n-requires : goal.first_fitting-n-requires
first_fitting-n-requires c = room-below c.args.height _ c.loop-depth.depth c.loop-depth.n c.requires.size c.loop-depth-test.true c.loop-depth.invariant.within

pub loop-depth-preserved : goal.loop-depth-preserved
loop-depth-preserved c =
    let i = c.loop-depth.invariant in
    let s = descends c.args.height c.args.tree.now c.args.least c.loop-depth.n c.first_fitting-n.result c.loop-depth.depth (c.loop-depth.depth + 1) (omega arith) c.requires.size c.requires.inner c.loop-depth-test.true i.level i.within i.fits i.left c.first_fitting-n.ensures in
    record { level = s.0; within = s.1; fits = s.2; left = s.3 }
