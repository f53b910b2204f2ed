use Rattle.std.proofs.Common.{arith}
use Rattle.jfs_bmap.proofs.Opened.{size-is, reserve-free, reserve-unheld, reserve-kept, reserve-view}
use Rattle.jfs_bmap.proofs.block_map.BlockMap.hold.Goals as goal

pub mark-requires-clause-within : goal.mark-requires-clause-within
mark-requires-clause-within c = omega (arith, c.requires.within, size-is c.self.inside c.args.self.now c.self.view_is, c.self.invariant.0.held_blocks)

pub mark-requires-clause-free : goal.mark-requires-clause-free
mark-requires-clause-free c = reserve-unheld c.self.inside c.args.self.now c.self.view_is c.self.invariant.0 c.args.first c.args.n c.requires.free

pub mark-requires-2-clause-within : goal.mark-requires-2-clause-within
mark-requires-2-clause-within c = omega (arith, c.requires.within, size-is c.self.inside c.args.self.now c.self.view_is, c.self.invariant.0.used_blocks)

pub mark-requires-2-clause-free : goal.mark-requires-2-clause-free
mark-requires-2-clause-free c = reserve-free c.self.inside c.args.self.now c.self.view_is c.self.invariant.0 c.args.first c.args.n c.requires.free

pub invariant_of-self : goal.invariant_of-self
invariant_of-self c =
    let i = c.self.invariant in
    rw (c.mark.ensures, c.mark-2.ensures) (reserve-kept c.self.inside c.args.self.now c.self.view_is i.0 c.args.first c.args.n c.requires.free, i.1, i.2, i.3)

pub returns : goal.returns
returns c = rw (c.mark.ensures, c.mark-2.ensures) (reserve-view c.self.inside c.args.self.now c.self.view_is c.self.invariant.0 c.args.first c.args.n c.requires.free)
