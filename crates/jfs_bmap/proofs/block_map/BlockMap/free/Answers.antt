use Rattle.std.proofs.Common.{length, sym, ◌∙◌}
use Rattle.jfs_bmap.specs.States.{state_of}
use Rattle.jfs_bmap.proofs.FreeAndBusy.{counts-most}
use Rattle.jfs_bmap.proofs.Opened.{free-is}
use Rattle.jfs_bmap.proofs.block_map.BlockMap.free.Goals as goal

pub returns-clause-value : goal.returns-clause-value
returns-clause-value c = c.free.ensures ∙ sym (free-is c.self.inside c.args.self.now c.self.view_is c.self.invariant.0)

pub returns-clause-most : goal.returns-clause-most
returns-clause-most c = counts-most (length c.args.self.now.states) (state_of c.args.self.now)
