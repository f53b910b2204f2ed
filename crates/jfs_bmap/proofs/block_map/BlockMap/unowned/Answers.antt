use Rattle.std.proofs.Common.{sym, ◌∙◌}
use Rattle.jfs_bmap.proofs.Opened.{unowned-is}
use Rattle.jfs_bmap.proofs.block_map.BlockMap.unowned.Goals as goal

pub returns : goal.returns
returns c = c.free.ensures ∙ sym (unowned-is c.self.inside c.args.self.now c.self.view_is c.self.invariant.0)
