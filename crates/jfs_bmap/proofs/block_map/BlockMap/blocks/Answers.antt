use Rattle.std.proofs.Common.{sym, ◌∙◌}
use Rattle.jfs_bmap.proofs.Opened.{size-is}
use Rattle.jfs_bmap.proofs.block_map.BlockMap.blocks.Goals as goal

pub returns-clause-value : goal.returns-clause-value
returns-clause-value c = c.blocks-2.ensures.value ∙ sym (size-is c.self.inside c.args.self.now c.self.view_is)
