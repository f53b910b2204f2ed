use Rattle.std.proofs.Common.{sym}
use Rattle.jfs_format.specs.Layout.{owned_blocks}
use Rattle.jfs_format.proofs.Blocks.{count-between}
use Rattle.jfs_format.proofs.block_map.free_from.Goals as goal

pub returns-clause-count : goal.returns-clause-count
returns-clause-count c =
    rw (c.saturating_sub.ensures, c.min-end.ensures, c.max.ensures, c.owned.ensures) (sym (count-between (owned_blocks c.args.l) c.args.l.blocks c.args.first c.args.n))
