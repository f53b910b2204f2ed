use Rattle.std.proofs.Common.{◌+◌, ◌*◌, ◌∙◌, sym, arith}
use Rattle.jfs_iag.proofs.Maps.{zeros-clear}
use Rattle.jfs_format.proofs.Maps.{none-behind}
use Rattle.jfs_format.proofs.inode_map.set_of.Goals as goal

pub mark-requires-clause-empty : goal.mark-requires-clause-empty
mark-requires-clause-empty c i = zeros-clear 512 i

pub returns-else-k-eq0 : goal.returns-else-k-eq0
returns-else-k-eq0 c i most = zeros-clear 512 i ∙ sym (none-behind c.args.table (4096 * c.args.k + i) (omega (arith, c.if-k-eq0.false)))
