use Rattle.jfs_written.proofs.Sides.{writes_each_side, leaves_other_side}
use Rattle.jfs_written.proofs.law.range_is_written_side_by_side.Goals as goal

pub returns-clause-sides : goal.returns-clause-sides
returns-clause-sides c = writes_each_side

pub returns-clause-other : goal.returns-clause-other
returns-clause-other c = leaves_other_side
