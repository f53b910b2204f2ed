use Rattle.jfs_map_rows.proofs.Stays.{none-reserved}
use Rattle.jfs_map_rows.proofs.slow_calls.stay_same.Goals as goal

pub loop-i-init : goal.loop-i-init
loop-i-init c = rw c.new-held.ensures (none-reserved c.args.map.now)

pub step-requires : goal.step-requires
step-requires c = c.loop-i.invariant

pub loop-i-preserved : goal.loop-i-preserved
loop-i-preserved c = c.step.ensures
