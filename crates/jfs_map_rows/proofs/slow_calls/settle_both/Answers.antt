use Rattle.jfs_map_rows.proofs.Stays.{settled-stays}
use Rattle.jfs_map_rows.proofs.slow_calls.settle_both.Goals as goal

pub returns : goal.returns
returns c = rw c.settle.ensures (settled-stays c.args.told c.args.map.now)
