use Rattle.jfs_map_rows.proofs.Stays.{none-reserved}
use Rattle.jfs_map_rows.proofs.slow_calls.let_go_both.Goals as goal

pub returns : goal.returns
returns c = rw c.new.ensures (none-reserved c.if-owned.map)
