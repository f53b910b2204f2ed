use Rattle.std.proofs.Common.{◌-◌}
use Rattle.jfs_ways.proofs.along.+look_from.Given as goal

abbrev pub decreases-look_from : goal.decreases-look_from
decreases-look_from g l = l.end - l.at
