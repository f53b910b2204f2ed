-- Positions, page numbers, and how far back a reading reaches.
use Rattle.std.proofs.Common.{arith}
use Rattle.jfs_logpages.specs.Laws.{IsNumberOf, ReachesBack}

pub number_is : IsNumberOf
number_is last size some = omega (arith, some)

pub reaches_back : ReachesBack
reaches_back ring size sync high first within end room reach = omega (arith, within, end, room, reach)
