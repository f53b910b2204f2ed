use Rattle.jfs_xtree.proofs.Placing.{behind_last}
use Rattle.jfs_xtree.proofs.place.place_of.Goals as goal

pub returns-in-Some-clause-place : goal.returns-in-Some-clause-place
returns-in-Some-clause-place c = λ rising. behind_last c.args.bytes.now c.args.offset c.in-Some.i rising (c.in-Some.ensures.last rising)
