use Rattle.std.proofs.Common.{arith}
use Rattle.jfs_logpages.proofs.Ends.{last_end-within}
use Rattle.jfs_logpages.proofs.page.last_end_of.Goals as goal

pub returns-clause-within : goal.returns-clause-within
returns-clause-within c = omega (arith, c.loop-end.invariant, last_end-within c.args.ends.now c.args.upto)
