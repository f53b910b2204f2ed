use Rattle.std.proofs.Common.{◌≡◌, drop, max}
use Rattle.jfs_logpages.specs.Ring.{last_end}
use Rattle.jfs_logpages.proofs.page.last_end_of.Given as goal

abbrev pub invariant-loop-end : goal.invariant-loop-end
invariant-loop-end l = max l.last (last_end (drop l.end-index l.ends) l.upto) ≡ last_end l.fn.ends l.upto
