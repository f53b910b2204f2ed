use Rattle.jfs_link_check.proofs.Counted.{none_counted}
use Rattle.jfs_link_check.proofs.counts.NameCounts.new.Goals as goal

pub returns : goal.returns
returns c names = none_counted c.args.most names _ c.in_ok-counts.ensures
