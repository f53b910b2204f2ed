use Rattle.std.proofs.Common.{◌∙◌, sym, length}
use Rattle.jfs_link_check.proofs.Named.{once_is}
use Rattle.jfs_link_check.proofs.counts.NameCounts.is_named_once_by.Goals as goal

pub returns-then-count-eq1 : goal.returns-then-count-eq1
returns-then-count-eq1 c names is past =
    once_is (length c.args.self.now.counts) names c.args.self.now is c.args.n c.requires c.args.parent c.namer.result past (sym c.count.ensures ∙ c.if-count-eq1.true) c.namer.ensures
