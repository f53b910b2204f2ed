use Rattle.std.proofs.Common.{rules, nat_lt}
use Rattle.std.proofs.lemmas.Fn.{filter_same}
use Rattle.jfs_halves.specs.declared.freed.FreedPage.{FreedPage}
use Rattle.jfs_volume.proofs.told.keep_later.Goals as goal

pub returns : goal.returns
returns c = filter_same _ (λ (f : FreedPage). nat_lt c.args.n f.by_entry) _ (λ x b q called. search rules) _ _ c.retain.ensures.filtered
