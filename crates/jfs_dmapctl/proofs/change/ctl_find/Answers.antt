use Rattle.std.proofs.Common.{◌≡◌, ◌+◌, ◌∙◌, ℕ, ap}
use Rattle.jfs_buddy.proofs.Parts.{part-is}
use Rattle.jfs_dmapctl.specs.Control.{whole_of}
use Rattle.jfs_dmapctl.proofs.change.ctl_find.Goals as goal

pub find_run-requires-clause-inner : goal.find_run-requires-clause-inner
find_run-requires-clause-inner c = rw (part-is c.args.page.now.0 17 1365) c.requires.1.1.tree.inner

pub returns-clause-found : goal.returns-clause-found
returns-clause-found c level own t small =
    let whole : c.get_u8-whole.result + 1 ≡ whole_of level + 1 = ap (λ (z : ℕ). z + 1) (c.get_u8-whole.ensures.value ∙ t.whole) in
    rw whole at (c.find_run.ensures own) (rw (part-is c.args.page.now.0 17 1365) t.tree)
