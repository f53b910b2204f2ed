use Rattle.std.proofs.Common.{◌*◌}
use Rattle.jfs_owners.proofs.Counted.{counts_none}
use Rattle.jfs_owners.proofs.owners.Owners.new.Goals as goal

pub returns-clause-counts : goal.returns-clause-counts
returns-clause-counts c =
    counts_none c.args.blocks c.in_ok-owned.owned.items c.in_ok-shared.shared.items (4 * c.div_ceil.result) (c.in_ok-owned.ensures.items_if_clones_equal (λ y h. h)) (c.in_ok-shared.ensures.items_if_clones_equal (λ y h. h))
