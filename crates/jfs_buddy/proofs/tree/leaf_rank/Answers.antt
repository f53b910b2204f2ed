use Rattle.std.proofs.Common.{◌≡◌, ◌+◌, ◌/◌, ◌∙◌, ℕ, length, ap, arith}
use Rattle.jfs_buddy.specs.Tree.{first_of, rank_at}
use Rattle.jfs_buddy.proofs.Ranks.{first_of-next}
use Rattle.jfs_buddy.proofs.tree.leaf_rank.Goals as goal

pub rank-requires : goal.rank-requires
rank-requires c = omega (arith, first_of-next c.args.height, c.requires.size)

pub returns-clause-value : goal.returns-clause-value
returns-clause-value c =
    let e : length c.args.tree.now / 4 + c.args.leaf ≡ first_of c.args.height + c.args.leaf = omega (arith, c.requires.size) in
    c.rank.ensures.value ∙ ap (λ (z : ℕ). rank_at c.args.tree.now z) e
