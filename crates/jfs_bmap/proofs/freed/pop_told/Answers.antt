use Rattle.std.proofs.lemmas.List.Sorted.{IsPermutation-map}
use Rattle.jfs_bmap.proofs.Heaps.{all-later}
use Rattle.jfs_bmap.proofs.freed.pop_told.Goals as goal

pub returns-then-branch-told-clause-none : goal.returns-then-branch-told-clause-none
returns-then-branch-told-clause-none c = all-later c.args.told c.in_ok-peek.field-0.now (c.args.freed.now.data.items) c.if-branch-told.true (c.in_ok-peek.ensures.greatest c.requires)

pub returns-clause-others : goal.returns-clause-others
returns-clause-others c = IsPermutation-map (λ r. r.0) _ _ c.in_ok-run.ensures.permutation
