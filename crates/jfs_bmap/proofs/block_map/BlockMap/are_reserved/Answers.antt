use Rattle.std.proofs.Common.{sym, ◌∙◌}
use Rattle.std.proofs.lemmas.Bool.{both_ways}
use Rattle.jfs_bmap.proofs.Overlap.{are-held, held-are, apart-are, are-apart}
use Rattle.jfs_bmap.proofs.block_map.BlockMap.are_reserved.Goals as goal

pub returns-then-all_reserved : goal.returns-then-all_reserved
returns-then-all_reserved c =
    let list = c.args.list.now in (
      λ h. record {
        reserved = are-held c.args.self.now list (sym (rw c.as_slice-runs.ensures at c.all_reserved.ensures) ∙ c.if-all_reserved.true);
        once = apart-are list (sym (rw c.as_slice-runs.ensures at c.are_apart.ensures) ∙ h);
      },
      λ r. (rw c.as_slice-runs.ensures at c.are_apart.ensures) ∙ are-apart list r.once,
    )

pub returns-else-all_reserved : goal.returns-else-all_reserved
returns-else-all_reserved c =
    let list = c.args.list.now in (
      λ h. absurd (both_ways c.all_reserved.result c.if-all_reserved.false h),
      λ r. (rw c.as_slice-runs.ensures at c.all_reserved.ensures) ∙ held-are c.args.self.now list r.reserved,
    )
