use Rattle.std.proofs.Common.{subst, List, Option, ℕ}
use Rattle.jfs_disk.specs.Image.{page_of}
use Rattle.jfs_super.specs.Rules.{blocks_of}
use Rattle.jfs_link_check.specs.objects.specs.Owners.{extents_have}
use Rattle.jfs_findings.specs.meaning.specs.Readers.{readers}
use Rattle.jfs_link_check.specs.owners.specs.Counts.{Adds}
use Rattle.jfs_link_check.specs.owners.proofs.Joined.{counts_fixed}
use Rattle.jfs_check.proofs.fresh.count_fixed.Goals as goal

pub returns-clause-counts : goal.returns-clause-counts
returns-clause-counts g c tells none sound at =
    let s = c.args.s.now in
    counts_fixed (readers (blocks_of s)) (blocks_of s) s.ait2 s.aim2 (page_of (g.V.PageView.image c.args.view.now)) c.args.owners.now c.count_area.new.owners c.add_inode_extents.new.self none (c.in_ok-count_area.ensures.held tells sound)
    (subst (λ (ps : List (Option ℕ)). Adds (extents_have ps) c.count_area.new.owners c.add_inode_extents.new.self) at c.add_inode_extents.ensures)
