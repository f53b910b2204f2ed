use Rattle.std.proofs.Common.{◌≡◌, ◌∙◌, ap, sym, subst, List, Option, ℕ, length, None}
use Rattle.jfs_disk.specs.Image.{Image, page_of}
use Rattle.jfs_super.specs.Rules.{blocks_of}
use Rattle.jfs_findings.specs.meaning.specs.Readers.{readers}
use Rattle.jfs_findings.specs.mount_rules.specs.Mount.{broken_mount}
use Rattle.jfs_findings.specs.mount_rules.specs.Subject.{subject_of, volume}
use Rattle.jfs_findings.specs.Gains.{Gains}
use Rattle.jfs_findings.specs.declared.finding.Finding.{Finding}
use Rattle.jfs_link_check.specs.object_check.specs.Laws.{IsOfFile}
use Rattle.jfs_link_check.specs.owners.specs.Counts.{Counts}
use Rattle.jfs_link_check.specs.owners.specs.Held.{owned_below}
use Rattle.jfs_link_check.specs.Notes.{AreNoted}
use Rattle.jfs_check.proofs.Wholly.{looked_all, noted_all}
use Rattle.jfs_check.proofs.whole.look_at_all.Goals as goal

pub returns-clause-looked : goal.returns-clause-looked
returns-clause-looked g c tells m =
    let s = c.args.s.now in
    let image = g.V.PageView.image c.args.view.now in
    let uses = c.in_ok-uses.ensures in
    let fixed = c.in_ok-count_fixed.ensures in
    let value = c.as_slice-places.ensures.value in
    let at = value ∙ m.2 in
    let counts = subst (λ (i : Image). (broken_mount (subject_of s (page_of i)) ≡ None → c.as_slice-places.result.now ≡ (volume (subject_of s (page_of i))).extents
    → Counts c.count_fixed.new.owners (owned_below (readers (blocks_of s)) (volume (subject_of s (page_of i))) 0))) (uses.image tells) (fixed.counts tells c.in-Ok.ensures.counts) m.1 at in
    let gains = subst (λ (xs : List Finding). Gains (IsOfFile (subject_of s (page_of image))) xs c.count_fixed.new.findings.items) c.in-Ok.ensures.findings
    (subst (λ (i : Image). (broken_mount (subject_of s (page_of i)) ≡ None → Gains (IsOfFile (subject_of s (page_of i))) c.in-Ok.look.findings.items c.count_fixed.new.findings.items)) (uses.image tells) (fixed.found tells) m.1) in
    looked_all s image c.args.mounted.now.maps.inodes m.0.inodes (g.V.PageView.block_count c.count_fixed.new.view) (g.V.PageView.image c.count_fixed.new.view) c.as_slice-places.result.now _ c.each_inode.new.visitor
    (fixed.count_of_blocks ∙ uses.count_of_blocks ∙ sym c.requires.part) (fixed.image tells ∙ uses.image tells) at (ap (λ (ps : List (Option ℕ)). length ps) value ∙ c.requires.mounted.all) counts c.in-Ok.ensures.used gains (c.in_ok-each_inode.ensures.visits tells)

pub returns-clause-noted : goal.returns-clause-noted
returns-clause-noted g c tells =
    let uses = c.in_ok-uses.ensures in
    let fixed = c.in_ok-count_fixed.ensures in
    subst (λ (ps : List (Option ℕ)). AreNoted (g.V.PageView.block_count c.args.view.now) (page_of (g.V.PageView.image c.args.view.now)) ps c.each_inode.new.visitor.census.names) c.as_slice-places.ensures.value
    (noted_all (g.V.PageView.block_count c.args.view.now) (g.V.PageView.block_count c.count_fixed.new.view) (g.V.PageView.block_count c.uses_of.new.view) (g.V.PageView.image c.args.view.now) (g.V.PageView.image c.count_fixed.new.view) (g.V.PageView.image c.uses_of.new.view)
    c.as_slice-places.result.now c.in_ok-uses.uses _ c.each_inode.new.visitor uses.count_of_blocks (uses.image tells) fixed.count_of_blocks (fixed.image tells) (uses.uses tells) c.in-Ok.ensures.names (c.in_ok-each_inode.ensures.visits tells))
