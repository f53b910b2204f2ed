-- The steps, over views that keep their pages.
use Rattle.std.proofs.Common.{◌≡◌, true, ap, ◌∙◌, subst}
use Rattle.jfs_disk.specs.Image.{page_of}
use Rattle.jfs_owners.specs.findings.specs.Gains.{Gains}
use Rattle.jfs_owners.specs.findings.specs.declared.finding.FindingKind.TheVariants as kinds
use Rattle.jfs_object_check.specs.Steps.{Only}
use Rattle.jfs_object_check.proofs.Every.{object_seen}
use Rattle.jfs_object_check.proofs.object.check_object.Goals as goal

pub returns-in-Ok-check_counts-clause-found : goal.returns-in-Ok-check_counts-clause-found
returns-in-Ok-check_counts-clause-found g c = λ tells fits.
    let i1 = c.check_names.ensures.image tells in
    let n1 = c.check_names.ensures.count_of_blocks in
    let n2 = c.check_extents.ensures.count_of_blocks in
    object_seen (g.V.PageView.block_count c.args.view.now) (g.V.PageView.block_count c.check_names.new.view) c.blocks-blocks.result
    (page_of (g.V.PageView.image c.args.view.now)) (page_of (g.V.PageView.image c.check_names.new.view))
    c.args.n c.args.at c.args.inode.now c.of-tally.result c.check_names.new.tally c.check_extents.new.tally c.breaks_rule-breaks.result
    n1 (ap page_of i1) (c.blocks-blocks.ensures ∙ n2 ∙ n1) c.of-tally.ensures c.breaks_rule-breaks.ensures
    (c.in_ok-names.ensures.counted tells) (c.in_ok-extents.ensures.counted tells)
    (subst (λ v. Gains (Only kinds.Inode c.args.at v (c.breaks_rule-breaks.result ≡ true)) c.args.findings.now.items c.note_if.new.findings.items) c.from.ensures c.in-Ok.ensures.found) (c.in_ok-names.ensures.found tells) (c.in_ok-extents.ensures.found tells) (c.in-Ok-check_counts.ensures.found fits)
