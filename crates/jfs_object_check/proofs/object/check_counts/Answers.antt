-- Four findings' conditions.
use Rattle.std.proofs.Common.{◌≡◌, true, subst}
use Rattle.std.specs.Prelude.{OnOk}
use Rattle.jfs_owners.specs.findings.specs.Gains.{Gains}
use Rattle.jfs_owners.specs.findings.specs.declared.finding.FindingKind.TheVariants as kinds
use Rattle.jfs_object_check.specs.Steps.{Only}
use Rattle.jfs_owners.specs.findings.specs.Inodes.{attribute_blocks}
use Rattle.jfs_object_check.specs.Tally.{less, is_met}
use Rattle.jfs_object_check.proofs.Every.{counts_found}
use Rattle.jfs_object_check.proofs.object.check_counts.Goals as goal

pub returns : goal.returns
returns c = record {
  found = λ fits. counts_found c.args.blocks c.args.n c.args.at c.args.inode.now (is_met (less (less c.args.tally.left (attribute_blocks c.args.inode.now.acl)) (attribute_blocks c.args.inode.now.ea))) c.args.tally.past
      c.miscounts-wrong.result c.miscounts-wrong.ensures c.note_if-2.new.findings.items c.note_if-2.result (c.in_ok-check_run.ensures.found fits.acl) (c.in_ok-check_run-2.ensures.found fits.ea)
      (subst (λ v. Gains (Only kinds.Nblocks c.args.at v (c.miscounts-wrong.result ≡ true)) c.check_run-2.new.findings.items c.note_if.new.findings.items) c.from.ensures c.in_ok-note_if.ensures.found)
      (subst (λ v. OnOk c.note_if-2.result (Gains (Only kinds.Past c.args.at v (c.args.tally.past ≡ true)) c.note_if.new.findings.items c.note_if-2.new.findings.items)) c.from-2.ensures c.note_if-2.ensures.found);
}
