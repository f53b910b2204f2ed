-- What the walk's end gives.
use Rattle.std.proofs.Common.{Ok}
use Rattle.jfs_disk.specs.Image.{page_of}
use Rattle.jfs_dtree.specs.Node.{name_scale}
use Rattle.jfs_owners.specs.objects.specs.Objects.{names_of}
use Rattle.jfs_owners.specs.meaning.specs.Readers.{readers}
use Rattle.jfs_owners.specs.findings.specs.declared.finding.FindingKind.TheVariants as kinds
use Rattle.jfs_object_check.proofs.Found.{settled}
use Rattle.jfs_object_check.proofs.trees.check_names.Goals as goal

pub returns-else-sound-clause-found : goal.returns-else-sound-clause-found
returns-else-sound-clause-found g c = λ tells. settled name_scale (names_of (readers (g.V.PageView.block_count c.args.view.now)) (page_of (g.V.PageView.image c.args.view.now)) c.args.inode.now) kinds.Dtree c.args.at c.args.findings.now.items c.settle.new.findings.items
    c.walk_names-answer.result (Ok c.in_ok-sound.sound) (c.walk_names-answer.ensures.ends tells) c.in_ok-sound.ensures.settles
