-- What the walk's end gives.
use Rattle.std.proofs.Common.{Ok}
use Rattle.jfs_disk.specs.Image.{page_of}
use Rattle.jfs_xtree.specs.Node.{xt_scale}
use Rattle.jfs_owners.specs.objects.specs.Objects.{extents_of}
use Rattle.jfs_owners.specs.meaning.specs.Readers.{readers}
use Rattle.jfs_owners.specs.findings.specs.declared.finding.FindingKind.TheVariants as kinds
use Rattle.jfs_object_check.proofs.Found.{settled}
use Rattle.jfs_object_check.proofs.trees.check_extents.Goals as goal

pub returns-else-sound-clause-found : goal.returns-else-sound-clause-found
returns-else-sound-clause-found g c = λ tells. settled xt_scale (extents_of (readers (g.V.PageView.block_count c.args.view.now)) (page_of (g.V.PageView.image c.args.view.now)) c.args.inode.now) kinds.Xtree c.args.at c.args.findings.now.items c.settle.new.findings.items
    c.walk_extents-answer.result (Ok c.in_ok-sound.sound) (c.walk_extents-answer.ensures.ends tells) c.in_ok-sound.ensures.settles
