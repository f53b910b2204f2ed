use Rattle.std.proofs.Common.{refl}
use Rattle.jfs_disk.proofs.Images.{ArePages-set, contents-set}
use Rattle.jfs_disk.proofs.sure.SureDiskDisk.write.Goals as goal

pub invariant_of-self-clause-whole : goal.invariant_of-self-clause-whole
invariant_of-self-clause-whole c =
    rw (contents-set c.args.self.now.pages.items c.args.n c.copy_page.new.into, c.copy_page.ensures.bytes)
    (ArePages-set _ _ c.args.n c.args.from.now.0 c.args.self.now.whole c.copy_page.ensures.size)

pub returns-clause-image : goal.returns-clause-image
returns-clause-image c =
    λ _. rw (contents-set c.args.self.now.pages.items c.args.n c.copy_page.new.into, c.copy_page.ensures.bytes) refl
