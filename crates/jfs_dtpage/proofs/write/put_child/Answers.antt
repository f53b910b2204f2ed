use Rattle.jfs_bits.specs.Descriptor.{pxd_bytes}
use Rattle.jfs_bits.proofs.Descriptors.{length-pxd_bytes}
use Rattle.jfs_dtpage.proofs.Kept.{kept_put}
use Rattle.jfs_dtpage.proofs.write.put_child.Goals as goal

pub returns-clause-kept : goal.returns-clause-kept
returns-clause-kept c = kept_put c.args.at 8 (pxd_bytes c.args.value) c.args.bytes.now c.put_pxd.new.bytes (length-pxd_bytes c.args.value) c.requires.within c.put_pxd.ensures.bytes
