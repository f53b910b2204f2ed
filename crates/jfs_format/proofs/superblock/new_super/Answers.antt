use Rattle.std.proofs.Common.{refl}
use Rattle.jfs_format.specs.Superblock.{new_super}
use Rattle.jfs_format.proofs.superblock.new_super.Goals as goal

pub returns-clause-value : goal.returns-clause-value
unfolding new_super
returns-clause-value c = rw (c.from_bytes.ensures, c.from_bytes-2.ensures, c.from.ensures, c.from-2.ensures, c.from-3.ensures) refl
