use Rattle.std.proofs.Common.{arith}
use Rattle.jfs_disk.specs.Image.{page_of}
use Rattle.jfs_super.specs.Rules.{blocks_of}
use Rattle.jfs_mount.specs.Subject.{subject_of}
use Rattle.jfs_sets.proofs.Files.{blocks-read}
use Rattle.jfs_sets.proofs.sets.used_blocks.Goals as goal

pub returns-clause-used : goal.returns-clause-used
returns-clause-used g c = λ tells. blocks-read (g.V.PageView.image c.args.view.now) c.args.maps.now c.div_ceil-dmaps.result c.read_parts.result (omega (arith, c.div_ceil-dmaps.ensures)) (rw c.as_slice.ensures at (c.read_parts.ensures.parts tells))
