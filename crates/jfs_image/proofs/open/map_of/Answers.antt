use Rattle.std.proofs.Common.{subst}
use Rattle.jfs_disk.specs.Image.{page_of}
use Rattle.jfs_reader.specs.objects.specs.Contents.{block_of}
use Rattle.jfs_reader.specs.Reading.{OutsideIsPast}
use Rattle.jfs_image.specs.View.{image_of, blocks_in}
use Rattle.jfs_image.proofs.Opening.{never_outside}
use Rattle.jfs_image.proofs.open.map_of.Goals as goal

pub unreachable-requires : goal.unreachable-requires
unreachable-requires c =
    never_outside (blocks_in c.args.view.now) (page_of (image_of c.args.view.now)) c.in_ok-extents.extents 0 c.in_ok-extents.ensures
    (subst (OutsideIsPast (blocks_in c.args.view.now) (block_of c.in_ok-extents.extents 0)) c.in-Err-Outside.field-0-is c.in-Err-Outside.ensures.outside)
