use Rattle.std.proofs.Common.{◌+◌, refl, arith}
use Rattle.jfs_disk.specs.Image.{page_of}
use Rattle.jfs_reader.specs.meaning.specs.Readers.{readers}
use Rattle.jfs_image.specs.View.{image_of, blocks_in}
use Rattle.jfs_image.proofs.Counting.{extents_start, extents_next, extents_all}
use Rattle.jfs_image.proofs.area.count_extents.Goals as goal

pub loop-e-init : goal.loop-e-init
loop-e-init c = extents_start (readers (blocks_in c.args.view.now)) (page_of (image_of c.args.view.now)) c.args.owners.now

pub loop-e-preserved : goal.loop-e-preserved
loop-e-preserved c =
    extents_next (readers (blocks_in c.args.view.now)) (page_of (image_of c.args.view.now)) c.loop-e.e (c.loop-e.e + 1) c.args.owners.now c.loop-e.owners c.count_extent.new.owners refl c.loop-e.invariant c.in_ok-count_extent.ensures

pub returns : goal.returns
returns c =
    extents_all (readers (blocks_in c.args.view.now)) (page_of (image_of c.args.view.now)) c.loop-e.e c.args.owners.now c.loop-e.owners
    (let last = c.loop-e-test.false in let most = c.loop-e.auto.e-end in let same = c.requires.ready.map_is.iags in omega (arith, last, most, same)) c.loop-e.invariant
