use Rattle.std.proofs.Common.{◌∙◌, sym}
use Rattle.jfs_disk.specs.Image.{page_of}
use Rattle.jfs_reader.specs.objects.specs.Image.{extent_on}
use Rattle.jfs_reader.specs.meaning.specs.Readers.{readers}
use Rattle.jfs_image.specs.View.{image_of, blocks_in}
use Rattle.jfs_image.proofs.Counting.{extent_counted, none_counted}
use Rattle.jfs_image.proofs.area.count_extent.Goals as goal

pub returns-in-Some : goal.returns-in-Some
returns-in-Some c =
    extent_counted (extent_on (readers (blocks_in c.args.view.now)) (page_of (image_of c.args.view.now)) c.args.e) c.in-Some.addr c.args.owners.now c.add.new.self (sym c.in-Some.is ∙ c.in_ok-addr.ensures) c.add.ensures

pub returns-in-None : goal.returns-in-None
returns-in-None c = none_counted (extent_on (readers (blocks_in c.args.view.now)) (page_of (image_of c.args.view.now)) c.args.e) c.args.owners.now (sym c.in-None.is ∙ c.in_ok-addr.ensures)
