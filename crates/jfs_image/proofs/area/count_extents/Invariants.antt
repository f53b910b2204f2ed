use Rattle.jfs_disk.specs.Image.{page_of}
use Rattle.jfs_reader.specs.meaning.specs.Readers.{readers}
use Rattle.jfs_owners.specs.Counts.{Adds}
use Rattle.jfs_image.specs.View.{image_of, blocks_in}
use Rattle.jfs_image.proofs.Counting.{have_first}
use Rattle.jfs_image.proofs.area.count_extents.Given as goal

abbrev pub invariant-loop-e : goal.invariant-loop-e
invariant-loop-e l = Adds (have_first (readers (blocks_in l.view)) (page_of (image_of l.view)) l.e) l.fn.owners l.owners
