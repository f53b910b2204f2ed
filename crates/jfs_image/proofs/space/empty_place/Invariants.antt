use Rattle.std.proofs.Common.{◌≡◌, ◌<◌, ℕ, not, false, is_some}
use Rattle.jfs_disk.specs.Image.{page_of}
use Rattle.jfs_reader.specs.objects.specs.Image.{extent_on}
use Rattle.jfs_reader.specs.meaning.specs.Readers.{readers}
use Rattle.jfs_image.specs.View.{image_of, blocks_in}
use Rattle.jfs_image.proofs.space.empty_place.Given as goal

abbrev pub invariant-loop-e : goal.invariant-loop-e
invariant-loop-e l = (k : ℕ) → k < l.e → not (is_some (extent_on (readers (blocks_in l.view)) (page_of (image_of l.view)) k)) ≡ false
