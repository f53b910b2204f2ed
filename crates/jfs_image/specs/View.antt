-- What a view of pages in memory shows.
use Rattle.std.specs.Prelude.{ℕ}
use Rattle.jfs_disk.specs.Image.{Image}
use Rattle.jfs_disk.specs.Pages.{contents}
use Rattle.jfs_image.specs.declared.view.ListView.{ListView}

-- all its pages, also those behind the file system part
abbrev pub image_of : ListView → Image
image_of view = contents view.pages.now

-- the number of blocks of the file system part
abbrev pub blocks_in : ListView → ℕ
blocks_in view = view.blocks
