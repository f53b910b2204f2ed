use Rattle.std.proofs.Common.{◌≡◌, ℕ, ◌<◌, length}
use Rattle.jfs_disk.specs.Image.{page_of}
use Rattle.jfs_disk.specs.Pages.{contents}
use Rattle.jfs_image.proofs.view.ListView.new.Given as goal

abbrev pub invariant-loop-page : goal.invariant-loop-page
invariant-loop-page l = (k : ℕ) → k < l.page-index → length (page_of (contents l.pages) k) ≡ 4096
