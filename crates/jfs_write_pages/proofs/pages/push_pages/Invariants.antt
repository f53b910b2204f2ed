use Rattle.std.proofs.Common.{◌≡◌, ◌++◌, drop}
use Rattle.jfs_disk.specs.Image.{page_of}
use Rattle.jfs_data_steps.specs.After.{AreWholePages}
use Rattle.jfs_write_pages.specs.Spots.{AllSpots}
use Rattle.jfs_write_pages.specs.Pages.{told, pages_for}
use Rattle.jfs_write_pages.proofs.pages.push_pages.Given as goal

abbrev pub invariant-loop-spot : goal.invariant-loop-spot
invariant-loop-spot g l = record {
  image : g.V.PageView.tells → g.V.PageView.image l.view ≡ g.V.PageView.image l.initial.view;
  count_of_blocks : g.V.PageView.block_count l.view ≡ g.V.PageView.block_count l.initial.view;
  device : g.V.PageView.device l.view ≡ g.V.PageView.device l.initial.view;
  faults : g.V.PageView.faults l.view ≡ g.V.PageView.faults l.initial.view;
  all : AllSpots (g.V.PageView.block_count l.initial.view) (drop l.spot-index l.spots);
  whole : AreWholePages l.fn.out → AreWholePages l.out;
  pushed : g.V.PageView.tells → told l.out ++ pages_for (page_of (g.V.PageView.image l.initial.view)) l.change.size l.change.offset l.change.bytes.now (drop l.spot-index l.spots)
      ≡ told l.fn.out ++ pages_for (page_of (g.V.PageView.image l.initial.view)) l.change.size l.change.offset l.change.bytes.now l.spots;
}
