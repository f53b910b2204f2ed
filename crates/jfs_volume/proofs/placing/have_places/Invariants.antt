use Rattle.std.proofs.Common.{◌≡◌, length, drop}
use Rattle.jfs_marks.specs.data_steps.specs.After.{LieWithin}
use Rattle.jfs_volume.specs.Called.{have_places}
use Rattle.jfs_volume.proofs.placing.have_places.Given as goal

abbrev pub invariant-loop-page : goal.invariant-loop-page
invariant-loop-page l = record {
  left : have_places l.blocks l.taken (drop l.page-index l.pages) ≡ have_places l.blocks l.taken l.pages;
  lie : LieWithin (length l.blocks.states) (drop l.page-index l.pages);
}
