use Rattle.std.proofs.Common.{◌≡◌, drop}
use Rattle.jfs_volume.specs.Called.{are_clean}
use Rattle.jfs_volume.proofs.volume.Volume.are_clean.Given as goal

abbrev pub invariant-loop-page : goal.invariant-loop-page
invariant-loop-page g l = are_clean (drop l.page-index l.pages) l.self.dirty ≡ are_clean l.pages l.self.dirty
