use Rattle.std.proofs.Common.{◌≡◌, drop}
use Rattle.jfs_disk.specs.Image.{Image}
use Rattle.jfs_tree.specs.Draft.{shown}
use Rattle.jfs_tree.proofs.draft.Draft.changed.Given as goal

abbrev pub invariant-loop-drafted : goal.invariant-loop-drafted
invariant-loop-drafted l = (image : Image) → shown (drop l.drafted-index l.self.pages.items) image l.n ≡ shown l.self.pages.items image l.n
