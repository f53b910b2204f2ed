use Rattle.std.proofs.Common.{◌≡◌, length}
use Rattle.jfs_map_files.specs.Places.{AreWithin}
use Rattle.jfs_mounted_rows.proofs.volume.file_at.Given as goal

abbrev pub invariant-loop-n : goal.invariant-loop-n
invariant-loop-n l = (length l.places.items ≡ l.n) × AreWithin 3008 l.places.items
