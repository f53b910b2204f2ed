use Rattle.std.proofs.Common.{◌≡◌, length}
use Rattle.jfs_map_files.specs.Places.{AreWithin}
use Rattle.jfs_mount_maps.specs.Places.{ArePlacesOf}
use Rattle.jfs_mount_maps.proofs.places.places_in.Given as goal

abbrev pub invariant-loop-j : goal.invariant-loop-j
invariant-loop-j l = (length l.places.items ≡ l.j) × AreWithin l.blocks l.places.items × ArePlacesOf l.extents l.places.items
