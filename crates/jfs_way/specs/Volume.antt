-- The volume that a view's pages and the two maps in memory are.
use Rattle.std.specs.Prelude.{◌≡◌, ◌≤◌, ◌+◌, ℕ, true, ◌&&◌, nat_lt, List, map, length}
use Rattle.jfs_iag.specs.Canonical.{is_there}
use Rattle.jfs_imap.specs.Inodes.{Inodes, is_used, extent_at}
use Rattle.jfs_bmap.specs.States.{Blocks, is_owned}
use Rattle.jfs_reader.specs.objects.specs.Image.{extent_place}
use Rattle.jfs_reader.specs.objects.specs.Volume.{Volume}

-- `area` says which blocks are fixed; what the calls do doesn't depend on it. A block past the end has no owner, though the map counts it as owned.
abbrev pub volume_of : (ℕ → List ℕ) → (ℕ → ℕ) → Blocks → Inodes → Volume
volume_of page area blocks inodes = record {
  page = page;
  extents = map extent_place inodes.extents;
  area = area;
  used = λ b. nat_lt b (length blocks.states) && is_owned blocks b;
  in_use = is_used inodes;
}

-- each inode extent that is there lies within the file system part
abbrev pub PlacesWithin : ℕ → Inodes → Type 0
PlacesWithin blocks inodes = (e : ℕ) → is_there (extent_at inodes e) ≡ true → (extent_at inodes e).addr + 4 ≤ blocks
