-- What each step of a mount finds, of a volume that was read.
use Rattle.std.specs.Prelude.{◌≡◌, ◌≤◌, ◌*◌, ℕ, List, [], ◌∷◌, Option, Some, None, Result, Ok, Err, length}
use Rattle.std.specs.Global.{Vec}
use Rattle.jfs_bits.specs.Broken.{Row, first_broken}
use Rattle.jfs_disk.specs.Image.{Image, page_of}
use Rattle.jfs_super.specs.Rules.{blocks_of}
use Rattle.jfs_super.specs.declared.fields.Super.{Super}
use Rattle.jfs_reader.specs.objects.specs.Volume.{home}
use Rattle.jfs_reader.specs.objects.specs.Image.{file_extents}
use Rattle.jfs_each.specs.Each.{AllFit}
use Rattle.jfs_reader.specs.Map.{IsInodeMap}
use Rattle.jfs_mount.specs.Files.{most_iags}
use Rattle.jfs_mount.specs.Subject.{Subject, subject_of, volume}
use Rattle.jfs_mount.specs.Mount.{BadMount, broken_mount, broken_maps, extents_row, root_row}
use Rattle.jfs_mount.specs.declared.bad.BadMount.{BadMount as Bad}
use Rattle.jfs_mount.specs.declared.maps.Maps.{Maps}
use Rattle.jfs_mount.specs.declared.maps.Mounted.{Mounted}

-- the files of the two maps are as they were read
pub record AreRead (s : Subject) (maps : Maps) : Type 0 where
  pub blocks : blocks_of s.super ≡ maps.blocks
  pub block_map : file_extents s.readers s.page 2 ≡ maps.block_map
  pub inodes : IsInodeMap s.readers s.page maps.inodes

-- the row's answer where it is broken
abbrev pub broken : Row BadMount → Option BadMount
broken r = first_broken (r ∷ [])

-- what these maps' rule says, of each volume with these pages
abbrev pub Finds : (Subject → Row BadMount) → Image → Maps → Option BadMount → Type 0
Finds row image maps bad = (s : Super) → AreRead (subject_of s (page_of image)) maps → bad ≡ broken (row (subject_of s (page_of image)))

-- the places of all inode extents, where each that is there has four blocks of the file system part
abbrev pub PlacesAre : Subject → Result (Vec (Option ℕ)) Bad → Type 0
PlacesAre s (Ok places) = (None ≡ broken (extents_row s)) × (places.items ≡ (volume s).extents)
PlacesAre s (Err bad) = Some bad ≡ broken (extents_row s)

abbrev pub FindsPlaces : Image → Maps → Result (Vec (Option ℕ)) Bad → Type 0
FindsPlaces image maps answer = (s : Super) → AreRead (subject_of s (page_of image)) maps → PlacesAre (subject_of s (page_of image)) answer

-- and the root's rule, by those places
abbrev pub FindsRoot : Image → Maps → List (Option ℕ) → Option BadMount → Type 0
FindsRoot image maps places bad = (s : Super) → AreRead (subject_of s (page_of image)) maps → bad ≡ broken (root_row (subject_of s (page_of image)) (home places 2))

-- and all rules on the maps, which have the places where none is broken
abbrev pub FindsMaps : Image → Maps → Result (Vec (Option ℕ)) Bad → Type 0
FindsMaps image maps (Ok places) = (s : Super) → AreRead (subject_of s (page_of image)) maps → (broken_maps (subject_of s (page_of image)) ≡ None) × (places.items ≡ (volume (subject_of s (page_of image))).extents)
FindsMaps image maps (Err bad) = (s : Super) → AreRead (subject_of s (page_of image)) maps → broken_maps (subject_of s (page_of image)) ≡ Some bad

-- ---- the maps alone

-- Maps and places are given exactly where no rule on them is broken, as they were read; else the first of these that is.
abbrev pub HasMaps : Subject → Result Mounted Bad → Type 0
HasMaps s (Ok m) = AreRead s m.maps × (broken_maps s ≡ None) × (m.places.items ≡ (volume s).extents)
HasMaps s (Err bad) = broken_maps s ≡ Some bad

-- ---- a mount

-- Maps and places are given exactly where no rule is broken, as they were read; else the first broken rule.
abbrev pub Mounts : Subject → Result Mounted Bad → Type 0
Mounts s (Ok m) = AreRead s m.maps × (broken_mount s ≡ None) × (m.places.items ≡ (volume s).extents)
Mounts s (Err bad) = broken_mount s ≡ Some bad

-- what holds on every view: the map has no more pages than inodes can need, there is a place for each of its inode extents, and four blocks lie behind each that is told
pub record IsMounted (count : ℕ) (m : Mounted) : Type 0 where
  pub blocks : m.maps.blocks ≡ count
  pub few : m.maps.inodes.iags ≤ 65536
  pub bounded : m.maps.inodes.iags ≤ most_iags count
  pub all : length m.places.items ≡ 128 * m.maps.inodes.iags
  pub fit : AllFit count m.places.items
