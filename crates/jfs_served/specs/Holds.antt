-- A mounted volume that holds a file tree.
use Rattle.std.specs.Prelude.{◌≡◌, ◌≤◌, ◌^◌, ℕ, length}
use Rattle.std.specs.List.{AllByRecursion}
use Rattle.jfs_disk.specs.Image.{page_of}
use Rattle.jfs_super.specs.Geometry.{file_limit_of}
use Rattle.jfs_super.specs.declared.fields.Super.{Super}
use Rattle.jfs_shown.specs.Files.{KnowsFiles}
use Rattle.jfs_shown.specs.bmap.specs.States.{Blocks, Busy, state_of}
use Rattle.jfs_shown.specs.objects.specs.Volume.{Volume}
use Rattle.jfs_shown.specs.meaning.specs.Readers.{readers}
use Rattle.jfs_shown.specs.meaning.specs.Tree.{tree_on}
use Rattle.jfs_shown.specs.meaning.specs.Room.{room_on}
use Rattle.jfs_shown.specs.meaning.specs.Consistent.{IsConsistent}
use Rattle.jfs_shown.specs.way.specs.Volume.{PlacesWithin}
use Rattle.jfs_room.specs.Laws.{NoneReserved}
use Rattle.jfs_alike.specs.Alike.{AreAlike}
use Rattle.jfs_entered.specs.Marked.{HasBits}
use Rattle.jfs_call.specs.files.specs.Outcome.{volume_in}
use Rattle.jfs_call.specs.volume.specs.Asked.{maps_in}
use Rattle.jfs_call.specs.volume.specs.MapsHome.{HoldsNone}
use Rattle.jfs_call.specs.halves.specs.Parts.{Parts}
use Rattle.jfs_call.specs.halves.specs.declared.freed.FreedPage.{FreedPage}
use Rattle.jfs_call.specs.plain.specs.Moves.{Same}
use Rattle.jfs_call.specs.plain.specs.Step.{Room}
use Rattle.jfs_call.specs.plain.specs.Tree.{Tree}

-- the number of blocks of its file system part
abbrev pub blocks_at : Parts → ℕ
blocks_at p = length p.map.states

-- the volume that its pages and its maps are, where `area` says which blocks are fixed
abbrev pub volume_at : (ℕ → ℕ) → Parts → Volume
volume_at area p = volume_in (page_of p.view) area (maps_in p)

abbrev pub tree_at : (ℕ → ℕ) → Parts → Tree
tree_at area p = tree_on (readers (blocks_at p)) (volume_at area p)

-- its room, where the log has so many pages
abbrev pub room_at : (ℕ → ℕ) → ℕ → Parts → Room
room_at area log_pages p = room_on (readers (blocks_at p)) (volume_at area p) (blocks_at p) log_pages

-- the block of a page that an entry freed is busy for that entry
abbrev pub IsBusyPage : Blocks → FreedPage → Type 0
IsBusyPage map f = state_of map f.page ≡ Busy f.by_entry

-- Its pages and maps are a consistent volume.
pub record HoldsTree (area : ℕ → ℕ) (log_pages : ℕ) (p : Parts) : Type 0 where
  pub consistent : IsConsistent (readers (blocks_at p)) (volume_at area p)
  pub limit : p.limit ≡ file_limit_of log_pages
  pub within : blocks_at p ≤ p.blocks
  -- inode extents lie within it, with no more places for them than numbers of inodes allow
  pub places : PlacesWithin (blocks_at p) p.inodes
  pub few : length p.inodes.extents ≤ 2 ^ 27
  pub bits : HasBits p.inodes
  -- Neither a page that an entry freed is an object's, nor a page of a map: its block is busy, or a fixed area.
  pub freed : AllByRecursion (IsBusyPage p.map) p.freed
  pub areas : (b : ℕ) → area b ≡ 0 → HoldsNone p.files b

-- Between calls no block is reserved.
pub record MayServe (area : ℕ → ℕ) (log_pages : ℕ) (p : Parts) : Type 0 where
  pub holds : HoldsTree area log_pages p
  pub none : NoneReserved p.map

-- whoever knew all of the maps' files still does
abbrev pub KeepsFiles : (ℕ → ℕ) → Parts → Parts → Type 0
KeepsFiles area old new = (s : Super) → KnowsFiles s (page_of old.view) area old.map old.inodes old.files → KnowsFiles s (page_of new.view) area new.map new.inodes new.files

-- It goes on holding the tree: what matters of the volume stays.
pub record KeepsTree (area : ℕ → ℕ) (log_pages : ℕ) (old new : Parts) : Type 0 where
  pub holds : HoldsTree area log_pages new
  pub alike : AreAlike (volume_at area old) (volume_at area new)
  pub tree : Same (tree_at area old) (tree_at area new)
  pub room : room_at area log_pages new ≡ room_at area log_pages old
  pub files : KeepsFiles area old new

-- and the next call may come where it could
pub record StaysServing (area : ℕ → ℕ) (log_pages : ℕ) (old new : Parts) : Type 0 where
  pub keeps : KeepsTree area log_pages old new
  pub none : NoneReserved old.map → NoneReserved new.map
