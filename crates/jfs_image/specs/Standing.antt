-- What a number leads to, as it was read.
use Rattle.std.specs.Prelude.{◌≡◌, ◌≤◌, ℕ, ◌%◌, true, false, List, Option, Some, None, Result, Ok, Err}
use Rattle.jfs_disk.specs.Image.{Image, page_of}
use Rattle.jfs_inode.specs.declared.fields.Dinode.{Dinode}
use Rattle.jfs_super.specs.Rules.{blocks_of}
use Rattle.jfs_reader.specs.objects.specs.Readers.{Readers}
use Rattle.jfs_reader.specs.objects.specs.Volume.{home, slot_of}
use Rattle.jfs_reader.specs.objects.specs.Objects as objects
use Rattle.jfs_reader.specs.objects.specs.Objects.{is_live, spelled}
use Rattle.jfs_reader.specs.meaning.specs.Readers.{readers}
use Rattle.jfs_reader.specs.Map.{IsInodeMap}
use Rattle.jfs_reader.specs.declared.map.InodeMap.{InodeMap}
use Rattle.jfs_reader.specs.declared.error.ReadError.{ReadError}
use Rattle.jfs_reader.specs.declared.error.ReadError.TheVariants.{View, Outside}
use Rattle.jfs_owners.specs.mount_rules.specs.Subject.{object, volume}
use Rattle.jfs_image.specs.Image.{HasTree, super_on, subject_on}
use Rattle.jfs_image.specs.View.{image_of, blocks_in}
use Rattle.jfs_image.specs.Held.{IsHeld, Breaks}
use Rattle.jfs_image.specs.declared.view.ListView.{ListView}
use Rattle.jfs_image.specs.declared.standing.Standing.{Standing}
use Rattle.jfs_image.specs.declared.standing.Standing.TheVariants as standing

-- The view has as many blocks as the superblock says, and the map is the inode map that stands on its pages.
pub record IsReady (view : ListView) (map : InodeMap) : Type 0 where
  pub blocks_are : blocks_of (super_on (image_of view)) ≡ blocks_in view
  pub map_is : IsInodeMap (readers (blocks_in view)) (page_of (image_of view)) map

-- inode `n` of a page that is one of the file system part
abbrev pub ReadsInode : Image → ℕ → ℕ → ℕ → Result (Option Dinode) ReadError → Type 0
ReadsInode image blocks page n (Ok None) = ⊥
ReadsInode image blocks page n (Ok (Some d)) = slot_of (page_of image page) (n % 8) ≡ d
ReadsInode image blocks page n (Err (View e)) = Unit {0}
ReadsInode image blocks page n (Err Outside) = blocks ≤ page

-- the inode of a number, where its extent is there; it is past the blocks only where the image has no tree
abbrev pub InodeIs : Image → ℕ → Result (Option Dinode) ReadError → Type 0
InodeIs image n (Ok None) = home (volume (subject_on image)).extents n ≡ None
InodeIs image n (Ok (Some d)) = (p : ℕ) × (home (volume (subject_on image)).extents n ≡ Some p) × (slot_of (page_of image p) (n % 8) ≡ d)
InodeIs image n (Err (View e)) = Unit {0}
InodeIs image n (Err Outside) = HasTree image → ⊥

-- an inode that isn't in use, an object, or one that breaks a rule
abbrev pub StandsAs : Readers → (ℕ → List ℕ) → ℕ → Dinode → Standing → Type 0
StandsAs r page n d standing.Free = is_live n d ≡ false
StandsAs r page n d (standing.Object held) = (is_live n d ≡ true) × IsHeld r page n (spelled r page d) held.node held.bytes.items
StandsAs r page n d standing.Broken = (is_live n d ≡ true) × Breaks r n (spelled r page d)

-- what stands at a number of the image
abbrev pub Stands : Image → ℕ → Standing → Type 0
Stands image n standing.Free = object (subject_on image) n ≡ None
Stands image n (standing.Object held) = (o : objects.Object) × (object (subject_on image) n ≡ Some o) × IsHeld (subject_on image).readers (page_of image) n o held.node held.bytes.items
Stands image n standing.Broken = HasTree image → ⊥
