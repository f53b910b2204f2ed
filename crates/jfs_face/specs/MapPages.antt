-- The pages of both maps, as they follow from what the maps keep and from the inodes. (JFS Layout, block map and inode map.)
use Rattle.std.specs.Prelude.{◌≡◌, ◌≤◌, ℕ, zero, suc, ◌+◌, ◌*◌, ◌/◌, ◌%◌, Bool, true, false, not, ◌&&◌, ◌||◌, nat_lt, List, length, Option, Some, None}
use Rattle.jfs_bits.specs.Bits.{any_below}
use Rattle.jfs_bits.specs.Field.{AreBytes}
use Rattle.jfs_bits.specs.declared.descriptor.Pxd.{Pxd}
use Rattle.jfs_iag.specs.declared.canonical.Links.{Links}
use Rattle.jfs_iag.specs.Canonical.{AreLinks, IsIagPage, IsControlPage}
use Rattle.jfs_steps.specs.bmap.specs.MapFile.{is_in_use, IsMapPage}
use Rattle.jfs_steps.specs.objects.specs.Volume.{page_in, slot_of}
use Rattle.jfs_steps.specs.objects.specs.Objects.{is_live}
use Rattle.jfs_steps.specs.objects.specs.Owners.{extent_has}
use Rattle.jfs_steps.specs.objects.specs.Image.{extent_place}
use Rattle.jfs_recovery.specs.Face.{Item, Value, Pages}
use Rattle.jfs_face.specs.Places.{Places, is_map_page}
use Rattle.jfs_face.specs.Items.{AreItems, used_by, extent_by, places}

-- blocks past the volume's end count as taken
abbrev pub taken_by : Places → (Item → Value) → ℕ → Bool
taken_by pl items b = not (nat_lt b pl.blocks) || used_by items b

-- ---- inodes in use

-- the page of an inode, where its extent is there
abbrev pub home_by : (Item → Value) → ℕ → Option ℕ
home_by items n = page_in (extent_place (extent_by items (n / 32))) n

-- An inode is in use by its link count; one on a map's page, as no sound volume has, isn't.
abbrev pub is_used_on : Places → Pages → ℕ → Option ℕ → Bool
is_used_on pl s n None = false
is_used_on pl s n (Some p) = not (is_map_page pl p) && is_live n (slot_of (s p) (n % 8))

abbrev pub inode_used_by : Places → Pages → (Item → Value) → ℕ → Bool
inode_used_by pl s items n = is_used_on pl s n (home_by items n)

-- one of the pages of inode extents
abbrev pub has_inodes : Places → (Item → Value) → ℕ → Bool
has_inodes pl items q = not (is_map_page pl q) && any_below (places pl) (λ e. nat_lt 0 (extent_has (extent_place (extent_by items e)) q))

-- ---- the pages

-- page `k` of the inode map's file: the control page, then those of the IAGs with the list words that follow
abbrev pub IsInodeMapPage : Places → (ℕ → Bool) → (ℕ → Pxd) → ℕ → List ℕ → Type 0
IsInodeMapPage pl used extent zero page = IsControlPage used extent pl.iags pl.numag page
IsInodeMapPage pl used extent (suc k) page =
    (links : Links) × AreLinks used extent pl.iags pl.numag k links × IsIagPage (λ i. used (4096 * k + i)) (λ e. extent (128 * k + e)) k (k % pl.numag * pl.agsize) links page

-- the canonical bytes of a map's page, by the inodes on these pages and by what the maps keep
pub record IsCanonicalPage (pl : Places) (s : Pages) (items : Item → Value) (p : ℕ) (page : List ℕ) : Type 0 where
  pub size : length page ≡ 4096
  pub bytes : AreBytes page
  pub kept : AreItems pl items
  pub block_map : (k : ℕ) → is_in_use pl.blocks k ≡ true → pl.block_map k ≡ p → IsMapPage pl.blocks pl.agsize (taken_by pl items) k page
  pub inode_map : (k : ℕ) → k ≤ pl.iags → pl.inode_map k ≡ p → IsInodeMapPage pl (inode_used_by pl s items) (extent_by items) k page
