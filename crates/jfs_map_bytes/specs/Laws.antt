-- For each set there are pages of the maps: these bytes are the canonical ones.
-- What makes a page canonical is said field by field, as it is read: `IsDmap`, `IsControl`, `IsMapControlOf`, `IsIagOf`, `IsGroupOf`, `IsControlOf`. Counts, ranks and greatest runs in it are functions of the set;
-- a tree is one by its leaves and its maxima (`IsBuddyTree`), a map by its bits, and list words by what lies between (`IsNext`, `IsPrevious`). The functions here give all of that as bytes.
use Rattle.std.specs.Prelude.{◌<◌, ◌≤◌, ℕ, zero, suc, ◌+◌, ◌*◌, ◌%◌, ◌^◌, Bool, List}
use Rattle.jfs_bits.specs.Field.{AreBytes}
use Rattle.jfs_bits.specs.Descriptor.{FitsPxd}
use Rattle.jfs_bits.specs.declared.descriptor.Pxd.{Pxd}
use Rattle.jfs_iag.specs.Canonical.{AreLinks, IsIagPage, IsControlPage}
use Rattle.jfs_bmap.specs.MapFile.{AreGroups, IsMapPage, pages_of}
use Rattle.jfs_map_bytes.specs.BlockMap.{block_map_bytes}
use Rattle.jfs_map_bytes.specs.InodeMap.{links_of, inode_map_bytes}

-- ---- the block map

-- The sizes of a volume and its groups have a place on the pages.
pub record FitsBlockMap (blocks agsize : ℕ) : Type 0 where
  pub groups : AreGroups blocks agsize
  pub most : blocks ≤ 2 ^ 23
  pub group_size : agsize < 2 ^ 32

-- 4,096 bytes that are page `n` in its canonical form
pub record IsBlockMapPage (blocks agsize : ℕ) (taken : ℕ → Bool) (n : ℕ) (page : List ℕ) : Type 0 where
  pub bytes : AreBytes page
  pub canonical : IsMapPage blocks agsize taken n page

abbrev pub BlockMapLaw : Type 0
BlockMapLaw = (blocks agsize n : ℕ) (taken : ℕ → Bool) → FitsBlockMap blocks agsize → n < pages_of blocks → IsBlockMapPage blocks agsize taken n (block_map_bytes blocks agsize taken n)

-- ---- the inode map

-- The numbers of an inode map and its extents have a place on the pages: at most 65,536 IAGs, over at most 128 groups.
pub record FitsInodeMap (extent : ℕ → Pxd) (iags numag agsize : ℕ) : Type 0 where
  pub most : iags ≤ 65536
  pub groups : numag ≤ 128
  pub group_size : agsize < 2 ^ 32
  pub extents : (e : ℕ) → e < 128 * iags → FitsPxd (extent e)

-- page `n` of the inode map's file in its canonical form: the control page, or that of IAG n - 1 with its list words
abbrev pub IsInodePage : (ℕ → Bool) → (ℕ → Pxd) → ℕ → ℕ → ℕ → ℕ → List ℕ → Type 0
IsInodePage taken extent iags numag agsize zero page = IsControlPage taken extent iags numag page
IsInodePage taken extent iags numag agsize (suc k) page =
    AreLinks taken extent iags numag k (links_of taken extent iags numag k) × IsIagPage (λ i. taken (4096 * k + i)) (λ e. extent (128 * k + e)) k (k % numag * agsize) (links_of taken extent iags numag k) page

pub record IsInodeMapPage (taken : ℕ → Bool) (extent : ℕ → Pxd) (iags numag agsize n : ℕ) (page : List ℕ) : Type 0 where
  pub bytes : AreBytes page
  pub canonical : IsInodePage taken extent iags numag agsize n page

abbrev pub InodeMapLaw : Type 0
InodeMapLaw = (taken : ℕ → Bool) (extent : ℕ → Pxd) (iags numag agsize n : ℕ) → FitsInodeMap extent iags numag agsize → n ≤ iags → IsInodeMapPage taken extent iags numag agsize n (inode_map_bytes taken extent iags numag agsize n)
