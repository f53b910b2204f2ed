-- Pages of both maps' files that show the maps in memory. (JFS Layout: a dmap has its persistent bits at byte 3,072, an inode allocation group (IAG) at byte 2,560.)
use Rattle.std.specs.Prelude.{◌≡◌, ◌<◌, ◌≤◌, ◌+◌, ◌*◌, ◌/◌, ℕ, zero, suc, true, List}
use Rattle.jfs_bits.specs.Bits.{is_taken}
use Rattle.jfs_bits.specs.Descriptor.{pxd_of}
use Rattle.jfs_bits.specs.Field.{field_of, range_of}
use Rattle.jfs_super.specs.Rules.{blocks_of}
use Rattle.jfs_super.specs.declared.fields.Super.{Super}
use Rattle.jfs_iag.specs.Canonical.{is_there}
use Rattle.jfs_way.specs.imap.specs.Inodes.{Inodes, is_used, extent_at}
use Rattle.jfs_way.specs.bmap.specs.MapFile.{pages_of}
use Rattle.jfs_way.specs.bmap.specs.States.{Blocks, is_owned}
use Rattle.jfs_way.specs.objects.specs.Image.{file_page, extent_place}
use Rattle.jfs_way.specs.meaning.specs.Readers.{readers}

-- Page `j` of the block map's file, on a volume of so many blocks: a dmap has the bits of the blocks with owners. The pages before the dmaps tell nothing more.
abbrev pub ShowsBlocks : ℕ → Blocks → ℕ → List ℕ → Type 0
ShowsBlocks blocks m zero page = Unit {0}
ShowsBlocks blocks m (suc zero) page = Unit {0}
ShowsBlocks blocks m (suc (suc zero)) page = Unit {0}
ShowsBlocks blocks m (suc (suc (suc zero))) page = Unit {0}
ShowsBlocks blocks m (suc (suc (suc (suc k)))) page = (i : ℕ) → i < 8192 → 8192 * k + i < blocks → is_taken (range_of page 3072 1024) i ≡ is_owned m (8192 * k + i)

-- IAG `k`: which inodes are in use, where their extent is there, and where each extent is.
pub record ShowsGroup (m : Inodes) (k : ℕ) (page : List ℕ) : Type 0 where
  pub in_use : (i : ℕ) → i < 4096 → is_there (extent_at m (128 * k + i / 32)) ≡ true → is_taken (range_of page 2560 512) i ≡ is_used m (4096 * k + i)
  pub extents : (e : ℕ) → e < 128 → extent_place (pxd_of page (3072 + 8 * e)) ≡ extent_place (extent_at m (128 * k + e))

-- Page `j` of the inode map's file: the control page has the number of IAGs.
abbrev pub ShowsInodes : Inodes → ℕ → List ℕ → Type 0
ShowsInodes m zero page = field_of page 4 4 ≡ m.iags
ShowsInodes m (suc k) page = ShowsGroup m k page

-- each page of both files shows these maps
pub record ShowsMaps (s : Super) (page : ℕ → List ℕ) (blocks : Blocks) (inodes : Inodes) : Type 0 where
  pub block_map : (j : ℕ) → j < pages_of (blocks_of s) → ShowsBlocks (blocks_of s) blocks j (file_page (readers (blocks_of s)) page 2 j)
  pub inode_map : (j : ℕ) → j ≤ inodes.iags → ShowsInodes inodes j (file_page (readers (blocks_of s)) page 16 j)
