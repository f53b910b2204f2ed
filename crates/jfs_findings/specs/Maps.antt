-- What is wrong with the pages of the two maps: they aren't as the owners of blocks and the inodes in use say. (JFS Layout, block map and inode map.)
use Rattle.std.specs.Prelude.{◌≡◌, ◌<◌, ℕ, zero, suc, ◌+◌, ◌*◌, ◌/◌, ◌^◌, Bool, true, not, ◌||◌, nat_le, List, replicate, is_some}
use Rattle.std.specs.Int.{cast_signed, w8}
use Rattle.jfs_bits.specs.declared.descriptor.Pxd.{Pxd}
use Rattle.jfs_bits.specs.Bits.{is_taken, greatest_run, count_below}
use Rattle.jfs_bits.specs.Field.{field_of, range_of, put_bytes}
use Rattle.jfs_mount.specs.dmapctl.specs.Control.{IsControl}
use Rattle.jfs_mount.specs.bmap.specs.Pages.{leaf_ranks}
use Rattle.jfs_mount.specs.bmap.specs.MapFile.{IsDmapPage, is_in_use}
use Rattle.jfs_iag.specs.Canonical.{is_there, has_free, is_free_inode}
use Rattle.jfs_mount.specs.objects.specs.Image.{file_page}
use Rattle.jfs_mount.specs.Subject.{Subject, blocks, object, IsFilePage}
use Rattle.jfs_mount.specs.Mount.{iags, extent_at}
use Rattle.jfs_findings.specs.Blocks.{is_owned}

-- ---- the block map

-- The blocks that the map has to show as taken: those with an owner, and all past the volume's end.
abbrev pub has_to_be_taken : Subject → ℕ → Bool
has_to_be_taken s b = nat_le (blocks s) b || is_owned s b

-- What of the control page is compared: the number of blocks and of free ones, the size of a group and its logarithm, each group's free blocks, and the l2 of the greatest free run.
-- They are as on the canonical page.
pub record IsFirstPageAs (blocks agsize : ℕ) (taken : ℕ → Bool) (page : List ℕ) : Type 0 where
  pub mapsize : field_of page 0 8 ≡ blocks
  pub nfree : field_of page 8 8 ≡ count_below blocks (λ b. not (taken b))
  pub agl2size : 2 ^ field_of page 52 4 ≡ agsize
  pub agfree : (k : ℕ) → k < 128 → field_of page (56 + 8 * k) 8 ≡ count_below agsize (λ i. not (taken (agsize * k + i)))
  pub group : field_of page 1080 8 ≡ agsize
  pub maxfreebud : cast_signed w8 (field_of page 1088 1) ≡ greatest_run taken 23 23

-- a page with zeros in its unused bytes
abbrev pub without_pad : ℕ → ℕ → List ℕ → List ℕ
without_pad at width page = put_bytes at (replicate width 0) page

-- Page `n` of the block map's file is canonical in what is compared: all but the unused bytes, and but nine numbers of the control page. Pages of levels that aren't in use aren't
-- looked at.
abbrev pub IsMapPageAs : ℕ → ℕ → (ℕ → Bool) → ℕ → List ℕ → Type 0
IsMapPageAs blocks agsize taken zero page = IsFirstPageAs blocks agsize taken page
IsMapPageAs blocks agsize taken (suc zero) page = Unit {0}
IsMapPageAs blocks agsize taken (suc (suc zero)) page = Unit {0}
IsMapPageAs blocks agsize taken (suc (suc (suc zero))) page = IsControl 0 (leaf_ranks taken) (without_pad 1382 2714 page)
IsMapPageAs blocks agsize taken (suc (suc (suc (suc k)))) page = IsDmapPage blocks taken k (without_pad 374 1674 page)

abbrev pub IsBlockMapPage : Subject → ℕ → Type 0
IsBlockMapPage s j = IsMapPageAs (blocks s) s.super.agsize (has_to_be_taken s) j (file_page s.readers s.page 2 j)

-- A page of the block map in use isn't.
abbrev pub IsBadBlockMap : Subject → ℕ → Type 0
IsBadBlockMap s page = (j : ℕ) × (is_in_use (blocks s) j ≡ true) × IsFilePage s 2 j page × (IsBlockMapPage s j → ⊥)

-- ---- the inode map

-- What of an inode allocation group (IAG) is compared: its number, its two summaries of extents, its counts, and both maps where an extent is there. Its lists aren't.
pub record IsIagAs (taken : ℕ → Bool) (extent : ℕ → Pxd) (number : ℕ) (page : List ℕ) : Type 0 where
  pub iagnum : field_of page 8 4 ≡ number
  pub inosmap : (e : ℕ) → e < 128 → is_taken (range_of page 32 16) e ≡ not (has_free taken extent e)
  pub extsmap : (e : ℕ) → e < 128 → is_taken (range_of page 48 16) e ≡ is_there (extent e)
  pub nfreeinos : field_of page 64 4 ≡ count_below 4096 (is_free_inode taken extent)
  pub nfreeexts : field_of page 68 4 ≡ count_below 128 (λ e. not (is_there (extent e)))
  pub wmap : (i : ℕ) → i < 4096 → is_there (extent (i / 32)) ≡ true → is_taken (range_of page 2048 512) i ≡ taken i
  pub pmap : (i : ℕ) → i < 4096 → is_there (extent (i / 32)) ≡ true → is_taken (range_of page 2560 512) i ≡ taken i

-- What of the control page is compared: the inodes that there are, and the free ones.
pub record IsInodeControlAs (taken : ℕ → Bool) (extent : ℕ → Pxd) (iags : ℕ) (page : List ℕ) : Type 0 where
  pub numinos : field_of page 8 4 ≡ 32 * count_below (128 * iags) (λ e. is_there (extent e))
  pub numfree : field_of page 12 4 ≡ count_below (4096 * iags) (is_free_inode taken extent)

-- Page `n` of the inode map's file is canonical in what is compared.
abbrev pub IsInodePageAs : (ℕ → Bool) → (ℕ → Pxd) → ℕ → ℕ → List ℕ → Type 0
IsInodePageAs taken extent iags zero page = IsInodeControlAs taken extent iags page
IsInodePageAs taken extent iags (suc k) page = IsIagAs (λ i. taken (4096 * k + i)) (λ e. extent (128 * k + e)) k page

abbrev pub IsInodeMapPage : Subject → ℕ → Type 0
IsInodeMapPage s j = IsInodePageAs (λ n. is_some (object s n)) (extent_at s) (iags s) j (file_page s.readers s.page 16 j)

-- A page of the inode map isn't.
abbrev pub IsBadInodeMap : Subject → ℕ → Type 0
IsBadInodeMap s page = (j : ℕ) × (j < suc (iags s)) × IsFilePage s 16 j page × (IsInodeMapPage s j → ⊥)
