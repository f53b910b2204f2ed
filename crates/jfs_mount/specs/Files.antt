-- The blocks of the maps' files.
use Rattle.std.specs.Prelude.{◌≡◌, ◌<◌, ◌≤◌, ℕ, Bool, true, false, not, ◌+◌, ◌*◌, ◌/◌, ◌||◌, ◌&&◌, ◌==◌, nat_le, List, [], ◌∷◌, ◌++◌, map, Option, Some, None, Result, Ok, Err, is_some}
use Rattle.std.specs.List.{range_with_len}
use Rattle.jfs_bits.specs.declared.descriptor.Pxd.{Pxd}
use Rattle.jfs_bits.specs.declared.extent.Xad.{Xad}
use Rattle.jfs_bits.specs.Descriptor.{pxd_of}
use Rattle.jfs_iag.specs.Canonical.{is_there}
use Rattle.jfs_reader.specs.objects.specs.Contents.{block_of}
use Rattle.jfs_reader.specs.objects.specs.Image.{extent_place}

-- the block, if there is one, is a page of so many
abbrev pub IsWithin : ℕ → Option ℕ → Type 0
IsWithin blocks o = (b : ℕ) → o ≡ Some b → b < blocks

-- The number of pages of the inode map (IAGs) up to which a volume of so many blocks is looked at. Inodes that don't share their pages need one such page for 512 blocks,
-- and each of at most 128 groups may have one that isn't full.
abbrev pub most_iags : ℕ → ℕ
most_iags blocks = 128 + blocks / 64

-- no extent has a block that is no page
abbrev pub LieWithin : ℕ → List Xad → Type 0
LieWithin blocks es = (k : ℕ) → IsWithin blocks (block_of es k)

-- the first extent, if there is one, ends behind block `j` of the file
abbrev pub EndsBehind : ℕ → List Xad → Type 0
EndsBehind j [] = Unit {0}
EndsBehind j (x ∷ es) = j < x.offset + x.at.len

-- so many blocks of a file from `j` on stand on pages; none only where block `j` doesn't
pub record IsRun (es : List Xad) (j len : ℕ) : Type 0 where
  pub stand : (k : ℕ) → j ≤ k → k < j + len → is_some (block_of es k) ≡ true
  pub none : len ≡ 0 → is_some (block_of es j) ≡ false

-- inode extent `k` of the IAG on a page
abbrev pub extent_in : List ℕ → ℕ → Pxd
extent_in page k = pxd_of page (3072 + 8 * k)

-- it isn't there, or has four blocks of so many
abbrev pub fits_in : ℕ → Pxd → Bool
fits_in blocks p = not (is_there p) || (p.len == 4 && nat_le (p.addr + 4) blocks)

-- the first block of an inode extent, told as a place where the extent fits
abbrev pub IsPlace : ℕ → Pxd → Result (Option ℕ) ℕ → Type 0
IsPlace blocks p (Ok place) = (fits_in blocks p ≡ true) × (place ≡ extent_place p)
IsPlace blocks p (Err first) = (fits_in blocks p ≡ false) × (first ≡ p.addr)

-- the first of an IAG's 128 inode extents that doesn't fit, by its first block
pub record IsMisfit (blocks : ℕ) (page : List ℕ) (first : ℕ) : Type 0 where
  pub place : ℕ
  pub within : place < 128
  pub before : (k : ℕ) → k < place → fits_in blocks (extent_in page k) ≡ true
  pub breaks : fits_in blocks (extent_in page place) ≡ false
  pub address : first ≡ (extent_in page place).addr

-- The places of an IAG's 128 inode extents were added, and all of them fit; else one doesn't.
abbrev pub AddsIag : ℕ → List ℕ → List (Option ℕ) → List (Option ℕ) → Option ℕ → Type 0
AddsIag blocks page old new None = (new ≡ old ++ map (λ k. extent_place (extent_in page k)) (range_with_len 0 128)) × ((k : ℕ) → k < 128 → fits_in blocks (extent_in page k) ≡ true)
AddsIag blocks page old new (Some first) = IsMisfit blocks page first
