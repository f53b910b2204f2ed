-- A volume as it stands on pages: where its maps, its inodes and its fixed areas are. (JFS Layout: the aggregate's inodes stand on pages 11 to 14;
-- of these, inode 2 is the block map's file, 4 the bad blocks', 16 the inode map's.)
use Rattle.std.specs.Prelude.{ℕ, suc, ◌+◌, ◌*◌, ◌/◌, ◌%◌, Bool, ◌&&◌, ◌==◌, nat_lt, if◌then◌else◌, List, [], map, is_some, Option, Some, None, unwrap_or}
use Rattle.std.specs.List.{range_with_len}
use Rattle.jfs_bits.specs.declared.descriptor.Pxd.{Pxd}
use Rattle.jfs_bits.specs.declared.extent.Xad.{Xad}
use Rattle.jfs_bits.specs.Field.{field_of, range_of}
use Rattle.jfs_bits.specs.Descriptor.{pxd_of}
use Rattle.jfs_bits.specs.Bits.{is_taken}
use Rattle.jfs_inode.specs.declared.fields.Dinode.{Dinode}
use Rattle.jfs_tree.specs.Walk.{Marks}
use Rattle.jfs_tree.specs.Spells.{tree_of}
use Rattle.jfs_objects.specs.Readers.{Readers}
use Rattle.jfs_objects.specs.Volume.{Volume, home, slot_of}
use Rattle.jfs_objects.specs.Objects.{met, listed}
use Rattle.jfs_objects.specs.Owners.{unless_broken, entries, run_has, covers}
use Rattle.jfs_objects.specs.Contents.{block_of, bytes_at}

-- ---- the aggregate's files

abbrev pub aggregate_at : (ℕ → List ℕ) → ℕ → Dinode
aggregate_at page k = slot_of (page (11 + k / 8)) (k % 8)

-- the walk through the extents of inode `k` of the aggregate
abbrev pub file_walk : Readers → (ℕ → List ℕ) → ℕ → Marks ℕ Xad
file_walk r page k = tree_of r.extents_order (λ b. r.extents_page (page b)) (r.extents_root (aggregate_at page k))

abbrev pub file_extents : Readers → (ℕ → List ℕ) → ℕ → List Xad
file_extents r page k = entries (listed r.extents_order (file_walk r page k))

-- page `j` of that file
unfoldable pub file_page : Readers → (ℕ → List ℕ) → ℕ → ℕ → List ℕ
file_page r page k j = unwrap_or (bytes_at page (block_of (file_extents r page k) j)) []

-- how often that file has a block
unfoldable pub file_has : Readers → (ℕ → List ℕ) → ℕ → ℕ → ℕ
file_has r page k b = unless_broken (listed r.extents_order (file_walk r page k)) (met (file_walk r page k) b) + covers b (file_extents r page k)

-- ---- the two sets, and the inode extents

-- A block's bit in the persistent map: its dmap is that of 8,192 blocks.
unfoldable pub is_block_used : Readers → (ℕ → List ℕ) → ℕ → ℕ → Bool
is_block_used r page blocks b = nat_lt b blocks && is_taken (range_of (file_page r page 2 (4 + b / 8192)) 3072 1024) (b % 8192)

-- the page of inode allocation group (IAG) `i`, and how many there are
abbrev pub iag_page : Readers → (ℕ → List ℕ) → ℕ → List ℕ
iag_page r page i = file_page r page 16 (suc i)

abbrev pub iags_on : Readers → (ℕ → List ℕ) → ℕ
iags_on r page = field_of (file_page r page 16 0) 4 4

-- An inode extent that isn't there has a descriptor of zeros.
abbrev pub extent_place : Pxd → Option ℕ
extent_place p = if p.len == 0 && p.addr == 0 then None else Some p.addr

-- each IAG has places for 128 extents
abbrev pub extent_on : Readers → (ℕ → List ℕ) → ℕ → Option ℕ
extent_on r page e = extent_place (pxd_of (iag_page r page (e / 128)) (3072 + 8 * (e % 128)))

unfoldable pub extents_on : Readers → (ℕ → List ℕ) → List (Option ℕ)
extents_on r page = map (extent_on r page) (range_with_len 0 (128 * iags_on r page))

-- An inode's bit in the persistent map, where its extent is there.
unfoldable pub is_inode_used : Readers → (ℕ → List ℕ) → ℕ → Bool
is_inode_used r page n = is_some (home (extents_on r page) n) && is_taken (range_of (iag_page r page (n / 4096)) 2560 512) (n % 4096)

-- ---- the fixed areas

-- pages 0 to 15, the second inode table and map, and what inodes 2, 4 and 16 of the aggregate have
unfoldable pub area_on : Readers → Pxd → Pxd → (ℕ → List ℕ) → ℕ → ℕ
area_on r table map page b = run_has (record { len = 16; addr = 0 }) b + run_has table b + run_has map b + file_has r page 2 b + file_has r page 4 b + file_has r page 16 b

-- the volume of so many blocks, whose superblock has the second inode table and map at these places
abbrev pub volume_on : Readers → ℕ → Pxd → Pxd → (ℕ → List ℕ) → Volume
volume_on r blocks table map page = record {
  page = page;
  extents = extents_on r page;
  area = area_on r table map page;
  used = is_block_used r page blocks;
  in_use = is_inode_used r page;
}
