-- What the maps keep: a bit for each block, and the place of each inode extent. (JFS Layout: the persistent map of a dmap at byte 3,072, 8,192 blocks each; the extents of an IAG at byte 3,072, 128 of 8 bytes each.)
use Rattle.std.specs.Prelude.{◌≡◌, ℕ, suc, ◌+◌, ◌*◌, ◌/◌, ◌%◌, Bool, true, false, ◌&&◌, ◌==◌, nat_lt, if◌then◌else◌, List, [], ◌∷◌}
use Rattle.jfs_bits.specs.Bits.{is_taken, is_in_run}
use Rattle.jfs_bits.specs.Field.{range_of}
use Rattle.jfs_bits.specs.Descriptor.{pxd_of}
use Rattle.jfs_bits.specs.declared.descriptor.Pxd.{Pxd}
use Rattle.jfs_ranges.specs.declared.edit.Edit.{Edit}
use Rattle.jfs_ranges.specs.declared.edit.Edit.TheVariants.{Lines, NoRedo, Alloc, Free}
use Rattle.jfs_iag.specs.Iag.{no_run}
use Rattle.jfs_steps.specs.After.{is_extent, place_in, four_from}
use Rattle.jfs_recovery.specs.Face.{Item, Value}
use Rattle.jfs_recovery.specs.Face.Item.{BlockBit, ExtentPlace}
use Rattle.jfs_recovery.specs.Face.Value.{InUse, At}
use Rattle.jfs_face.specs.Places.{Places}

abbrev pub bit_of : Value → Bool
bit_of (InUse b) = b
bit_of (At p) = false

abbrev pub place_of : Value → Pxd
place_of (InUse b) = no_run
place_of (At p) = p

-- the blocks in use, and the descriptor of each inode extent, one of zeros where it isn't there
abbrev pub used_by : (Item → Value) → ℕ → Bool
used_by items b = bit_of (items (BlockBit b))

abbrev pub extent_by : (Item → Value) → ℕ → Pxd
extent_by items e = place_of (items (ExtentPlace e))

-- the places that IAGs have for extents
abbrev pub places : Places → ℕ
places pl = 128 * pl.iags

-- Each item is of its kind; no block past the end is in use, and no extent stands past the last IAG.
pub record AreItems (pl : Places) (items : Item → Value) : Type 0 where
  pub blocks : (b : ℕ) → items (BlockBit b) ≡ InUse (nat_lt b pl.blocks && used_by items b)
  pub extents : (e : ℕ) → items (ExtentPlace e) ≡ At (if nat_lt e (places pl) then extent_by items e else no_run)

-- ---- where they stand

-- What isn't there is looked for where the first block and the first extent have their places; where there is none, on the control pages.
abbrev pub no_block : Places → ℕ
no_block pl = if nat_lt 0 pl.blocks then pl.block_map 4 else pl.block_map 0

abbrev pub no_extent : Places → ℕ
no_extent pl = if nat_lt 0 (places pl) then pl.inode_map 1 else pl.inode_map 0

-- the page of the volume
abbrev pub home : Places → Item → ℕ
home pl (BlockBit b) = if nat_lt b pl.blocks then pl.block_map (suc (suc (suc (suc (b / 8192))))) else no_block pl
home pl (ExtentPlace e) = if nat_lt e (places pl) then pl.inode_map (suc (e / 128)) else no_extent pl

-- the cell of 16 bytes of that page
abbrev pub cell : Item → ℕ
cell (BlockBit b) = 192 + b % 8192 / 128
cell (ExtentPlace e) = 192 + e % 128 / 2

-- what the page says
abbrev pub read : Places → Item → List ℕ → Value
read pl (BlockBit b) page = InUse (nat_lt b pl.blocks && is_taken (range_of page 3072 1024) (b % 8192))
read pl (ExtentPlace e) page = At (if nat_lt e (places pl) then pxd_of page (3072 + 8 * (e % 128)) else no_run)

-- ---- what an edit does to them

abbrev pub set_block : Edit → ℕ → Value → Value
set_block (Lines page kind first bytes) b x = if is_extent kind first bytes && is_in_run page 4 b then InUse true else x
set_block (NoRedo page) b x = x
set_block (Alloc run) b x = if is_in_run run.addr run.len b then InUse true else x
set_block (Free run) b x = if is_in_run run.addr run.len b then InUse false else x

abbrev pub set_extent : Edit → ℕ → Value → Value
set_extent (Lines page kind first bytes) e x = if is_extent kind first bytes && place_in bytes == e then At (four_from page) else x
set_extent (NoRedo page) e x = x
set_extent (Alloc run) e x = x
set_extent (Free run) e x = x

abbrev pub set_item : Edit → Item → Value → Value
set_item edit (BlockBit b) x = set_block edit b x
set_item edit (ExtentPlace e) x = set_extent edit e x

-- and an entry, edit by edit
abbrev pub set_by : List Edit → Item → Value → Value
set_by [] i x = x
set_by (edit ∷ edits) i x = set_by edits i (set_item edit i x)
