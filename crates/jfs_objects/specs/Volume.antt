-- A volume, and where its inodes stand. (JFS Layout: inode extents of 32 inodes in 4 blocks, an inode allocation group of 128 places for them.)
use Rattle.std.specs.Prelude.{ℕ, ◌+◌, ◌*◌, ◌/◌, ◌%◌, Bool, List, length, get_or, Option, Some, None}
use Rattle.jfs_inode.specs.Inode.{dinode_of, inode_at}
use Rattle.jfs_inode.specs.declared.fields.Dinode.{Dinode}

pub record Volume : Type 0 where
  -- the bytes of each page
  pub page : ℕ → List ℕ
  -- for each 32 inodes the first page of their extent, where it is there
  pub extents : List (Option ℕ)
  -- how often the fixed areas have a block: superblocks, the aggregate's inodes and maps
  pub area : ℕ → ℕ
  -- the blocks in use, and the inodes in use
  pub used : ℕ → Bool
  pub in_use : ℕ → Bool

abbrev pub page_in : Option ℕ → ℕ → Option ℕ
page_in None n = None
page_in (Some first) n = Some (first + n % 32 / 8)

-- the page of an inode, where its extent is there
abbrev pub home : List (Option ℕ) → ℕ → Option ℕ
home extents n = page_in (get_or extents (n / 32) None) n

-- the inode in one of a page's eight slots
abbrev pub slot_of : List ℕ → ℕ → Dinode
slot_of page slot = dinode_of (inode_at page slot)

-- how many inodes there are places for
abbrev pub room : Volume → ℕ
room v = 32 * length v.extents
