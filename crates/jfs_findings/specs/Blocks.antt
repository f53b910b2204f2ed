-- What is wrong with the owners of blocks, and with the blocks' bits.
use Rattle.std.specs.Prelude.{◌≡◌, ◌≢◌, ◌⊎◌, ◌<◌, ℕ, ◌+◌, ◌/◌, Bool, nat_lt, max}
use Rattle.std.specs.List.{Contains}
use Rattle.std.specs.Int.RustNames.{bit_and}
use Rattle.jfs_bits.specs.declared.descriptor.Pxd.{Pxd}
use Rattle.jfs_bits.specs.declared.extent.Dxd.{Dxd}
use Rattle.jfs_bits.specs.declared.extent.Xad.{Xad}
use Rattle.jfs_mount.specs.objects.specs.Readers.{Readers}
use Rattle.jfs_mount.specs.objects.specs.Objects.{Object, listed}
use Rattle.jfs_mount.specs.objects.specs.Owners.{owners, entries, tree_held}
use Rattle.jfs_mount.specs.Subject.{Subject, blocks, volume, IsObject, IsFilePage}

-- some owner has the block
abbrev pub is_owned : Subject → ℕ → Bool
is_owned s b = nat_lt 0 (owners s.readers (volume s) b)

-- A block of the file system part has two owners.
abbrev pub IsShared : Subject → ℕ → Type 0
IsShared s b = (b < blocks s) × (1 < owners s.readers (volume s) b)

-- A run of blocks that an object owns, each by the place that names it: a page of its trees, an extent of its data, a run of its attributes. A tree that
-- breaks a rule has neither pages nor extents.
pub data HasRun (r : Readers) (o : Object) (run : Pxd) : Type 0 where
  of_trees : 0 < tree_held r o run.addr → run.len ≡ 1 → HasRun r o run
  of_data : (e : Xad) → Contains (entries (listed r.extents_order o.extents)) e → run ≡ e.at → HasRun r o run
  of_attributes : (d : Dxd) → (d ≡ o.inode.acl) ⊎ (d ≡ o.inode.ea) → bit_and d.flag 0x20 ≡ 0x20 → run ≡ d.at → HasRun r o run

-- It is the first block of a run that lies behind so many blocks.
abbrev pub IsFirstPast : ℕ → Pxd → ℕ → Type 0
IsFirstPast blocks run b = (b ≡ max blocks run.addr) × (b < run.addr + run.len)

-- An inode in use owns a run that reaches behind the file system part; its first block there is told, and none of those behind it. So the findings of an
-- inode are few, however long a run is.
abbrev pub OwnsOutside : Subject → ℕ → ℕ → Type 0
OwnsOutside s page b = (n : ℕ) × (o : Object) × IsObject s n page o × (run : Pxd) × HasRun s.readers o run × IsFirstPast (blocks s) run b

-- A block's bit in the persistent map differs from its having an owner. Its dmap is that of 8,192 blocks.
abbrev pub IsMisMapped : Subject → ℕ → ℕ → Type 0
IsMisMapped s page b = (b < blocks s) × IsFilePage s 2 (4 + b / 8192) page × ((volume s).used b ≢ is_owned s b)
