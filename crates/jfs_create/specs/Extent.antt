-- A new inode extent. (JFS Layout, inode extents: 32 inodes in four blocks.)
use Rattle.std.specs.Prelude.{◌≡◌, ◌<◌, ℕ, ◌+◌, List, [], ◌∷◌, ◌++◌, length, replicate}
use Rattle.jfs_bits.specs.declared.descriptor.Moment.{Moment}
use Rattle.jfs_bits.specs.declared.rule.PageKind.TheVariants as kinds
use Rattle.jfs_inode.specs.declared.fields.Dinode.{Dinode}
use Rattle.jfs_ranges.specs.declared.edit.Edit.{Edit}
use Rattle.jfs_ranges.specs.declared.edit.Edit.TheVariants.{Lines}
use Rattle.jfs_link.specs.objects.specs.Volume.{slot_of}
use Rattle.jfs_create.specs.New.{no_data}
use Rattle.jfs_create.specs.declared.extent.NewExtent.{NewExtent}

abbrev pub never : Moment
never = record { sec = 0; nano = 0 }

-- an inode that isn't in use: it has its number, the fileset's stamp and its extent
abbrev pub free_inode : NewExtent → ℕ → Dinode
free_inode extent number = record {
  inostamp = extent.stamp;
  fileset = 16;
  number = number;
  generation = 0;
  ixpxd = extent.run;
  size = 0;
  nblocks = 0;
  nlink = 0;
  uid = 0;
  gid = 0;
  mode = 0;
  atime = never;
  ctime = never;
  mtime = never;
  otime = never;
  acl = no_data;
  ea = no_data;
  next_index = 0;
  acltype = 0;
  rest = replicate 384 0;
}

-- the page of the eight inodes from a number on
pub record IsFreePage (extent : NewExtent) (from : ℕ) (page : List ℕ) : Type 0 where
  pub size : length page ≡ 4096
  pub slots : (k : ℕ) → k < 8 → slot_of page k ≡ free_inode extent (extent.first + from + k)

-- One edit was appended: the four pages of the extent, one after the other.
pub record TellsExtent (extent : NewExtent) (tx later : List Edit) : Type 0 where
  pub one : List ℕ
  pub two : List ℕ
  pub three : List ℕ
  pub four : List ℕ
  pub first : IsFreePage extent 0 one
  pub second : IsFreePage extent 8 two
  pub third : IsFreePage extent 16 three
  pub fourth : IsFreePage extent 24 four
  pub told : later ≡ tx ++ Lines extent.run.addr kinds.Inode 0 (one ++ (two ++ (three ++ four))) ∷ []
