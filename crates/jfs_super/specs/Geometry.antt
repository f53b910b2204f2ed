-- The layout that a superblock gives.
use Rattle.std.specs.Prelude.{ℕ, ◌≤◌, ◌*◌, ◌^◌, nat_le, if◌then◌else◌}
use Rattle.std.specs.Int.{IsPowerOfTwo}
use Rattle.jfs_super.specs.declared.fields.Super.{Super}
use Rattle.jfs_super.specs.declared.fields.Geometry.{Geometry}
use Rattle.jfs_super.specs.Rules.{blocks_of}

-- a file has at most 268,435,456 bytes where the log has 1,024 pages or more, else 33,554,432
abbrev pub file_limit_of : ℕ → ℕ
file_limit_of log_pages = if nat_le 1024 log_pages then 268435456 else 33554432

abbrev pub geometry_of : Super → Geometry
geometry_of s = record {
  blocks = blocks_of s;
  agsize = s.agsize;
  log = s.logpxd;
  file_limit = file_limit_of s.logpxd.len;
}

-- the bounds of a layout
pub record IsLayout (g : Geometry) : Type 0 where
  pub least : 64 ≤ g.blocks
  pub most : g.blocks ≤ 2 ^ 23
  pub group : 8192 ≤ g.agsize
  -- groups of a power of two of blocks, at most 128 of them
  pub power : IsPowerOfTwo g.agsize
  pub groups : g.blocks ≤ 128 * g.agsize
  -- the log lies behind the file system part
  pub behind : g.blocks ≤ g.log.addr
  pub shortest : 256 ≤ g.log.len
  pub longest : g.log.len ≤ 32768
