-- The superblock of a new volume.
use Rattle.std.specs.Prelude.{ℕ, ◌-◌, ◌*◌, List, ◌++◌, length, replicate}
use Rattle.jfs_bits.specs.Piece.{puts}
use Rattle.jfs_super.specs.declared.fields.Super.{Super}
use Rattle.jfs_super.specs.Super.{pieces}
use Rattle.jfs_format.specs.declared.volume.NewVolume.{NewVolume}
use Rattle.jfs_format.specs.Layout.{second_table, second_map}

-- 16 bytes: the label, and zeros behind it
abbrev pub label_field : List ℕ → List ℕ
label_field label = label ++ replicate (16 - length label) 0

-- `JFS1`, version 2; blocks of 4,096 bytes, device blocks of 512; group commit, an inline log, made for Linux; state 0, unmounted after its last write
unfoldable pub new_super : NewVolume → Super
new_super v = record {
  magic = 0x3153464A;
  version = 2;
  size = 8 * v.layout.blocks;
  bsize = 4096;
  l2bsize = 12;
  l2bfactor = 3;
  pbsize = 512;
  l2pbsize = 9;
  agsize = v.layout.agsize;
  flag = record { 0 = 0x10000900 };
  state = record { 0 = 0 };
  compress = 0;
  ait2 = record { len = 4; addr = second_table v.layout };
  aim2 = record { len = 2; addr = second_map v.layout };
  logdev = 0;
  logserial = 0;
  logpxd = v.layout.log;
  fsckpxd = v.layout.work;
  time = v.moment;
  fsckloglen = 0;
  fscklog = 0;
  fpack = replicate 11 0;
  xsize = 0;
  xfsckpxd = record { len = 0; addr = 0 };
  xlogpxd = record { len = 0; addr = 0 };
  uuid = v.uuid;
  label = v.label;
  loguuid = v.uuid;
}

-- the page: its fields, and zeros behind them
unfoldable pub super_page : NewVolume → List ℕ
super_page v = puts (pieces (new_super v)) (replicate 4096 0)
