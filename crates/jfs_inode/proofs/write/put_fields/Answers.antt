use Rattle.std.proofs.Common.{◌∙◌, ap, refl, arith}
use Rattle.jfs_bits.specs.Piece.{puts}
use Rattle.jfs_bits.specs.Extent.{dxd_pieces}
use Rattle.jfs_inode.specs.Inode.{dinode_of, pieces}
use Rattle.jfs_inode.proofs.ReadBack.{InRange, dinode_of-puts}
use Rattle.jfs_inode.proofs.write.put_fields.Goals as goal

in_range : (c : goal.After-slice_known-21-1) → InRange c.args.d.now
in_range c = record { inostamp = omega arith; fileset = omega arith; number = omega arith; generation = omega arith; size = omega arith; nblocks = omega arith; nlink = omega arith; uid = omega arith; gid = omega arith; mode = omega arith; atime_sec = omega arith; atime_nano = omega arith; ctime_sec = omega arith; ctime_nano = omega arith; mtime_sec = omega arith; mtime_nano = omega arith; otime_sec = omega arith; otime_nano = omega arith; next_index = omega arith; acltype = omega arith; rest = omega arith }

bytes_are : goal.returns-clause-bytes
unfolding pieces puts dxd_pieces
bytes_are c =
    rw (c.put_array.ensures.bytes, c.put_u32-10.ensures.bytes, c.put_u32-9.ensures.bytes, c.put_dxd-2.ensures.bytes, c.put_dxd.ensures.bytes, c.put_moment-4.ensures.bytes, c.put_moment-3.ensures.bytes, c.put_moment-2.ensures.bytes, c.put_moment.ensures.bytes, c.put_u32-8.ensures.bytes, c.put_u32-7.ensures.bytes, c.put_u32-6.ensures.bytes, c.put_u32-5.ensures.bytes, c.put_u64-2.ensures.bytes, c.put_u64.ensures.bytes, c.put_pxd.ensures.bytes, c.put_u32-4.ensures.bytes, c.put_u32-3.ensures.bytes, c.put_u32-2.ensures.bytes, c.put_u32.ensures.bytes) refl

pub returns-clause-bytes : goal.returns-clause-bytes
returns-clause-bytes c = bytes_are c

pub returns-clause-read_back : goal.returns-clause-read_back
returns-clause-read_back c =
    ap dinode_of (bytes_are c) ∙ dinode_of-puts c.args.d.now c.args.bytes.now (in_range c) c.requires.fits c.requires.size
