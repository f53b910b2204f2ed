use Rattle.std.proofs.Common.{refl}
use Rattle.jfs_bits.specs.Piece.{puts}
use Rattle.jfs_format.specs.Root.{empty_root}
use Rattle.jfs_format.proofs.inodes.empty_root.Goals as goal

pub returns : goal.returns
unfolding puts empty_root
returns c =
    rw (c.put_free_slot-8.ensures, c.put_free_slot-7.ensures, c.put_free_slot-6.ensures, c.put_free_slot-5.ensures, c.put_free_slot-4.ensures, c.put_free_slot-3.ensures, c.put_free_slot-2.ensures, c.put_free_slot.ensures, c.put_u32.ensures.bytes, c.put_u8-4.ensures.bytes, c.put_u8-3.ensures.bytes, c.put_u8-2.ensures.bytes, c.put_u8.ensures.bytes) refl
