use Rattle.std.proofs.Common.{◌∙◌, ap, refl, arith}
use Rattle.jfs_bits.specs.Piece.{puts}
use Rattle.jfs_logfmt.specs.Descriptor.{descriptor_of, descriptor_pieces}
use Rattle.jfs_logfmt.proofs.ReadBack.{DescriptorInRange, descriptor_of-bytes}
use Rattle.jfs_logfmt.proofs.descriptor.descriptor_text.Goals as goal

bytes_are : goal.returns-clause-bytes
unfolding descriptor_pieces puts
bytes_are c =
    rw (c.put_pxd.ensures.bytes, c.put_u16-4.ensures.bytes, c.put_u16-3.ensures.bytes, c.put_u32-4.ensures.bytes, c.put_u32-3.ensures.bytes, c.put_u16-2.ensures.bytes, c.put_u16.ensures.bytes, c.put_u32-2.ensures.bytes, c.put_u32.ensures.bytes) refl

pub returns-clause-bytes : goal.returns-clause-bytes
returns-clause-bytes c = bytes_are c

pub returns-clause-read_back : goal.returns-clause-read_back
returns-clause-read_back c =
    let range : DescriptorInRange c.args.d = record { tid = omega arith; back = omega arith; number = omega arith; length = omega arith; fileset = omega arith; inode = omega arith; kind = omega arith; count = omega arith; at = c.requires } in
    ap descriptor_of (bytes_are c) ∙ descriptor_of-bytes c.args.d range
