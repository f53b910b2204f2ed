use Rattle.std.proofs.Common.{◌+◌, ◌∙◌, ap, refl, List, ℕ, arith}
use Rattle.byteorder.specs.Endian.{little_bytes}
use Rattle.jfs_bits.specs.Descriptor.{moment_of, moment_bytes}
use Rattle.jfs_bits.proofs.Ranges.{put_bytes-put_bytes}
use Rattle.jfs_bits.proofs.Descriptors.{moment_of-put}
use Rattle.jfs_bits.proofs.descriptor.put_moment.Goals as goal

bytes_are : goal.returns-clause-bytes
unfolding moment_bytes
bytes_are c =
    rw (c.put_u32-2.ensures.bytes, c.put_u32.ensures.bytes) (put_bytes-put_bytes c.args.at (c.args.at + 4) (little_bytes 4 c.args.v.sec) (little_bytes 4 c.args.v.nano) c.args.bytes.now refl (omega (arith, c.requires)))

pub returns-clause-bytes : goal.returns-clause-bytes
returns-clause-bytes c = bytes_are c

pub returns-clause-read_back : goal.returns-clause-read_back
returns-clause-read_back c =
    ap (λ (z : List ℕ). moment_of z c.args.at) (bytes_are c) ∙ moment_of-put c.args.at c.args.v c.args.bytes.now c.requires (omega arith) (omega arith)
