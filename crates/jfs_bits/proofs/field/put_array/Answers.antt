use Rattle.std.proofs.Common.{arith}
use Rattle.jfs_bits.proofs.Fields.{put_between}
use Rattle.jfs_bits.proofs.field.put_array.Goals as goal

pub returns-clause-bytes : goal.returns-clause-bytes
returns-clause-bytes g c = rw c.copy_from_slice.ensures.after (put_between c.args.at g.row.N c.args.value.now c.args.bytes.now (omega (arith, c.told-value)))
