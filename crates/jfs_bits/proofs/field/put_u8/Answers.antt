use Rattle.std.proofs.Common.{arith}
use Rattle.jfs_bits.proofs.Fields.{put_one}
use Rattle.jfs_bits.proofs.field.put_u8.Goals as goal

pub returns-clause-bytes : goal.returns-clause-bytes
returns-clause-bytes c = put_one c.args.at c.args.value c.args.bytes.now (omega arith) (omega arith)
