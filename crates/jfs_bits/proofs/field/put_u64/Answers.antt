use Rattle.byteorder.specs.Endian.{little_bytes}
use Rattle.jfs_bits.proofs.Fields.{put_behind}
use Rattle.jfs_bits.proofs.field.put_u64.Goals as goal

pub returns-clause-bytes : goal.returns-clause-bytes
returns-clause-bytes c = put_behind c.args.at (little_bytes 8 c.args.value) c.write_u64.new.buf c.args.bytes.now c.write_u64.ensures
