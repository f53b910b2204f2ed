use Rattle.std.proofs.Common.{◌∙◌}
use Rattle.jfs_bits.proofs.Fields.{range_between}
use Rattle.jfs_bits.proofs.field.get_array.Goals as goal

pub returns : goal.returns
returns g c = c.copy_from_slice.ensures.after ∙ range_between c.args.bytes.now c.args.at g.row.N
