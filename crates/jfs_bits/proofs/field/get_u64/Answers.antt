use Rattle.std.proofs.Common.{◌∙◌}
use Rattle.jfs_bits.proofs.Fields.{field_behind}
use Rattle.jfs_bits.proofs.field.get_u64.Goals as goal

pub returns-clause-value : goal.returns-clause-value
returns-clause-value c = c.read_u64.ensures ∙ field_behind c.args.bytes.now c.args.at 8
