use Rattle.std.proofs.Common.{arith}
use Rattle.jfs_bits.specs.Field.{field_of}
use Rattle.jfs_bits.proofs.field.get_u8.Goals as goal

pub returns-clause-value : goal.returns-clause-value
unfolding field_of
returns-clause-value c = omega arith
