use Rattle.std.proofs.Common.{refl}
use Rattle.jfs_bits.specs.Bits.{count_below}
use Rattle.jfs_format.proofs.tables.Table.free.Goals as goal

pub returns-in-Aggregate-clause-value : goal.returns-in-Aggregate-clause-value
unfolding count_below
returns-in-Aggregate-clause-value c = rw c.in-Aggregate.is refl

pub returns-in-Fileset-clause-value : goal.returns-in-Fileset-clause-value
unfolding count_below
returns-in-Fileset-clause-value c = rw c.in-Fileset.is refl
