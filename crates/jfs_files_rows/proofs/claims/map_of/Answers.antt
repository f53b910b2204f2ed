use Rattle.std.proofs.Common.{refl, arith}
use Rattle.jfs_files_rows.proofs.claims.map_of.Goals as goal

pub from_set-requires-clause-groups : goal.from_set-requires-clause-groups
from_set-requires-clause-groups c = record { some = c.requires.some; least = omega arith; power = (13, refl); most = omega (arith, c.requires.most) }
