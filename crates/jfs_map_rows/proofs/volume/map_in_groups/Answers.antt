use Rattle.std.proofs.Common.{◌≤◌, ◌^◌, refl, arith}
use Rattle.std.proofs.Math.Pow.{pow_mono}
use Rattle.std.proofs.lemmas.Nat.{one_shl}
use Rattle.jfs_map_rows.proofs.volume.map_in_groups.Goals as goal

pub from_set-requires-clause-groups : goal.from_set-requires-clause-groups
from_set-requires-clause-groups c =
    let least : 2 ^ 13 ≤ 2 ^ c.args.l2 = pow_mono c.requires.least in
    rw (one_shl c.args.l2 32 (omega (arith, c.requires.greatest))) (record { some = c.requires.some; least = least; power = (c.args.l2, refl); most = omega (arith, c.requires.most, least) })
