use Rattle.std.proofs.Common.{◌*◌, ◌^◌}
use Rattle.std.proofs.Math.Nat.{mod-add-mod}
use Rattle.jfs_gen.specs.Workload.{next}
use Rattle.jfs_gen.proofs.script.next.Goals as goal

pub returns : goal.returns
unfolding next
returns c = mod-add-mod (c.args.x * 6364136223846793005) (2 ^ 64) 1442695040888963407
