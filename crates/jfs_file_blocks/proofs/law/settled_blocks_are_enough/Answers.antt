use Rattle.std.proofs.Common.{arith, false}
use Rattle.jfs_claim.proofs.Looks.{settled_is_enough}
use Rattle.jfs_file_blocks.specs.Reserving.{total}
use Rattle.jfs_file_blocks.proofs.law.settled_blocks_are_enough.Goals as goal

pub returns : goal.returns
returns c map want none enough = let h = settled_is_enough map (record { run = false; blocks = total want }) none (omega (arith, enough)) (λ t. absurd (cc (t))) in let l = h.0 in omega (arith, l)
