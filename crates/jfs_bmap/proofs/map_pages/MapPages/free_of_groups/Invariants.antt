use Rattle.std.proofs.Common.{◌≡◌, not, length}
use Rattle.jfs_bmap.specs.Set.{taken_at}
use Rattle.jfs_bmap.proofs.Groups.{AreFronts}
use Rattle.jfs_bmap.proofs.map_pages.MapPages.free_of_groups.Given as goal

abbrev pub invariant-loop-k : goal.invariant-loop-k
invariant-loop-k l = record { size : length l.groups ≡ 128; counts : AreFronts l.agsize (λ b. not (taken_at l.self b)) l.k l.groups }
