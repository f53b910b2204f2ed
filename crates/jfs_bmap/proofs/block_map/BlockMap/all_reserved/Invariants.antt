use Rattle.std.proofs.Common.{◌≡◌, length}
use Rattle.std.specs.List.{list_all}
use Rattle.jfs_bits.specs.Bits.{is_full}
use Rattle.jfs_bits.specs.declared.descriptor.Pxd.{Pxd}
use Rattle.jfs_bmap.specs.States.{is_reserved}
use Rattle.jfs_bmap.proofs.block_map.BlockMap.all_reserved.Given as goal

abbrev pub invariant-loop-run : goal.invariant-loop-run
invariant-loop-run l = list_all (λ (run : Pxd). is_full (is_reserved l.self) run.addr run.len) l.runs ≡ list_all (λ (run : Pxd). is_full (is_reserved l.self) run.addr run.len) l.rest

abbrev pub decreases-loop-run : goal.decreases-loop-run
decreases-loop-run l = length l.rest
