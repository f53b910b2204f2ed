use Rattle.jfs_bits.specs.Bits.{is_taken}
use Rattle.jfs_bmap.proofs.Views.{length-each_below}
use Rattle.jfs_bmap.proofs.owned_map.OwnedMap.from_set.Goals as goal

pub invariant_of-result : goal.invariant_of-result
invariant_of-result c = rw (c.in_ok-from_set.ensures, length-each_below c.args.blocks (is_taken c.args.set.now)) c.requires.groups
