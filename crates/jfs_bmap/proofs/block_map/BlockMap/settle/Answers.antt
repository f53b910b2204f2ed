use Rattle.std.proofs.Common.{◌∙◌, refl}
use Rattle.std.specs.BinaryHeap.{heap_items}
use Rattle.jfs_bmap.proofs.Opened.{parts}
use Rattle.jfs_bmap.proofs.Kept.{view-settled}
use Rattle.jfs_bmap.proofs.block_map.BlockMap.settle.Goals as goal

pub returns : goal.returns
returns c =
    rw (← c.self.view_is) (view-settled (parts c.self.inside) c.free_told.new.used (heap_items c.free_told.new.freed) c.args.told c.self.invariant.0 c.free_told.ensures.blocks (λ b. c.free_told.ensures.used b ∙ rw c.as_slice-entries.ensures.value refl) c.self.inside.agsize c.self.inside.spare)
