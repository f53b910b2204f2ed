-- The root of the control page of level 0 is the greatest free run of the volume.
use Rattle.std.proofs.Common.{◌≡◌, ◌<◌, ℕ, Bool, List, to_z, w8, arith}
use Rattle.jfs_bits.specs.Field.{field_of}
use Rattle.jfs_bits.specs.Bits.{greatest_run}
use Rattle.jfs_buddy.proofs.Spans.{tree-greatest, tree-value}
use Rattle.jfs_dmapctl.specs.Control.{tree_of, IsControl}
use Rattle.jfs_bmap.specs.Pages.{leaf_ranks}
use Rattle.jfs_bmap.specs.Laws.{RootIsGreatest}
use Rattle.jfs_bmap.proofs.Lowest.{are-ranks}

-- the root's rank
pub root-greatest : RootIsGreatest
root-greatest taken page control = tree-greatest (are-ranks taken) 5 (tree_of page) control.tree

-- the root's byte
pub root-value : (taken : ℕ → Bool) (page : List ℕ) → IsControl 0 (leaf_ranks taken) page → field_of page 17 1 < 256 → to_z w8 (field_of page 17 1) ≡ greatest_run taken 23 23
root-value taken page control small = tree-value (are-ranks taken) 5 17 1365 page (omega arith) (omega arith) control.tree small
