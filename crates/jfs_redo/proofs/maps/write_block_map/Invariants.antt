use Rattle.std.proofs.Common.{◌≡◌, ◌≤◌, ℕ, length}
use Rattle.jfs_bmap.specs.Set.{taken_at}
use Rattle.jfs_bmap.specs.MapFile.{IsMapPage, is_in_use, pages_of}
use Rattle.jfs_redo_steps.specs.objects.specs.Contents.{block_of}
use Rattle.jfs_redo.specs.Put.{ArePut, InBytes, place_if}
use Rattle.jfs_redo.specs.Partly.{KeepsMixed, PutsFile}
use Rattle.jfs_redo.specs.Redo.{StaysBehind}
use Rattle.jfs_redo.proofs.maps.write_block_map.Given as goal

abbrev pub invariant-loop-k : goal.invariant-loop-k
invariant-loop-k g l =
    (g.D.Disk.page_count l.disk ≡ g.D.Disk.page_count l.fn.disk) × (g.D.Disk.room l.disk ≡ g.D.Disk.room l.fn.disk) × (g.D.Disk.fault_count l.disk ≡ g.D.Disk.fault_count l.fn.disk)
    × ((j : ℕ) → l.k ≤ j → block_of l.rest j ≡ block_of l.extents j)
    × (g.D.Disk.tells → ArePut l.k (λ k. place_if (is_in_use (length l.map.owned) k) (block_of l.extents k)) (InBytes (IsMapPage (length l.map.owned) l.map.agsize (taken_at l.map.owned))) (g.D.Disk.image l.fn.disk) (g.D.Disk.image l.disk))
    × (g.D.Disk.tells → StaysBehind l.blocks (g.D.Disk.image l.fn.disk) (g.D.Disk.image l.disk))
    × (g.D.Disk.tells → g.D.Disk.tells_crashes → KeepsMixed l.blocks (PutsFile (pages_of (length l.map.owned)) (λ k. place_if (is_in_use (length l.map.owned) k) (block_of l.extents k)) (InBytes (IsMapPage (length l.map.owned) l.map.agsize (taken_at l.map.owned)))) (g.D.Disk.past l.fn.disk) (g.D.Disk.past l.disk))
