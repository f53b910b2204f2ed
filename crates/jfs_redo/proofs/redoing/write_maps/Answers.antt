use Rattle.std.proofs.Common.{◌≡◌, ℕ, suc, List, length, inl, inr, sym, subst}
use Rattle.jfs_bits.specs.declared.extent.Xad.{Xad}
use Rattle.jfs_disk.specs.Image.{Image}
use Rattle.jfs_bmap.specs.Set.{taken_at}
use Rattle.jfs_bmap.specs.MapFile.{IsMapPage, is_in_use, pages_of}
use Rattle.jfs_imap.specs.Inodes.{Inodes, IsInodePage}
use Rattle.jfs_disk.specs.Crash.{DiskState}
use Rattle.jfs_redo.specs.Partly.{KeepsMixed, PutsFile, PutsMaps}
use Rattle.jfs_redo.specs.declared.plan.Plan.{Plan}
use Rattle.jfs_redo.proofs.Keeps.{keeps_none, keeps_on, keeps_more, keeps_sync}
use Rattle.jfs_redo_steps.specs.objects.specs.Contents.{block_of}
use Rattle.jfs_redo.specs.Put.{ArePut, InBytes, place_if}
use Rattle.jfs_disk.proofs.WriteThenSync.{resting-synced}
use Rattle.jfs_redo.proofs.redoing.write_maps.Goals as goal

pub returns-in-Ok-sync-clause-rests : goal.returns-in-Ok-sync-clause-rests
returns-in-Ok-sync-clause-rests g c = λ k. resting-synced (g.D.Disk.past c.write_inode_map.new.disk) (g.D.Disk.past c.sync.new.self) (c.in-Ok-sync.ensures.past k)

pub returns-in-Ok-sync-clause-written : goal.returns-in-Ok-sync-clause-written
returns-in-Ok-sync-clause-written g c tells =
    let plan = c.args.plan.now in
    let owned = plan.blocks.owned in
    let old = g.D.Disk.image c.args.disk.now in
    let mid = g.D.Disk.image c.write_block_map.new.disk in
    let last = g.D.Disk.image c.write_inode_map.new.disk in
    let blocks : ArePut (pages_of plan.maps.blocks) (λ k. place_if (is_in_use plan.maps.blocks k) (block_of plan.maps.block_map k)) (InBytes (IsMapPage plan.maps.blocks plan.blocks.agsize (taken_at owned))) old mid =
    subst (λ (n : ℕ). ArePut (pages_of n) (λ k. place_if (is_in_use n k) (block_of plan.maps.block_map k)) (InBytes (IsMapPage n plan.blocks.agsize (taken_at owned))) old mid) c.requires.same
    (subst (λ (xs : List Xad). ArePut (pages_of (length owned)) (λ k. place_if (is_in_use (length owned) k) (block_of xs k)) (InBytes (IsMapPage (length owned) plan.blocks.agsize (taken_at owned))) old mid) c.as_slice.ensures (c.in-Ok.ensures.put tells)) in
    let inodes : ArePut (suc plan.maps.inodes.iags) (block_of plan.maps.inodes.extents) (InBytes (IsInodePage c.args.inodes.now)) mid (g.D.Disk.image c.sync.new.self) =
    subst (λ (i : Image). ArePut (suc plan.maps.inodes.iags) (block_of plan.maps.inodes.extents) (InBytes (IsInodePage c.args.inodes.now)) mid i) (sym (c.in-Ok-sync.ensures.image tells))
    (subst (λ (xs : List Xad). ArePut (suc plan.maps.inodes.iags) (block_of xs) (InBytes (IsInodePage c.args.inodes.now)) mid last) c.as_slice-2.ensures (c.in-Ok-write_inode_map.ensures.put tells)) in
    record { between = mid; block_map = blocks; inode_map = inodes }

-- the block map's pages, as the plan has them
blocks_kept : (plan : Plan) (inodes : Inodes) (told : List Xad) (past new : List DiskState) → length plan.blocks.owned ≡ plan.maps.blocks → told ≡ plan.maps.block_map
    → KeepsMixed plan.maps.blocks (PutsFile (pages_of (length plan.blocks.owned)) (λ k. place_if (is_in_use (length plan.blocks.owned) k) (block_of told k)) (InBytes (IsMapPage (length plan.blocks.owned) plan.blocks.agsize (taken_at plan.blocks.owned)))) past new
    → KeepsMixed plan.maps.blocks (PutsMaps plan.maps.blocks plan inodes) past new
blocks_kept plan inodes told past new number is keeps =
    keeps_more plan.maps.blocks (PutsFile (pages_of plan.maps.blocks) (λ k. place_if (is_in_use plan.maps.blocks k) (block_of plan.maps.block_map k)) (InBytes (IsMapPage plan.maps.blocks plan.blocks.agsize (taken_at plan.blocks.owned))))
    (PutsMaps plan.maps.blocks plan inodes) past new (λ p page puts. inl puts)
    (subst (λ (n : ℕ). KeepsMixed plan.maps.blocks (PutsFile (pages_of n) (λ k. place_if (is_in_use n k) (block_of plan.maps.block_map k)) (InBytes (IsMapPage n plan.blocks.agsize (taken_at plan.blocks.owned)))) past new) number
    (subst (λ (xs : List Xad). KeepsMixed plan.maps.blocks (PutsFile (pages_of (length plan.blocks.owned)) (λ k. place_if (is_in_use (length plan.blocks.owned) k) (block_of xs k)) (InBytes (IsMapPage (length plan.blocks.owned) plan.blocks.agsize (taken_at plan.blocks.owned)))) past new) is keeps))

inodes_kept : (plan : Plan) (inodes : Inodes) (told : List Xad) (past new : List DiskState) → told ≡ plan.maps.inodes.extents → KeepsMixed plan.maps.blocks (PutsFile (suc plan.maps.inodes.iags) (block_of told) (InBytes (IsInodePage inodes))) past new
    → KeepsMixed plan.maps.blocks (PutsMaps plan.maps.blocks plan inodes) past new
inodes_kept plan inodes told past new is keeps =
    keeps_more plan.maps.blocks (PutsFile (suc plan.maps.inodes.iags) (block_of plan.maps.inodes.extents) (InBytes (IsInodePage inodes))) (PutsMaps plan.maps.blocks plan inodes) past new (λ p page puts. inr puts)
    (subst (λ (xs : List Xad). KeepsMixed plan.maps.blocks (PutsFile (suc plan.maps.inodes.iags) (block_of xs) (InBytes (IsInodePage inodes))) past new) is keeps)

pub returns-in-Err-clause-moments : goal.returns-in-Err-clause-moments
returns-in-Err-clause-moments g c = λ tells crashes.
    blocks_kept c.args.plan.now c.args.inodes.now c.as_slice.result.now (g.D.Disk.past c.args.disk.now) (g.D.Disk.past c.write_block_map.new.disk) c.requires.same c.as_slice.ensures (c.write_block_map.ensures.moments tells crashes)

pub returns-in-Err-write_inode_map-clause-moments : goal.returns-in-Err-write_inode_map-clause-moments
returns-in-Err-write_inode_map-clause-moments g c = λ tells crashes.
    let plan = c.args.plan.now in
    let inodes = c.args.inodes.now in
    keeps_on plan.maps.blocks (PutsMaps plan.maps.blocks plan inodes) (g.D.Disk.past c.args.disk.now) (g.D.Disk.past c.write_block_map.new.disk) (g.D.Disk.past c.write_inode_map.new.disk)
    (blocks_kept plan inodes c.as_slice.result.now (g.D.Disk.past c.args.disk.now) (g.D.Disk.past c.write_block_map.new.disk) c.requires.same c.as_slice.ensures (c.write_block_map.ensures.moments tells crashes))
    (inodes_kept plan inodes c.as_slice-2.result.now (g.D.Disk.past c.write_block_map.new.disk) (g.D.Disk.past c.write_inode_map.new.disk) c.as_slice-2.ensures (c.write_inode_map.ensures.moments tells crashes))

pub returns-in-Ok-sync-clause-moments : goal.returns-in-Ok-sync-clause-moments
returns-in-Ok-sync-clause-moments g c = λ tells crashes.
    let plan = c.args.plan.now in
    let inodes = c.args.inodes.now in
    let puts = PutsMaps plan.maps.blocks plan inodes in
    let disk = c.write_inode_map.new.disk in
    keeps_on plan.maps.blocks puts (g.D.Disk.past c.args.disk.now) (g.D.Disk.past disk) (g.D.Disk.past c.sync.new.self)
    (keeps_on plan.maps.blocks puts (g.D.Disk.past c.args.disk.now) (g.D.Disk.past c.write_block_map.new.disk) (g.D.Disk.past disk)
    (blocks_kept plan inodes c.as_slice.result.now (g.D.Disk.past c.args.disk.now) (g.D.Disk.past c.write_block_map.new.disk) c.requires.same c.as_slice.ensures (c.write_block_map.ensures.moments tells crashes))
    (inodes_kept plan inodes c.as_slice-2.result.now (g.D.Disk.past c.write_block_map.new.disk) (g.D.Disk.past disk) c.as_slice-2.ensures (c.write_inode_map.ensures.moments tells crashes)))
    (keeps_sync plan.maps.blocks puts (g.D.Disk.image disk) (g.D.Disk.past disk) (g.D.Disk.past c.sync.new.self) (g.met.D.Disk.reads_now disk crashes) (g.met.D.Disk.reads_crash disk crashes) (c.in-Ok-sync.ensures.past crashes))

pub returns-in-Err-sync-clause-moments : goal.returns-in-Err-sync-clause-moments
returns-in-Err-sync-clause-moments g c = λ tells crashes.
    let plan = c.args.plan.now in
    let inodes = c.args.inodes.now in
    let puts = PutsMaps plan.maps.blocks plan inodes in
    let disk = c.write_inode_map.new.disk in
    keeps_on plan.maps.blocks puts (g.D.Disk.past c.args.disk.now) (g.D.Disk.past disk) (g.D.Disk.past c.sync.new.self)
    (keeps_on plan.maps.blocks puts (g.D.Disk.past c.args.disk.now) (g.D.Disk.past c.write_block_map.new.disk) (g.D.Disk.past disk)
    (blocks_kept plan inodes c.as_slice.result.now (g.D.Disk.past c.args.disk.now) (g.D.Disk.past c.write_block_map.new.disk) c.requires.same c.as_slice.ensures (c.write_block_map.ensures.moments tells crashes))
    (inodes_kept plan inodes c.as_slice-2.result.now (g.D.Disk.past c.write_block_map.new.disk) (g.D.Disk.past disk) c.as_slice-2.ensures (c.write_inode_map.ensures.moments tells crashes)))
    (keeps_none plan.maps.blocks puts (g.D.Disk.past disk) (g.D.Disk.past c.sync.new.self) (c.in-Err-sync.ensures.past_failed crashes))
