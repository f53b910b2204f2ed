use Rattle.std.proofs.Common.{refl}
use Rattle.jfs_volume.proofs.Homing.{syncs_moves, sync_stops}
use Rattle.jfs_volume.proofs.volume.Volume.sync_low.Goals as goal

pub returns-in-Ok-clause-sync : goal.returns-in-Ok-clause-sync
returns-in-Ok-clause-sync g c =
    let d = g.D.Disk in
    let e = c.in-Ok.ensures in
    rw (← c.self.view_is) (λ seen asked told crashes half s.
    syncs_moves seen asked _ _ half s
    (rw (e.blocks, e.kept, e.count, e.room) refl)
    (λ t. rw (e.blocks, e.kept, e.syncs.0 (told t)) refl)
    (λ t. e.syncs.0 (told t))
    (λ t k. e.syncs.1 (crashes k)))

pub returns-in-Err-clause-sync : goal.returns-in-Err-clause-sync
returns-in-Err-clause-sync g c =
    let d = g.D.Disk in
    let e = c.in-Err.ensures in
    rw (← c.self.view_is) (λ seen asked told crashes half s.
    rw c.halt.ensures.halted
    (sync_stops seen asked _ _ half c.in-Err.fault s
    (rw (e.blocks, e.kept, e.count, e.room) refl)
    (λ t. rw (e.blocks, e.kept, e.syncs.image (told t)) refl)
    (λ t. e.syncs.image (told t))
    (λ t k. e.syncs.states (crashes k))))

pub returns-in-Ok-clause-alone : goal.returns-in-Ok-clause-alone
returns-in-Ok-clause-alone g c =
    let d = g.D.Disk in
    let e = c.sync.ensures in
    rw (← c.self.view_is) (record {
      parts = rw (e.blocks, e.kept, e.count, e.room) refl;
      view = λ t. rw (e.blocks, e.kept, c.in-Ok.ensures.syncs.0 t) refl;
    })

pub returns-in-Err-clause-alone : goal.returns-in-Err-clause-alone
returns-in-Err-clause-alone g c =
    let d = g.D.Disk in
    let e = c.sync.ensures in
    rw (← c.self.view_is) (rw c.halt.ensures.halted (record {
      parts = rw (e.blocks, e.kept, e.count, e.room) refl;
      view = λ t. rw (e.blocks, e.kept, c.in-Err.ensures.syncs.image t) refl;
    }))
