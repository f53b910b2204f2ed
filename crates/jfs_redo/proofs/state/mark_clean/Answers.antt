use Rattle.jfs_disk.proofs.WriteThenSync.{resting-synced}
use Rattle.jfs_redo.proofs.Marked.{written_and_synced}
use Rattle.jfs_redo.proofs.state.mark_clean.Goals as goal

pub returns-in-Ok-sync-clause-stable : goal.returns-in-Ok-sync-clause-stable
returns-in-Ok-sync-clause-stable g c = λ k. resting-synced (g.D.Disk.past c.write.new.self) (g.D.Disk.past c.sync.new.self) (c.in-Ok-sync.ensures.past k)

pub returns-in-Ok-sync-clause-marked : goal.returns-in-Ok-sync-clause-marked
returns-in-Ok-sync-clause-marked g c = λ k.
    let bytes = c.write_super.new.page.0 in (
      bytes,
      written_and_synced 8 bytes (g.D.Disk.past c.args.disk.now) (g.D.Disk.past c.read.new.self) (g.D.Disk.past c.write.new.self) (g.D.Disk.past c.sync.new.self)
          (c.read.ensures.past k) (c.in-Ok-write.ensures.past k) (c.in-Ok-sync.ensures.past k),
    )
