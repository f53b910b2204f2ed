use Rattle.std.proofs.Common.{inr, subst, sym}
use Rattle.jfs_disk.specs.Crash.{IsCrashImage, last_of}
use Rattle.jfs_disk.specs.Image.{Image}
use Rattle.jfs_disk.proofs.WriteThenSync.{resting-synced, stable-synced}
use Rattle.jfs_run.proofs.ending.settle.Goals as goal

pub returns-in-Ok-clause-settled : goal.returns-in-Ok-clause-settled
returns-in-Ok-clause-settled g c = inr (c.in-Ok.ensures.cause.ok, λ k. resting-synced (g.D.Disk.past c.args.disk) (g.D.Disk.past c.sync.new.self) (c.in-Ok.ensures.past k))

pub returns-in-Ok-clause-crash : goal.returns-in-Ok-clause-crash
returns-in-Ok-clause-crash g c = λ k left crash.
    let d = g.D.Disk in
    let laws = g.met.D.Disk in
    subst (λ (im : Image). IsCrashImage (last_of (d.past c.args.disk)) im) (sym (stable-synced (d.past c.args.disk) (d.past c.sync.new.self) (d.image c.args.disk) left (c.in-Ok.ensures.past k) (laws.reads_now c.args.disk k) crash)) (laws.reads_crash c.args.disk k)
