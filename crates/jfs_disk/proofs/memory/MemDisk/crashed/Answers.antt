use Rattle.jfs_disk.specs.TableLaw.{reads_crash_of}
use Rattle.jfs_disk.proofs.Crashed.{IsCrashImage-chosen}
use Rattle.jfs_disk.proofs.memory.MemDisk.crashed.Goals as goal

pub returns-clause-crash : goal.returns-clause-crash
returns-clause-crash c =
    let store = c.args.self.store in
    IsCrashImage-chosen c.args.choices.now _ _ (reads_crash_of store.count store.slots.items store.past.states store.current) c.crash.ensures.chosen
