-- What a disk in memory stands for.
use Rattle.std.specs.Prelude.{List}
use Rattle.jfs_disk.specs.Crash.{DiskState}
use Rattle.jfs_disk.specs.declared.store.Store.{Store}

abbrev pub past_in : Store → List DiskState
past_in store = store.past.states
