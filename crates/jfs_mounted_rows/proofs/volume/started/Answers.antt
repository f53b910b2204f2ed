use Rattle.jfs_mounted_rows.proofs.volume.started.Goals as goal

pub start-requires-clause-files : goal.start-requires-clause-files
start-requires-clause-files g c = rw (c.new-cache.ensures.disk.1, c.in_ok-maps.ensures.size, c.in_ok-maps.ensures.iags) c.in_ok-files.ensures
