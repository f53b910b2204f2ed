-- Pages of a volume go home.
use Rattle.std.specs.Prelude.{◌≡◌}
use Rattle.jfs_kept_history.specs.legal.specs.served.specs.halves.specs.Parts.{Parts}

-- nothing joins, is taken, acknowledged or logged
abbrev pub IsSettled : Parts → Parts → Type 0
IsSettled old new = new ≡ record old { view = new.view; dirty = new.dirty; disk = new.disk; past = new.past; faults = new.faults; files = new.files; halted = new.halted }
