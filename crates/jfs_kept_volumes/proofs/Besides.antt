-- A log beside a volume that is held.
use Rattle.std.proofs.Common.{◌≡◌}
use Rattle.jfs_kept_volumes.specs.Logs.{BesideLaw}
use Rattle.jfs_kept_volumes.proofs.Beside.{log_is, may_be}
use Rattle.jfs_kept_volumes.proofs.Logs.{other_log_at_law}
use Rattle.jfs_kept_volumes.proofs.Maps.{of_counts}

pub beside_law : BesideLaw
beside_law m area p x log is beside =
    let own = is.rest.events in
    let e = beside.events in
    record {
      held = other_log_at_law m area p x log is.held (may_be _ x.both log is.rest own.0 own.1 own.2 own.3 e.0 e.1 e.2 e.3 beside.told);
      maps = of_counts m x _ x.core.taken x.both.volume.taken x.both.volume.waiting log is.maps;
      log_is = log_is _ x.both log is.rest own.0 own.1 own.2 own.3 e.0 e.1 e.2 e.3 beside.group;
    }
