use Rattle.std.proofs.Common.{arith}
use Rattle.std.proofs.lemmas.List.{get_or-replicate}
use Rattle.jfs_iag.specs.Iag.{no_run}
use Rattle.jfs_map_check_rows.proofs.changed.iag_passes.Goals as goal

pub iag_canonical-requires-clause-fits : goal.iag_canonical-requires-clause-fits
iag_canonical-requires-clause-fits c e h = rw (get_or-replicate 128 e no_run no_run h) (record { len = omega arith; addr = omega arith })
