use Rattle.std.proofs.Common.{sym, subst, arith}
use Rattle.std.proofs.lemmas.List.{get_or-replicate}
use Rattle.jfs_bits.specs.declared.descriptor.Pxd.{Pxd}
use Rattle.jfs_bits.specs.Descriptor.{FitsPxd}
use Rattle.jfs_iag.specs.Iag.{no_run}
use Rattle.jfs_map_check_rows.proofs.changed.full_iag_passes.Goals as goal

pub iag_canonical-requires-clause-fits : goal.iag_canonical-requires-clause-fits
iag_canonical-requires-clause-fits c e h =
    let extent : Pxd = record { len = 4; addr = 1000 } in
    subst FitsPxd (sym (get_or-replicate 128 e extent no_run h)) (record { len = omega arith; addr = omega arith })
