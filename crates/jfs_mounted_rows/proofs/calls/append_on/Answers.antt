use Rattle.std.proofs.Common.{◌≡◌, ℕ, true, List, [], sym, subst, ap}
use Rattle.jfs_bmap.specs.States.{AreReserved}
use Rattle.jfs_ranges.specs.declared.edit.Edit.{Edit}
use Rattle.jfs_volume.specs.Runs.{taken_in}
use Rattle.jfs_mounted_rows.proofs.Fresh.{none_reserved}
use Rattle.jfs_mounted_rows.proofs.calls.append_on.Goals as goal

pub append-requires-clause-reserved : goal.append-requires-clause-reserved
append-requires-clause-reserved g c = subst (λ (edits : List Edit). AreReserved c.args.volume.now.map (taken_in edits)) (sym c.new-tx.ensures) (none_reserved c.args.volume.now.map)
