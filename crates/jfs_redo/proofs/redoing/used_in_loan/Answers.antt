use Rattle.std.proofs.Common.{ap}
use Rattle.jfs_ranges.specs.View.{Device}
use Rattle.jfs_mount_maps.specs.reader.proofs.Loan.{same_loan, same_disk}
use Rattle.jfs_redo.proofs.redoing.used_in_loan.Goals as goal

pub returns-clause-loan : goal.returns-clause-loan
returns-clause-loan g c = same_loan g.D.Disk c.args.view.now.disk.now c.inodes_in_use.new.view.disk.now c.args.view.now.disk.ghost_name c.inodes_in_use.new.view.disk.ghost_name c.inodes_in_use.ensures.device

pub returns-clause-pages : goal.returns-clause-pages
returns-clause-pages g c =
    ap (λ (d : Device g.D.Disk.tells_crashes). d.pages) (same_disk g.D.Disk c.args.view.now.disk.now c.inodes_in_use.new.view.disk.now c.args.view.now.disk.ghost_name c.inodes_in_use.new.view.disk.ghost_name c.inodes_in_use.ensures.device)

pub returns-clause-past : goal.returns-clause-past
returns-clause-past g c told =
    ap (λ (d : Device g.D.Disk.tells_crashes). d.states told) (same_disk g.D.Disk c.args.view.now.disk.now c.inodes_in_use.new.view.disk.now c.args.view.now.disk.ghost_name c.inodes_in_use.new.view.disk.ghost_name c.inodes_in_use.ensures.device)
