use Rattle.std.proofs.Common.{ap}
use Rattle.jfs_ranges.specs.View.{Device}
use Rattle.jfs_findings.specs.reader.proofs.Loan.{same_loan, same_disk}
use Rattle.jfs_check.proofs.checking.check_loan.Goals as goal

pub returns-clause-loan : goal.returns-clause-loan
returns-clause-loan g c = same_loan g.D.Disk c.args.view.now.disk.now c.check_view.new.view.disk.now c.args.view.now.disk.ghost_name c.check_view.new.view.disk.ghost_name c.check_view.ensures.device

pub returns-clause-pages : goal.returns-clause-pages
returns-clause-pages g c =
    ap (λ (d : Device g.D.Disk.tells_crashes). d.pages) (same_disk g.D.Disk c.args.view.now.disk.now c.check_view.new.view.disk.now c.args.view.now.disk.ghost_name c.check_view.new.view.disk.ghost_name c.check_view.ensures.device)

pub returns-clause-past : goal.returns-clause-past
returns-clause-past g c told =
    ap (λ (d : Device g.D.Disk.tells_crashes). d.states told) (same_disk g.D.Disk c.args.view.now.disk.now c.check_view.new.view.disk.now c.args.view.now.disk.ghost_name c.check_view.new.view.disk.ghost_name c.check_view.ensures.device)
