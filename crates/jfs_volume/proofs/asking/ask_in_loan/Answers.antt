use Rattle.jfs_volume.proofs.Lending.{same_loan, leaves_cache}
use Rattle.jfs_volume.proofs.asking.ask_in_loan.Goals as goal

pub returns-clause-loan : goal.returns-clause-loan
returns-clause-loan g c = same_loan g.D.Disk c.args.front.now.cache.now c.ask.new.view.cache.now c.args.front.now.cache.ghost_name c.ask.new.view.cache.ghost_name c.ask.ensures.device

pub returns-clause-cache : goal.returns-clause-cache
returns-clause-cache g c = leaves_cache g.D.Disk c.args.front.now.cache.now c.ask.new.view.cache.now c.args.front.now.cache.ghost_name c.ask.new.view.cache.ghost_name c.ask.ensures.device c.ask.ensures.image
