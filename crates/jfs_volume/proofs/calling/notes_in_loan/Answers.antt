use Rattle.jfs_volume.proofs.Lending.{same_loan, leaves_cache}
use Rattle.jfs_volume.proofs.calling.notes_in_loan.Goals as goal

pub returns-in-Ok-clause-loan : goal.returns-in-Ok-clause-loan
returns-in-Ok-clause-loan g c = same_loan g.D.Disk c.args.front.now.cache.now c.notes_of.new.view.cache.now c.args.front.now.cache.ghost_name c.notes_of.new.view.cache.ghost_name c.notes_of.ensures.device

pub returns-in-Ok-clause-cache : goal.returns-in-Ok-clause-cache
returns-in-Ok-clause-cache g c = leaves_cache g.D.Disk c.args.front.now.cache.now c.notes_of.new.view.cache.now c.args.front.now.cache.ghost_name c.notes_of.new.view.cache.ghost_name c.notes_of.ensures.device c.notes_of.ensures.image

pub returns-in-Err-clause-loan : goal.returns-in-Err-clause-loan
returns-in-Err-clause-loan g c = same_loan g.D.Disk c.args.front.now.cache.now c.notes_of.new.view.cache.now c.args.front.now.cache.ghost_name c.notes_of.new.view.cache.ghost_name c.notes_of.ensures.device

pub returns-in-Err-clause-cache : goal.returns-in-Err-clause-cache
returns-in-Err-clause-cache g c = leaves_cache g.D.Disk c.args.front.now.cache.now c.notes_of.new.view.cache.now c.args.front.now.cache.ghost_name c.notes_of.new.view.cache.ghost_name c.notes_of.ensures.device c.notes_of.ensures.image
