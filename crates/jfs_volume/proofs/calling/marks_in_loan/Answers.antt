use Rattle.jfs_volume.proofs.Lending.{same_loan, leaves_cache}
use Rattle.jfs_volume.proofs.calling.marks_in_loan.Goals as goal

pub returns-in-Ok-Fits-clause-loan : goal.returns-in-Ok-Fits-clause-loan
returns-in-Ok-Fits-clause-loan g c = same_loan g.D.Disk c.args.front.now.cache.now c.inode_marks.new.view.cache.now c.args.front.now.cache.ghost_name c.inode_marks.new.view.cache.ghost_name c.inode_marks.ensures.device

pub returns-in-Ok-Fits-clause-cache : goal.returns-in-Ok-Fits-clause-cache
returns-in-Ok-Fits-clause-cache g c = leaves_cache g.D.Disk c.args.front.now.cache.now c.inode_marks.new.view.cache.now c.args.front.now.cache.ghost_name c.inode_marks.new.view.cache.ghost_name c.inode_marks.ensures.device c.inode_marks.ensures.image

pub returns-in-Ok-Unfit-clause-loan : goal.returns-in-Ok-Unfit-clause-loan
returns-in-Ok-Unfit-clause-loan g c = same_loan g.D.Disk c.args.front.now.cache.now c.inode_marks.new.view.cache.now c.args.front.now.cache.ghost_name c.inode_marks.new.view.cache.ghost_name c.inode_marks.ensures.device

pub returns-in-Ok-Unfit-clause-cache : goal.returns-in-Ok-Unfit-clause-cache
returns-in-Ok-Unfit-clause-cache g c = leaves_cache g.D.Disk c.args.front.now.cache.now c.inode_marks.new.view.cache.now c.args.front.now.cache.ghost_name c.inode_marks.new.view.cache.ghost_name c.inode_marks.ensures.device c.inode_marks.ensures.image

pub returns-in-Err-clause-loan : goal.returns-in-Err-clause-loan
returns-in-Err-clause-loan g c = same_loan g.D.Disk c.args.front.now.cache.now c.inode_marks.new.view.cache.now c.args.front.now.cache.ghost_name c.inode_marks.new.view.cache.ghost_name c.inode_marks.ensures.device

pub returns-in-Err-clause-cache : goal.returns-in-Err-clause-cache
returns-in-Err-clause-cache g c = leaves_cache g.D.Disk c.args.front.now.cache.now c.inode_marks.new.view.cache.now c.args.front.now.cache.ghost_name c.inode_marks.new.view.cache.ghost_name c.inode_marks.ensures.device c.inode_marks.ensures.image
