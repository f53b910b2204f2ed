use Rattle.jfs_shared.proofs.Writing.{may_tell, told_all}
use Rattle.jfs_shared.proofs.committing.commit_with.Goals as goal

pub told-requires : goal.told-requires
told-requires g c = may_tell g.D.Disk c.args.shared.now c.args.log.now c.write_waiting.new.shared c.write_waiting.new.log c.requires.together c.in-Ok.ensures.write c.appended-all.result c.appended-all.ensures

pub returns-in-Ok-clause-commit : goal.returns-in-Ok-clause-commit
returns-in-Ok-clause-commit g c n k =
    told_all g.D.Disk c.args.shared.now c.args.log.now c.write_waiting.new.shared c.write_waiting.new.log n (c.in-Ok.ensures.write n k) c.appended-all.result c.appended-all.ensures c.told.new.self c.told.ensures.parts c.told.ensures.shows c.told.ensures.told
