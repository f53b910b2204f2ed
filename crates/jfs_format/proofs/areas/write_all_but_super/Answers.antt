use Rattle.jfs_format.proofs.Ways.{named-part, named-both, all-made}
use Rattle.jfs_format.proofs.areas.write_all_but_super.Goals as goal

pub returns-in_err-write_blocks-clause-wrote : goal.returns-in_err-write_blocks-clause-wrote
returns-in_err-write_blocks-clause-wrote g c = named-part g.D.Disk c.args.v.layout c.args.disk.now c.write_blocks.new.disk c.in_err-write_blocks.ensures.wrote

pub returns-in_err-write_log-clause-wrote : goal.returns-in_err-write_log-clause-wrote
returns-in_err-write_log-clause-wrote g c = named-both g.D.Disk _ c.args.v.layout c.args.disk.now c.write_blocks.new.disk c.write_log.new.disk (g.met.D.Disk.has_state c.args.disk.now) c.requires c.in_ok-write_blocks.ensures.wrote c.in_err-write_log.ensures.wrote

pub returns-clause-wrote : goal.returns-clause-wrote
returns-clause-wrote g c = named-both g.D.Disk _ c.args.v.layout c.args.disk.now c.write_blocks.new.disk c.write_log.new.disk (g.met.D.Disk.has_state c.args.disk.now) c.requires c.in_ok-write_blocks.ensures.wrote c.in_ok-write_log.ensures.wrote

pub returns-clause-all : goal.returns-clause-all
returns-clause-all g c = λ t. all-made _ c.args.v (g.D.Disk.image c.write_blocks.new.disk) (g.D.Disk.image c.write_log.new.disk) c.requires (c.in_ok-write_log.ensures.wrote.others t) (c.in_ok-write_blocks.ensures.blocks t) (c.in_ok-write_log.ensures.log t)
