use Rattle.jfs_run.proofs.serving.uncalled.Goals as goal

pub returns-clause-reads : goal.returns-clause-reads
returns-clause-reads g c = λ k. g.met.D.Disk.reads_now c.args.mounted.log.part k
