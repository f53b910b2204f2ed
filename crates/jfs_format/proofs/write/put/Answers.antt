use Rattle.std.proofs.Common.{arith}
use Rattle.jfs_format.proofs.Written.{inside, others-put}
use Rattle.jfs_logpages.proofs.Histories.{histories-written, histories-failed}
use Rattle.jfs_format.proofs.write.put.Goals as goal

pub returns-clause-wrote : goal.returns-clause-wrote
returns-clause-wrote g c = record {
  pages = c.in_ok-write.ensures.pages;
  others = λ t. others-put c.args.n (g.D.Disk.image c.args.disk.now) (g.D.Disk.image c.write.new.self) c.args.page.now.0 (c.in_ok-write.ensures.image t);
  past = λ k. histories-written _ (g.D.Disk.past c.args.disk.now) (g.D.Disk.past c.write.new.self) c.args.n c.args.page.now.0 (inside c.args.n 1 c.args.n (omega arith) (omega arith)) (c.in_ok-write.ensures.past k);
}

pub returns-in_err-write-clause-wrote : goal.returns-in_err-write-clause-wrote
returns-in_err-write-clause-wrote g c = record {
  pages = c.in_err-write.ensures.pages;
  others = λ t. others-put c.args.n (g.D.Disk.image c.args.disk.now) (g.D.Disk.image c.write.new.self) _ (c.in_err-write.ensures.image_failed t).2;
  past = λ k. histories-failed _ (g.D.Disk.past c.args.disk.now) (g.D.Disk.past c.write.new.self) c.args.n c.args.page.now.0 (inside c.args.n 1 c.args.n (omega arith) (omega arith)) (c.in_err-write.ensures.past_failed k);
}
