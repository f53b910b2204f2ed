use Rattle.std.proofs.Common.{refl, arith}
use Rattle.jfs_records.proofs.Sizes.{bytes_for}
use Rattle.jfs_records.proofs.open.Open.new.Goals as goal

pub returns : goal.returns
returns c = record {
  alike = λ s. refl;
  bytes_are = omega (arith, c.data_size.ensures, bytes_for c.args.owner c.args.first.now);
}
