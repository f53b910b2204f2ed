use Rattle.std.proofs.Common.{◌≡◌, ◌-◌, arith, subst, ℕ}
use Rattle.jfs_imap.specs.Inodes.{IsPageOfIag}
use Rattle.jfs_format.specs.Volume.{inodes_in}
use Rattle.jfs_format.proofs.inode_map.fill_map.Goals as goal

pub returns-then-n-eq0 : goal.returns-then-n-eq0
returns-then-n-eq0 c = record { control = λ e. c.fill_control.ensures; iag = λ k e. absurd (omega (arith, e, c.if-n-eq0.true)) }

pub returns-else-n-eq0 : goal.returns-else-n-eq0
returns-else-n-eq0 c = record {
  control = λ e. absurd (c.if-n-eq0.false e);
  iag = λ k e. let is : c.args.n - 1 ≡ k = omega (arith, e) in subst (λ (j : ℕ). IsPageOfIag (inodes_in c.args.table c.args.l) j c.fill_iag.new.page.0) is c.fill_iag.ensures;
}
