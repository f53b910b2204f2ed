use Rattle.std.proofs.Common.{ℕ, ap, subst}
use Rattle.std.proofs.Math.Path.{fun_ext}
use Rattle.jfs_buddy.specs.Tree.{rank_of}
use Rattle.jfs_dmapctl.specs.Control.{IsControl}
use Rattle.jfs_bmap.proofs.Levels.{value-unused, is-value-unused}
use Rattle.jfs_bmap.proofs.map_file.write_unused.Goals as goal

pub ctl_canonical-requires-clause-values : goal.ctl_canonical-requires-clause-values
ctl_canonical-requires-clause-values c v = is-value-unused c.args.level 1024 v

pub returns : goal.returns
returns c = subst (λ (own : ℕ → ℕ). IsControl c.args.level own c.ctl_canonical.new.page.0) (fun_ext (λ v. ap rank_of (value-unused 1024 v))) c.ctl_canonical.ensures
