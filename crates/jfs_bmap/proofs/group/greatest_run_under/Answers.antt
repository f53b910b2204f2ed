use Rattle.std.proofs.Common.{◌∙◌, w8, arith}
use Rattle.std.proofs.lemmas.Int.{to_z-of_z}
use Rattle.jfs_bmap.proofs.Roots.{root-value}
use Rattle.jfs_bmap.proofs.group.greatest_run_under.Goals as goal

pub returns : goal.returns
returns c taken control =
    to_z-of_z w8 c.ctl_root.result (omega arith) ∙ c.ctl_root.ensures.value ∙ root-value taken c.args.control.now.0 control (omega (arith, c.ctl_root.ensures.fits))
