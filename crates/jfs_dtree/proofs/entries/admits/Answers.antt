use Rattle.std.proofs.Common.{sym, ap, ◌∙◌}
use Rattle.jfs_dtree.specs.Node.{not_after}
use Rattle.jfs_dtree.specs.Reach.{next_name}
use Rattle.jfs_dtree.specs.declared.reached.Reached.TheVariants.{Behind}
use Rattle.jfs_dtree.proofs.Entered.{behind_admits}
use Rattle.jfs_dtree.proofs.entries.admits.Goals as goal

pub returns-in-Behind : goal.returns-in-Behind
returns-in-Behind c =
    c.is_before-in-Behind.ensures ∙ behind_admits c.units-in-Behind.result.now c.args.name.now ∙ ap (λ r. not_after r c.args.name.now) (ap (λ u. next_name (Behind u)) c.units-in-Behind.ensures.units ∙ ap next_name (sym c.in-Behind.is))
