use Rattle.std.proofs.Common.{ap}
use Rattle.jfs_tree.specs.Laws.{as_nodes}
use Rattle.jfs_tree.proofs.Footprint.{spells_frame, footprint_frame}
use Rattle.jfs_tree.proofs.law.trees_are_framed.Goals as goal

pub returns : goal.returns
returns g c old new root same =
    let node = g.F.PageForm.node c.args.form.now in
    let top = g.F.PageForm.node c.args.top.now root in
    (spells_frame g.F.PageForm.scale (as_nodes node old) (as_nodes node new) top (λ n p. ap node (same n p)), footprint_frame g.F.PageForm.scale (as_nodes node old) (as_nodes node new) top (λ n p. ap node (same n p)))
