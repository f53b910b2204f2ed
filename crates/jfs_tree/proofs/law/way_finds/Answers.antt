use Rattle.jfs_tree.proofs.Ways.{on_way}
use Rattle.jfs_tree.proofs.law.way_finds.Goals as goal

pub returns : goal.returns
returns g c = on_way g.F.PageForm.scale g.met.F.PageForm.order
