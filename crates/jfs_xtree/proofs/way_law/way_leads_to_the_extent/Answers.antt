use Rattle.jfs_tree.proofs.Ways.{on_way}
use Rattle.jfs_xtree.specs.Laws.{order}
use Rattle.jfs_xtree.specs.Node.{xt_scale}
use Rattle.jfs_xtree.specs.Spells.{root_node, page_nodes, point}
use Rattle.jfs_xtree.proofs.Roots.{is_point}
use Rattle.jfs_xtree.proofs.way_law.way_leads_to_the_extent.Goals as goal

pub returns : goal.returns
returns c blocks pages root offset es spelled = on_way xt_scale order (point offset) (is_point offset) (page_nodes blocks pages) (root_node blocks root) es spelled
