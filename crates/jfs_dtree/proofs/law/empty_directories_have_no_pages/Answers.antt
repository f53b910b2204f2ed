use Rattle.jfs_dtree.specs.Laws.{order}
use Rattle.jfs_dtree.specs.Node.{name_scale}
use Rattle.jfs_dtree.specs.Spells.{page_nodes, root_node}
use Rattle.jfs_dtree.proofs.Bare.{bare_tree}
use Rattle.jfs_dtree.proofs.law.empty_directories_have_no_pages.Goals as goal

pub returns : goal.returns
returns c blocks pages root spelled n = bare_tree name_scale order (page_nodes blocks pages) (root_node blocks root) spelled n
