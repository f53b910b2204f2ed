-- The levels above the loop's one were looked at.
use Rattle.std.proofs.Common.{◌≡◌}
use Rattle.jfs_disk.specs.Image.{page_of}
use Rattle.jfs_tree.specs.Form.{AllBelow}
use Rattle.jfs_tree.specs.Levels.{level}
use Rattle.jfs_owners.specs.findings.specs.Gains.{Gains}
use Rattle.jfs_owners.specs.Counts.{Adds}
use Rattle.jfs_object_check.specs.Lines.{Tells, IsThinAbove, tree_nodes, levels_have}
use Rattle.jfs_object_check.proofs.levels.count_levels.Given as goal

abbrev pub invariant-loop-depth : goal.invariant-loop-depth
invariant-loop-depth g l = record {
  image : g.V.PageView.tells → g.V.PageView.image l.view ≡ g.V.PageView.image l.fn.view;
  count_of_blocks : g.V.PageView.block_count l.view ≡ g.V.PageView.block_count l.fn.view;
  device : g.V.PageView.device l.view ≡ g.V.PageView.device l.fn.view;
  fault : g.V.PageView.faults l.view ≡ g.V.PageView.faults l.fn.view;
  within : AllBelow (g.V.PageView.block_count l.fn.view) l.line.items;
  level : g.V.PageView.tells → l.line.items ≡ level (tree_nodes (g.V.PageView.block_count l.fn.view) (page_of (g.V.PageView.image l.fn.view)) l.root) l._depth;
  thin : g.V.PageView.tells → Gains (Tells l.n (IsThinAbove (tree_nodes (g.V.PageView.block_count l.fn.view) (page_of (g.V.PageView.image l.fn.view)) l.root) l._depth)) l.fn.findings.items l.findings.items;
  held : g.V.PageView.tells → Adds (levels_have (tree_nodes (g.V.PageView.block_count l.fn.view) (page_of (g.V.PageView.image l.fn.view)) l.root) l._depth) l.fn.owners l.owners;
}
