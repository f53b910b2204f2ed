-- The pages before the loop's one were looked at.
use Rattle.std.proofs.Common.{◌≡◌, take}
use Rattle.std.specs.List.{flat_map}
use Rattle.jfs_disk.specs.Image.{page_of}
use Rattle.jfs_tree.specs.Form.{AllBelow}
use Rattle.jfs_tree.specs.Levels.{pages_below}
use Rattle.jfs_xtree.specs.Spells.{page_nodes}
use Rattle.jfs_owners.specs.findings.specs.Gains.{Gains}
use Rattle.jfs_owners.specs.Counts.{Adds}
use Rattle.jfs_object_check.specs.Lines.{Tells, IsThinOn, line_has}
use Rattle.jfs_object_check.proofs.levels.count_line.Given as goal

abbrev pub invariant-loop-i : goal.invariant-loop-i
invariant-loop-i g l = record {
  image : g.V.PageView.tells → g.V.PageView.image l.view ≡ g.V.PageView.image l.fn.view;
  count_of_blocks : g.V.PageView.block_count l.view ≡ g.V.PageView.block_count l.fn.view;
  device : g.V.PageView.device l.view ≡ g.V.PageView.device l.fn.view;
  fault : g.V.PageView.faults l.view ≡ g.V.PageView.faults l.fn.view;
  within : AllBelow (g.V.PageView.block_count l.fn.view) l.below.items;
  below : g.V.PageView.tells → l.below.items ≡ flat_map (λ p. pages_below (page_nodes (g.V.PageView.block_count l.fn.view) (page_of (g.V.PageView.image l.fn.view)) p)) (take l.i l.line);
  thin : g.V.PageView.tells → Gains (Tells l.n (IsThinOn (page_nodes (g.V.PageView.block_count l.fn.view) (page_of (g.V.PageView.image l.fn.view))) l.line l.i)) l.fn.findings.items l.findings.items;
  held : g.V.PageView.tells → Adds (line_has (page_nodes (g.V.PageView.block_count l.fn.view) (page_of (g.V.PageView.image l.fn.view))) (take l.i l.line)) l.fn.owners l.owners;
}
