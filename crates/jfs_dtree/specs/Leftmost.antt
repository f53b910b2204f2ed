-- The leftmost way of a directory, on which the format has an empty first key on each inner page.
use Rattle.std.specs.Prelude.{ℕ, List}
use Rattle.jfs_ranges.specs.declared.edit.Edit.{Edit}
use Rattle.jfs_tree.specs.Fresh.{LeadsTo, after_tx}
use Rattle.jfs_tree.specs.Leftmost.{IsLeftmost}
use Rattle.jfs_dtree.specs.Node.{name_scale}
use Rattle.jfs_dtree.specs.Spells.{root_node, page_nodes}

-- The first stored key of each inner page on the way from the root down the first children is empty.
abbrev pub HasEmptyFirstKeys : ℕ → (ℕ → List ℕ) → List ℕ → Type 0
HasEmptyFirstKeys blocks pages root = IsLeftmost name_scale (page_nodes blocks pages) (root_node blocks root)

-- Where it held of a root and the pages that the view shows, and the edits before lead to these, it holds of the root and the pages to which all edits lead.
abbrev pub KeepsEmptyFirstKeys : ℕ → (ℕ → List ℕ) → List ℕ → List ℕ → List Edit → List Edit → Type 0
KeepsEmptyFirstKeys blocks pages root after tx later = HasEmptyFirstKeys blocks pages root → (base : ℕ → List ℕ) → LeadsTo blocks base tx pages → HasEmptyFirstKeys blocks (after_tx base later) after
