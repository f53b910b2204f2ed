-- A tree that is put together object by object.
use Rattle.std.specs.Prelude.{◌≡◌, ℕ, ◌==◌, if◌then◌else◌, List, get_or, Some, None}
use Rattle.jfs_plain.specs.Tree.{Tree}
use Rattle.jfs_plain.specs.Moves.{Same}
use Rattle.jfs_plain.specs.Plain.{tree_of}
use Rattle.jfs_plain.specs.declared.node.Node.{Node}
use Rattle.jfs_plain.specs.declared.plain.PlainTree.{PlainTree}

abbrev pub no_tree : Tree
no_tree = record { nodes = λ n. None; bytes = λ n i. 0 }

abbrev pub IsEmpty : ℕ → PlainTree → Type 0
IsEmpty limit p = Same no_tree (tree_of p) × (p.file_limit ≡ limit)

-- one more object, which holds these bytes, and zeros behind them
abbrev pub holding : ℕ → Node → List ℕ → Tree → Tree
holding n o bytes t = record { nodes = λ k. if n == k then Some o else t.nodes k; bytes = λ k i. if n == k then get_or bytes i 0 else t.bytes k i }
