use Rattle.std.proofs.Common.{◌≡◌, drop}
use Rattle.jfs_plain.specs.Tree.{root, walk}
use Rattle.jfs_plain.specs.Plain.{tree_of}
use Rattle.jfs_plain.proofs.plain.PlainTree.walk.Given as goal

abbrev pub invariant-loop-name : goal.invariant-loop-name
invariant-loop-name l = walk (tree_of l.self) l.n (drop l.name-index l.path) ≡ walk (tree_of l.self) root l.path
