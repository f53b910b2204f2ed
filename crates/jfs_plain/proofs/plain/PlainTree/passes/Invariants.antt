use Rattle.std.proofs.Common.{◌≡◌, drop}
use Rattle.jfs_plain.specs.Tree.{passes, passes_from}
use Rattle.jfs_plain.specs.Plain.{tree_of}
use Rattle.jfs_plain.proofs.plain.PlainTree.passes.Given as goal

abbrev pub invariant-loop-name : goal.invariant-loop-name
invariant-loop-name l = passes_from (tree_of l.self) l.dir l.last (drop l.name-index l.others) l.through ≡ passes (tree_of l.self) l.path l.through
