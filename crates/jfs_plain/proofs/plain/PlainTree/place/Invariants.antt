use Rattle.std.proofs.Common.{◌≡◌, drop}
use Rattle.jfs_plain.specs.Tree.{place, place_from}
use Rattle.jfs_plain.specs.Plain.{tree_of}
use Rattle.jfs_plain.proofs.plain.PlainTree.place.Given as goal

abbrev pub invariant-loop-name : goal.invariant-loop-name
invariant-loop-name l = place_from (tree_of l.self) l.dir l.last (drop l.name-index l.others) ≡ place (tree_of l.self) l.path
