-- The file tree of a volume.
use Rattle.std.specs.Prelude.{ℕ, Option}
use Rattle.jfs_plain.specs.Tree.{Tree}
use Rattle.jfs_plain.specs.declared.node.Node.{Node}
use Rattle.jfs_objects.specs.Readers.{Readers}
use Rattle.jfs_objects.specs.Volume.{Volume}
use Rattle.jfs_objects.specs.Objects.{objects}
use Rattle.jfs_meaning.specs.Node.{node_in}
use Rattle.jfs_meaning.specs.Contents.{byte_in}

abbrev pub node_on : Readers → Volume → ℕ → Option Node
node_on r v n = node_in r v.page (objects r v n)

abbrev pub byte_on : Readers → Volume → ℕ → ℕ → ℕ
byte_on r v n i = byte_in r v.page (objects r v n) i

-- each object's node, and what the files hold
abbrev pub tree_on : Readers → Volume → Tree
tree_on r v = record { nodes = node_on r v; bytes = byte_on r v }
