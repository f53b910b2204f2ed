-- Trees with the same nodes: the bytes of files are left aside.
use Rattle.std.specs.Prelude.{◌≡◌, ℕ, ◌&&◌, nat_le, Bool, if◌then◌else◌, [], option_map}
use Rattle.jfs_legal.specs.served.specs.shown.specs.kinds.specs.Images.{IsSameVolume}
use Rattle.jfs_legal.specs.served.specs.shown.specs.meaning.specs.Tree.{tree_on}
use Rattle.jfs_legal.specs.served.specs.plain.specs.Tree.{Tree, is_link}
use Rattle.jfs_legal.specs.served.specs.plain.specs.declared.node.Node.{Node}
use Rattle.jfs_legal.specs.served.specs.shown.specs.objects.specs.Readers.{Readers}
use Rattle.jfs_legal.specs.served.specs.shown.specs.objects.specs.Volume.{Volume}

-- A symbolic link's target of 256 bytes and more stands in blocks of the link's own, as the bytes of a file do. (JFS Layout.)
abbrev pub has_long_target : Node → Bool
has_long_target o = is_link o.kind && nat_le 256 o.size

-- a node, but for such a target
abbrev pub without_blocks : Node → Node
without_blocks o = if has_long_target o then record o { target = [] } else o

-- Each node of one tree is the other's, but for such targets: kinds, permissions, owners, link counts, sizes, parents, times, other targets, and names. The bytes of files aren't compared.
pub record SameNodes (t u : Tree) : Type 0 where
  pub nodes : (n : ℕ) → option_map without_blocks (u.nodes n) ≡ option_map without_blocks (t.nodes n)

-- So it is with the trees of two volumes with the same objects.
abbrev pub NodesLaw : Type 0
NodesLaw = (r : Readers) (v w : Volume) → IsSameVolume r v w → SameNodes (tree_on r v) (tree_on r w)
