-- How far a call has come: the volume after some of its steps, and the plain tree beside it.
use Rattle.std.specs.Prelude.{◌≡◌, ℕ, Some, None}
use Rattle.jfs_bits.specs.Broken.{first_broken}
use Rattle.jfs_inode.specs.Rules.{rows}
use Rattle.jfs_meaning.specs.plain.specs.Tree.{Tree}
use Rattle.jfs_meaning.specs.objects.specs.Readers.{Readers}
use Rattle.jfs_meaning.specs.objects.specs.Volume.{Volume}
use Rattle.jfs_meaning.specs.objects.specs.Objects.{Object, objects}
use Rattle.jfs_meaning.specs.objects.specs.Owners.{IsSound}
use Rattle.jfs_meaning.specs.Tree.{tree_on}

-- Maps agree, no tree and no inode breaks a rule, and the volume's tree is this one. It needn't be a consistent one yet.
pub record HasTree (r : Readers) (v : Volume) (t : Tree) : Type 0 where
  pub sound : IsSound r v
  pub inodes : (n : ℕ) (o : Object) → objects r v n ≡ Some o → first_broken (rows o.inode n) ≡ None
  pub tree : tree_on r v ≡ t
