-- How the roots of a new volume read.
use Rattle.std.specs.Prelude.{◌≡◌, ◌<◌, ◌≤◌, ℕ, ◌+◌, [], ◌∷◌}
use Rattle.jfs_bits.specs.declared.descriptor.Pxd.{Pxd}
use Rattle.jfs_inode.specs.declared.fields.Dinode.{Dinode}
use Rattle.jfs_meaning.specs.page_tree.specs.Walk.{Leaf, IsOrder}
use Rattle.jfs_meaning.specs.objects.specs.Readers.{Readers}
use Rattle.jfs_format.specs.Root.{no_extents, one_extent, whole_file, empty_root}

-- The readers read a directory's root without a name, an extent tree's root without an extent, and one with a run within so many blocks.
pub record ReadsRoots (r : Readers) (blocks : ℕ) : Type 0 where
  pub order : IsOrder r.extents_order
  pub directory : (d : Dinode) → d.rest ≡ empty_root → r.names_root d ≡ Leaf []
  pub empty : (d : Dinode) → d.rest ≡ no_extents → r.extents_root d ≡ Leaf []
  pub one : (d : Dinode) (run : Pxd) → 0 < run.len → run.addr + run.len ≤ blocks → d.rest ≡ one_extent run → r.extents_root d ≡ Leaf (whole_file run ∷ [])
