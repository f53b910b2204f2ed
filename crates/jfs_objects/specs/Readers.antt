-- How the roots and pages of trees read. Directories and files each bring a reader and the order of their entries.
use Rattle.std.specs.Prelude.{ℕ, List}
use Rattle.jfs_bits.specs.declared.extent.Xad.{Xad}
use Rattle.jfs_inode.specs.declared.fields.Dinode.{Dinode}
use Rattle.jfs_name.specs.declared.name.NameEntry.{NameEntry}
use Rattle.jfs_tree.specs.Walk.{Node, Scale}

-- A root stands in an inode; the pages below it stand on the volume.
pub record Readers : Type 0 where
  pub names_order : Scale (List ℕ) NameEntry
  pub names_root : Dinode → Node (List ℕ) NameEntry
  pub names_page : List ℕ → Node (List ℕ) NameEntry
  pub extents_order : Scale ℕ Xad
  pub extents_root : Dinode → Node ℕ Xad
  pub extents_page : List ℕ → Node ℕ Xad
