-- What is wrong with the trees.
use Rattle.std.specs.Prelude.{◌≡◌, ℕ, ◌+◌, ◌/◌, true, List, [], ◌∷◌, Ok, Err}
use Rattle.std.specs.List.{Contains}
use Rattle.jfs_bits.specs.declared.extent.Xad.{Xad}
use Rattle.jfs_bits.specs.declared.rule.Rule.{Rule}
use Rattle.jfs_inode.specs.declared.fields.Dinode.{Dinode}
use Rattle.jfs_mount.specs.page_tree.specs.Walk.{Node}
use Rattle.jfs_mount.specs.page_tree.specs.Levels.{IsThinIn}
use Rattle.jfs_mount.specs.page_tree.specs.Spells.{no_page, with_root}
use Rattle.jfs_mount.specs.objects.specs.Objects.{Object, has_extents, listed}
use Rattle.jfs_mount.specs.objects.specs.Image.{file_walk}
use Rattle.jfs_mount.specs.Subject.{Subject, IsObject, page_named}

-- the aggregate's inodes whose extents are walked: the block map's file, the bad blocks' and the inode map's
abbrev pub files : List ℕ
files = 2 ∷ 4 ∷ 16 ∷ []

-- An extent tree, of an inode in use or of one of the aggregate's files, breaks a rule first on this page.
pub data BreaksExtents (s : Subject) (page : ℕ) : Type 0 where
  of_object : (n inode_page tree_page : ℕ) (o : Object) (rule : Rule) → IsObject s n inode_page o → listed s.readers.extents_order o.extents ≡ Err (tree_page, rule) → page ≡ page_named inode_page tree_page → BreaksExtents s page
  of_file : (k tree_page : ℕ) (rule : Rule) → Contains files k → listed s.readers.extents_order (file_walk s.readers s.page k) ≡ Err (tree_page, rule) → page ≡ page_named (11 + k / 8) tree_page → BreaksExtents s page

-- A directory tree breaks a rule first on this page.
pub record BreaksNames (s : Subject) (page : ℕ) : Type 0 where
  pub n : ℕ
  pub inode_page : ℕ
  pub tree_page : ℕ
  pub o : Object
  pub rule : Rule
  pub is : IsObject s n inode_page o
  pub breaks : listed s.readers.names_order o.names ≡ Err (tree_page, rule)
  pub on : page ≡ page_named inode_page tree_page

-- ---- pages with few entries

-- the pages of an inode's extent tree, with its root
abbrev pub extent_nodes : Subject → Dinode → ℕ → Node ℕ Xad
extent_nodes s d = with_root (s.readers.extents_root d) (λ b. s.readers.extents_page (s.page b))

-- An extent tree that breaks no rule has such a page. (This project's profile: every page but the last of its level has at least 64 entries.)
pub record IsThin (s : Subject) (page n : ℕ) : Type 0 where
  pub inode_page : ℕ
  pub o : Object
  pub is : IsObject s n inode_page o
  pub has : has_extents o.inode ≡ true
  pub extents : List Xad
  pub sound : listed s.readers.extents_order o.extents ≡ Ok extents
  pub tree_page : ℕ
  pub thin : IsThinIn (extent_nodes s o.inode) tree_page
  pub on : page ≡ page_named inode_page tree_page
