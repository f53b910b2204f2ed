-- The tree of an image, and the part of it below a number.
use Rattle.std.specs.Prelude.{◌≡◌, ◌<◌, ℕ, Bool, true, false, nat_lt, if◌then◌else◌, Option, Some, None}
use Rattle.jfs_bits.specs.Broken.{first_broken}
use Rattle.jfs_disk.specs.Image.{Image, page_of}
use Rattle.jfs_inode.specs.Rules.{rows}
use Rattle.jfs_super.specs.Geometry.{file_limit_of}
use Rattle.jfs_reader.specs.objects.specs.Objects.{Object, IsWhole}
use Rattle.jfs_plain.specs.Moves.{Same}
use Rattle.jfs_plain.specs.Plain as plain
use Rattle.jfs_plain.specs.Plain.{node_at, byte_at}
use Rattle.jfs_plain.specs.declared.plain.PlainTree.{PlainTree}
use Rattle.jfs_reader.specs.meaning.specs.Image.{tree_of}
use Rattle.jfs_reader.specs.meaning.specs.Tree.{node_on, byte_on}
use Rattle.jfs_owners.specs.mount_rules.specs.Subject.{object, volume}
use Rattle.jfs_image.specs.Image.{HasTree, super_on, subject_on}

-- A plain tree is the image's: the same nodes and the same bytes, and files may grow as far as its log lets them.
pub record IsTreeOf (image : Image) (p : PlainTree) : Type 0 where
  pub has : HasTree image
  pub same : Same (tree_of (super_on image) (page_of image)) (plain.tree_of p)
  pub limit : p.file_limit ≡ file_limit_of (super_on image).logpxd.len

-- There is none exactly where the image has no tree.
abbrev pub TreeIs : Image → Option PlainTree → Type 0
TreeIs image None = HasTree image → ⊥
TreeIs image (Some p) = IsTreeOf image p

-- the objects of the numbers below `m`, none of which breaks a rule
pub record IsUpTo (image : Image) (m : ℕ) (p : PlainTree) : Type 0 where
  pub nodes : (n : ℕ) → node_at p n ≡ (if nat_lt n m then node_on (subject_on image).readers (volume (subject_on image)) n else None)
  pub bytes : (n i : ℕ) → byte_at p n i ≡ (if nat_lt n m then byte_on (subject_on image).readers (volume (subject_on image)) n i else 0)
  pub inodes : (n : ℕ) (o : Object) → n < m → object (subject_on image) n ≡ Some o → first_broken (rows o.inode n) ≡ None
  pub trees : (n : ℕ) (o : Object) → n < m → object (subject_on image) n ≡ Some o → IsWhole (subject_on image).readers o

-- those below a number were put, or the image has no tree
abbrev pub AddsNext : Image → ℕ → PlainTree → Bool → Type 0
AddsNext image m p true = IsUpTo image m p
AddsNext image m p false = HasTree image → ⊥
