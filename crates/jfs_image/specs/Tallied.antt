-- What was counted of an image.
use Rattle.std.specs.Prelude.{◌≡◌, ◌<◌, ◌*◌, ℕ, Bool, true, false, Option, Some, None}
use Rattle.jfs_bits.specs.Broken.{first_broken}
use Rattle.jfs_disk.specs.Image.{Image}
use Rattle.jfs_inode.specs.Rules.{rows}
use Rattle.jfs_reader.specs.objects.specs.Objects.{Object, IsWhole}
use Rattle.jfs_reader.specs.meaning.specs.Room.{lowest, is_free_inode}
use Rattle.jfs_owners.specs.Counts.{Counts}
use Rattle.jfs_owners.specs.Held.{owned_below}
use Rattle.jfs_owners.specs.mount_rules.specs.Subject.{object, volume, blocks}
use Rattle.jfs_image.specs.Image.{HasTree, subject_on}
use Rattle.jfs_image.specs.declared.tallied.Tally.{Tally}

-- the owners outside of objects and of the objects below a number, none of which breaks a rule, and the lowest free number of these
pub record IsTallied (image : Image) (m : ℕ) (t : Tally) : Type 0 where
  pub blocks_are : t.owners.blocks ≡ blocks (subject_on image)
  pub counts : Counts t.owners (owned_below (subject_on image).readers (volume (subject_on image)) m)
  pub free_is : t.free ≡ lowest m (is_free_inode (subject_on image).readers (volume (subject_on image)))
  pub inodes : (n : ℕ) (o : Object) → n < m → object (subject_on image) n ≡ Some o → first_broken (rows o.inode n) ≡ None
  pub trees : (n : ℕ) (o : Object) → n < m → object (subject_on image) n ≡ Some o → IsWhole (subject_on image).readers o

abbrev pub TalliesNext : Image → ℕ → Tally → Bool → Type 0
TalliesNext image m t true = IsTallied image m t
TalliesNext image m t false = HasTree image → ⊥

-- the whole image was counted, or it has no tree
abbrev pub TallyIs : Image → ℕ → Option Tally → Type 0
TallyIs image iags None = HasTree image → ⊥
TallyIs image iags (Some t) = IsTallied image (4096 * iags) t
