-- What stands at a number, by its inode.
use Rattle.std.proofs.Common.{◌≡◌, ◌<◌, refl, sym, subst, ℕ, suc, ◌/◌, true, List, Option, Some, None, Result, Ok, Err, IfOk, arith}
use Rattle.jfs_disk.specs.Image.{Image, page_of}
use Rattle.jfs_inode.specs.declared.fields.Dinode.{Dinode}
use Rattle.jfs_bits.specs.declared.extent.Xad.{Xad}
use Rattle.jfs_super.specs.Rules.{blocks_of}
use Rattle.jfs_xtree.specs.Node.{all_within}
use Rattle.jfs_reader.specs.objects.specs.Volume.{home}
use Rattle.jfs_reader.specs.objects.specs.Objects.{spelled}
use Rattle.jfs_reader.specs.objects.specs.Image.{extents_on}
use Rattle.jfs_reader.specs.objects.proofs.Found.{no_home, object_at, no_object_at}
use Rattle.jfs_reader.specs.meaning.specs.Readers.{readers}
use Rattle.jfs_reader.specs.Reading.{IsPast, OutsideIsPast}
use Rattle.jfs_reader.specs.Map.{IsInodeMap, iag_block}
use Rattle.jfs_reader.specs.declared.map.InodeMap.{InodeMap}
use Rattle.jfs_reader.specs.declared.error.ReadError.{ReadError}
use Rattle.jfs_reader.specs.declared.error.ReadError.TheVariants.{View, Outside}
use Rattle.jfs_owners.specs.mount_rules.specs.Subject.{volume}
use Rattle.jfs_image.specs.Image.{super_on, subject_on}
use Rattle.jfs_image.specs.Standing.{ReadsInode, InodeIs, Stands, StandsAs}
use Rattle.jfs_image.specs.declared.standing.Standing.{Standing}
use Rattle.jfs_image.specs.declared.standing.Standing.TheVariants as standing
use Rattle.jfs_image.proofs.Within.{file_within, block_within}
use Rattle.jfs_image.proofs.Mounted.{home_below}

-- the inode on the page where it stands
module _ (image : Image) (blocks n : ℕ) (same : blocks_of (super_on image) ≡ blocks) where
  pub inode_there : (p : ℕ) (r : Result (Option Dinode) ReadError) → Some p ≡ home (extents_on (readers blocks) (page_of image)) n → ReadsInode image blocks p n r → InodeIs image n r
  inode_there p (Ok None) at reads = absurd reads
  inode_there p (Ok (Some d)) at reads = (p, subst (λ (b : ℕ). home (extents_on (readers b) (page_of image)) n ≡ Some p) (sym same) (sym at), reads)
  inode_there p (Err (View e)) at reads = _
  inode_there p (Err Outside) at reads = λ has. (
      let l = home_below (subject_on image) n p has.mount (subst (λ (b : ℕ). home (extents_on (readers b) (page_of image)) n ≡ Some p) (sym same) (sym at)) in
      absurd (omega (arith, l, same, reads)))

not_past : (blocks : ℕ) (block : Option ℕ) → ((b : ℕ) → block ≡ Some b → b < blocks) → IsPast blocks block → ⊥
not_past blocks None within past = past
not_past blocks (Some b) within past = let l = within b refl in omega (arith, l, past)

-- a page of the map's file is one of the file system part
pub inode_err : (image : Image) (blocks n : ℕ) (map : InodeMap) (e : ReadError) → IsInodeMap (readers blocks) (page_of image) map → OutsideIsPast blocks (iag_block map n) e → InodeIs image n (Err e)
inode_err image blocks n map (View e) is past = _
inode_err image blocks n map Outside is past = λ has. not_past blocks (iag_block map n)
    (λ b at. block_within blocks map.extents (suc (n / 4096)) b (subst (λ (es : List Xad). all_within blocks es ≡ true) is.extents (file_within blocks (page_of image) 16)) at) past

-- what its inode is, is what stands there
pub stands_as : (image : Image) (blocks n : ℕ) (d : Dinode) (st : Standing) → blocks_of (super_on image) ≡ blocks → InodeIs image n (Ok (Some d)) → StandsAs (readers blocks) (page_of image) n d st → Stands image n st
stands_as image blocks n d st same at told = by st (subst (λ (b : ℕ). StandsAs (readers b) (page_of image) n d st) (sym same) told)
  where
    by : (st : Standing) → StandsAs (subject_on image).readers (page_of image) n d st → Stands image n st
    by standing.Free told = no_object_at (subject_on image).readers (volume (subject_on image)) n at.0 d at.1 at.2 told
    by (standing.Object held) told = (spelled (subject_on image).readers (page_of image) d, object_at (subject_on image).readers (volume (subject_on image)) n at.0 d at.1 at.2 told.0, told.1)
    by standing.Broken told = λ has. told.1 (has.inodes n (spelled (subject_on image).readers (page_of image) d) (object_at (subject_on image).readers (volume (subject_on image)) n at.0 d at.1 at.2 told.0))
        (has.trees n (spelled (subject_on image).readers (page_of image) d) (object_at (subject_on image).readers (volume (subject_on image)) n at.0 d at.1 at.2 told.0))

pub stood_as : {E : Type 0} (image : Image) (blocks n : ℕ) (d : Dinode) (r : Result Standing E) → blocks_of (super_on image) ≡ blocks → InodeIs image n (Ok (Some d)) → IfOk r (StandsAs (readers blocks) (page_of image) n d) → IfOk r (Stands image n)
stood_as image blocks n d (Ok st) same at told = stands_as image blocks n d st same at told
stood_as image blocks n d (Err e) same at told = _

pub stands_nowhere : (image : Image) (n : ℕ) → InodeIs image n (Ok None) → Stands image n standing.Free
stands_nowhere image n at = no_home (subject_on image).readers (volume (subject_on image)) n at
