-- What is judged of an inode, and of what stands at its number.
use Rattle.std.proofs.Common.{◌≡◌, sym, ap, ◌∙◌, subst, ℕ, true, List, Some, Result, Ok, Err, IfOk, Bool}
use Rattle.std.specs.Prelude.{is_none}
use Rattle.jfs_bits.specs.declared.extent.Xad.{Xad}
use Rattle.jfs_bits.specs.Broken.{first_broken}
use Rattle.jfs_disk.specs.Image.{Image, page_of}
use Rattle.jfs_inode.specs.Rules.{rows}
use Rattle.jfs_inode.specs.declared.fields.Dinode.{Dinode}
use Rattle.jfs_name.specs.declared.name.NameEntry.{NameEntry}
use Rattle.jfs_super.specs.Rules.{blocks_of}
use Rattle.jfs_reader.specs.objects.specs.Readers.{Readers}
use Rattle.jfs_reader.specs.objects.specs.Objects.{spelled}
use Rattle.jfs_reader.specs.objects.proofs.Found.{object_at, no_object_at}
use Rattle.jfs_reader.specs.meaning.specs.Readers.{readers}
use Rattle.jfs_owners.specs.mount_rules.specs.Subject.{volume}
use Rattle.jfs_image.specs.Image.{super_on, subject_on}
use Rattle.jfs_image.specs.Held.{NamesMay, ExtentsMay}
use Rattle.jfs_image.specs.Standing.{InodeIs}
use Rattle.jfs_image.specs.Judged.{IsSoundInode, JudgesAs, Judges}
use Rattle.jfs_image.specs.declared.standing.Judged.{Judged}
use Rattle.jfs_image.specs.declared.standing.Judged.TheVariants as judged
use Rattle.jfs_image.proofs.Holding.{none_is}

pub sound_inode : (r : Readers) (page : ℕ → List ℕ) (n : ℕ) (d : Dinode) (keeps : Bool) (names : List NameEntry) (extents : List Xad) → keeps ≡ is_none (first_broken (rows d n)) → keeps ≡ true
    → NamesMay r page d (Some names) → ExtentsMay r page d (Some extents) → IsSoundInode r page n d
unfolding spelled
sound_inode r page n d keeps names extents is it named spread = record {
  inode = none_is (first_broken (rows d n)) (sym it ∙ is);
  whole = record { names = names; extents = extents; names_are = named; extents_are = spread };
}

judges_as : (image : Image) (blocks n : ℕ) (d : Dinode) (j : Judged) → blocks_of (super_on image) ≡ blocks → InodeIs image n (Ok (Some d)) → JudgesAs (readers blocks) (page_of image) n d j → Judges image n j
judges_as image blocks n d j same at told = by j (subst (λ (b : ℕ). JudgesAs (readers b) (page_of image) n d j) (sym same) told)
  where
    by : (j : Judged) → JudgesAs (subject_on image).readers (page_of image) n d j → Judges image n j
    by judged.Missing told = absurd told
    by judged.Free told = ((at.0, at.1), no_object_at (subject_on image).readers (volume (subject_on image)) n at.0 d at.1 at.2 told)
    by (judged.Sound e) told = (
      (at.0, at.1),
      object_at (subject_on image).readers (volume (subject_on image)) n at.0 d at.1 at.2 told.1 ∙ ap (λ (x : Dinode). Some (spelled (subject_on image).readers (page_of image) x)) (sym told.0),
      subst (IsSoundInode (subject_on image).readers (page_of image) n) (sym told.0) told.2,
    )
    by judged.Broken told = λ has. told.1 (has.inodes n (spelled (subject_on image).readers (page_of image) d) (object_at (subject_on image).readers (volume (subject_on image)) n at.0 d at.1 at.2 told.0))
        (has.trees n (spelled (subject_on image).readers (page_of image) d) (object_at (subject_on image).readers (volume (subject_on image)) n at.0 d at.1 at.2 told.0))

pub judged_as : {E : Type 0} (image : Image) (blocks n : ℕ) (d : Dinode) (r : Result Judged E) → blocks_of (super_on image) ≡ blocks → InodeIs image n (Ok (Some d)) → IfOk r (JudgesAs (readers blocks) (page_of image) n d) → IfOk r (Judges image n)
judged_as image blocks n d (Ok j) same at told = judges_as image blocks n d j same at told
judged_as image blocks n d (Err e) same at told = _
