-- What was counted, number by number.
use Rattle.std.proofs.Common.{◌≡◌, ◌<◌, inl, inr, refl, sym, ap, ◌∙◌, subst, ℕ, suc, ◌+◌, false, not, ◌&&◌, Option, Some, None, is_some, arith}
use Rattle.std.proofs.lemmas.Bool.{cases_lt}
use Rattle.jfs_bits.specs.Broken.{first_broken}
use Rattle.jfs_disk.specs.Image.{Image, page_of}
use Rattle.jfs_inode.specs.Rules.{rows}
use Rattle.jfs_inode.specs.declared.fields.Dinode.{Dinode}
use Rattle.jfs_super.specs.Rules.{blocks_of}
use Rattle.jfs_super.specs.declared.fields.Super.{Super}
use Rattle.jfs_reader.specs.objects.specs.Volume.{home}
use Rattle.jfs_reader.specs.objects.specs.Objects.{Object, IsWhole, spelled}
use Rattle.jfs_reader.specs.objects.specs.Owners.{holds, sum_below, extents_have}
use Rattle.jfs_reader.specs.objects.specs.Image.{area_on, extents_on}
use Rattle.jfs_reader.specs.objects.proofs.Found.{no_home}
use Rattle.jfs_reader.specs.meaning.specs.Readers.{readers}
use Rattle.jfs_reader.specs.meaning.specs.Room.{or_else, lowest, is_free_inode}
use Rattle.jfs_owners.specs.Counts.{OwnerSets, Counts, Adds}
use Rattle.jfs_owners.specs.Held.{owned_below}
use Rattle.jfs_owners.specs.mount_rules.specs.Subject.{object, volume}
use Rattle.jfs_image.specs.Image.{super_on, subject_on}
use Rattle.jfs_image.specs.View.{image_of, blocks_in}
use Rattle.jfs_image.specs.Judged.{HasHome, IsSoundInode}
use Rattle.jfs_image.specs.Opened.{IsOpened}
use Rattle.jfs_image.specs.Tallied.{IsTallied}
use Rattle.jfs_image.specs.declared.tallied.Tally.{Tally}
use Rattle.jfs_image.specs.declared.opened.Opened.{Opened}
use Rattle.jfs_image.proofs.Counting.{counts_as}
use Rattle.jfs_image.proofs.Lowest.{lowest_no, lowest_yes, lowest_zero}

module _ (image : Image) where
  -- the number itself, or one below it
  last_or : {X : Type 0} (k n : ℕ) → k < suc n → (k < n → X) → (n ≡ k → X) → X
  last_or k n l below same = elim (cases_lt k n) [ inl h ↦ below h | inr h ↦ same (omega (arith, l, h)) ]

  nothing : (o : Object) → (let none : Option Object = None in none ≡ Some o) → ⊥
  nothing o e = cc

  same_object : (a b : Object) → Some a ≡ Some b → a ≡ b
  same_object a b e = cc

  none_holds : (n b : ℕ) → object (subject_on image) n ≡ None → owned_below (subject_on image).readers (volume (subject_on image)) n b ≡ owned_below (subject_on image).readers (volume (subject_on image)) (suc n) b
  unfolding sum_below holds
  none_holds n b none = let e = ap (λ (o : Option Object). holds (subject_on image).readers o b) none in omega (arith, e)

  one_holds : (n b : ℕ) (o : Object) → object (subject_on image) n ≡ Some o
      → holds (subject_on image).readers (Some o) b + owned_below (subject_on image).readers (volume (subject_on image)) n b ≡ owned_below (subject_on image).readers (volume (subject_on image)) (suc n) b
  unfolding sum_below
  one_holds n b o at = let e = ap (λ (o : Option Object). holds (subject_on image).readers o b) at in omega (arith, e)

  -- nothing stands there
  passed : (n m : ℕ) (t u : Tally) → m ≡ suc n → object (subject_on image) n ≡ None → u.owners ≡ t.owners → u.free ≡ lowest (suc n) (is_free_inode (subject_on image).readers (volume (subject_on image))) → IsTallied image n t → IsTallied image m u
  passed n m t u e none same free is = subst (λ (k : ℕ). IsTallied image k u) (sym e) (record {
    blocks_are = ap (λ (o : OwnerSets). o.blocks) same ∙ is.blocks_are;
    counts = subst (λ (o : OwnerSets). Counts o (owned_below (subject_on image).readers (volume (subject_on image)) (suc n))) (sym same)
        (counts_as t.owners (owned_below (subject_on image).readers (volume (subject_on image)) n) (owned_below (subject_on image).readers (volume (subject_on image)) (suc n)) is.counts (λ b. none_holds n b none));
    free_is = free;
    inodes = λ k o l at. last_or k n l (λ h. is.inodes k o h at) (λ h. absurd (nothing o (sym none ∙ subst (λ (j : ℕ). object (subject_on image) j ≡ Some o) (sym h) at)));
    trees = λ k o l at. last_or k n l (λ h. is.trees k o h at) (λ h. absurd (nothing o (sym none ∙ subst (λ (j : ℕ). object (subject_on image) j ≡ Some o) (sym h) at)));
  })

  not_free : (n : ℕ) → home (volume (subject_on image)).extents n ≡ None → is_free_inode (subject_on image).readers (volume (subject_on image)) n ≡ false
  not_free n e = ap (λ (h : Option ℕ). is_some h && not (is_some (object (subject_on image) n))) e

  pub tallied_missing : (n m : ℕ) (t : Tally) → m ≡ suc n → home (volume (subject_on image)).extents n ≡ None → IsTallied image n t → IsTallied image m t
  tallied_missing n m t e nowhere is =
      passed n m t t e (no_home (subject_on image).readers (volume (subject_on image)) n nowhere) refl (is.free_is ∙ lowest_no n (is_free_inode (subject_on image).readers (volume (subject_on image))) (not_free n nowhere)) is

  pub tallied_free : (n m : ℕ) (t u : Tally) → m ≡ suc n → HasHome image n → object (subject_on image) n ≡ None → u.owners ≡ t.owners → u.free ≡ or_else t.free (Some n) → IsTallied image n t → IsTallied image m u
  tallied_free n m t u e at none same free is =
      passed n m t u e none same
      (free ∙ ap (λ (o : Option ℕ). or_else o (Some n)) is.free_is
      ∙ lowest_yes n (is_free_inode (subject_on image).readers (volume (subject_on image))) (ap (λ (h : Option ℕ). is_some h && not (is_some (object (subject_on image) n))) at.1 ∙ ap (λ (o : Option Object). not (is_some o)) none)) is

  used : (n : ℕ) (o : Object) → HasHome image n → object (subject_on image) n ≡ Some o → is_free_inode (subject_on image).readers (volume (subject_on image)) n ≡ false
  used n o at is = ap (λ (h : Option ℕ). is_some h && not (is_some (object (subject_on image) n))) at.1 ∙ ap (λ (x : Option Object). not (is_some x)) is

  pub tallied_sound : (n m : ℕ) (t u : Tally) (d : Dinode) → m ≡ suc n → HasHome image n → object (subject_on image) n ≡ Some (spelled (subject_on image).readers (page_of image) d)
      → IsSoundInode (subject_on image).readers (page_of image) n d → Adds (holds (subject_on image).readers (Some (spelled (subject_on image).readers (page_of image) d))) t.owners u.owners → u.free ≡ t.free
      → IsTallied image n t → IsTallied image m u
  unfolding spelled
  tallied_sound n m t u d e at there sound adds free is = subst (λ (k : ℕ). IsTallied image k u) (sym e) (record {
    blocks_are = adds.blocks ∙ is.blocks_are;
    counts = counts_as u.owners (λ b. holds (subject_on image).readers (Some (spelled (subject_on image).readers (page_of image) d)) b + owned_below (subject_on image).readers (volume (subject_on image)) n b)
        (owned_below (subject_on image).readers (volume (subject_on image)) (suc n)) (adds.counts (owned_below (subject_on image).readers (volume (subject_on image)) n) is.counts) (λ b. one_holds n b (spelled (subject_on image).readers (page_of image) d) there);
    free_is = free ∙ is.free_is ∙ lowest_no n (is_free_inode (subject_on image).readers (volume (subject_on image))) (used n (spelled (subject_on image).readers (page_of image) d) at there);
    inodes = λ k o l here. last_or k n l (λ h. is.inodes k o h here) (λ h.
        subst (λ (x : Object). first_broken (rows x.inode k) ≡ None) (same_object (spelled (subject_on image).readers (page_of image) d) o (sym there ∙ subst (λ (j : ℕ). object (subject_on image) j ≡ Some o) (sym h) here))
        (subst (λ (j : ℕ). first_broken (rows d j) ≡ None) h sound.inode));
    trees = λ k o l here. last_or k n l (λ h. is.trees k o h here) (λ h.
        subst (λ (x : Object). IsWhole (subject_on image).readers x) (same_object (spelled (subject_on image).readers (page_of image) d) o (sym there ∙ subst (λ (j : ℕ). object (subject_on image) j ≡ Some o) (sym h) here)) sound.whole);
  })

-- before the first number
pub tallied_start : (opened : Opened) (o p q : OwnerSets) (t : Tally) → IsOpened (image_of opened.view) opened → o.blocks ≡ blocks_in opened.view → Counts o (λ b. 0)
    → Adds (area_on (readers (blocks_in opened.view)) opened.superblock.ait2 opened.superblock.aim2 (page_of (image_of opened.view))) o p
    → Adds (extents_have (extents_on (readers (blocks_in opened.view)) (page_of (image_of opened.view)))) p q → t.owners ≡ q → t.free ≡ None → IsTallied (image_of opened.view) 0 t
unfolding sum_below
tallied_start opened o p q t is size none area extents same free =
    let image = image_of opened.view in
    let s = super_on image in
    let first : Adds (area_on (readers (blocks_of s)) s.ait2 s.aim2 (page_of image)) o p = subst (λ (x : Super). Adds (area_on (readers (blocks_of s)) x.ait2 x.aim2 (page_of image)) o p) is.super.is
    (subst (λ (n : ℕ). Adds (area_on (readers n) opened.superblock.ait2 opened.superblock.aim2 (page_of image)) o p) (sym is.ready.blocks_are) area) in
    let second : Adds (extents_have (extents_on (readers (blocks_of s)) (page_of image))) p q = subst (λ (n : ℕ). Adds (extents_have (extents_on (readers n) (page_of image))) p q) (sym is.ready.blocks_are) extents in
    record {
      blocks_are = ap (λ (o : OwnerSets). o.blocks) same ∙ second.blocks ∙ first.blocks ∙ size ∙ sym is.ready.blocks_are;
      counts = subst (λ (o : OwnerSets). Counts o (owned_below (subject_on image).readers (volume (subject_on image)) 0)) (sym same)
          (counts_as q (λ b. extents_have (extents_on (readers (blocks_of s)) (page_of image)) b + (area_on (readers (blocks_of s)) s.ait2 s.aim2 (page_of image) b + 0)) (owned_below (subject_on image).readers (volume (subject_on image)) 0)
          (second.counts (λ b. area_on (readers (blocks_of s)) s.ait2 s.aim2 (page_of image) b + 0) (first.counts (λ b. 0) none)) (λ b. omega arith));
      free_is = free ∙ lowest_zero (is_free_inode (subject_on image).readers (volume (subject_on image)));
      inodes = λ n o l at. absurd (omega (arith, l));
      trees = λ n o l at. absurd (omega (arith, l));
    }
