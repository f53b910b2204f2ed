-- What a tree that breaks no rule holds is counted; one that breaks a rule holds nothing.
use Rattle.std.proofs.Common.{◌≡◌, inl, inr, refl, sym, ◌∙◌, subst, ℕ, Bool, true, false, List, Some, Result, Ok, Err}
use Rattle.jfs_bits.specs.declared.rule.Rule.{Rule}
use Rattle.jfs_disk.specs.Image.{Image, page_of}
use Rattle.jfs_inode.specs.declared.fields.Dinode.{Dinode}
use Rattle.jfs_bits.specs.declared.extent.Xad.{Xad}
use Rattle.jfs_link_check.specs.page_tree.specs.Walk.{Marks}
use Rattle.jfs_link_check.specs.xtree.specs.Node.{xt_scale}
use Rattle.jfs_link_check.specs.dtree.specs.Node.{name_scale}
use Rattle.jfs_link_check.specs.objects.specs.Objects.{listed, spelled, names_of, extents_of}
use Rattle.jfs_link_check.specs.objects.specs.Owners.{holds}
use Rattle.jfs_findings.specs.meaning.specs.Readers.{readers}
use Rattle.jfs_findings.specs.Gains.{Gains}
use Rattle.jfs_findings.specs.declared.finding.Finding.{Finding}
use Rattle.jfs_link_check.specs.object_check.specs.Object.{IsOf}
use Rattle.jfs_link_check.specs.object_check.specs.Thin.{IsThinOf}
use Rattle.jfs_link_check.specs.object_check.specs.Steps.{IsSound}
use Rattle.jfs_link_check.specs.object_check.proofs.Found.{gains_both, gains_as}
use Rattle.jfs_link_check.specs.Notes.{NotesInode}
use Rattle.jfs_link_check.specs.declared.notes.NameNotes.{NameNotes}
use Rattle.jfs_link_check.specs.owners.specs.Counts.{OwnerSets, Adds}
use Rattle.jfs_link_check.specs.owners.specs.Held.{extents_held, names_held, attributes_of}
use Rattle.jfs_link_check.specs.owners.proofs.Counted.{adds_none}
use Rattle.jfs_link_check.specs.owners.proofs.Totals.{object_joined}
use Rattle.jfs_check.specs.Look.{IsOfFound}

not_false : true ≡ false → ⊥
not_false h = cc h

pub has_list : {E : Type 0} (l : Result (List E) (ℕ × Rule)) → IsSound l true → (es : List E) × (l ≡ Ok es)
has_list (Ok es) h = (es, refl)
has_list (Err f) h = absurd (not_false h)

pub has_fault : {E : Type 0} (l : Result (List E) (ℕ × Rule)) → IsSound l false → (f : ℕ × Rule) × (l ≡ Err f)
has_fault (Ok es) h = absurd (not_false (sym h))
has_fault (Err f) h = (f, refl)

pub list_or_fault : {E : Type 0} (l : Result (List E) (ℕ × Rule)) (es : List E) (f : ℕ × Rule) → l ≡ Ok es → l ≡ Err f → ⊥
list_or_fault {E} l es f h k = by (sym h ∙ k)
  where
    by : (let a : Result (List E) (ℕ × Rule) = Ok es in a) ≡ Err f → ⊥
    by e = cc

-- an extent tree that breaks a rule
pub none_held : (ms : Marks ℕ Xad) (o : OwnerSets) → IsSound (listed xt_scale ms) false → Adds (extents_held ms) o o
none_held ms o h = let f = has_fault (listed xt_scale ms) h in adds_none (extents_held ms) o o refl (λ b. rw f.1 refl)

-- ---- an inode in use

moved : (P : ℕ → Image → Type 0) (now blocks : ℕ) (after image : Image) → now ≡ blocks → after ≡ image → P now after → P blocks image
moved P now blocks after image e f x = subst (P blocks) f (subst (λ (n : ℕ). P n after) e x)

module _ (d : Dinode) (blocks b1 b2 : ℕ) (image i1 i2 : Image) (e : b1 ≡ blocks) (f : i1 ≡ image) (g : b2 ≡ b1) (h : i2 ≡ i1) where
  -- its attributes, its names and its extents
  pub all_held : (sound : Bool) (o p q w : OwnerSets) → IsSound (listed name_scale (names_of (readers blocks) (page_of image) d)) sound → Adds (attributes_of d) o p
      → (IsSound (listed name_scale (names_of (readers b1) (page_of i1) d)) sound → Adds (names_held (names_of (readers b1) (page_of i1) d)) p q)
      → Adds (extents_held (extents_of (readers b2) (page_of i2) d)) q w → Adds (holds (readers blocks) (Some (spelled (readers blocks) (page_of image) d))) o w
  all_held sound o p q w is a n x =
      let names = moved (λ b i. (IsSound (listed name_scale (names_of (readers b) (page_of i) d)) sound → Adds (names_held (names_of (readers b) (page_of i) d)) p q)) b1 blocks i1 image e f n is in
      let extents = moved (λ b i. Adds (extents_held (extents_of (readers b) (page_of i) d)) q w) b2 blocks i2 image (g ∙ e) (h ∙ f) x in
      object_joined blocks (page_of image) d o p q w a names extents

  -- what is told of its extents is told of them still
  pub extents_sound : (sound : Bool) → IsSound (listed xt_scale (extents_of (readers blocks) (page_of image) d)) sound → IsSound (listed xt_scale (extents_of (readers b2) (page_of i2) d)) sound
  extents_sound sound is = moved (λ b i. IsSound (listed xt_scale (extents_of (readers b) (page_of i) d)) sound) blocks b2 image i2 (sym (g ∙ e)) (sym (h ∙ f)) is

  pub extents_list : (sound : Bool) → sound ≡ true → IsSound (listed xt_scale (extents_of (readers blocks) (page_of image) d)) sound → (es : List Xad) × (listed xt_scale (extents_of (readers b2) (page_of i2) d) ≡ Ok es)
  extents_list sound t is = has_list (listed xt_scale (extents_of (readers b2) (page_of i2) d)) (subst (λ (b : Bool). IsSound (listed xt_scale (extents_of (readers b2) (page_of i2) d)) b) t (extents_sound sound is))

  -- a tree that breaks a rule holds nothing
  pub no_extents : (sound : Bool) (o : OwnerSets) → sound ≡ false → IsSound (listed xt_scale (extents_of (readers blocks) (page_of image) d)) sound → Adds (extents_held (extents_of (readers b2) (page_of i2) d)) o o
  no_extents sound o t is = none_held (extents_of (readers b2) (page_of i2) d) o (subst (λ (b : Bool). IsSound (listed xt_scale (extents_of (readers b2) (page_of i2) d)) b) t (extents_sound sound is))

  -- its names are noted
  pub names_noted : (n at : ℕ) (sound : Bool) (old new : NameNotes) → IsSound (listed name_scale (names_of (readers blocks) (page_of image) d)) sound
      → (IsSound (listed name_scale (names_of (readers b1) (page_of i1) d)) sound → NotesInode b1 (page_of i1) n at d old new) → NotesInode blocks (page_of image) n at d old new
  names_noted n at sound old new is noted = moved (λ b i. (IsSound (listed name_scale (names_of (readers b) (page_of i) d)) sound → NotesInode b (page_of i) n at d old new)) b1 blocks i1 image e f noted is

  -- what is wrong with it is found, with its thin pages
  pub both_found : (n at : ℕ) (a b c : List Finding) → Gains (IsOf (readers blocks) blocks (page_of image) n at (spelled (readers blocks) (page_of image) d)) a b
      → Gains (IsThinOf (readers b2) (page_of i2) n at (spelled (readers b2) (page_of i2) d)) b c → Gains (IsOfFound blocks (page_of image) n (record { page = at; inode = d })) a c
  both_found n at a b c one thin = gains_both one (moved (λ k i. Gains (IsThinOf (readers k) (page_of i) n at (spelled (readers k) (page_of i) d)) b c) b2 blocks i2 image (g ∙ e) (h ∙ f) thin)

-- and has no thin page
pub only_found : (d : Dinode) (blocks : ℕ) (image : Image) (n at : ℕ) (sound : Bool) (a b : List Finding) → sound ≡ false → IsSound (listed xt_scale (extents_of (readers blocks) (page_of image) d)) sound
    → Gains (IsOf (readers blocks) blocks (page_of image) n at (spelled (readers blocks) (page_of image) d)) a b → Gains (IsOfFound blocks (page_of image) n (record { page = at; inode = d })) a b
unfolding spelled
only_found d blocks image n at sound a b t is g = gains_as (λ f h. inl h) (λ f h. elim h [ inl one ↦ one | inr thin ↦ absurd (list_or_fault (listed xt_scale (extents_of (readers blocks) (page_of image) d)) thin.2.extents fault.0 thin.2.sound fault.1) ]) g
  where
    fault : (x : ℕ × Rule) × (listed xt_scale (extents_of (readers blocks) (page_of image) d) ≡ Err x)
    fault = has_fault (listed xt_scale (extents_of (readers blocks) (page_of image) d)) (subst (λ (b : Bool). IsSound (listed xt_scale (extents_of (readers blocks) (page_of image) d)) b) t is)
