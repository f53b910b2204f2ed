-- The moments of a whole redo.
use Rattle.std.proofs.Common.{◌≡◌, ◌⊎◌, ◌<◌, ℕ, List, [], length, drop, set, refl, sym, ap, subst, ◌∙◌, inl, inr, arith}
use Rattle.std.specs.Prelude.{None}
use Rattle.std.proofs.lemmas.List.{get_or-set_same, get_or-set_other}
use Rattle.jfs_bits.specs.Piece.{puts}
use Rattle.jfs_disk.specs.Image.{Image, page_of, ArePages}
use Rattle.jfs_disk.specs.Crash.{DiskState, IsCrashImage, AllSince, last_of, seen_of}
use Rattle.jfs_disk.specs.Moment.{IsResting, now_of}
use Rattle.jfs_disk.proofs.Flow.{AllSince-weaker, length-seen_of}
use Rattle.jfs_ranges.specs.declared.edit.Edit.{Edit}
use Rattle.jfs_super.specs.Rules.{blocks_of}
use Rattle.jfs_super.specs.Super.{super_of, pieces}
use Rattle.jfs_super.specs.Geometry.{geometry_of}
use Rattle.jfs_super.specs.declared.fields.Geometry.{Geometry}
use Rattle.jfs_super.specs.declared.fields.Super.{Super}
use Rattle.jfs_super.specs.declared.fields.TheConstants.VolumeState.{CLEAN}
use Rattle.jfs_mount_maps.specs.mount_rules.specs.Subject.{subject_of}
use Rattle.jfs_mount_maps.specs.mount_rules.specs.Mount.{broken_maps}
use Rattle.jfs_redo.specs.Log.{AreCommitted}
use Rattle.jfs_redo.specs.Mixed.{IsMixed, AreMixed}
use Rattle.jfs_redo.specs.Moments.{Marks}
use Rattle.jfs_redo.specs.Partly.{Writes, IsPartlyRedone, IsRedoneMeanwhile}
use Rattle.jfs_redo.specs.Plan.{IsPlan, IsPlanOf}
use Rattle.jfs_redo.specs.Redo.{IsRedone, IsRestored}
use Rattle.jfs_redo.specs.declared.plan.Plan.{Plan}
use Rattle.jfs_redo.proofs.MarkedLeft.{marked_since}
use Rattle.jfs_redo.proofs.Whole.{whole}

-- what restoring leaves, of a layout, an image and a past
abbrev pub RestoredMoments : Super → List (List Edit) → Geometry → Image → List DiskState → List DiskState → Plan → Type 0
RestoredMoments s txs layout image past new plan = IsResting (last_of past) → geometry_of s ≡ layout → IsPlanOf (subject_of s (page_of image)) txs plan → AreMixed layout.blocks (Writes s txs image) image (now_of past) new

pub restored_moments : (s : Super) (txs : List (List Edit)) (layout : Geometry) (image old : Image) (past before new : List DiskState) (plan : Plan) → layout ≡ geometry_of s → image ≡ old → past ≡ before → IsPlanOf (subject_of s (page_of old)) txs plan → IsResting (last_of before)
    → RestoredMoments s txs layout image past new plan → AreMixed (blocks_of s) (Writes s txs old) old (now_of before) new
restored_moments s txs layout image old past before new plan fields is same of rests moments =
    subst (λ (y : Geometry). AreMixed y.blocks (Writes s txs old) old (now_of before) new) fields
    (subst (λ (i : Image). AreMixed layout.blocks (Writes s txs i) i (now_of before) new) is
    (subst (λ (p : List DiskState). AreMixed layout.blocks (Writes s txs image) image (now_of p) new) same
    (moments (subst (λ (p : List DiskState). IsResting (last_of p)) (sym same) rests) (sym fields) (subst (λ (i : Image). IsPlanOf (subject_of s (page_of i)) txs plan) (sym is) of))))

module _ (s : Super) (txs : List (List Edit)) (old : Image) (before : List DiskState) (are : AreCommitted s.logpxd.len (blocks_of s) (drop s.logpxd.addr old) txs) (unbroken : broken_maps (subject_of s (page_of old)) ≡ None) where
  abbrev Left : Image → Type 0
  Left left = IsPartlyRedone s txs old left ⊎ IsRedone s txs old left

  first : (past : List DiskState) → AreMixed (blocks_of s) (Writes s txs old) old (now_of before) past → AllSince Left past (now_of before)
  first past mixed = AllSince-weaker (IsMixed (blocks_of s) (Writes s txs old) old) Left past (now_of before) (now_of before) (omega arith) (λ left is. inl is) mixed.all

  -- before page 8 is written
  pub meanwhile : (past : List DiskState) → AreMixed (blocks_of s) (Writes s txs old) old (now_of before) past → IsRedoneMeanwhile s old before past
  meanwhile past mixed = inr (txs, are, unbroken, first past mixed)

  -- and while it is
  pub meanwhile_marked : (count : ℕ) (mid : Image) (plan : Plan) (past new : List DiskState) → AreMixed (blocks_of s) (Writes s txs old) old (now_of before) past → IsResting (last_of past)
      → ArePages count mid → 8 < count → mid ≡ seen_of (last_of past) → IsCrashImage (last_of past) mid → IsPlan (blocks_of s) s.agsize plan → IsPlanOf (subject_of s (page_of old)) txs plan → IsRestored (blocks_of s) s.agsize txs plan old mid
      → Marks (record s { state = CLEAN }) (puts (pieces (record s { state = CLEAN })) (page_of mid 8)) past new → IsRedoneMeanwhile s old before new
  meanwhile_marked count mid plan past new mixed rests sizes there seen crash is of restored (inl same) = meanwhile new (subst (λ (states : List DiskState). AreMixed (blocks_of s) (Writes s txs old) old (now_of before) states) (sym same) mixed)
  meanwhile_marked count mid plan past new mixed rests sizes there seen crash is of restored (inr (read, long, marks)) = inr (
    txs,
    are,
    unbroken,
    marked_since clean page (page_of mid 8) (sizes.sizes 8 there) long refl read mid refl Left past new (now_of before) rests seen within (first past mixed) (inl (mixed.now mid crash)) (inr redone) marks,
  )
    where
      clean : Super
      clean = record s { state = CLEAN }

      page : List ℕ
      page = puts (pieces clean) (page_of mid 8)

      within : 8 < length (last_of past)
      within = omega (arith, there, sizes.number, ap (λ (i : Image). length i) seen, length-seen_of (last_of past))

      put : page_of (set mid 8 page) 8 ≡ page
      put = get_or-set_same mid 8 page [] (omega (arith, there, sizes.number))

      redone : IsRedone s txs old (set mid 8 page)
      redone = whole s txs plan old mid (set mid 8 page) is of restored (λ p other. get_or-set_other mid 8 p page [] other) put (ap super_of put ∙ read)
