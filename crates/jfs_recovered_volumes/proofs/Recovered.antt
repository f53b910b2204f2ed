-- The disk that redo leaves has a volume of the history.
use Rattle.std.proofs.Common.{◌≡◌, ◌⊎◌, ◌<◌, ◌≤◌, nat_lt, ℕ, Bool, true, false, List, length, take, drop, refl, sym, ap, subst, ◌∙◌, inl, inr, arith}
use Rattle.std.proofs.lemmas.Bool.{cases_Bool, cond-true, lt-ltb}
use Rattle.jfs_disk.specs.Image.{Image, page_of, ArePages}
use Rattle.jfs_ranges.specs.declared.edit.Edit.{Edit}
use Rattle.jfs_super.specs.Rules.{blocks_of}
use Rattle.jfs_super.specs.declared.fields.Super.{Super}
use Rattle.jfs_halves.specs.Entry.{Happened}
use Rattle.jfs_halves.specs.Half.{Halves}
use Rattle.jfs_halves.specs.Both.{BothChange, after}
use Rattle.jfs_recovery.specs.objects.specs.Readers.{Readers}
use Rattle.jfs_recovery.specs.objects.specs.Volume.{Volume}
use Rattle.jfs_recovery.specs.objects.specs.Image.{area_on, volume_on}
use Rattle.jfs_recovery.specs.kinds.specs.Images.{HasWholeFiles, IsSameVolume}
use Rattle.jfs_recovery.specs.Face.{Face, Pages, IsRedone as IsRedoneOf}
use Rattle.jfs_recovery.specs.Core.{Core, Step, image, matters_at, after_steps}
use Rattle.jfs_recovery.specs.Sound.{window}
use Rattle.jfs_recovery.proofs.Redo.{always_recovers}
use Rattle.jfs_face.specs.Places.{Places, is_map_page}
use Rattle.jfs_face.specs.Recovered.{IsVolumeAt}
use Rattle.jfs_face.specs.Volume.{face_of}
use Rattle.jfs_face.proofs.Owned.{map_matters, fixed_matters}
use Rattle.jfs_face.proofs.Whole.{is_face}
use Rattle.jfs_survival.specs.Laws.{IsRunOf, left_by}
use Rattle.jfs_survival.specs.Stands.{IsCoreOf}
use Rattle.jfs_survival.proofs.Crashes.{left}
use Rattle.jfs_image_volumes.specs.Crash.{AreVolumesOf, IsVolumeOfPrefix}
use Rattle.jfs_image_volumes.proofs.Crash.{images}
use Rattle.jfs_image_volumes.proofs.Next.{in_areas}
use Rattle.jfs_left_volumes.proofs.Left.{left_law, log_image, window_is}
use Rattle.jfs_left_volumes.proofs.Quiet.{quiet-take, quiet-drop, redone_same}
use Rattle.jfs_redo.specs.Redo.{IsRedone}
use Rattle.jfs_redo.specs.mount_rules.specs.meaning.specs.Readers.{readers}
use Rattle.jfs_shown.proofs.Places.{files_law, keeps_law}
use Rattle.jfs_redone_volumes.specs.Redone.{CanBeRedone, IsRedoneByCore}
use Rattle.jfs_redone_volumes.proofs.Redone.{redone_law}
use Rattle.jfs_redone_volumes.proofs.Superblock.{superblock_law}
use Rattle.jfs_recovered_volumes.specs.Recovered.{HasCrashed, IsRecovered, RecoveredLaw, committed_by, groups_in}

joined : (r : Readers) (u v w : Volume) → IsSameVolume r u v → IsSameVolume r v w → IsSameVolume r u w
joined r u v w a b = record {
  extents = b.extents ∙ a.extents;
  area = λ c. b.area c ∙ a.area c;
  used = λ c. b.used c ∙ a.used c;
  in_use = λ n. b.in_use n ∙ a.in_use n;
  objects = λ n. b.objects n ∙ a.objects n;
  owners = λ c. b.owners c ∙ a.owners c;
  sound = b.sound;
}

module _ (s : Super) (pl : Places) (changes : Pages → List Edit → ℕ → Bool) (both : Halves) (core : Core) (list : List BothChange) (steps : List Step) (volumes : ℕ → Volume) (is : IsCoreOf (face_of (readers (blocks_of s)) pl changes) both core)
    (run : IsRunOf (face_of (readers (blocks_of s)) pl changes) both core list steps)
    (are : AreVolumesOf (readers (blocks_of s)) (blocks_of s) s.agsize (groups_in s) s.ait2 s.aim2 pl (after_steps (face_of (readers (blocks_of s)) pl changes) core steps) volumes)
    (old new : Image) (ring size : ℕ) (log : Image) (crashed : HasCrashed s pl (after both list) old ring size log) (can : CanBeRedone s (committed_by crashed.window) old) (is_redone : IsRedone s (committed_by crashed.window) old new)
    (long : blocks_of s ≤ length new) (sizes : ArePages (length new) new) where
  abbrev r : Readers
  r = readers (blocks_of s)

  abbrev f : Face
  f = face_of r pl changes

  abbrev later : Core
  later = after_steps f core steps

  abbrev low : Pages
  low = left_by later crashed.low

  abbrev txs : List (List Edit)
  txs = committed_by crashed.window

  abbrev n : ℕ
  n = crashed.window.n

  abbrev at : Pages → Volume
  at page = volume_on r (blocks_of s) s.ait2 s.aim2 page

  same_low : (p : ℕ) → p < blocks_of s → low p ≡ page_of old p
  same_low p within =
      let here = crashed.long in
      let under : p < length crashed.low = omega (arith, within, here) in
      cond-true (nat_lt p (length crashed.low)) (page_of crashed.low p) (later.slots p).block.pages.seen (lt-ltb p (length crashed.low) under) ∙ sym (crashed.same p under)

  by_core : IsRedoneByCore s txs old new changes low
  by_core = redone_law s txs old new changes low long sizes can is_redone same_low

  redone : IsRedoneOf f low txs by_core.made
  redone = subst (λ (x : Places). IsRedoneOf (face_of r x changes) low txs by_core.made) crashed.places by_core.redone

  prefix : IsVolumeOfPrefix r (blocks_of s) s.ait2 s.aim2 core later n by_core.made (volumes n)
  prefix = left_law r (blocks_of s) s.agsize (groups_in s) s.ait2 s.aim2 pl changes both core list steps volumes is run are crashed.low crashed.crash ring size log crashed.window crashed.quiet by_core.made redone

  -- ---- the maps' files are whole on the redone pages, as they are on the image of the history

  stands : IsVolumeAt r (blocks_of s) s.agsize (groups_in s) s.ait2 s.aim2 pl (image later n)
  stands = (images r (blocks_of s) s.agsize (groups_in s) s.ait2 s.aim2 pl changes later volumes run.core_is.sound are n prefix.prefix.within).is.stands

  hs : List Happened
  hs = drop crashed.window.c (take n (after both list).volume.history)

  in_window : IsRedoneOf f low (window later crashed.window.c n) by_core.made
  unfolding hs
  in_window = subst (λ (all : List (List Edit)). IsRedoneOf f low all by_core.made) (window_is f (after both list) later crashed.window.c n run.core_is)
      (redone_same r pl changes low hs by_core.made (quiet-drop crashed.window.c (take n (after both list).volume.history) (quiet-take n (after both list).volume.history crashed.quiet))
      (subst (λ (all : List (List Edit)). IsRedoneOf f low all by_core.made) crashed.window.are redone))

  in_place : (b : ℕ) → 0 < pl.area b → by_core.made b ≡ image later n b
  in_place b some =
      (always_recovers f (is_face r pl changes (in_areas r (blocks_of s) s.agsize (groups_in s) s.ait2 s.aim2 pl (image later n) stands)) later run.core_is.sound low crashed.window.c n by_core.made
      (left f (after both list) later run.core_is crashed.low crashed.crash) (log_image f (after both list) later crashed.window.c n run.core_is crashed.window.window) in_window).gives b (matters (cases_Bool (is_map_page pl b)))
    where
      matters : (is_map_page pl b ≡ true) ⊎ (is_map_page pl b ≡ false) → matters_at f later b n ≡ true
      matters (inl e) = map_matters r pl (in_areas r (blocks_of s) s.agsize (groups_in s) s.ait2 s.aim2 pl (image later n) stands) (image later n) b e
      matters (inr e) = fixed_matters r pl (image later n) b (rw (lt-ltb 0 (pl.area b) some, e) refl)

  area_is : (b : ℕ) → area_on r s.ait2 s.aim2 (image later n) b ≡ pl.area b
  area_is b = ap (λ (x : Places). x.area b) stands.places

  whole : HasWholeFiles r by_core.made
  whole = (files_law r s.ait2 s.aim2 (image later n) by_core.made
      (keeps_law r s.ait2 s.aim2 (at (image later n)) by_core.made stands.sound.agrees (λ b. refl) stands.files (λ b other some none. let a = area_is b in in_place b (omega (arith, a, some))))).whole stands.files

  pub recovered : IsRecovered s core n volumes new
  recovered = record {
    told = prefix.prefix.told;
    volume = joined r (volumes n) (at by_core.made) (at (page_of new)) prefix.volume
        (superblock_law r (blocks_of s) s.ait2 s.aim2 by_core.made (page_of new) prefix.volume.sound whole by_core.same);
  }

pub recovered_law : RecoveredLaw
recovered_law s pl changes both core list steps volumes is run are old new ring size log crashed can is_redone long sizes =
    recovered s pl changes both core list steps volumes is run are old new ring size log crashed can is_redone long sizes
