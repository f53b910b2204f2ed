-- The disk that redo leaves has a volume of the history.
use Rattle.std.proofs.Common.{◌≡◌, ◌⊎◌, ◌<◌, ◌≤◌, ◌-◌, ℕ, zero, suc, true, false, List, [], length, take, drop, refl, sym, ap, subst, ◌∙◌, inl, inr, arith}
use Rattle.std.specs.List.{AllByRecursion}
use Rattle.std.specs.Prelude.{None, Err}
use Rattle.std.proofs.lemmas.Bool.{cases_Bool, cases_lt, lt-ltb}
use Rattle.std.proofs.lemmas.List.{get_or_past}
use Rattle.std.proofs.lemmas.Option.{none-some}
use Rattle.jfs_disk.specs.Image.{Image, page_of, ArePages}
use Rattle.jfs_ranges.specs.declared.edit.Edit.{Edit}
use Rattle.jfs_records.specs.Redo.{all_of}
use Rattle.jfs_super.specs.Rules.{blocks_of}
use Rattle.jfs_super.specs.declared.fields.Super.{Super}
use Rattle.jfs_shown.proofs.Places.{files_law, keeps_law}
use Rattle.jfs_shown.specs.Laws.{SamePlaces}
use Rattle.jfs_shown.specs.meaning.specs.Readers.{readers}
use Rattle.jfs_shown.specs.objects.specs.Image.{area_on}
use Rattle.jfs_log_readings.specs.Readings.{committed_by}
use Rattle.jfs_log_window.specs.Events.{IsQuiet}
use Rattle.jfs_log_window.specs.Window.{CommitsWindow}
use Rattle.jfs_left_volumes.proofs.Left.{log_image, window_is}
use Rattle.jfs_left_volumes.proofs.Quiet.{quiet-take, quiet-drop, redone_same}
use Rattle.jfs_held_maps.specs.mounted_places.specs.held.specs.survival.specs.MapMarks.{map_marks}
use Rattle.jfs_held_maps.specs.mounted_places.specs.held.specs.survival.specs.halves.specs.Entry.{Happened}
use Rattle.jfs_held_maps.specs.mounted_places.specs.held.specs.survival.specs.face.specs.Places.{Places, is_map_page}
use Rattle.jfs_held_maps.specs.mounted_places.specs.held.specs.survival.specs.face.specs.Volume.{face_of}
use Rattle.jfs_held_maps.specs.mounted_places.specs.held.specs.survival.specs.face.proofs.Owned.{map_matters, fixed_matters}
use Rattle.jfs_held_maps.specs.mounted_places.specs.held.specs.survival.specs.face.proofs.Whole.{is_face}
use Rattle.jfs_held_maps.specs.mounted_places.specs.held.specs.survival.specs.recovery.specs.kinds.specs.Images.{HasWholeFiles, IsSameVolume}
use Rattle.jfs_held_maps.specs.mounted_places.specs.held.specs.survival.specs.recovery.specs.Core.{Core, count, image, matters_at}
use Rattle.jfs_held_maps.specs.mounted_places.specs.held.specs.survival.specs.recovery.specs.Face.{Face, Pages, IsRedone as IsRedoneOf}
use Rattle.jfs_held_maps.specs.mounted_places.specs.held.specs.survival.specs.recovery.specs.Sound.{IsLogImage, window as core_window}
use Rattle.jfs_held_maps.specs.mounted_places.specs.held.specs.survival.specs.recovery.specs.objects.specs.Image.{volume_on}
use Rattle.jfs_held_maps.specs.mounted_places.specs.held.specs.survival.specs.recovery.specs.objects.specs.Objects.{objects}
use Rattle.jfs_held_maps.specs.mounted_places.specs.held.specs.survival.specs.recovery.specs.objects.specs.Owners.{is_data}
use Rattle.jfs_held_maps.specs.mounted_places.specs.held.specs.survival.specs.recovery.specs.objects.specs.Readers.{Readers}
use Rattle.jfs_held_maps.specs.mounted_places.specs.held.specs.survival.specs.recovery.specs.objects.specs.Volume.{Volume}
use Rattle.jfs_held_maps.specs.mounted_places.specs.held.specs.survival.specs.recovery.proofs.Redo.{always_recovers, size_left}
use Rattle.jfs_held_maps.specs.mounted_places.specs.held.specs.survival.proofs.Changes.{counted}
use Rattle.jfs_held_maps.specs.mounted_places.specs.held.specs.Held.{Held, IsHeld}
use Rattle.jfs_held_maps.specs.mounted_places.specs.held.specs.Laws.{IsFront}
use Rattle.jfs_held_maps.specs.mounted_places.specs.held.proofs.Crash.{crash_law as held_crash}
use Rattle.jfs_held_maps.specs.Maps.{KeepsMaps}
use Rattle.jfs_held_maps.specs.mounted_places.specs.Mounted.{SetsPast, mount_of}
use Rattle.jfs_held_maps.specs.mounted_places.specs.Places.{places_of}
use Rattle.jfs_redo.specs.Log.{AreCommitted}
use Rattle.jfs_redo.specs.Partly.{IsPartlyRedone, MapsStandApart}
use Rattle.jfs_redo.specs.Redo.{IsRedone, IsRefusal, RedoIs}
use Rattle.jfs_redo.specs.declared.error.RedoError.{RedoError}
use Rattle.jfs_redo.specs.declared.error.RedoError.TheVariants.{Disk, ForeignLog, BadLog, BadImage, Memory}
use Rattle.jfs_redo.specs.mount_rules.specs.Mount.{broken_maps}
use Rattle.jfs_redo.specs.mount_rules.specs.Subject.{subject_of}
use Rattle.jfs_redone_volumes.specs.Redone.{CanBeRedone, IsRedoneByCore}
use Rattle.jfs_redone_volumes.proofs.Redone.{redone_law}
use Rattle.jfs_redone_volumes.proofs.Superblock.{superblock_law}
use Rattle.jfs_crashes_redone.specs.Crashed.{HasCrashed, IsRedoneToVolume, CrashedLaw}
use Rattle.jfs_crashes_redone.proofs.Can.{apart, can}
use Rattle.jfs_crashes_redone.proofs.Data.{data_stays}
use Rattle.jfs_crashes_redone.proofs.Facts.{AreFacts}
use Rattle.jfs_crashes_redone.proofs.Lists.{all_committed}
use Rattle.jfs_crashes_redone.proofs.Places as found
use Rattle.jfs_crashes_redone.proofs.Rules.{unbroken}
use Rattle.jfs_crashes_redone.proofs.Sound as sound
use Rattle.jfs_crashes_redone.proofs.Window as log_of

joined : (r : Readers) (u v w : Volume) → IsSameVolume r u v → IsSameVolume r v w → IsSameVolume r u w
joined r u v w a b = record {
  extents = b.extents ∙ a.extents;
  area = λ c. b.area c ∙ a.area c;
  used = λ c. b.used c ∙ a.used c;
  in_use = λ n. b.in_use n ∙ a.in_use n;
  objects = λ n. b.objects n ∙ a.objects n;
  owners = λ c. b.owners c ∙ a.owners c;
  sound = b.sound;
}

-- an image whose pages up to a number are whole has as many
has_pages : (old : Image) (n : ℕ) → ((p : ℕ) → p < n → length (page_of old p) ≡ 4096) → n ≤ length old
has_pages old zero sizes = omega arith
has_pages old (suc n) sizes = at (cases_lt n (length old))
  where
    at : (n < length old) ⊎ (length old ≤ n) → suc n ≤ length old
    at (inl low) = low
    at (inr past) = absurd (let none = ap length (get_or_past old n [] past) in let some = sizes n (omega arith) in omega (arith, none, some))

module _ (s : Super) (mounted : Pages) (x : Held) (old : Image) (held : IsHeld (mount_of s mounted) x) (keeps : KeepsMaps (mount_of s mounted) x) (crashed : HasCrashed s x.both old) where
  abbrev r : Readers
  r = readers (blocks_of s)

  abbrev pl : Places
  pl = found.pl s mounted x old held keeps crashed

  abbrev f : Face
  f = face_of r pl (map_marks pl)

  abbrev core : Core
  core = x.core

  abbrev left : Pages
  left = found.left s mounted x old held keeps crashed

  facts : AreFacts s pl core left old
  facts = found.facts s mounted x old held keeps crashed

  w : CommitsWindow (s.logpxd.len - 2) (blocks_of s) (drop s.logpxd.addr old) x.both
  w = log_of.window s x.both old crashed

  abbrev c : ℕ
  c = w.c

  abbrev n : ℕ
  n = w.n

  abbrev txs : List (List Edit)
  txs = committed_by w

  log : IsLogImage core c n
  log = log_image f x.both core c n held.core_is w.window

  low : n ≤ count core
  low = let a = log.taken in let b = facts.sound.counts.taken_appended in omega (arith, a, b)

  -- ---- the window's entries

  abbrev hs : List Happened
  hs = drop c (take n x.both.volume.history)

  quiet : AllByRecursion IsQuiet hs
  quiet = quiet-drop c (take n x.both.volume.history) (quiet-take n x.both.volume.history crashed.log_is.events.3.quiet)

  same : all_of txs ≡ all_of (core_window core c n)
  same = ap all_of w.are ∙ all_committed hs quiet ∙ ap all_of (window_is f x.both core c n held.core_is)

  can_be : CanBeRedone s txs old
  can_be = can s pl core left old facts (λ k within. (held.images k within).bytes) c n log low txs same

  long : blocks_of s ≤ length old
  long = has_pages old (blocks_of s) (λ p within. ap length (sym (facts.same_low p within)) ∙ size_left f core facts.sound left facts.is_left p)

  abbrev at : Pages → Volume
  at page = volume_on r (blocks_of s) s.ait2 s.aim2 page

  -- ---- a redone disk

  module _ (new : Image) (is_redone : IsRedone s txs old new) (sizes : ArePages (length new) new) (number : length new ≡ length old) where
    by_core : IsRedoneByCore s txs old new (map_marks pl) left
    by_core = redone_law s txs old new (map_marks pl) left (omega (arith, long, number)) sizes can_be is_redone facts.same_low

    redone : IsRedoneOf f left txs by_core.made
    redone = subst (λ (q : Places). IsRedoneOf (face_of r q (map_marks pl)) left txs by_core.made) facts.places_are by_core.redone

    in_window : IsRedoneOf f left (core_window core c n) by_core.made
    in_window = subst (λ (all : List (List Edit)). IsRedoneOf f left all by_core.made) (window_is f x.both core c n held.core_is)
        (redone_same r pl (map_marks pl) left hs by_core.made quiet (subst (λ (all : List (List Edit)). IsRedoneOf f left all by_core.made) w.are redone))

    front : IsFront (mount_of s mounted) x n by_core.made
    front = held_crash (mount_of s mounted) x [] held tt 0 crashed.low crashed.crash c n log by_core.made in_window

    in_place : (b : ℕ) → 0 < pl.area b → by_core.made b ≡ image core n b
    in_place b some = (always_recovers f (is_face r pl (map_marks pl) facts.areas) core facts.sound left c n by_core.made facts.is_left log in_window).gives b (matters (cases_Bool (is_map_page pl b)))
      where
        matters : (is_map_page pl b ≡ true) ⊎ (is_map_page pl b ≡ false) → matters_at f core b n ≡ true
        matters (inl e) = map_matters r pl facts.areas (image core n) b e
        matters (inr e) = fixed_matters r pl (image core n) b (rw (lt-ltb 0 (pl.area b) some, e) refl)

    area_is : (b : ℕ) → area_on r s.ait2 s.aim2 (image core n) b ≡ pl.area b
    area_is b = ap (λ (q : Places). q.area b) (facts.stands n low).places

    kept_places : SamePlaces r s.ait2 s.aim2 (image core n) by_core.made
    kept_places = files_law r s.ait2 s.aim2 (image core n) by_core.made
        (keeps_law r s.ait2 s.aim2 (at (image core n)) by_core.made (facts.stands n low).sound.agrees (λ b. refl) (facts.stands n low).files (λ b other some none. let a = area_is b in in_place b (omega (arith, a, some))))

    whole : HasWholeFiles r by_core.made
    whole = kept_places.whole (facts.stands n low).files

    is_volume : IsSameVolume r (x.volumes n) (at (page_of new))
    is_volume = joined r (x.volumes n) (at by_core.made) (at (page_of new)) front.volume
        (superblock_law r (blocks_of s) s.ait2 s.aim2 by_core.made (page_of new) front.volume.sound whole by_core.same)

    new_files : HasWholeFiles r (page_of new)
    new_files = sound.files s pl (image core n) by_core.made (page_of new) (facts.stands n low) kept_places front.volume.sound whole by_core.same

    new_past : SetsPast (places_of s (page_of new)) (page_of new)
    new_past = sound.past s pl (image core n) by_core.made (page_of new) (facts.stands n low) kept_places front.volume.sound whole by_core.same _ _ in_window.maps

  -- ---- all of it

  is_txs : (others : List (List Edit)) → AreCommitted s.logpxd.len (blocks_of s) (drop s.logpxd.addr old) others → others ≡ txs
  unfolding w
  is_txs others is = log_of.is_window s x.both old crashed others is

  by_txs : (others : List (List Edit)) (new : Image) → AreCommitted s.logpxd.len (blocks_of s) (drop s.logpxd.addr old) others → IsRedone s others old new → IsRedone s txs old new
  by_txs others new is is_redone = subst (λ (all : List (List Edit)). IsRedone s all old new) (is_txs others is) is_redone

  file_data : (others : List (List Edit)) (new : Image) → AreCommitted s.logpxd.len (blocks_of s) (drop s.logpxd.addr old) others → IsPartlyRedone s others old new ⊎ IsRedone s others old new
      → (k b : ℕ) → 0 < is_data r (objects r (x.volumes n) k) b → page_of new b ≡ page_of old b
  file_data others new is either k b some =
      data_stays s pl core left old facts c n log txs same (x.volumes n) (held.images n low).sound (held.images n low).shows k b some new
      (subst (λ (all : List (List Edit)). IsPartlyRedone s all old new ⊎ IsRedone s all old new) (is_txs others is) either)

  unbroken_maps : broken_maps (subject_of s (page_of old)) ≡ None
  unbroken_maps = unbroken s pl core left old facts c n log

  answered : (new : Image) (why : RedoError) → RedoIs s old new (Err why) → IsRefusal why → ⊥
  answered new (ForeignLog label) is refusal = (log_of.unbroken_log s x.both old crashed).own label is
  answered new (BadLog address rule) is refusal = (log_of.unbroken_log s x.both old crashed).whole address rule is
  answered new (BadImage bad) is refusal = none-some bad (sym unbroken_maps ∙ is.1)
  answered new (Disk fault) is refusal = refusal
  answered new Memory is refusal = refusal

  pub to_volume : IsRedoneToVolume s (mount_of s mounted) x old
  to_volume = record {
    n = n;
    durable = w.window.durable;
    within = (let a = w.window.taken in let b = held.core_is.taken in let d = facts.sound.counts.taken_appended in let k = counted f x.both core held.core_is in omega (arith, a, b, d, k));
    superblock = facts.superblock;
    commits = log_of.commits s x.both old crashed;
    unbroken = unbroken_maps;
    apart = λ others is. subst (λ (all : List (List Edit)). MapsStandApart s all old) (sym (is_txs others is)) (apart s pl core left old facts (λ k within. (held.images k within).bytes) c n log low txs same);
    answered = answered;
    redone = λ others new is is_redone sizes number. is_volume new (by_txs others new is is_redone) sizes number;
    files = λ others new is is_redone sizes number. new_files new (by_txs others new is is_redone) sizes number;
    past = λ others new is is_redone sizes number. new_past new (by_txs others new is is_redone) sizes number;
    file_data = file_data;
  }

pub crashed_law : CrashedLaw
crashed_law s mounted x old held keeps crashed = to_volume s mounted x old held keeps crashed
