-- A write of data that failed.
use Rattle.std.proofs.Common.{◌≡◌, ◌<◌, ◌==◌, ◌&&◌, ◌++◌, nat_lt, if◌then◌else◌, ℕ, true, List, [], ◌∷◌, length, map, refl, sym, ap, ◌∙◌, subst, inl, arith}
use Rattle.std.proofs.lemmas.Bool.{or_left, or_right, eq-eqb, and_parts, ltb-true}
use Rattle.std.proofs.lemmas.List.{append-nil, length-set}
use Rattle.jfs_disk.specs.Crash.{torn}
use Rattle.jfs_disk.specs.Image.{Image, page_of}
use Rattle.jfs_disk.specs.declared.disk.Fault.{Fault}
use Rattle.jfs_kept_volumes.specs.volume_calls.specs.halves.specs.Half.{VolumeHalf, block_in}
use Rattle.jfs_kept_volumes.specs.volume_calls.specs.halves.specs.Change.{Change, Writes, SameStates, FitAll, changed, after}
use Rattle.jfs_kept_volumes.specs.volume_calls.specs.halves.specs.Both.{Changes}
use Rattle.jfs_kept_volumes.specs.volume_calls.specs.halves.specs.Moves.{Moves}
use Rattle.jfs_kept_volumes.specs.volume_calls.specs.halves.specs.Parts.{Parts, StandsFor}
use Rattle.jfs_kept_volumes.specs.volume_calls.specs.volume.specs.Written.{writes, IsWriteStop, stops, tears}
use Rattle.jfs_kept_volumes.specs.volume_calls.specs.volume.specs.bmap.specs.States.{BlockState, is_owned}
use Rattle.jfs_kept_volumes.specs.volume_calls.specs.volume.specs.map_files.specs.imap.specs.Inodes.{Inodes}
use Rattle.jfs_kept_volumes.specs.volume_calls.specs.volume.specs.data_steps.specs.After.{is_put, AreWholePages}
use Rattle.jfs_kept_volumes.specs.volume_calls.specs.volume.specs.data_steps.specs.declared.pages.DataPage.{DataPage}
use Rattle.jfs_kept_volumes.specs.volume_calls.specs.volume.specs.data_steps.specs.objects.specs.Image.{extent_place}
use Rattle.jfs_kept_volumes.specs.volume_calls.specs.volume.specs.data_steps.specs.objects.specs.Volume.{Volume}
use Rattle.jfs_kept_volumes.specs.volume_calls.specs.volume.specs.data_steps.specs.way.specs.Volume.{volume_of}
use Rattle.jfs_kept_volumes.specs.joined_held.specs.held.specs.survival.proofs.Changes.{counted}
use Rattle.jfs_kept_volumes.specs.joined_held.specs.held.specs.Held.{Mount, Held, IsHeld, newest_image, face_at}
use Rattle.jfs_kept_volumes.specs.joined_held.specs.held.specs.Changes.{TakesData, HasTheSame, with_page, next, Made, AllMay, after as after_all}
use Rattle.jfs_kept_volumes.specs.joined_held.specs.held.proofs.Crash.{run_law}
use Rattle.jfs_kept_volumes.specs.joined_held.specs.held.proofs.Data.{objects_stay}
use Rattle.jfs_kept_volumes.specs.joined_held.specs.held.proofs.Kept.{one}
use Rattle.jfs_kept_volumes.specs.joined_held.specs.held_calls.proofs.Calls.{still_takes}
use Rattle.jfs_kept_volumes.specs.joined_held.specs.Held.{blocks_at, volume_at, held_at}
use Rattle.jfs_kept_volumes.specs.Keeper.{Keeper}
use Rattle.jfs_kept_volumes.specs.Kept.{IsHeldAtRest}
use Rattle.jfs_kept_volumes.specs.Rest.{IsAtRest}
use Rattle.jfs_kept_volumes.specs.Steps.{SameSizes, LeavesRest}
use Rattle.jfs_kept_volumes.proofs.Made.{made_law, same_mounted}
use Rattle.jfs_entries_kept.specs.Entries.{Comes, stopped_at, made_to, stopped_by, StopsIn, StopLaw}
use Rattle.jfs_entries_kept.proofs.To.{half_to, volume_to, rest_to, history_to, points_to, last_to, page_set}

-- ---- each change may be made

may_to : (m : Mount) (front : List DataPage) (d : DataPage) (rest : List DataPage) (last : Change) (fault : Fault) (x : Held) → IsWriteStop fault d last → IsHeld m x → ((b : ℕ) → is_put b (front ++ d ∷ rest) ≡ true → TakesData m.readers x.volume b)
    → AreWholePages (front ++ d ∷ rest) → FitAll x.both.volume (writes front ++ last ∷ []) → AllMay m x (made_to x.volume front last (stopped_at front last x.both.volume x.volume))
may_to m [] d rest _ fault x stops held takes whole fit = ((fit.0, tt), record { extents = refl; area = λ b. refl; used = λ b. refl; in_use = λ n. refl; pages = λ b used. refl }, tt)
may_to m [] d rest _ fault x (tears sectors) held takes whole fit =
    ((fit.0, tt), (torn sectors d.page.0 (block_in x.both.volume d.block).pages.seen, inl (whole.0, takes d.block (or_left (d.block == d.block) (is_put d.block rest) (eq-eqb d.block d.block refl)), refl)), tt)
may_to m (e ∷ es) d rest last fault x stop held takes whole fit =
    let v = with_page e.block e.page.0 x.volume in
    let first = takes e.block (or_left (e.block == e.block) (is_put e.block (es ++ d ∷ rest)) (eq-eqb e.block e.block refl)) in
    let may = inl (whole.0, first, refl) in (
      (fit.0, tt),
      may,
      may_to m es d rest last fault (next m x (Changes (Writes e.block e.page.0)) v) stop (one m x held (Changes (Writes e.block e.page.0)) v (fit.0, tt) may)
          (λ b is. still_takes m.readers x.volume v b refl (objects_stay m (newest_image x) x.volume e.block e.page.0 held.now first) (takes b (or_right (e.block == b) (is_put b (es ++ d ∷ rest)) is))) whole.1 fit.1,
    )

-- ---- what is shown then

shown_to : (front : List DataPage) (d : DataPage) (last : Change) (fault : Fault) (half : VolumeHalf) (v : Volume) (b : ℕ) → IsWriteStop fault d last → b < length half.shown.pages → page_of half.shown.pages b ≡ v.page b
    → page_of (after half (writes front ++ last ∷ [])).shown.pages b ≡ (stopped_at front last half v).page b
shown_to [] d _ fault half v b stops l same = same
shown_to [] d _ fault half v b (tears sectors) l same =
    let left = torn sectors d.page.0 (block_in half d.block).pages.seen in
    page_set half.shown.pages d.block b left l ∙ ap (λ (page : List ℕ). if d.block == b then left else page) same
shown_to (e ∷ es) d last fault half v b stop l same =
    shown_to es d last fault (changed half (Writes e.block e.page.0)) (with_page e.block e.page.0 v) b stop (let size = length-set half.shown.pages e.block e.page.0 in omega (arith, l, size))
    (page_set half.shown.pages e.block b e.page.0 l ∙ ap (λ (page : List ℕ). if e.block == b then e.page.0 else page) same)

-- pages alone are other ones
pages_alone : (front : List DataPage) (d : DataPage) (last : Change) (fault : Fault) (half : VolumeHalf) (v : Volume) → IsWriteStop fault d last → stopped_at front last half v ≡ record v { page = (stopped_at front last half v).page }
pages_alone [] d _ fault half v stops = refl
pages_alone [] d _ fault half v (tears sectors) = refl
pages_alone (e ∷ es) d last fault half v stop = pages_alone es d last fault (changed half (Writes e.block e.page.0)) (with_page e.block e.page.0 v) stop

-- ---- the half

stop_history : (d : DataPage) (last : Change) (fault : Fault) (half : VolumeHalf) → IsWriteStop fault d last → (changed half last).history ≡ half.history
stop_history d _ fault half stops = refl
stop_history d _ fault half (tears sectors) = refl

stop_points : (d : DataPage) (last : Change) (fault : Fault) (half : VolumeHalf) → IsWriteStop fault d last → (changed half last).points ≡ half.points
stop_points d _ fault half stops = refl
stop_points d _ fault half (tears sectors) = refl

stop_leaves : (blocks : ℕ) (d : DataPage) (last : Change) (fault : Fault) (half : VolumeHalf) → IsWriteStop fault d last → LeavesRest blocks half last
stop_leaves blocks d _ fault half stops = tt
stop_leaves blocks d _ fault half (tears sectors) = tt

module _ (m : Mount) (area : ℕ → ℕ) (put front : List DataPage) (last : Change) (old back new : Parts) (x : Keeper) (is : IsHeldAtRest m area old x) (stop : StopsIn m area old put front last)
    (moves : Moves true true back new x.both.volume (writes front ++ last ∷ [])) (map_is : SameStates new.map old.map) (inodes_are : new.inodes ≡ old.inodes) where
  abbrev v : Volume
  v = volume_at area old

  abbrev w : Volume
  w = stopped_at front last x.both.volume v

  abbrev start : Held
  start = held_at x.both x.core x.volumes area old

  abbrev ds : List Made
  ds = made_to v front last w

  pub may : AllMay m start ds
  may = may_to m front stop.next stop.rest last stop.fault start stop.stop is.held.held (λ b e. stop.takes b (ap (is_put b) stop.split ∙ e)) (subst AreWholePages stop.split stop.whole) moves.fit

  blocks_are : blocks_at new ≡ blocks_at old
  blocks_are = ap (λ (ss : List BlockState). length ss) map_is.states

  sizes : SameSizes old new
  sizes = record { blocks = blocks_are; extents = ap (λ (i : Inodes). length i.extents) inodes_are }

  shown : (b : ℕ) → b < blocks_at old → page_of new.view b ≡ w.page b
  shown b l =
      ap (λ (image : Image). page_of image b) (moves.stands.view refl)
      ∙ shown_to front stop.next last stop.fault x.both.volume v b stop.stop (let a = is.held.within in let c = is.held.held.core_is.number in omega (arith, l, a, c)) (ap (λ (image : Image). page_of image b) (sym (is.stands.view refl)))

  alone : w ≡ record v { page = w.page }
  alone = pages_alone front stop.next last stop.fault x.both.volume v stop.stop

  with_shown : HasTheSame (record v { page = w.page }) (volume_at area new)
  with_shown = record {
    extents = ap (λ (i : Inodes). map extent_place i.extents) inodes_are;
    area = λ b. refl;
    used = λ b. ap (λ (ss : List BlockState). nat_lt b (length ss) && is_owned (record old.map { states = ss }) b) map_is.states;
    in_use = λ n. ap (λ (i : Inodes). (volume_of (page_of old.view) area old.map i).in_use n) inodes_are;
    pages = λ b used. shown b (ltb-true b (blocks_at old) (and_parts (nat_lt b (blocks_at old)) (is_owned old.map b) used).0);
  }

  same : HasTheSame (after_all m start ds).volume (volume_at area new)
  same = subst (λ (u : Volume). HasTheSame u (volume_at area new)) (sym (volume_to m front last start v w ∙ alone)) with_shown

  half_is : (after_all m start ds).both.volume ≡ after x.both.volume (writes front ++ last ∷ [])
  half_is = half_to m front last start v w

  pub stopped : Comes m area new [] x (stopped_by m area old front last x)
  stopped = record {
    rests = made_law m area old new ds x is may (subst (λ (half : VolumeHalf). StandsFor true true new half) (sym half_is) moves.stands)
        (subst (λ (n : ℕ). IsAtRest n (after_all m start ds).both) (sym blocks_are) (rest_to m (blocks_at old) front last start v w is.rest moves.fit (stop_leaves (blocks_at old) stop.next last stop.fault (after x.both.volume (writes front)) stop.stop)))
        sizes same;
    grows = record {
      history = ap (λ (half : VolumeHalf). half.history) (half_is ∙ last_to front last x.both.volume) ∙ stop_history stop.next last stop.fault (after x.both.volume (writes front)) stop.stop ∙ history_to front x.both.volume ∙ sym (append-nil x.both.volume.history);
      points_are = ap (λ (half : VolumeHalf). half.points) (half_is ∙ last_to front last x.both.volume) ∙ stop_points stop.next last stop.fault (after x.both.volume (writes front)) stop.stop ∙ points_to front x.both.volume ∙ sym (append-nil x.both.volume.points);
      volumes = λ k low. (run_law m start ds is.held.held may).volumes k (let n = counted (face_at m) x.both x.core is.held.held.core_is in omega (arith, low, n));
      mounted = same_mounted m start ds;
    };
  }

pub stop_law : StopLaw
stop_law m area put front last old back new x is stop moves map_is inodes_are = stopped m area put front last old back new x is stop moves map_is inodes_are
