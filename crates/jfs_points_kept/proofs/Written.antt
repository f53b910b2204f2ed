-- The pages of the maps that have changed are written.
use Rattle.std.proofs.Common.{◌≡◌, ◌==◌, refl, sym, ap, ◌∙◌, subst, ℕ, true, false, true≢false, List, [], ◌∷◌, ◌++◌, length, map, slice_get, Option, Some, None, is_some, Ok, Err}
use Rattle.std.proofs.lemmas.Bool.{or_parts, eq-eqb}
use Rattle.std.proofs.lemmas.List.{get_or-set_other}
use Rattle.jfs_disk.specs.Crash.{torn}
use Rattle.jfs_disk.specs.Image.{Image, page_of}
use Rattle.jfs_disk.specs.declared.disk.Fault.{Fault}
use Rattle.jfs_kept_volumes.specs.Keeper.{Keeper, kept_after}
use Rattle.jfs_kept_volumes.specs.Steps.{SameSizes}
use Rattle.jfs_kept_volumes.specs.commits_held.specs.volume_calls.specs.crash_core.specs.Step.{halted_by}
use Rattle.jfs_kept_volumes.specs.commits_held.specs.volume_calls.specs.halves.specs.Both.{BothChange, Changes, FitAll}
use Rattle.jfs_kept_volumes.specs.commits_held.specs.volume_calls.specs.halves.specs.Change.{Change, changed, after as after_half}
use Rattle.jfs_kept_volumes.specs.commits_held.specs.volume_calls.specs.halves.specs.Half.{VolumeHalf, block_in}
use Rattle.jfs_kept_volumes.specs.commits_held.specs.volume_calls.specs.halves.specs.Moves.{Moves}
use Rattle.jfs_kept_volumes.specs.commits_held.specs.volume_calls.specs.halves.specs.Parts.{Parts}
use Rattle.jfs_kept_volumes.specs.commits_held.specs.volume_calls.specs.volume.specs.MapsHome.{stale_pages, ArePagesOf, AreFirstOf, KeepsMemory, KeepsPlaces, with_written}
use Rattle.jfs_kept_volumes.specs.commits_held.specs.volume_calls.specs.volume.specs.Written.{writes, IsWriteStop, stops, tears}
use Rattle.jfs_kept_volumes.specs.commits_held.specs.volume_calls.specs.volume.specs.data_steps.specs.After.{is_put}
use Rattle.jfs_kept_volumes.specs.commits_held.specs.volume_calls.specs.volume.specs.data_steps.specs.declared.pages.DataPage.{DataPage}
use Rattle.jfs_kept_volumes.specs.commits_held.specs.volume_calls.specs.volume.specs.data_steps.specs.objects.specs.Volume.{Volume}
use Rattle.jfs_kept_volumes.specs.commits_held.specs.volume_calls.specs.volume.specs.map_files.specs.declared.map_file.MapFiles.{MapFiles}
use Rattle.jfs_kept_volumes.specs.commits_held.specs.volume_calls.specs.volume.specs.map_files.specs.imap.specs.Inodes.{Inodes, extent_at}
use Rattle.jfs_kept_volumes.specs.pages_held.proofs.Homing.{same_volume}
use Rattle.jfs_kept_volumes.specs.pages_held.proofs.Maps.{maps_law}
use Rattle.jfs_kept_volumes.specs.pages_held.proofs.Stay.{moved}
use Rattle.jfs_kept_volumes.specs.pages_held.specs.Homes.{AllTold, homing, GoesHomeAlong, SameButMaps}
use Rattle.jfs_kept_volumes.specs.pages_held.specs.joined_held.specs.Held.{blocks_at, volume_at, held_at}
use Rattle.jfs_kept_volumes.specs.pages_held.specs.joined_held.specs.held.proofs.Crash.{run_law}
use Rattle.jfs_kept_volumes.specs.pages_held.specs.joined_held.specs.held.specs.Changes.{leaving, after, AllMay}
use Rattle.jfs_kept_volumes.specs.pages_held.specs.joined_held.specs.held.specs.Held.{Mount, Held, IsHeld, IsImageAt, newest_image}
use Rattle.jfs_kept_volumes.specs.pages_held.specs.joined_held.specs.held.specs.survival.specs.face.specs.Items.{extent_by}
use Rattle.jfs_kept_volumes.specs.pages_held.specs.joined_held.specs.held.specs.survival.specs.face.specs.Places.{Places, is_block_page, is_inode_page, is_map_page}
use Rattle.jfs_kept_volumes.specs.pages_held.specs.joined_held.specs.held.specs.survival.specs.face.specs.Volume.{items_on}
use Rattle.jfs_kept_volumes.specs.pages_held.specs.joined_held.specs.held.specs.survival.specs.recovery.specs.Face.{Pages}
use Rattle.jfs_points_kept.proofs.Along.{writes_low, joined_map, writes_fit, shown_stays, after_joins, homes, of_map, stale, home, clean_block, clean_inode, front_homes, next_home, may_behind, image_behind}
use Rattle.jfs_points_kept.proofs.Low.{AreLow, low_join, last_all, Low, keeps}
use Rattle.jfs_kept_volumes.specs.Kept.{IsKept, Steps}
use Rattle.jfs_points_kept.specs.Steps.{HomeMapsLaw}

module _ (m : Mount) (area : ℕ → ℕ) (old new : Parts) (x : Keeper) (kept : IsKept m area old x) (told : AllTold x.both) (runs : old.halted ≡ None) (memory : KeepsMemory old new) (places : KeepsPlaces old new) where
  abbrev z : Held
  z = held_at x.both x.core x.volumes area old

  abbrev v : Volume
  v = volume_at area old

  abbrev pl : Places
  pl = m.places

  same_map : new.map ≡ old.map
  same_map = ap (λ (p : Parts). p.map) memory

  same_inodes : new.inodes ≡ old.inodes
  same_inodes = ap (λ (p : Parts). p.inodes) memory

  sizes : SameSizes old new
  sizes = record { blocks = ap (λ (p : Parts). length p.map.states) memory; extents = ap (λ (p : Parts). length p.inodes.extents) memory }

  -- the volume then, where no other page is shown otherwise
  same_but : ((q : ℕ) → is_map_page pl q ≡ false → page_of new.view q ≡ page_of old.view q) → SameButMaps pl v (volume_at area new)
  same_but pages = record {
    extents = ap (λ (p : Parts). (volume_at area p).extents) memory;
    area = λ b. refl;
    used = λ b. ap (λ (p : Parts). (volume_at area p).used b) memory;
    in_use = λ n. ap (λ (p : Parts). (volume_at area p).in_use n) memory;
    pages = pages;
  }

  -- ---- pages are kept

  module _ (cs : List Change) (low : AreLow cs) (moves : Moves true true old new x.both.volume cs) (may : AllMay m z (leaving v (map Changes cs))) (shown : (q : ℕ) → is_map_page pl q ≡ false → page_of new.view q ≡ page_of old.view q)
      (image_is : newest_image (after m z (leaving v (map Changes cs))) ≡ newest_image z) where
    abbrev list : List BothChange
    list = map Changes cs

    abbrev y : Held
    y = after m z (leaving v list)

    held_new : IsHeld m (record y { volume = volume_at area new })
    held_new = maps_law m y (volume_at area new) (run_law m z (leaving v list) kept.rests.held.held may).held (subst (λ (u : Volume). SameButMaps pl u (volume_at area new)) (sym (same_volume m z v list refl)) (same_but shown))

    step : Low m area old new x (kept_after m area old x (leaving v list))
    step = keeps m area old new x cs kept.rests low moves may sizes held_new

    pub made : ((new.halted ≡ None) → (q : ℕ) → is_block_page pl q ≡ true → is_some (y.core.slots q).block.dirty ≡ new.files.blocks.stale) → ((new.halted ≡ None) → (q : ℕ) → is_inode_page pl q ≡ true → is_some (y.core.slots q).block.dirty ≡ new.files.inodes.stale)
        → Steps m area new [] [] x
    made blocks inodes = record {
      keeper = kept_after m area old x (leaving v list);
      kept = record {
        rests = step.rests;
        pages = record {
          homes = λ q some. moved m (newest_image z) v (volume_at area new) kept.rests.held.held.now (subst (λ (s : Pages). IsImageAt m s (volume_at area new)) image_is step.rests.held.held.now) q (kept.pages.homes q (step.dirty q some));
          stand = record {
            agsize = ap (λ (p : Parts). p.map.agsize) memory ∙ kept.pages.stand.agsize;
            iags = ap (λ (p : Parts). p.inodes.iags) memory ∙ kept.pages.stand.iags;
            groups = ap (λ (p : Parts). p.inodes.numag) memory ∙ kept.pages.stand.groups;
            group_size = ap (λ (p : Parts). p.inodes.agsize) memory ∙ kept.pages.stand.group_size;
            block_map = λ k used. ap (λ (l : List ℕ). slice_get l k) places.blocks ∙ kept.pages.stand.block_map k used;
            inode_map = λ k low. ap (λ (l : List ℕ). slice_get l k) places.inodes ∙ kept.pages.stand.inode_map k low;
            inode_pages = ap (λ (l : List ℕ). length l) places.inodes ∙ kept.pages.stand.inode_pages;
          };
          extents = λ e. ap (λ (s : Pages). extent_by (items_on pl s) e) image_is ∙ kept.pages.extents e ∙ sym (ap (λ (i : Inodes). extent_at i e) same_inodes);
          marked = record { block_map = blocks; inode_map = inodes };
        };
      };
      grows = step.grows;
    }

  -- ---- all of them

  module _ (ds : List DataPage) (are : ArePagesOf old.map old.inodes (stale_pages (length old.map.states) old.files) ds) (moves : Moves true true old new x.both.volume (writes ds)) (files : new.files ≡ with_written old.files) where
    fits : FitAll x.both (homing ds)
    fits = writes_fit x.both ds moves.fit

    along : GoesHomeAlong m z ds
    along = home m area old z kept.rests.held.held kept.rests.held kept.pages runs told ds are fits

    shown : (q : ℕ) → is_map_page pl q ≡ false → page_of new.view q ≡ page_of old.view q
    shown q other = ap (λ (i : Image). page_of i q) (moves.stands.view refl) ∙ shown_stays x.both.volume ds q (of_map m area old z kept.rests.held.held kept.rests.held kept.pages runs told ds q (homes m area old z kept.rests.held.held kept.rests.held kept.pages runs told ds (stale m area old z kept.rests.held.held kept.rests.held kept.pages runs told ds are)) other) ∙ sym (ap (λ (i : Image). page_of i q) (kept.rests.stands.view refl))

    pub all_written : Steps m area new [] [] x
    all_written = made (writes ds) (writes_low ds) moves along.may shown along.image_is
        (λ on q is. clean_block m area old z kept.rests.held.held kept.rests.held kept.pages runs told ds are (after m z (leaving v (homing ds))) along.gone along.others q is ∙ sym (ap (λ (f : MapFiles). f.blocks.stale) files))
        (λ on q is. clean_inode m area old z kept.rests.held.held kept.rests.held kept.pages runs told ds are (after m z (leaving v (homing ds))) along.gone along.others q is ∙ sym (ap (λ (f : MapFiles). f.inodes.stale) files))

  -- ---- a front of them, and then the next one's write fails

  module _ (front : List DataPage) (d : DataPage) (c : Change) (fault : Fault) (are : AreFirstOf old.map old.inodes (stale_pages (length old.map.states) old.files) (front ++ d ∷ [])) (is_stop : IsWriteStop fault d c)
      (moves : Moves true true old new x.both.volume (writes front ++ c ∷ [])) (halts : new.halted ≡ None → ⊥) where
    low : AreLow (writes front ++ c ∷ [])
    low = low_join (writes front) (c ∷ []) (writes_low front) (of_stop c is_stop)
      where
        of_stop : (e : Change) → IsWriteStop fault d e → AreLow (e ∷ [])
        of_stop _ stops = (tt, tt)
        of_stop _ (tears sectors) = (tt, tt)

    same_list : map Changes (writes front ++ c ∷ []) ≡ homing front ++ Changes c ∷ []
    same_list = joined_map (writes front) (c ∷ [])

    fits_behind : FitAll x.both (homing front ++ Changes c ∷ [])
    fits_behind = subst (λ (l : List BothChange). FitAll x.both l) same_list (last_all (blocks_at old) (writes front ++ c ∷ []) x.both low moves.fit kept.rests.rest).fits

    last_shown : (half : VolumeHalf) (e : Change) → IsWriteStop fault d e → (q : ℕ) → is_put q (d ∷ []) ≡ false → page_of (changed half e).shown.pages q ≡ page_of half.shown.pages q
    last_shown half _ stops q none = refl
    last_shown half _ (tears sectors) q none = get_or-set_other half.shown.pages d.block q (torn sectors d.page.0 (block_in half d.block).pages.seen) [] (λ e. true≢false (sym (eq-eqb d.block q (sym e)) ∙ (or_parts (d.block == q) false none).0))

    shown_behind : (q : ℕ) → is_map_page pl q ≡ false → page_of new.view q ≡ page_of old.view q
    shown_behind q other = ap (λ (i : Image). page_of i q) (moves.stands.view refl) ∙ ap (λ (h : VolumeHalf). page_of h.shown.pages q) (after_joins x.both.volume (writes front) (c ∷ []))
        ∙ last_shown (after_half x.both.volume (writes front)) c is_stop q (of_map m area old z kept.rests.held.held kept.rests.held kept.pages runs told (d ∷ []) q (next_home m area old z kept.rests.held.held kept.rests.held kept.pages runs told front d c fault are is_stop fits_behind, tt) other)
        ∙ shown_stays x.both.volume front q (of_map m area old z kept.rests.held.held kept.rests.held kept.pages runs told front q (front_homes m area old z kept.rests.held.held kept.rests.held kept.pages runs told front d c fault are is_stop fits_behind) other) ∙ sym (ap (λ (i : Image). page_of i q) (kept.rests.stands.view refl))

    pub front_written : Steps m area new [] [] x
    front_written = made (writes front ++ c ∷ []) low moves
        (subst (λ (l : List BothChange). AllMay m z (leaving v l)) (sym same_list) (may_behind m area old z kept.rests.held.held kept.rests.held kept.pages runs told front d c fault are is_stop fits_behind)) shown_behind
        (subst (λ (l : List BothChange). newest_image (after m z (leaving v l)) ≡ newest_image z) (sym same_list) (image_behind m area old z kept.rests.held.held kept.rests.held kept.pages runs told front d c fault are is_stop fits_behind))
        (λ on q is. absurd (halts on)) (λ on q is. absurd (halts on))

-- ---- the law

pub home_maps_law : HomeMapsLaw
home_maps_law m area old new x (Ok done) kept told runs home memory places files halts = all_written m area old new x kept told runs memory places home.pages home.are home.moves files
home_maps_law m area old new x (Err fault) kept told runs home memory places files halts =
    front_written m area old new x kept told runs memory places home.front home.next home.stops.last fault home.are home.stops.is home.stops.moves (λ on. halted (ap (λ (o : Option Fault). halted_by fault o) (sym runs) ∙ sym halts ∙ on))
  where
    halted : Some fault ≡ None → ⊥
    halted e = cc (e)
