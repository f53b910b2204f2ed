-- The pages of the maps that have changed may be written, one after the other; then no page of a map is dirty.
use Rattle.std.proofs.Common.{◌≡◌, ◌==◌, ◌||◌, refl, sym, ap, ◌∙◌, subst, ℕ, Bool, true, false, true≢false, List, [], ◌∷◌, ◌++◌, length, map, Option, Some, None, is_some, arith}
use Rattle.std.proofs.lemmas.Bool.{or_from, or_parts, eq-eqb, eqb-true}
use Rattle.std.proofs.lemmas.List.{get_or-set_other}
use Rattle.jfs_disk.specs.Image.{page_of}
use Rattle.jfs_disk.specs.declared.disk.Fault.{Fault}
use Rattle.jfs_kept_volumes.specs.commits_held.specs.volume_calls.specs.crash_core.specs.declared.block.Span.{Span}
use Rattle.jfs_kept_volumes.specs.commits_held.specs.volume_calls.specs.halves.specs.Both.{BothChange, Changes, Fits, FitAll, changed as changed_both, after as after_both}
use Rattle.jfs_kept_volumes.specs.commits_held.specs.volume_calls.specs.halves.specs.Change.{Change, Writes, Fits as FitsVolume, changed, after as after_half, FitAll as FitAllOfVolume}
use Rattle.jfs_kept_volumes.specs.commits_held.specs.volume_calls.specs.halves.specs.Half.{VolumeHalf, Halves}
use Rattle.jfs_kept_volumes.specs.commits_held.specs.volume_calls.specs.halves.specs.Parts.{Parts}
use Rattle.jfs_kept_volumes.specs.commits_held.specs.volume_calls.specs.volume.specs.MapsHome.{MapPage, stale_pages, ArePagesOf, AreFirstOf}
use Rattle.jfs_kept_volumes.specs.commits_held.specs.volume_calls.specs.volume.specs.Written.{writes, IsWriteStop, stops, tears}
use Rattle.jfs_kept_volumes.specs.commits_held.specs.volume_calls.specs.volume.specs.bmap.specs.MapFile.{is_in_use}
use Rattle.jfs_kept_volumes.specs.commits_held.specs.volume_calls.specs.volume.specs.data_steps.specs.After.{is_put, EachOnce}
use Rattle.jfs_kept_volumes.specs.commits_held.specs.volume_calls.specs.volume.specs.data_steps.specs.declared.pages.DataPage.{DataPage}
use Rattle.jfs_kept_volumes.specs.commits_held.specs.volume_calls.specs.volume.specs.data_steps.specs.objects.specs.Volume.{Volume}
use Rattle.jfs_kept_volumes.specs.pages_held.proofs.Beside.{one_beside}
use Rattle.jfs_kept_volumes.specs.pages_held.proofs.Bytes.{map_home_law}
use Rattle.jfs_kept_volumes.specs.pages_held.proofs.Entry.{stand_apart, block_of, inode_of}
use Rattle.jfs_kept_volumes.specs.pages_held.proofs.Homing.{homing_law, tear_law, itself, same_volume}
use Rattle.jfs_kept_volumes.specs.pages_held.specs.Beside.{IsBeside}
use Rattle.jfs_kept_volumes.specs.pages_held.specs.Homes.{AllTold, IsStaleBytes, homing, AreMapHomes, GoesHomeAlong}
use Rattle.jfs_kept_volumes.specs.pages_held.specs.Pages.{PagesKept}
use Rattle.jfs_kept_volumes.specs.pages_held.specs.joined_held.specs.Held.{IsHeldAs}
use Rattle.jfs_kept_volumes.specs.pages_held.specs.joined_held.specs.held.proofs.Crash.{run_law}
use Rattle.jfs_kept_volumes.specs.pages_held.specs.joined_held.specs.held.specs.Changes.{HasTheSame, MayChange, next, leaving, after, AllMay}
use Rattle.jfs_kept_volumes.specs.pages_held.specs.joined_held.specs.held.specs.Held.{Mount, Held, IsHeld, face_at, newest_image}
use Rattle.jfs_kept_volumes.specs.pages_held.specs.joined_held.specs.held.specs.survival.specs.Played.{IsMapHome}
use Rattle.jfs_kept_volumes.specs.pages_held.specs.joined_held.specs.held.specs.survival.specs.face.specs.Places.{Places, is_block_page, is_inode_page, is_map_page}
use Rattle.jfs_points_kept.proofs.Apart.{stale_apart}
use Rattle.jfs_points_kept.proofs.Low.{AreLow, halves_are}
use Rattle.jfs_points_kept.proofs.Places.{has_place, Each, put_places, first_once, all_first, IsStaleAt, stale_bytes, stale_each, finds_block, finds_inode}

-- ---- lists of changes

pub writes_low : (ds : List DataPage) → AreLow (writes ds)
writes_low [] = tt
writes_low (d ∷ ds) = (tt, writes_low ds)

pub joined_map : (xs ys : List Change) → map Changes (xs ++ ys) ≡ map Changes xs ++ map Changes ys
joined_map [] ys = refl
joined_map (x ∷ xs) ys = ap (λ (r : List BothChange). Changes x ∷ r) (joined_map xs ys)

-- changes, and then one more, where each leaves the volume
pub leaving_more : (m : Mount) (x : Held) (v : Volume) (list : List BothChange) (c : BothChange) → AllMay m x (leaving v list) → AllMay m (after m x (leaving v list)) (leaving v (c ∷ [])) → AllMay m x (leaving v (list ++ c ∷ []))
leaving_more m x v [] c a b = b
leaving_more m x v (d ∷ ds) c a b = (a.0, a.1, leaving_more m (next m x d v) v ds c a.2 b)

pub leaving_after : (m : Mount) (x : Held) (v : Volume) (list : List BothChange) (c : BothChange) → after m x (leaving v (list ++ c ∷ [])) ≡ next m (after m x (leaving v list)) c v
leaving_after m x v [] c = refl
leaving_after m x v (d ∷ ds) c = leaving_after m (next m x d v) v ds c

pub fit_last : (half : VolumeHalf) (xs : List Change) (y : Change) → FitAllOfVolume half (xs ++ y ∷ []) → FitsVolume (after_half half xs) y
fit_last half [] y fit = fit.0
fit_last half (x ∷ xs) y fit = fit_last (changed half x) xs y fit.1

pub fit_front : (half : VolumeHalf) (xs ys : List Change) → FitAllOfVolume half (xs ++ ys) → FitAllOfVolume half xs
fit_front half [] ys fit = tt
fit_front half (x ∷ xs) ys fit = (fit.0, fit_front (changed half x) xs ys fit.1)

pub writes_fit : (both : Halves) (ds : List DataPage) → FitAllOfVolume both.volume (writes ds) → FitAll both (homing ds)
writes_fit both [] fit = tt
writes_fit both (d ∷ ds) fit = ((fit.0, tt), writes_fit (record both { volume = changed both.volume (Writes d.block d.page.0) }) ds fit.1)

-- ---- pages that stay

-- a block that isn't written is shown as before
pub shown_stays : (half : VolumeHalf) (ds : List DataPage) (q : ℕ) → is_put q ds ≡ false → page_of (after_half half (writes ds)).shown.pages q ≡ page_of half.shown.pages q
shown_stays half [] q none = refl
shown_stays half (d ∷ ds) q none =
    let parts = or_parts (d.block == q) (is_put q ds) none in
    shown_stays (changed half (Writes d.block d.page.0)) ds q parts.1 ∙ get_or-set_other half.shown.pages d.block q d.page.0 [] (λ e. true≢false (sym (eq-eqb d.block q (sym e)) ∙ parts.0))

pub after_joins : (half : VolumeHalf) (xs ys : List Change) → after_half half (xs ++ ys) ≡ after_half (after_half half xs) ys
after_joins half [] ys = refl
after_joins half (x ∷ xs) ys = after_joins (changed half x) xs ys

-- ---- stale pages, in words of the core

put_in : (b : ℕ) (front : List DataPage) (d : DataPage) → is_put b (front ++ d ∷ []) ≡ (is_put b front || (d.block == b || false))
put_in b [] d = refl
put_in b (e ∷ es) d = ap (λ (x : Bool). e.block == b || x) (put_in b es d) ∙ assoc (e.block == b) (is_put b es) (d.block == b || false)
  where
    assoc : (a c x : Bool) → (a || (c || x)) ≡ ((a || c) || x)
    assoc true c x = refl
    assoc false c x = refl

pub once_front : (front : List DataPage) (d : DataPage) → EachOnce (front ++ d ∷ []) → EachOnce front × (is_put d.block front ≡ false)
once_front [] d once = (tt, refl)
once_front (e ∷ es) d once =
    let more = once_front es d once.1 in
    let parts = or_parts (is_put e.block es) (d.block == e.block || false) (sym (put_in e.block es d) ∙ once.0) in
    let other = or_parts (d.block == e.block) false parts.1 in
    ((parts.0, more.0), or_from (e.block == d.block) (is_put d.block es) (is_false (e.block == d.block) (λ same. true≢false (sym (eq-eqb d.block e.block (sym (eqb-true e.block d.block same))) ∙ other.0))) more.1)
  where
    is_false : (b : Bool) → (b ≡ true → ⊥) → b ≡ false
    is_false true never = absurd (never refl)
    is_false false never = refl

-- a front, and what stands behind it
abbrev pub AllStale : Parts → List DataPage → Type 0
AllStale p [] = Unit {0}
AllStale p (d ∷ ds) = IsStaleBytes p d × AllStale p ds

pub first_stale : (p : Parts) (ts : List MapPage) (ds : List DataPage) → Each (IsStaleAt p) ts → AreFirstOf p.map p.inodes ts ds → AllStale p ds
first_stale p ts [] each h = tt
first_stale p [] (d ∷ ds) each h = absurd h
first_stale p (t ∷ ts) (d ∷ ds) each h = (stale_bytes p t d each.0 h.0, first_stale p ts ds each.1 h.1)

pub stale_front : (p : Parts) (front : List DataPage) (d : DataPage) → AllStale p (front ++ d ∷ []) → AllStale p front × IsStaleBytes p d
stale_front p [] d all = (tt, all.0)
stale_front p (e ∷ es) d all = let more = stale_front p es d all.1 in ((all.0, more.0), more.1)

pub fit_split : (both : Halves) (xs ys : List BothChange) → FitAll both (xs ++ ys) → FitAll both xs × FitAll (after_both both xs) ys
fit_split both [] ys fit = (tt, fit)
fit_split both (x ∷ xs) ys fit = let more = fit_split (changed_both both x) xs ys fit.1 in ((fit.0, more.0), more.1)

module _ (m : Mount) (area : ℕ → ℕ) (p : Parts) (z : Held) (held : IsHeld m z) (is_held : IsHeldAs m area p z.both z.core z.volumes) (kept : PagesKept m area p z.both z.core) (runs : p.halted ≡ None) (told : AllTold z.both) where
  abbrev v : Volume
  v = z.volume

  abbrev pl : Places
  pl = m.places

  abbrev ts : List MapPage
  ts = stale_pages (length p.map.states) p.files

  pub homes : (ds : List DataPage) → AllStale p ds → AreMapHomes m z.core ds
  homes [] all = tt
  homes (d ∷ ds) all = (map_home_law m area p z.both z.core z.volumes d is_held kept runs told all.0, homes ds all.1)

  -- what is written is a page of a map
  pub of_map : (ds : List DataPage) (q : ℕ) → AreMapHomes m z.core ds → is_map_page pl q ≡ false → is_put q ds ≡ false
  of_map [] q h other = refl
  of_map (d ∷ ds) q h other = or_from (d.block == q) (is_put q ds) (by (d.block == q) refl) (of_map ds q h.1 other)
    where
      by : (b : Bool) → (d.block == q) ≡ b → b ≡ false
      by false e = refl
      by true e = absurd (true≢false (sym (subst (λ (k : ℕ). is_map_page pl k ≡ true) (eqb-true d.block q e) h.0.is_map) ∙ other))

  -- ---- all of them

  module _ (ds : List DataPage) (are : ArePagesOf p.map p.inodes ts ds) where
    pub stale : AllStale p ds
    stale = first_stale p ts ds (stale_each p) (all_first p.map p.inodes ts ds are)

    pub once : EachOnce ds
    once = first_once p.map p.inodes ts ds (stale_apart pl (stand_apart m z held) p is_held.blocks kept.stand) (all_first p.map p.inodes ts ds are)

    pub home : FitAll z.both (homing ds) → GoesHomeAlong m z ds
    home fits = homing_law m z ds held (homes ds stale) once fits

  -- A page of a map is clean after them, whether it was written or its map hadn't changed.
  module _ (ds : List DataPage) (are : ArePagesOf p.map p.inodes ts ds) (y : Held) (gone : (q : ℕ) → is_put q ds ≡ true → (y.core.slots q).block.dirty ≡ None) (others : (q : ℕ) → is_put q ds ≡ false → (y.core.slots q).block.dirty ≡ (z.core.slots q).block.dirty) where
    clean : (q : ℕ) (stale : Bool) → is_some (z.core.slots q).block.dirty ≡ stale → (stale ≡ true → has_place q ts ≡ true) → is_some (y.core.slots q).block.dirty ≡ false
    clean q stale was found = by (is_put q ds) refl stale was found
      where
        by : (b : Bool) → is_put q ds ≡ b → (t : Bool) → is_some (z.core.slots q).block.dirty ≡ t → (t ≡ true → has_place q ts ≡ true) → is_some (y.core.slots q).block.dirty ≡ false
        by true e t was found = ap (λ (d : Option Span). is_some d) (gone q e)
        by false e false was found = ap (λ (d : Option Span). is_some d) (others q e) ∙ was
        by false e true was found = absurd (true≢false (sym (found refl) ∙ sym (put_places p.map p.inodes ts ds q are) ∙ e))

    in_use : (k : ℕ) → is_in_use pl.blocks k ≡ true → is_in_use (length p.map.states) k ≡ true
    in_use k used = subst (λ (n : ℕ). is_in_use n k ≡ true) is_held.blocks used

    pub clean_block : (q : ℕ) → is_block_page pl q ≡ true → is_some (y.core.slots q).block.dirty ≡ false
    clean_block q is =
        let k = block_of pl q is in
        clean q p.files.blocks.stale (kept.marked.block_map runs q is) (λ e. finds_block p k.0 q e (in_use k.0 k.1) (kept.stand.block_map k.0 k.1 ∙ ap Some k.2))

    pub clean_inode : (q : ℕ) → is_inode_page pl q ≡ true → is_some (y.core.slots q).block.dirty ≡ false
    clean_inode q is =
        let k = inode_of pl q is in
        clean q p.files.inodes.stale (kept.marked.inode_map runs q is) (λ e. finds_inode p k.0 q e (kept.stand.inode_map k.0 (let l = k.1 in omega (arith, l)) ∙ ap Some k.2))

  -- ---- a front of them, and then the next one's write fails

  module _ (front : List DataPage) (d : DataPage) (c : Change) (fault : Fault) (are : AreFirstOf p.map p.inodes ts (front ++ d ∷ [])) (is_stop : IsWriteStop fault d c) (fits : FitAll z.both (homing front ++ Changes c ∷ [])) where
    both_stale : AllStale p front × IsStaleBytes p d
    both_stale = stale_front p front d (first_stale p ts (front ++ d ∷ []) (stale_each p) are)

    both_once : EachOnce front × (is_put d.block front ≡ false)
    both_once = once_front front d (first_once p.map p.inodes ts (front ++ d ∷ []) (stale_apart pl (stand_apart m z held) p is_held.blocks kept.stand) are)

    pub front_homes : AreMapHomes m z.core front
    front_homes = homes front both_stale.0

    pub next_home : IsMapHome (face_at m) z.core d.block d.page.0
    next_home = map_home_law m area p z.both z.core z.volumes d is_held kept runs told both_stale.1

    both_fit : FitAll z.both (homing front) × FitAll (after_both z.both (homing front)) (Changes c ∷ [])
    both_fit = fit_split z.both (homing front) (Changes c ∷ []) fits

    along : GoesHomeAlong m z front
    along = homing_law m z front held front_homes both_once.0 both_fit.0

    abbrev at : Held
    at = after m z (leaving v (homing front))

    last_fits : Fits at.both (Changes c)
    last_fits = subst (λ (h : Halves). Fits h (Changes c)) (sym (halves_are m z v (homing front))) both_fit.1.0

    last_may : MayChange m at (Changes c) v
    last_may = by c is_stop
      where
        by : (e : Change) → IsWriteStop fault d e → MayChange m at (Changes e) v
        by _ stops = subst (λ (u : Volume). HasTheSame u v) (sym (same_volume m z v (homing front) refl)) (itself v)
        by _ (tears sectors) = tear_law m z front d sectors fault held front_homes both_once.0 both_fit.0 next_home both_once.1

    last_beside : IsBeside pl (Changes c)
    last_beside = by c is_stop
      where
        by : (e : Change) → IsWriteStop fault d e → IsBeside pl (Changes e)
        by _ stops = tt
        by _ (tears sectors) = tt

    pub may_behind : AllMay m z (leaving v (homing front ++ Changes c ∷ []))
    may_behind = leaving_more m z v (homing front) (Changes c) along.may (last_fits, last_may, tt)

    pub image_behind : newest_image (after m z (leaving v (homing front ++ Changes c ∷ []))) ≡ newest_image z
    image_behind = ap (λ (y : Held). newest_image y) (leaving_after m z v (homing front) (Changes c)) ∙ (one_beside m at (run_law m z (leaving v (homing front)) held along.may).held (Changes c) v last_fits last_beside).image_is ∙ along.image_is
