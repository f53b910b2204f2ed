-- A syncpoint is a run of changes that may be made.
use Rattle.std.proofs.Common.{◌≡◌, ◌⊎◌, ◌<◌, ◌&&◌, nat_le, nat_lt, refl, sym, ap, ◌∙◌, subst, append_assoc, ℕ, Bool, true, false, true≢false, if◌then◌else◌, List, [], ◌∷◌, ◌++◌, length, map, Option, Some, None, is_some, Ok, Err, inl, inr, arith}
use Rattle.std.proofs.lemmas.Bool.{or_cases, ltb-true}
use Rattle.jfs_disk.specs.declared.disk.Fault.{Fault}
use Rattle.jfs_kept_volumes.specs.commits_held.specs.volume_calls.specs.Commit.{IsWritten, committing}
use Rattle.jfs_kept_volumes.specs.commits_held.specs.volume_calls.specs.Syncpoint.{point_taken, point_known, homing as homing_all, settling, IsStopped, group_fails, low_fails, maps_fail, sync_fails, point_fails}
use Rattle.jfs_kept_volumes.specs.commits_held.specs.volume_calls.specs.crash_core.specs.Step.{BeginsPast}
use Rattle.jfs_kept_volumes.specs.commits_held.specs.volume_calls.specs.crash_core.specs.declared.block.Span.{Span}
use Rattle.jfs_kept_volumes.specs.commits_held.specs.volume_calls.specs.halves.specs.Both.{BothChange, Changes, GroupIsWritten, GroupFails, FitAll, changed, after as after_both}
use Rattle.jfs_kept_volumes.specs.commits_held.specs.volume_calls.specs.halves.specs.Change.{Change, Takes, Tells, GoesHome, Drops, Stops, Syncs, Points, FitAll as FitAllOfVolume}
use Rattle.jfs_kept_volumes.specs.commits_held.specs.volume_calls.specs.halves.specs.Half.{Halves}
use Rattle.jfs_kept_volumes.specs.commits_held.specs.volume_calls.specs.halves.specs.Parts.{Parts}
use Rattle.jfs_kept_volumes.specs.commits_held.specs.volume_calls.specs.volume.specs.MapsHome.{stale_pages, ArePagesOf, AreFirstOf}
use Rattle.jfs_kept_volumes.specs.commits_held.specs.volume_calls.specs.volume.specs.Settle.{go_home, IsStop, stops, tears}
use Rattle.jfs_kept_volumes.specs.commits_held.specs.volume_calls.specs.volume.specs.Settles.{Settles, KeepsMap, SettlesTo}
use Rattle.jfs_kept_volumes.specs.commits_held.specs.volume_calls.specs.volume.specs.Told.{drops}
use Rattle.jfs_kept_volumes.specs.commits_held.specs.volume_calls.specs.volume.specs.Written.{writes, IsWriteStop}
use Rattle.jfs_kept_volumes.specs.commits_held.specs.volume_calls.specs.volume.specs.bmap.proofs.States.{changed-at, changed-length}
use Rattle.jfs_kept_volumes.specs.commits_held.specs.volume_calls.specs.volume.specs.bmap.specs.States.{Blocks, BlockState, Free, Owned, Reserved, Busy, state_of, is_owned, is_owned_state, settled_state}
use Rattle.jfs_kept_volumes.specs.commits_held.specs.volume_calls.specs.volume.specs.data_steps.specs.declared.pages.DataPage.{DataPage}
use Rattle.jfs_kept_volumes.specs.commits_held.specs.volume_calls.specs.volume.specs.data_steps.specs.meaning.specs.Readers.{readers}
use Rattle.jfs_kept_volumes.specs.commits_held.specs.volume_calls.specs.volume.specs.data_steps.specs.objects.specs.Image.{extent_place}
use Rattle.jfs_kept_volumes.specs.commits_held.specs.volume_calls.specs.volume.specs.data_steps.specs.objects.specs.Volume.{Volume}
use Rattle.jfs_kept_volumes.specs.commits_held.specs.volume_calls.specs.volume.specs.map_files.specs.imap.specs.Inodes.{Inodes}
use Rattle.jfs_kept_volumes.proofs.Made.{same_part}
use Rattle.jfs_kept_volumes.specs.pages_held.proofs.Beside.{beside_law, marks_join}
use Rattle.jfs_kept_volumes.specs.pages_held.proofs.Homing.{homing_law, itself, same_volume}
use Rattle.jfs_kept_volumes.specs.pages_held.proofs.Stay.{stay_law}
use Rattle.jfs_kept_volumes.specs.pages_held.specs.Beside.{MarksStay, DirtyStays, AreBeside}
use Rattle.jfs_kept_volumes.specs.pages_held.specs.Homes.{AllTold, homing}
use Rattle.jfs_kept_volumes.specs.pages_held.specs.Pages.{HasHomes, MayBeDirty, PagesKept}
use Rattle.jfs_kept_volumes.specs.pages_held.specs.joined_held.specs.Held.{blocks_at, volume_at, held_at, IsHeldAs}
use Rattle.jfs_kept_volumes.specs.pages_held.specs.joined_held.specs.held.proofs.Crash.{run_law}
use Rattle.jfs_kept_volumes.specs.pages_held.specs.joined_held.specs.held.proofs.Kept.{replaced}
use Rattle.jfs_kept_volumes.specs.pages_held.specs.joined_held.specs.held.proofs.Quiet.{quiet_law}
use Rattle.jfs_kept_volumes.specs.pages_held.specs.joined_held.specs.held.specs.Changes.{HasTheSame, next, leaving, after, AllMay}
use Rattle.jfs_kept_volumes.specs.pages_held.specs.joined_held.specs.held.specs.Held.{Mount, Held, IsHeld, face_at}
use Rattle.jfs_kept_volumes.specs.pages_held.specs.joined_held.specs.held.specs.survival.specs.Lists.{ArePlain}
use Rattle.jfs_kept_volumes.specs.pages_held.specs.joined_held.specs.held.specs.survival.specs.Played.{MapsAreSynced}
use Rattle.jfs_kept_volumes.specs.pages_held.specs.joined_held.specs.held.specs.survival.specs.face.specs.Places.{Places, is_block_page, is_inode_page, is_map_page}
use Rattle.jfs_kept_volumes.specs.pages_held.specs.joined_held.specs.held.specs.survival.specs.recovery.specs.Core.{Core, count}
use Rattle.jfs_points_kept.proofs.Along.{joined_map, fit_split, homes, once, stale, clean_block, clean_inode, may_behind}
use Rattle.jfs_points_kept.proofs.Homes.{AreHomes, homes_may}
use Rattle.jfs_points_kept.proofs.Low.{halves_are}
use Rattle.jfs_points_kept.specs.Syncpoint.{SyncpointLaw}

-- ---- lists

may_join : (m : Mount) (x : Held) (v : Volume) (xs ys : List BothChange) → AllMay m x (leaving v xs) → AllMay m (after m x (leaving v xs)) (leaving v ys) → AllMay m x (leaving v (xs ++ ys))
may_join m x v [] ys a b = b
may_join m x v (c ∷ cs) ys a b = (a.0, a.1, may_join m (next m x c v) v cs ys a.2 b)

quiet_at : (m : Mount) (x : Held) (v : Volume) (list : List BothChange) → x.volume ≡ v → FitAll x.both list → ArePlain list → AllMay m x (leaving v list)
quiet_at m x v list e fits plain = subst (λ (u : Volume). AllMay m x (leaving u list)) e (quiet_law m x list fits plain)

fit_volume : (both : Halves) (cs : List Change) → FitAll both (map Changes cs) → FitAllOfVolume both.volume cs
fit_volume both [] fit = tt
fit_volume both (c ∷ cs) fit = (fit.0.0, fit_volume (changed both (Changes c)) cs fit.1)

-- a commit is plain, and tells all entries
record Commits (both : Halves) (n : ℕ) (list : List BothChange) : Type 0 where
  plain : ArePlain list
  beside : (pl : Places) (v : Volume) → AreBeside pl (leaving v list)
  told : (after_both both list).volume.told ≡ n
  history : length (after_both both list).volume.history ≡ length both.volume.history

drop_all : (both : Halves) (pages : List ℕ) → Commits both both.volume.told (map Changes (drops pages))
drop_all both [] = record { plain = tt; beside = λ pl v. tt; told = refl; history = refl }
drop_all both (p ∷ ps) =
    let more = drop_all (changed both (Changes (Drops p))) ps in
    record { plain = (tt, more.plain); beside = λ pl v. (tt, more.beside pl v); told = more.told; history = more.history }

tells_all : (both : Halves) (n : ℕ) (pages : List ℕ) → Commits both n (Changes (Tells n) ∷ map Changes (drops pages))
tells_all both n pages =
    let more = drop_all (changed both (Changes (Tells n))) pages in
    record { plain = (tt, more.plain); beside = λ pl v. (tt, more.beside pl v); told = more.told; history = more.history }

commits : (both : Halves) (n : ℕ) (written : List BothChange) (pages : List ℕ) → IsWritten written → Commits both n (committing written n pages)
commits both n written pages (inl e) = subst (λ (w : List BothChange). Commits both n (committing w n pages)) (sym e) (tells_all both n pages)
commits both n written pages (inr e) = subst (λ (w : List BothChange). Commits both n (committing w n pages)) (sym e) (
    let more = tells_all (changed (changed both (Changes Takes)) GroupIsWritten) n pages in
    record { plain = (tt, (tt, more.plain)); beside = λ pl v. (tt, (tt, more.beside pl v)); told = more.told; history = more.history })

-- pages that go home
homes_beside : (pl : Places) (v : Volume) (pages : List ℕ) → AreBeside pl (leaving v (map Changes (go_home pages)))
homes_beside pl v [] = tt
homes_beside pl v (p ∷ ps) = (tt, homes_beside pl v ps)

homes_only : (pages : List ℕ) → AreHomes (go_home pages)
homes_only [] = tt
homes_only (p ∷ ps) = (tt, homes_only ps)

homes_last : (pages : List ℕ) (last : List Change) → AreHomes last → AreHomes (go_home pages ++ last)
homes_last [] last h = h
homes_last (p ∷ ps) last h = (tt, homes_last ps last h)

homes_told : (both : Halves) (pages : List ℕ) → AllTold both → AllTold (after_both both (map Changes (go_home pages)))
homes_told both [] told = told
homes_told both (p ∷ ps) told = homes_told (changed both (Changes (GoesHome p))) ps told

-- ---- the maps of the parts before and after

settled_owned : (n : ℕ) (s : BlockState) → is_owned_state (settled_state n s) ≡ is_owned_state s
settled_owned n Free = refl
settled_owned n Owned = refl
settled_owned n Reserved = refl
settled_owned n (Busy entry) = by (nat_le entry n)
  where
    by : (x : Bool) → is_owned_state (if x then Free else Busy entry) ≡ false
    by true = refl
    by false = refl

none_of : (d : Option Span) → is_some d ≡ false → d ≡ None
none_of None e = refl
none_of (Some span) e = absurd (true≢false e)

past_none : (n : ℕ) (d : Option Span) → d ≡ None → BeginsPast n d
past_none n d e = subst (λ (o : Option Span). BeginsPast n o) (sym e) tt

module _ (m : Mount) (area : ℕ → ℕ) (old new : Parts) (both : Halves) (core : Core) (volumes : ℕ → Volume) (is_held : IsHeldAs m area old both core volumes) (kept : PagesKept m area old both core) (runs : old.halted ≡ None) (settles : Settles old new) where
  abbrev z : Held
  z = held_at both core volumes area old

  abbrev v : Volume
  v = volume_at area old

  abbrev pl : Places
  pl = m.places

  size : blocks_at new ≡ blocks_at old
  size = by settles.map
    where
      by : KeepsMap old new ⊎ ((n : ℕ) × SettlesTo n old new) → blocks_at new ≡ blocks_at old
      by (inl same) = ap (λ (k : Blocks). length k.states) same.map
      by (inr (n, to)) = ap (λ (k : Blocks). length k.states) to.map ∙ changed-length (λ (b : ℕ) (s : BlockState). settled_state n s) old.map

  agsize : new.map.agsize ≡ old.map.agsize
  agsize = by settles.map
    where
      by : KeepsMap old new ⊎ ((n : ℕ) × SettlesTo n old new) → new.map.agsize ≡ old.map.agsize
      by (inl same) = ap (λ (k : Blocks). k.agsize) same.map
      by (inr (n, to)) = ap (λ (k : Blocks). k.agsize) to.map

  owned : (b : ℕ) → b < blocks_at old → is_owned new.map b ≡ is_owned old.map b
  owned b l = by settles.map
    where
      by : KeepsMap old new ⊎ ((n : ℕ) × SettlesTo n old new) → is_owned new.map b ≡ is_owned old.map b
      by (inl same) = ap (λ (k : Blocks). is_owned k b) same.map
      by (inr (n, to)) = ap (λ (k : Blocks). is_owned k b) to.map ∙ ap is_owned_state (changed-at (λ (c : ℕ) (s : BlockState). settled_state n s) old.map b l) ∙ settled_owned n (state_of old.map b)

  used : (b : ℕ) → (nat_lt b (blocks_at new) && is_owned new.map b) ≡ (nat_lt b (blocks_at old) && is_owned old.map b)
  used b = ap (λ (k : ℕ). nat_lt b k && is_owned new.map b) size ∙ by (nat_lt b (blocks_at old)) refl
    where
      by : (x : Bool) → nat_lt b (blocks_at old) ≡ x → (x && is_owned new.map b) ≡ (x && is_owned old.map b)
      by true e = owned b (ltb-true b (blocks_at old) e)
      by false e = refl

  -- the parts with their maps as they are once entries are acknowledged
  abbrev p : Parts
  p = record old { map = new.map; inodes = new.inodes }

  same_now : HasTheSame v (volume_at area p)
  same_now = record {
    extents = ap (λ (i : Inodes). map extent_place i.extents) settles.inodes;
    area = λ b. refl;
    used = used;
    in_use = λ n. ap (λ (i : Inodes). (volume_at area (record old { inodes = i })).in_use n) settles.inodes;
    pages = λ b is. refl;
  }

  -- ---- where a syncpoint stands

  -- a volume that is held, with the marks and no page dirty that wasn't
  record At (x : Held) : Type 0 where
    held : IsHeld m x
    volume : x.volume ≡ v
    marks : MarksStay pl core x.core
    dirty : DirtyStays both.volume x.both.volume
    part : length x.both.volume.blocks ≡ length both.volume.blocks

  start : At z
  start = record { held = is_held.held; volume = refl; marks = record { image_is = refl; marks = λ q is. refl }; dirty = λ q some. some; part = refl }

  on : (x : Held) (list : List BothChange) → At x → AllMay m x (leaving v list) → AreBeside pl (leaving v list) → At (after m x (leaving v list))
  on x list at may beside =
      let b = beside_law m x (leaving v list) at.held may beside in
      record {
        held = (run_law m x (leaving v list) at.held may).held;
        volume = same_volume m x v list at.volume;
        marks = marks_join pl core x.core (after m x (leaving v list)).core at.marks b.0;
        dirty = λ q some. at.dirty q (b.1 q some);
        part = same_part m x (leaving v list) ∙ at.part;
      }

  homes_at : (x : Held) → At x → HasHomes m.readers x.both.volume x.volume
  homes_at x at q some = subst (λ (u : Volume). MayBeDirty m.readers u q) (sym at.volume) (kept.homes q (at.dirty q some))

  -- ---- a commit, and what follows it

  behind_commit : (written : List BothChange) (pages : List ℕ) (rest : List BothChange) → IsWritten written → FitAll both (committing written (length both.volume.history) pages ++ rest)
      → ((x : Held) → At x → AllTold x.both → FitAll x.both rest → AllMay m x (leaving v rest)) → AllMay m z (leaving v (committing written (length both.volume.history) pages ++ rest))
  behind_commit written pages rest is fits more =
      let list : List BothChange = committing written (length both.volume.history) pages in
      let c = commits both (length both.volume.history) written pages is in
      let fit = fit_split both list rest fits in
      let may = quiet_law m z list fit.0 c.plain in
      let halves = halves_are m z v list in
      may_join m z v list rest may (more (after m z (leaving v list)) (on z list start may (c.beside pl v)) (subst (λ (h : Halves). AllTold h) (sym halves) (c.told ∙ sym c.history)) (subst (λ (h : Halves). FitAll h rest) (sym halves) fit.1))

  -- dirty pages go home, and what follows
  behind_homes : (x : Held) → At x → AllTold x.both → (pages : List ℕ) (rest : List BothChange) → FitAll x.both (map Changes (go_home pages) ++ rest)
      → ((y : Held) → At y → AllTold y.both → FitAll y.both rest → AllMay m y (leaving v rest)) → AllMay m x (leaving v (map Changes (go_home pages) ++ rest))
  behind_homes x at told pages rest fits more =
      let list : List BothChange = map Changes (go_home pages) in
      let fit = fit_split x.both list rest fits in
      let may = homes_may m v (go_home pages) x at.volume told (homes_at x at) (fit_volume x.both (go_home pages) fit.0) (homes_only pages) in
      let halves = halves_are m x v list in
      may_join m x v list rest may (more (after m x (leaving v list)) (on x list at may (homes_beside pl v pages)) (subst (λ (h : Halves). AllTold h) (sym halves) (homes_told x.both pages told)) (subst (λ (h : Halves). FitAll h rest) (sym halves) fit.1))

  -- ---- pages of the maps

  module _ (x : Held) (at : At x) (told : AllTold x.both) where
    p_held : IsHeldAs m area p x.both x.core x.volumes
    p_held = record {
      held = replaced m x (volume_at area p) at.held (subst (λ (u : Volume). HasTheSame u (volume_at area p)) (sym at.volume) same_now);
      readers_are = ap readers size ∙ is_held.readers_are;
      blocks = is_held.blocks ∙ sym size;
      extents = ap (λ (i : Inodes). length i.extents) settles.inodes ∙ is_held.extents;
      within = (let w = is_held.within in let s = size in let q = at.part in omega (arith, w, s, q));
    }

    p_kept : PagesKept m area p x.both x.core
    p_kept = stay_law m area old p both x.both core x.core volumes x.volumes is_held p_held (record { files = refl; agsize = agsize; inodes = settles.inodes; halted = λ e. e }) at.marks at.dirty kept

    -- all of them, and what follows
    behind_maps : (ds : List DataPage) (rest : List BothChange) → ArePagesOf new.map new.inodes (stale_pages (length old.map.states) old.files) ds → FitAll x.both (homing ds ++ rest)
        → ((y : Held) → IsHeld m y → y.volume ≡ v → ((q : ℕ) → is_map_page pl q ≡ true → (y.core.slots q).block.dirty ≡ None) → FitAll y.both rest → AllMay m y (leaving v rest)) → AllMay m x (leaving v (homing ds ++ rest))
    behind_maps ds rest are fits more =
        let pages = subst (λ (n : ℕ). ArePagesOf new.map new.inodes (stale_pages n old.files) ds) (sym size) are in
        let fit = fit_split x.both (homing ds) rest fits in
        let along = homing_law m x ds at.held (homes m area p x at.held p_held p_kept runs told ds (stale m area p x at.held p_held p_kept runs told ds pages)) (once m area p x at.held p_held p_kept runs told ds pages) fit.0 in
        let may = subst (λ (u : Volume). AllMay m x (leaving u (homing ds))) at.volume along.may in
        let last : Held = after m x (leaving x.volume (homing ds)) in
        let same : last ≡ after m x (leaving v (homing ds)) = ap (λ (u : Volume). after m x (leaving u (homing ds))) at.volume in
        may_join m x v (homing ds) rest may (subst (λ (y : Held). AllMay m y (leaving v rest)) same (more last (run_law m x (leaving x.volume (homing ds)) at.held along.may).held (same_volume m x x.volume (homing ds) refl ∙ at.volume)
        (λ q is. clean q (or_cases (is_block_page pl q) (is_inode_page pl q) is) last
        (clean_block m area p x at.held p_held p_kept runs told ds pages last along.gone along.others) (clean_inode m area p x at.held p_held p_kept runs told ds pages last along.gone along.others))
        (subst (λ (h : Halves). FitAll h rest) (sym (halves_are m x x.volume (homing ds))) fit.1)))
      where
        clean : (q : ℕ) → (is_block_page pl q ≡ true) ⊎ (is_inode_page pl q ≡ true) → (y : Held) → ((k : ℕ) → is_block_page pl k ≡ true → is_some (y.core.slots k).block.dirty ≡ false)
            → ((k : ℕ) → is_inode_page pl k ≡ true → is_some (y.core.slots k).block.dirty ≡ false) → (y.core.slots q).block.dirty ≡ None
        clean q (inl e) y block inode = none_of (y.core.slots q).block.dirty (block q e)
        clean q (inr e) y block inode = none_of (y.core.slots q).block.dirty (inode q e)

    -- a front of them, and the write of the next one fails
    front_may : (front : List DataPage) (d : DataPage) (c : Change) (fault : Fault) → AreFirstOf new.map new.inodes (stale_pages (length old.map.states) old.files) (front ++ d ∷ []) → IsWriteStop fault d c → FitAll x.both (homing front ++ Changes c ∷ [])
        → AllMay m x (leaving v (homing front ++ Changes c ∷ []))
    front_may front d c fault are stop fits = subst (λ (u : Volume). AllMay m x (leaving u (homing front ++ Changes c ∷ []))) at.volume
        (may_behind m area p x at.held p_held p_kept runs told front d c fault (subst (λ (n : ℕ). AreFirstOf new.map new.inodes (stale_pages n old.files) (front ++ d ∷ [])) (sym size) are) stop fits)

  -- ---- the SYNCPT

  abbrev pointing : List BothChange → List BothChange
  pointing rest = Changes Syncs ∷ Changes Points ∷ rest

  points_may : (x : Held) → x.volume ≡ v → ((q : ℕ) → is_map_page pl q ≡ true → (x.core.slots q).block.dirty ≡ None) → (rest : List BothChange) → ArePlain rest → FitAll x.both (pointing rest) → AllMay m x (leaving v (pointing rest))
  points_may x e clean rest plain fits = (
    fits.0,
    subst (λ (u : Volume). HasTheSame x.volume u) e (itself x.volume),
    (
      fits.1.0,
      (synced, itself v),
      quiet_law m (next m (next m x (Changes Syncs) v) (Changes Points) v) rest fits.1.1 plain,
    ),
  )
    where
      synced : MapsAreSynced (face_at m) (next m x (Changes Syncs) v).core
      synced q is = (past_none (count (next m x (Changes Syncs) v).core) (x.core.slots q).block.dirty (clean q is), tt)

-- ---- the lists of a syncpoint

-- what a syncpoint does between its commit and its SYNCPT, one after the other
parted : (pages : List ℕ) (ds : List DataPage) (last : List Change) → map Changes (homing_all pages ds ++ last) ≡ map Changes (go_home pages) ++ (homing ds ++ map Changes last)
parted pages ds last = joined_map (go_home pages ++ writes ds) last ∙ ap (λ (l : List BothChange). l ++ map Changes last) (joined_map (go_home pages) (writes ds)) ∙ append_assoc (map Changes (go_home pages)) (homing ds) (map Changes last)

settled_list : (pages : List ℕ) (ds : List DataPage) (rest : List BothChange) → settling pages ds ++ rest ≡ map Changes (go_home pages) ++ (homing ds ++ (Changes Syncs ∷ rest))
settled_list pages ds rest = ap (λ (l : List BothChange). l ++ rest) (parted pages ds (Syncs ∷ [])) ∙ append_assoc (map Changes (go_home pages)) (homing ds ++ Changes Syncs ∷ []) rest
    ∙ ap (λ (l : List BothChange). map Changes (go_home pages) ++ l) (append_assoc (homing ds) (Changes Syncs ∷ []) rest)

pub syncpoint_law : SyncpointLaw
syncpoint_law m area asked old new log both core volumes (Ok done) is_held kept runs is settles =
    let rest : List BothChange = Changes Takes ∷ point_known in
    let n : ℕ = length both.volume.history in
    let same = settled_list is.homes is.maps (point_taken ++ point_known) in
    record {
      list = committing is.written n is.pages ++ (settling is.homes is.maps ++ (point_taken ++ point_known));
      moves = is.closes.moves;
      may = subst (λ (l : List BothChange). AllMay m (held_at both core volumes area old) (leaving (volume_at area old) (committing is.written n is.pages ++ l))) (sym same)
          (behind_commit m area old new both core volumes is_held kept runs settles is.written is.pages (map Changes (go_home is.homes) ++ (homing is.maps ++ (Changes Syncs ∷ (point_taken ++ point_known)))) is.is
          (subst (λ (l : List BothChange). FitAll both (committing is.written n is.pages ++ l)) same is.closes.moves.fit)
          (λ x at told fit. behind_homes m area old new both core volumes is_held kept runs settles x at told is.homes (homing is.maps ++ (Changes Syncs ∷ (point_taken ++ point_known))) fit
          (λ y there all fits. behind_maps m area old new both core volumes is_held kept runs settles y there all is.maps (Changes Syncs ∷ (point_taken ++ point_known)) is.maps_are fits
          (λ u held e clean fine. points_may m area old new both core volumes is_held kept runs settles u e clean rest (tt, (tt, (tt, tt))) fine))));
    }
syncpoint_law m area asked old new log both core volumes (Err fault) is_held kept runs (list, stopped, moves) settles = record { list = list; moves = moves; may = by list stopped moves.fit }
  where
    by : (l : List BothChange) → IsStopped old new (length both.volume.history) fault l → FitAll both l → AllMay m (held_at both core volumes area old) (leaving (volume_at area old) l)
    by _ group_fails fit = quiet_law m (held_at both core volumes area old) (Changes Takes ∷ GroupFails fault ∷ []) fit (tt, (tt, tt))
    by _ (low_fails written pages dirty last is stop) fit = behind_commit m area old new both core volumes is_held kept runs settles written pages (map Changes (go_home dirty ++ last ∷ [])) is fit
        (λ x at told fits. homes_may m (volume_at area old) (go_home dirty ++ last ∷ []) x (at.volume) told (homes_at m area old new both core volumes is_held kept runs settles x at) (fit_volume x.both (go_home dirty ++ last ∷ []) fits) (homes_last dirty (last ∷ []) (stop_homes last stop)))
      where
        stop_homes : (c : Change) → IsStop fault c → AreHomes (c ∷ [])
        stop_homes _ stops = (tt, tt)
        stop_homes _ (tears n sectors) = (tt, tt)
    by _ (maps_fail written pages dirty front d last is are stop) fit = subst (λ (l : List BothChange). AllMay m (held_at both core volumes area old) (leaving (volume_at area old) (committing written (length both.volume.history) pages ++ l))) (sym (parted dirty front (last ∷ [])))
        (behind_commit m area old new both core volumes is_held kept runs settles written pages (map Changes (go_home dirty) ++ (homing front ++ Changes last ∷ [])) is
        (subst (λ (l : List BothChange). FitAll both (committing written (length both.volume.history) pages ++ l)) (parted dirty front (last ∷ [])) fit)
        (λ x at told fits. behind_homes m area old new both core volumes is_held kept runs settles x at told dirty (homing front ++ Changes last ∷ []) fits
        (λ y there all fine. front_may m area old new both core volumes is_held kept runs settles y there all front d last fault are stop fine)))
    by _ (sync_fails written pages dirty ds is are) fit = subst (λ (l : List BothChange). AllMay m (held_at both core volumes area old) (leaving (volume_at area old) (committing written (length both.volume.history) pages ++ l))) (sym (parted dirty ds (Stops fault ∷ [])))
        (behind_commit m area old new both core volumes is_held kept runs settles written pages (map Changes (go_home dirty) ++ (homing ds ++ Changes (Stops fault) ∷ [])) is
        (subst (λ (l : List BothChange). FitAll both (committing written (length both.volume.history) pages ++ l)) (parted dirty ds (Stops fault ∷ [])) fit)
        (λ x at told fits. behind_homes m area old new both core volumes is_held kept runs settles x at told dirty (homing ds ++ Changes (Stops fault) ∷ []) fits
        (λ y there all fine. behind_maps m area old new both core volumes is_held kept runs settles y there all ds (Changes (Stops fault) ∷ []) are fine
        (λ u held e clean good. quiet_at m u (volume_at area old) (Changes (Stops fault) ∷ []) e good (tt, tt)))))
    by _ (point_fails written pages dirty ds is are) fit =
        subst (λ (l : List BothChange). AllMay m (held_at both core volumes area old) (leaving (volume_at area old) (committing written (length both.volume.history) pages ++ l))) (sym (settled_list dirty ds (point_taken ++ GroupFails fault ∷ [])))
        (behind_commit m area old new both core volumes is_held kept runs settles written pages (map Changes (go_home dirty) ++ (homing ds ++ (Changes Syncs ∷ (point_taken ++ GroupFails fault ∷ [])))) is
        (subst (λ (l : List BothChange). FitAll both (committing written (length both.volume.history) pages ++ l)) (settled_list dirty ds (point_taken ++ GroupFails fault ∷ [])) fit)
        (λ x at told fits. behind_homes m area old new both core volumes is_held kept runs settles x at told dirty (homing ds ++ (Changes Syncs ∷ (point_taken ++ GroupFails fault ∷ []))) fits
        (λ y there all fine. behind_maps m area old new both core volumes is_held kept runs settles y there all ds (Changes Syncs ∷ (point_taken ++ GroupFails fault ∷ [])) are fine
        (λ u held e clean good. points_may m area old new both core volumes is_held kept runs settles u e clean (Changes Takes ∷ GroupFails fault ∷ []) (tt, (tt, tt)) good))))
