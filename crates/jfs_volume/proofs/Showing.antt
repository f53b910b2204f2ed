-- Pages of a map's file are put into their places, one after the other.
use Rattle.std.proofs.Common.{◌≡◌, ◌<◌, ◌≤◌, ◌⊎◌, [], ℕ, suc, Bool, true, false, List, length, set, slice_get, Option, Some, None, Result, Ok, Err, OnOk, OnErr, true≢false, refl, sym, ap, ◌∙◌, inl, inr, subst, arith}
use Rattle.std.proofs.lemmas.Bool.{cases_eq}
use Rattle.std.proofs.lemmas.List.{length-set, get_or-set_same, get_or-set_other}
use Rattle.jfs_disk.specs.Image.{Image, page_of}
use Rattle.jfs_disk.specs.declared.disk.Fault.{Fault}
use Rattle.jfs_map_files.specs.Places.{AreWithin, MapPlaces}
use Rattle.jfs_halves.specs.Parts.{Parts}
use Rattle.jfs_volume.specs.MapsHome.{KeepsPlaces, ShowsAfter, with_written, with_blocks_written, with_inodes_written}
use Rattle.jfs_volume.specs.Shown.{PutsPage, AreOwn, ShowsUpto, PutsMap, Spoils, StaysElse}
use Rattle.jfs_bmap.specs.MapFile.{IsMapPage, is_in_use}
use Rattle.jfs_bmap.specs.States.{is_owned}
use Rattle.jfs_imap.specs.Inodes.{IsInodePage}
use Rattle.jfs_map_files.specs.declared.map_file.MapFiles.{MapFiles}
use Rattle.std.proofs.lemmas.Option.{slice_get_within}
use Rattle.jfs_volume.specs.Written.{IsWrittenOf}

pub shows-none : (places : List ℕ) (used : ℕ → Bool) (is : ℕ → List ℕ → Type 0) (old : Image) → ShowsUpto 0 places used is old old
shows-none places used is old = record { shown = λ own n b h u e. absurd (omega (arith, h)); others = λ b none. refl; size = refl }

-- one page more
module _ (n : ℕ) (places : List ℕ) (used : ℕ → Bool) (is : ℕ → List ℕ → Type 0) (old mid new : Image) where
  kept : ShowsUpto n places used is old mid → new ≡ mid → ((b : ℕ) → used n ≡ true → slice_get places n ≡ Some b → ⊥) → ShowsUpto (suc n) places used is old new
  kept shows same none = rw same (record {
    shown = λ own m b h u e. at own m b h u e (cases_eq m n);
    others = shows.others;
    size = shows.size;
  })
    where
      at : AreOwn places → (m b : ℕ) → m < suc n → used m ≡ true → slice_get places m ≡ Some b → (m ≡ n) ⊎ ((m ≡ n) → ⊥) → is m (page_of mid b)
      at own m b h u e (inl i) = absurd (none b (ap used (sym i) ∙ u) (ap (λ (k : ℕ). slice_get places k) (sym i) ∙ e))
      at own m b h u e (inr d) = shows.shown own m b (omega (arith, h, d)) u e

  put : (b : ℕ) (bytes : List ℕ) → b < length old → slice_get places n ≡ Some b → is n bytes → new ≡ set mid b bytes → ShowsUpto n places used is old mid → ShowsUpto (suc n) places used is old new
  put b bytes within here good same shows = rw same (record {
    shown = λ own m c h u e. at own m c h u e (cases_eq m n);
    others = λ c none. get_or-set_other mid b c bytes [] (λ i. none n (here ∙ ap Some (sym i))) ∙ shows.others c none;
    size = length-set mid b bytes ∙ shows.size;
  })
    where
      at : AreOwn places → (m c : ℕ) → m < suc n → used m ≡ true → slice_get places m ≡ Some c → (m ≡ n) ⊎ ((m ≡ n) → ⊥) → is m (page_of (set mid b bytes) c)
      at own m c h u e (inl i) =
          let there : slice_get places n ≡ Some c = ap (λ (k : ℕ). slice_get places k) (sym i) ∙ e in
          let some : Some b ≡ Some c = sym here ∙ there in
          let same_block : b ≡ c = cc in
          rw i (rw (sym same_block) (subst (is n) (sym (get_or-set_same mid b bytes [] (omega (arith, within, shows.size)))) good))
      at own m c h u e (inr d) = subst (is m) (sym (get_or-set_other mid b c bytes [] (λ i. d (own m n c e (here ∙ ap Some (sym i)))))) (shows.shown own m c (omega (arith, h, d)) u e)

  pub shows-more : AreWithin (length old) places → ShowsUpto n places used is old mid → PutsPage (used n) (slice_get places n) (is n) mid new → ShowsUpto (suc n) places used is old new
  shows-more within shows puts = at (used n) (slice_get places n) refl refl puts
    where
      at : (u : Bool) (place : Option ℕ) → used n ≡ u → slice_get places n ≡ place → PutsPage u place (is n) mid new → ShowsUpto (suc n) places used is old new
      at false place u e same = kept shows same (λ b used_here here. absurd (let never : true ≡ false = sym used_here ∙ u in cc))
      at true None u e same = kept shows same (λ b used_here here. absurd (let never : Some b ≡ None = sym here ∙ e in cc))
      at true (Some b) u e w = put b w.0 (within n b e) e w.1 w.2 shows

-- only fewer of them
pub shows-less : (few many : ℕ) (places : List ℕ) (used : ℕ → Bool) (is : ℕ → List ℕ → Type 0) (old new : Image) → few ≤ many → ShowsUpto many places used is old new → ShowsUpto few places used is old new
shows-less few many places used is old new h shows = record { shown = λ own n b k u e. shows.shown own n b (omega (arith, h, k)) u e; others = shows.others; size = shows.size }

-- ---- both maps

others-of : (file : MapPlaces) (used : ℕ → Bool) (is : ℕ → List ℕ → Type 0) (old new : Image) → PutsMap file used is old new → (b : ℕ) → ((n : ℕ) → slice_get file.places n ≡ Some b → ⊥) → page_of new b ≡ page_of old b
others-of file used is old new puts b none = at file.stale refl
  where
    at : (s : Bool) → file.stale ≡ s → page_of new b ≡ page_of old b
    at true e = (puts.stale e).others b none
    at false e = ap (λ (image : Image). page_of image b) (puts.fresh e)

size-of : (file : MapPlaces) (used : ℕ → Bool) (is : ℕ → List ℕ → Type 0) (old new : Image) → PutsMap file used is old new → length new ≡ length old
size-of file used is old new puts = at file.stale refl
  where
    at : (s : Bool) → file.stale ≡ s → length new ≡ length old
    at true e = (puts.stale e).size
    at false e = ap (λ (image : Image). length image) (puts.fresh e)

-- ---- where a write failed

pub spoils-of : (tells : Type 0) (place : Option ℕ) (n : ℕ) (bytes : List ℕ) (old new : Parts) (result : Result (Unit {0}) Fault) → place ≡ Some n → IsWrittenOf tells n bytes old new result → tells → OnErr result (Spoils place old.view new.view)
spoils-of tells place n bytes old new (Ok done) is w t = tt
spoils-of tells place n bytes old new (Err fault) is w t = subst (λ (o : Option ℕ). Spoils o old.view new.view) (sym is) (w.1 t)

pub stays-else : (n : ℕ) (places : List ℕ) (used : ℕ → Bool) (is : ℕ → List ℕ → Type 0) (old mid new : Image) → ShowsUpto n places used is old mid → Spoils (slice_get places n) mid new → StaysElse places old new
stays-else n places used is old mid new shows spoils = by (slice_get places n) refl spoils
  where
    by : (place : Option ℕ) → slice_get places n ≡ place → Spoils place mid new → StaysElse places old new
    by None e same = record { others = λ b none. ap (λ (image : Image). page_of image b) same ∙ shows.others b none; size = ap (λ (image : Image). length image) same ∙ shows.size }
    by (Some c) e (bytes, same) = record {
      others = λ b none. ap (λ (image : Image). page_of image b) same ∙ get_or-set_other mid c b bytes [] (λ i. none n (e ∙ ap Some (sym i))) ∙ shows.others b none;
      size = ap (λ (image : Image). length image) same ∙ length-set mid c bytes ∙ shows.size;
    }

module _ (old new : Parts) (mid : Image) where
  abbrev FirstPuts : Type 0
  FirstPuts = PutsMap old.files.blocks (is_in_use (length old.map.states)) (IsMapPage (length old.map.states) old.map.agsize (is_owned old.map)) old.view mid

  abbrev SecondPuts : Type 0
  SecondPuts = PutsMap old.files.inodes (λ n. true) (IsInodePage old.inodes) mid new.view

  earlier : FirstPuts → (b : ℕ) → ((n : ℕ) → slice_get old.files.blocks.places n ≡ Some b → ⊥) → page_of mid b ≡ page_of old.view b
  earlier first b none = others-of old.files.blocks (is_in_use (length old.map.states)) (IsMapPage (length old.map.states) old.map.agsize (is_owned old.map)) old.view mid first b none

  -- the block map's pages
  pub shows-first : new.files ≡ old.files → old.files.blocks.stale ≡ true → StaysElse old.files.blocks.places old.view new.view → ShowsAfter old new
  shows-first same stale apart_from = record {
    block_map = λ apart e fresh. absurd (true≢false (sym stale ∙ ap (λ (f : MapFiles). f.blocks.stale) (sym same) ∙ fresh));
    inode_map = λ apart e fresh. absurd (true≢false (sym e ∙ ap (λ (f : MapFiles). f.inodes.stale) (sym same) ∙ fresh));
    block_pages = λ apart fresh n b here. absurd (true≢false (sym stale ∙ fresh));
    inode_pages = λ apart fresh n b here. apart_from.others b (λ m there. apart.both m n b there here);
    others = λ b none. apart_from.others b none.0;
    size = apart_from.size;
  }

  -- or the inode map's, once the block map is written
  shows-second : new.map ≡ old.map → new.files ≡ with_blocks_written old.files → FirstPuts → old.files.inodes.stale ≡ true → StaysElse old.files.inodes.places mid new.view → ShowsAfter old new
  shows-second same_map same_files first stale apart_from = record {
    block_map = λ apart e fresh. rw (same_map, same_files) (λ n b used here.
        subst (IsMapPage (length old.map.states) old.map.agsize (is_owned old.map) n) (sym (apart_from.others b (λ m there. apart.both n m b here there)))
        ((first.stale e).shown apart.blocks n b (slice_get_within old.files.blocks.places n b here) used here));
    inode_map = λ apart e fresh. absurd (true≢false (sym stale ∙ ap (λ (f : MapFiles). f.inodes.stale) (sym same_files) ∙ fresh));
    block_pages = λ apart fresh n b here. apart_from.others b (λ m there. apart.both n m b here there) ∙ ap (λ (image : Image). page_of image b) (first.fresh fresh);
    inode_pages = λ apart fresh n b here. absurd (true≢false (sym stale ∙ fresh));
    others = λ b none. apart_from.others b none.1 ∙ earlier first b none.0;
    size = apart_from.size ∙ size-of old.files.blocks (is_in_use (length old.map.states)) (IsMapPage (length old.map.states) old.map.agsize (is_owned old.map)) old.view mid first;
  }

  shows-both : new.map ≡ old.map → new.inodes ≡ old.inodes → new.files ≡ with_written old.files → FirstPuts → SecondPuts → ShowsAfter old new
  shows-both same_map same_inodes same_files first second = record {
    block_map = λ apart stale fresh. rw (same_map, same_files) (λ n b used here.
        subst (IsMapPage (length old.map.states) old.map.agsize (is_owned old.map) n) (sym (later b (λ m there. apart.both n m b here there)))
        ((first.stale stale).shown apart.blocks n b (slice_get_within old.files.blocks.places n b here) used here));
    inode_map = λ apart stale fresh. rw (same_inodes, same_files) (λ n b here. (second.stale stale).shown apart.inodes n b (slice_get_within old.files.inodes.places n b here) refl here);
    block_pages = λ apart fresh n b here. later b (λ m there. apart.both n m b here there) ∙ ap (λ (image : Image). page_of image b) (first.fresh fresh);
    inode_pages = λ apart fresh n b here. ap (λ (image : Image). page_of image b) (second.fresh fresh) ∙ earlier first b (λ m there. apart.both m n b there here);
    others = λ b none. later b none.1 ∙ earlier first b none.0;
    size = size-of old.files.inodes (λ n. true) (IsInodePage old.inodes) mid new.view second
        ∙ size-of old.files.blocks (is_in_use (length old.map.states)) (IsMapPage (length old.map.states) old.map.agsize (is_owned old.map)) old.view mid first;
  }
    where
      later : (b : ℕ) → ((n : ℕ) → slice_get old.files.inodes.places n ≡ Some b → ⊥) → page_of new.view b ≡ page_of mid b
      later b none = others-of old.files.inodes (λ n. true) (IsInodePage old.inodes) mid new.view second b none

  -- either way
  pub shows-then : (result : Result (Unit {0}) Fault) (files : MapFiles) → files ≡ with_blocks_written old.files → new.map ≡ old.map → new.inodes ≡ old.inodes → FirstPuts
      → OnOk result (PutsMap files.inodes (λ n. true) (IsInodePage old.inodes) mid new.view) → OnOk result (new.files ≡ with_inodes_written files)
      → OnErr result (StaysElse files.inodes.places mid new.view) → OnErr result ((files.inodes.stale ≡ true) × (new.files ≡ files)) → ShowsAfter old new
  shows-then (Ok done) files is same_map same_inodes first puts written apart_from stale =
      shows-both same_map same_inodes (written ∙ ap with_inodes_written is) first (subst (λ (f : MapFiles). PutsMap f.inodes (λ n. true) (IsInodePage old.inodes) mid new.view) is puts)
  shows-then (Err fault) files is same_map same_inodes first puts written apart_from stale =
      shows-second same_map (stale.1 ∙ is) first (ap (λ (f : MapFiles). f.inodes.stale) (sym is) ∙ stale.0) (subst (λ (f : MapFiles). StaysElse f.inodes.places mid new.view) is apart_from)

  pub places-then : (result : Result (Unit {0}) Fault) (files : MapFiles) → files ≡ with_blocks_written old.files → OnOk result (new.files ≡ with_inodes_written files) → OnErr result ((files.inodes.stale ≡ true) × (new.files ≡ files)) → KeepsPlaces old new
  places-then (Ok done) files is written stale = record { blocks = ap (λ (f : MapFiles). f.blocks.places) (written ∙ ap with_inodes_written is); inodes = ap (λ (f : MapFiles). f.inodes.places) (written ∙ ap with_inodes_written is) }
  places-then (Err fault) files is written stale = record { blocks = ap (λ (f : MapFiles). f.blocks.places) (stale.1 ∙ is); inodes = ap (λ (f : MapFiles). f.inodes.places) (stale.1 ∙ is) }
