-- A call whose entry joins keeps the pages.
use Rattle.std.specs.Bool.{⊤}
use Rattle.std.proofs.Common.{◌≡◌, ◌⊎◌, ◌<◌, ◌≤◌, ◌==◌, ◌&&◌, ◌||◌, nat_le, nat_lt, refl, sym, ap, ◌∙◌, subst, ℕ, Bool, true, false, true≢false, if◌then◌else◌, List, [], ◌∷◌, length, set, slice_get, Option, Some, None, IsSome, is_some, inl, inr, arith}
use Rattle.std.specs.List.{AllByRecursion}
use Rattle.std.proofs.lemmas.Bool.{or_left, or_right, eq-eqb}
use Rattle.jfs_bits.specs.declared.descriptor.Pxd.{Pxd}
use Rattle.jfs_disk.specs.Image.{Image, page_of}
use Rattle.jfs_ranges.specs.Apply.{touches_tx}
use Rattle.jfs_ranges.specs.View.{AreWhole}
use Rattle.jfs_ranges.specs.declared.edit.Edit.{Edit}
use Rattle.jfs_joined_held.specs.entered.specs.Marked.{HasMarks}
use Rattle.jfs_joined_held.specs.entered.specs.marks.specs.Marking.{AreMarksOf}
use Rattle.jfs_joined_held.specs.entered.specs.marks.specs.Marks.{IsExtended, AreMarked, with_taken_if, with_freed_if}
use Rattle.jfs_joined_held.specs.entered.specs.marks.specs.declared.marks.InodeMarks.{InodeMarks}
use Rattle.jfs_joined_held.specs.entered.specs.marks.specs.declared.marking.Marking.TheVariants.{Fits}
use Rattle.jfs_joined_held.specs.held.specs.image_volumes.proofs.Next.{next_law}
use Rattle.jfs_joined_held.specs.held.specs.image_volumes.specs.Next.{HasNext}
use Rattle.jfs_joined_held.specs.held.specs.canonical_maps.specs.Images.{after_entry}
use Rattle.jfs_joined_held.specs.held.specs.canonical_maps.specs.Places.{HaveOwnPlaces}
use Rattle.jfs_joined_held.specs.held.specs.survival.specs.MapMarks.{map_marks}
use Rattle.jfs_joined_held.specs.held.specs.survival.specs.face.specs.Places.{Places, is_block_page, is_inode_page, is_map_page}
use Rattle.jfs_joined_held.specs.held.specs.survival.specs.face.proofs.Owned.{map_matters}
use Rattle.jfs_joined_held.specs.held.specs.survival.specs.recovery.specs.Core.{Core}
use Rattle.jfs_joined_held.specs.held.specs.survival.specs.recovery.specs.Face.{Pages}
use Rattle.jfs_joined_held.specs.held.specs.survival.specs.recovery.specs.kinds.specs.Owner.{Owner, owner_of, is_logged}
use Rattle.jfs_joined_held.specs.held.specs.survival.specs.recovery.specs.kinds.specs.Owner.Owner.{Data}
use Rattle.jfs_joined_held.specs.held.specs.survival.specs.recovery.specs.kinds.proofs.Single.{has_owners as one_owner}
use Rattle.jfs_joined_held.specs.held.specs.survival.specs.recovery.specs.kinds.proofs.Stay.{is_free}
use Rattle.jfs_joined_held.specs.held.specs.survival.specs.recovery.specs.crash_core.specs.declared.block.Span.{Span}
use Rattle.jfs_joined_held.specs.held.specs.Changes.{TakesData, LeadsTo, with_page, next, after, AllMay}
use Rattle.jfs_joined_held.specs.held.specs.Held.{Mount, Held, IsHeld, IsImageAt, newest_image}
use Rattle.jfs_joined_held.specs.held.proofs.Kept.{one}
use Rattle.jfs_joined_held.specs.held.proofs.Played.{areas, seen}
use Rattle.jfs_joined_held.specs.held_calls.proofs.Calls.{own_law}
use Rattle.jfs_joined_held.specs.held_calls.specs.Calls.{made_by}
use Rattle.jfs_joined_held.specs.Called.{volume_then, IsAnswered, IsRunOfCall}
use Rattle.jfs_joined_held.specs.Held.{blocks_at, volume_at, held_at, IsHeldAs}
use Rattle.jfs_joined_held.specs.volume.specs.Called.{JoinsWith}
use Rattle.jfs_joined_held.specs.volume.specs.Runs.{taken_in, freed_in}
use Rattle.jfs_joined_held.specs.volume.specs.Stale.{changes_blocks, changes_inodes, stale_after}
use Rattle.jfs_joined_held.specs.volume.specs.bmap.proofs.States.{changed-length}
use Rattle.jfs_joined_held.specs.volume.specs.bmap.specs.States.{BlockState, Reserved}
use Rattle.jfs_joined_held.specs.volume.specs.data_steps.specs.After.{is_put, with_data}
use Rattle.jfs_joined_held.specs.volume.specs.data_steps.specs.declared.pages.DataPage.{DataPage}
use Rattle.jfs_joined_held.specs.volume.specs.data_steps.specs.objects.specs.Readers.{Readers}
use Rattle.jfs_joined_held.specs.volume.specs.data_steps.specs.objects.specs.Volume.{Volume}
use Rattle.jfs_joined_held.specs.volume.specs.data_steps.specs.steps.specs.After.{takes}
use Rattle.jfs_joined_held.specs.volume.specs.halves.specs.Both.{Changes}
use Rattle.jfs_joined_held.specs.volume.specs.halves.specs.Change.{Enters, Writes}
use Rattle.jfs_joined_held.specs.volume.specs.halves.specs.Entry.{Happened, edits}
use Rattle.jfs_joined_held.specs.volume.specs.halves.specs.Half.{Halves, block_in}
use Rattle.jfs_joined_held.specs.volume.specs.halves.specs.Parts.{Parts}
use Rattle.jfs_joined_held.specs.volume.specs.map_files.specs.declared.map_file.MapFiles.{MapFiles}
use Rattle.jfs_joined_held.specs.volume.specs.map_files.specs.imap.specs.Inodes.{Inodes, is_used, with_put_back}
use Rattle.jfs_joined_held.specs.volume.specs.plain.specs.declared.call.Entry.{Entry}
use Rattle.jfs_joined_held.specs.volume.specs.records.specs.Limits.{IsLoggable}
use Rattle.jfs_joined_held.specs.volume.specs.records.specs.Records.{noted, tx_of}
use Rattle.jfs_joined_held.specs.volume.proofs.Texts.{tx_of-noted}
use Rattle.jfs_pages_held.specs.Beside.{MarksStay, DirtyStays, KeepsFiles}
use Rattle.jfs_pages_held.specs.Called.{DirtiesItsOwn, CalledLaw}
use Rattle.jfs_pages_held.specs.Pages.{MayBeDirty, HasHomes, MapsStand, HasExtents, PagesKept}
use Rattle.jfs_pages_held.proofs.Beside.{marks_join, one_beside, clean_both}
use Rattle.jfs_pages_held.proofs.Entry.{dirty_then, stand_apart, marks_of_blocks, marks_of_inodes, mark_then, image_then}
use Rattle.jfs_pages_held.proofs.Marks.{extents_then, inodes_marked}
use Rattle.jfs_pages_held.proofs.Runs.{blocks_marked}
use Rattle.jfs_pages_held.proofs.Stay.{moved}

-- ---- where the entry joins, behind the data

-- a volume that is held, has the same image and the same marks, and no page dirty that wasn't; and the entry may join there
record AtEntry (m : Mount) (put : List DataPage) (h : Happened) (w : Volume) (x : Held) : Type 0 where
  at : Held
  held : IsHeld m at
  volume : at.volume ≡ with_data put x.volume
  leads : LeadsTo m at h w
  marks : MarksStay m.places x.core at.core
  dirty : DirtyStays x.both.volume at.both.volume
  then_held : IsHeld m (next m at (Changes (Enters h)) w)
  last : after m x (made_by x.volume put h w) ≡ next m at (Changes (Enters h)) w

at_entry : (m : Mount) (put : List DataPage) (h : Happened) (w : Volume) (x : Held) → IsHeld m x → ((b : ℕ) → is_put b put ≡ true → is_map_page m.places b ≡ false) → AllMay m x (made_by x.volume put h w) → AtEntry m put h w x
at_entry m [] h w x held beside (fits, leads, rest) = record {
  at = x;
  held = held;
  volume = refl;
  leads = leads;
  marks = record { image_is = refl; marks = λ q is. refl };
  dirty = λ q some. some;
  then_held = one m x held (Changes (Enters h)) w fits leads;
  last = refl;
}
at_entry m (d ∷ put) h w x held beside (fits, may, rest) =
    let v : Volume = with_page d.block d.page.0 x.volume in
    let c = Changes (Writes d.block d.page.0) in
    let there = beside d.block (or_left (d.block == d.block) (is_put d.block put) (eq-eqb d.block d.block refl)) in
    let more = at_entry m put h w (next m x c v) (one m x held c v fits may) (λ b is. beside b (or_right (d.block == b) (is_put b put) is)) rest in
    record {
      at = more.at;
      held = more.held;
      volume = more.volume;
      leads = more.leads;
      marks = marks_join m.places x.core (next m x c v).core more.at.core (one_beside m x held c v fits there) more.marks;
      dirty = λ q some. clean_both m x c v there q (more.dirty q some);
      then_held = more.then_held;
      last = more.last;
    }

-- no page of a map takes data
pub no_data_map : (m : Mount) (x : Held) → IsHeld m x → (b : ℕ) → TakesData m.readers x.volume b → is_map_page m.places b ≡ false
no_data_map m x held b takes = by (is_map_page m.places b) refl
  where
    logged : is_map_page m.places b ≡ true → is_logged (owner_of m.readers x.volume b) ≡ true
    logged e = ap (λ (o : Option Owner). is_logged o) (sym (seen m x held b)) ∙ map_matters m.readers m.places (areas m x held) (newest_image x) b e

    not_logged : TakesData m.readers x.volume b → is_logged (owner_of m.readers x.volume b) ≡ false
    not_logged (inl free) = ap (λ (o : Option Owner). is_logged o) (is_free m.readers x.volume held.now.sound.agrees b free)
    not_logged (inr own) = ap (λ (o : Option Owner). is_logged o) ((one_owner m.readers x.volume held.now.sound.agrees).alone b (Data own.0) own.1)

    by : (e : Bool) → is_map_page m.places b ≡ e → e ≡ false
    by false e = refl
    by true e = absurd (true≢false (sym (logged e) ∙ not_logged takes))

-- ---- the inode map's numbers stay

put_back_same : (n : ℕ) (i : Inodes) → ((with_put_back n i).iags ≡ i.iags) × ((with_put_back n i).numag ≡ i.numag) × ((with_put_back n i).agsize ≡ i.agsize)
put_back_same n i = by (nat_le 4 n && is_used i n)
  where
    by : (b : Bool) → ((if b then record i { taken = set i.taken n false } else i).iags ≡ i.iags) × ((if b then record i { taken = set i.taken n false } else i).numag ≡ i.numag) × ((if b then record i { taken = set i.taken n false } else i).agsize ≡ i.agsize)
    by true = (refl, refl, refl)
    by false = (refl, refl, refl)

record SameNumbers (a b : Inodes) : Type 0 where
  iags : b.iags ≡ a.iags
  numag : b.numag ≡ a.numag
  agsize : b.agsize ≡ a.agsize

numbers_stay : (old new : Inodes) (marks : InodeMarks) → AreMarked old marks new → SameNumbers old new
numbers_stay old new marks m = subst (λ (i : Inodes). SameNumbers old i) (sym m.is) (freed marks.freed (with_taken_if marks.taken m.mid) (taken marks.taken m.mid (extended marks.extent m.mid m.extended)))
  where
    extended : (x : Option Pxd) (mid : Inodes) → IsExtended old x mid → SameNumbers old mid
    extended None mid e = subst (λ (i : Inodes). SameNumbers old i) (sym e) (record { iags = refl; numag = refl; agsize = refl })
    extended (Some at) mid e = subst (λ (i : Inodes). SameNumbers old i) (sym e.2) (record { iags = refl; numag = refl; agsize = refl })

    taken : (x : Option ℕ) (mid : Inodes) → SameNumbers old mid → SameNumbers old (with_taken_if x mid)
    taken None mid s = s
    taken (Some n) mid s = record { iags = s.iags; numag = s.numag; agsize = s.agsize }

    freed : (x : Option ℕ) (mid : Inodes) → SameNumbers old mid → SameNumbers old (with_freed_if x mid)
    freed None mid s = s
    freed (Some n) mid s = let same = put_back_same n mid in record { iags = same.0 ∙ s.iags; numag = same.1 ∙ s.numag; agsize = same.2 ∙ s.agsize }

-- ---- the call

or_same : (a b c d : Bool) → a ≡ c → b ≡ d → (a || b) ≡ (c || d)
or_same a b c d e f = ap (λ (x : Bool). x || b) e ∙ ap (λ (x : Bool). c || x) f

module _ (m : Mount) (area : ℕ → ℕ) (tx : List Edit) (put : List DataPage) (entry : Entry) (number : ℕ) (old mid new : Parts) (both : Halves) (core : Core) (volumes : ℕ → Volume) (h : Happened) (is_held : IsHeldAs m area old both core volumes)
    (answered : IsAnswered area old mid tx put) (keeps : KeepsFiles old mid) (joins : JoinsWith ⊤ entry tx put number mid new) (edits_are : edits h ≡ tx)
    (run : IsRunOfCall m area old new both core volumes put h (volume_then area old tx put)) (dirties : DirtiesItsOwn m.readers (with_data put (volume_at area old)) (volume_then area old tx put) tx) (kept : PagesKept m area old both core) where
  abbrev n : ℕ
  n = blocks_at old

  abbrev v : Volume
  v = volume_at area old

  abbrev w : Volume
  w = volume_then area old tx put

  abbrev x : Held
  x = held_at both core volumes area old

  abbrev pl : Places
  pl = m.places

  abbrev s : Pages
  s = newest_image x

  entered : AtEntry m put h w x
  entered = at_entry m put h w x is_held.held (λ b is. no_data_map m x is_held.held b (subst (λ (r : Readers). TakesData r v b) is_held.readers_are (own_law n v put answered.own b is))) run.may

  abbrev at : Held
  at = entered.at

  abbrev later : Held
  later = next m at (Changes (Enters h)) w

  -- the newest image where the entry joins
  image_at : newest_image at ≡ s
  image_at = entered.marks.image_is

  -- ---- the transaction and its marks, as they are known of the call

  size : length mid.map.states ≡ n
  size = ap (λ (states : List BlockState). length states) answered.reserved.states ∙ changed-length (λ (b : ℕ) (c : BlockState). if nat_lt 0 (takes tx b) then Reserved else c) old.map

  noted_are : tx_of (noted tx joins.notes) ≡ tx
  noted_are = tx_of-noted tx joins.notes joins.each

  whole : AreWhole old.blocks old.view
  whole = subst (λ (k : ℕ). AreWhole k old.view) answered.part (subst (λ (image : Image). AreWhole mid.blocks image) answered.view (joins.whole tt))

  abbrev AreMarksIn : ℕ → (ℕ → List ℕ) → Inodes → Type 0
  AreMarksIn k pages i = AreMarksOf k pages i tx put (Fits joins.marks)

  marks : AreMarksIn n (page_of old.view) old.inodes
  marks = subst (λ (k : ℕ). AreMarksIn k (page_of old.view) old.inodes) size (subst (λ (image : Image). AreMarksIn (length mid.map.states) (page_of image) old.inodes) answered.view
      (subst (λ (i : Inodes). AreMarksIn (length mid.map.states) (page_of mid.view) i) answered.inodes (joins.marks_are tt)))

  has : HasMarks n (page_of old.view) area old.map old.inodes put tx joins.notes joins.marks
  has = record {
    before = answered.before;
    put = answered.behind_data;
    after = answered.behind_all;
    whole = λ b l. whole b (let k = answered.within in omega (arith, l, k));
    put_whole = answered.whole;
    within = answered.places;
    bits = answered.bits;
    loggable = record { each = joins.each; all = subst (λ (k : ℕ). AllByRecursion (IsLoggable k) (noted tx joins.notes)) size joins.loggable };
    are = marks;
  }

  marked : AreMarked old.inodes joins.marks new.inodes
  marked = subst (λ (i : Inodes). AreMarked i joins.marks new.inodes) answered.inodes joins.adds.inodes

  -- ---- images

  abbrev t : Pages
  t = after_entry pl s tx

  there_as : (from : Pages) (es : List Edit) → from ≡ newest_image at → es ≡ edits h → HasNext m.readers m.blocks m.agsize m.numag m.table m.map pl (map_marks pl) from w es
  there_as from es e f = subst (λ (i : Pages). HasNext m.readers m.blocks m.agsize m.numag m.table m.map pl (map_marks pl) i w es) (sym e)
      (subst (λ (es : List Edit). HasNext m.readers m.blocks m.agsize m.numag m.table m.map pl (map_marks pl) (newest_image at) w es) (sym f)
      (next_law m.readers m.blocks m.agsize m.numag m.table m.map pl (map_marks pl) (newest_image at) at.volume w (edits h) entered.held.fits entered.held.now entered.leads.follows))

  there : HasNext m.readers m.blocks m.agsize m.numag m.table m.map pl (map_marks pl) s w tx
  there = there_as s tx (sym image_at) (sym edits_are)

  image_is : newest_image later ≡ t
  image_is = image_then m at entered.held h w entered.leads ∙ ap (λ (i : Pages). after_entry pl i (edits h)) image_at ∙ ap (λ (es : List Edit). after_entry pl s es) edits_are

  -- ---- what is kept

  files_are : new.files ≡ stale_after (taken_in tx) (freed_in tx) joins.marks old.files
  files_are = ap (λ (p : Parts). p.files) joins.adds.parts ∙ ap (λ (es : List Edit). stale_after (taken_in es) (freed_in es) joins.marks mid.files) noted_are ∙ ap (λ (f : MapFiles). stale_after (taken_in tx) (freed_in tx) joins.marks f) keeps.files

  halted_are : new.halted ≡ None → old.halted ≡ None
  halted_are e = keeps.halted (sym (ap (λ (p : Parts). p.halted) joins.adds.parts) ∙ e)

  homes_at : (q : ℕ) → IsSome (block_in at.both.volume q).dirty → MayBeDirty m.readers at.volume q
  homes_at q some = moved m s v at.volume is_held.held.now (subst (λ (i : Pages). IsImageAt m i at.volume) image_at entered.held.now) q (kept.homes q (entered.dirty q some))

  homes_then : (q : ℕ) → IsSome (block_in later.both.volume q).dirty → MayBeDirty m.readers w q
  homes_then q some = by (dirty_then m at h w q some)
    where
      by : (touches_tx q (edits h) ≡ true) ⊎ IsSome (block_in at.both.volume q).dirty → MayBeDirty m.readers w q
      by (inl lines) = dirties.told q (sym (ap (λ (es : List Edit). touches_tx q es) edits_are) ∙ lines)
      by (inr was) = dirties.stays q (subst (λ (u : Volume). MayBeDirty m.readers u q) entered.volume (homes_at q was))

  abbrev y : Held
  y = after m x (made_by v put h w)

  homes : HasHomes m.readers y.both.volume (volume_at area new)
  homes q some = moved m (newest_image y) w (volume_at area new) (subst (λ (z : Held). IsImageAt m (newest_image z) w) (sym entered.last) entered.then_held.now) run.held.held.now q
      (homes_then q (subst (λ (z : Held). IsSome (block_in z.both.volume q).dirty) entered.last some))

  numbers : SameNumbers old.inodes new.inodes
  numbers = numbers_stay old.inodes new.inodes joins.marks marked

  stand : MapsStand pl new
  stand = record {
    agsize = joins.adds.map.agsize ∙ keeps.agsize ∙ kept.stand.agsize;
    iags = numbers.iags ∙ kept.stand.iags;
    groups = numbers.numag ∙ kept.stand.groups;
    group_size = numbers.agsize ∙ kept.stand.group_size;
    block_map = λ k used. ap (λ (f : MapFiles). slice_get f.blocks.places k) files_are ∙ kept.stand.block_map k used;
    inode_map = λ k low. ap (λ (f : MapFiles). slice_get f.inodes.places k) files_are ∙ kept.stand.inode_map k low;
    inode_pages = ap (λ (f : MapFiles). length f.inodes.places) files_are ∙ kept.stand.inode_pages;
  }

  extents : HasExtents pl (newest_image y) new.inodes
  extents = subst (λ (z : Held). HasExtents pl (newest_image z) new.inodes) (sym entered.last) (subst (λ (i : Pages). HasExtents pl i new.inodes) (sym image_is)
      (extents_then m s t (page_of old.view) area old.map old.inodes new.inodes put tx joins.notes joins.marks n has marked is_held.extents is_held.held.now there.follows.follows there.image kept.extents))

  -- a page of a map was as dirty where the entry joins
  was_dirty : (q : ℕ) → is_map_page pl q ≡ true → is_some (y.core.slots q).block.dirty ≡ (map_marks pl s tx q || is_some (core.slots q).block.dirty)
  was_dirty q is = ap (λ (z : Held). is_some (z.core.slots q).block.dirty) entered.last ∙ mark_then m at entered.held h w entered.leads q is
      ∙ or_same (map_marks pl (newest_image at) (edits h) q) (is_some (at.core.slots q).block.dirty) (map_marks pl s tx q) (is_some (core.slots q).block.dirty)
      (ap (λ (i : Pages). map_marks pl i (edits h) q) image_at ∙ ap (λ (es : List Edit). map_marks pl s es q) edits_are) (ap (λ (d : Option Span). is_some d) (entered.marks.marks q is))

  own : HaveOwnPlaces pl
  own = stand_apart m x is_held.held

  blocks_dirty : new.halted ≡ None → (q : ℕ) → is_block_page pl q ≡ true → is_some (y.core.slots q).block.dirty ≡ new.files.blocks.stale
  blocks_dirty runs q is = was_dirty q (or_left (is_block_page pl q) (is_inode_page pl q) is)
      ∙ or_same (map_marks pl s tx q) (is_some (core.slots q).block.dirty) (changes_blocks (taken_in tx) (freed_in tx)) old.files.blocks.stale (marks_of_blocks pl own s tx q is ∙ sym (blocks_marked tx)) (kept.marked.block_map (halted_are runs) q is)
      ∙ sym (ap (λ (f : MapFiles). f.blocks.stale) files_are)

  inodes_dirty : new.halted ≡ None → (q : ℕ) → is_inode_page pl q ≡ true → is_some (y.core.slots q).block.dirty ≡ new.files.inodes.stale
  inodes_dirty runs q is = was_dirty q (or_right (is_block_page pl q) (is_inode_page pl q) is)
      ∙ or_same (map_marks pl s tx q) (is_some (core.slots q).block.dirty) (changes_inodes joins.marks) old.files.inodes.stale
      (marks_of_inodes pl own s tx q is ∙ sym (inodes_marked m s t (page_of old.view) area old.map old.inodes new.inodes put tx joins.notes joins.marks n has marked is_held.extents is_held.held.now there.follows.follows there.image kept.extents))
      (kept.marked.inode_map (halted_are runs) q is)
      ∙ sym (ap (λ (f : MapFiles). f.inodes.stale) files_are)

  pub called : PagesKept m area new y.both y.core
  called = record { homes = homes; stand = stand; extents = extents; marked = record { block_map = blocks_dirty; inode_map = inodes_dirty } }

pub called_law : CalledLaw
called_law m area tx put entry number old mid new both core volumes h is_held answered keeps joins edits_are run dirties kept = called m area tx put entry number old mid new both core volumes h is_held answered keeps joins edits_are run dirties kept
