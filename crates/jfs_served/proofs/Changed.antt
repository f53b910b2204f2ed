-- A call whose entry joins with a transaction takes the plain step.
use Rattle.std.specs.Bool.{⊤}
use Rattle.std.proofs.Common.{◌≡◌, ◌<◌, ◌≤◌, ◌⊎◌, ◌+◌, ◌^◌, refl, sym, ap, ◌∙◌, subst, ℕ, false, nat_lt, if◌then◌else◌, List, [], ◌++◌, length, inl, inr, Ok, arith}
use Rattle.std.specs.List.{AllByRecursion}
use Rattle.std.proofs.lemmas.Bool.{and_parts, cases_lt, ltb-true}
use Rattle.std.proofs.lemmas.List.{get_or_past}
use Rattle.jfs_bits.specs.declared.descriptor.Moment.{Moment}
use Rattle.jfs_disk.specs.Image.{Image, page_of}
use Rattle.jfs_ranges.specs.Apply.{apply_tx}
use Rattle.jfs_ranges.specs.Laid.{put_tx}
use Rattle.jfs_ranges.specs.View.{AreWhole}
use Rattle.jfs_ranges.specs.declared.edit.Edit.{Edit}
use Rattle.jfs_shown.specs.imap.specs.Inodes.{Inodes}
use Rattle.jfs_shown.specs.bmap.specs.States.{Blocks, Free, put_state, is_owned, is_owned_state}
use Rattle.jfs_shown.specs.map_files.specs.declared.maps.Maps.{Maps}
use Rattle.jfs_shown.specs.map_files.specs.declared.map_file.MapFiles.{MapFiles}
use Rattle.jfs_shown.specs.objects.specs.Volume.{Volume}
use Rattle.jfs_shown.specs.meaning.specs.Readers.{readers}
use Rattle.jfs_shown.specs.meaning.specs.Tree.{tree_on}
use Rattle.jfs_shown.specs.meaning.specs.Consistent.{IsConsistent}
use Rattle.jfs_shown.specs.way.specs.Volume.{volume_of, PlacesWithin}
use Rattle.jfs_alike.specs.Alike.{AreAlike, MeanTheSame}
use Rattle.jfs_alike.proofs.Alike.{alike_law}
use Rattle.jfs_entered.specs.Marked.{AreLoggable, HasMarks, IsMapAfter}
use Rattle.jfs_entered.specs.Laws.{IsEnteredMap, AreBlocksAfter}
use Rattle.jfs_entered.proofs.Behind.{behind_law}
use Rattle.jfs_entered.proofs.Extents.{are_short}
use Rattle.jfs_entered.proofs.InUse.{inodes_law}
use Rattle.jfs_entered.proofs.Joined.{pages_law, volume_law}
use Rattle.jfs_entered.proofs.Used.{blocks_law}
use Rattle.jfs_call.specs.files.specs.Outcome.{reserved_by}
use Rattle.jfs_call.specs.files.specs.Written.{StartsWith, FreesOwn}
use Rattle.jfs_call.specs.files.specs.declared.outcome.FileOutcome.TheVariants.{Changed}
use Rattle.jfs_marks.specs.Marks.{AreMarked}
use Rattle.jfs_marks.specs.Marking.{AreMarksOf}
use Rattle.jfs_marks.specs.declared.marking.Marking.TheVariants.{Fits}
use Rattle.jfs_call.specs.volume.specs.Called.{JoinsWith}
use Rattle.jfs_call.specs.volume.specs.Data.{put_pages}
use Rattle.jfs_call.specs.volume.specs.MapsHome.{HoldsNone}
use Rattle.jfs_call.specs.volume.specs.Runs.{taken_in, freed_in, pages_freed}
use Rattle.jfs_call.specs.volume.specs.Stale.{changes_blocks, changes_inodes, stale_after}
use Rattle.jfs_call.specs.crash_core.specs.Image.{pages_after}
use Rattle.jfs_call.specs.volume.specs.data_steps.specs.After.{put_data, after_writes}
use Rattle.jfs_call.specs.volume.specs.data_steps.specs.declared.pages.DataPage.{DataPage}
use Rattle.jfs_call.specs.volume.specs.data_steps.specs.steps.specs.Call.{IsDone}
use Rattle.jfs_call.specs.halves.specs.Change.{SameStates}
use Rattle.jfs_call.specs.halves.specs.Marks.{map_after}
use Rattle.jfs_call.specs.halves.specs.Parts.{Parts}
use Rattle.jfs_call.specs.halves.specs.declared.freed.FreedPage.{FreedPage}
use Rattle.jfs_call.specs.plain.specs.Moves.{Same}
use Rattle.jfs_call.specs.plain.specs.Step.{outcome}
use Rattle.jfs_call.specs.plain.specs.declared.call.Entry.{Entry}
use Rattle.jfs_call.specs.plain.specs.declared.call.Request.{Request}
use Rattle.jfs_call.specs.plain.specs.declared.reply.Reply.TheVariants.{Done}
use Rattle.jfs_call.specs.volume.specs.records.specs.Limits.{IsLoggable}
use Rattle.jfs_call.specs.volume.specs.records.specs.Records.{noted, tx_of}
use Rattle.jfs_call.specs.volume.proofs.PartlyPut.{put_at}
use Rattle.jfs_call.specs.volume.proofs.Taken.{takes_runs}
use Rattle.jfs_call.specs.volume.proofs.Texts.{tx_of-noted}
use Rattle.jfs_served.specs.Holds.{blocks_at, volume_at, tree_at, room_at, IsBusyPage, MayServe, KeepsFiles}
use Rattle.jfs_served.specs.Follows.{moves}
use Rattle.jfs_served.specs.Step.{IsAsked, IsAnswer, TakesStep, causes_of}
use Rattle.jfs_served.specs.Laws.{ChangedLaw}
use Rattle.jfs_served.proofs.Entered.{idle, all_still_busy}
use Rattle.jfs_served.proofs.Files.{area_used, files_stay}
use Rattle.jfs_served.proofs.Given.{mid_size}
use Rattle.jfs_served.proofs.Keeps.{between}
use Rattle.jfs_served.proofs.Replies.{by_outcome}
use Rattle.jfs_served.proofs.Stale.{neither, no_runs, no_marks, same_groups}

-- an image with so many whole pages has their places
fits_whole : (blocks : ℕ) (image : Image) → AreWhole blocks image → blocks ≤ length image
fits_whole blocks image whole = by (cases_lt (length image) blocks)
  where
    by : (length image < blocks) ⊎ (blocks ≤ length image) → blocks ≤ length image
    by (inr l) = l
    by (inl l) = let none : 0 ≡ 4096 = sym (ap (λ (p : List ℕ). length p) (get_or_past image (length image) [] (omega arith))) ∙ whole (length image) l in absurd (omega (arith, none))

module _ (area : ℕ → ℕ) (log_pages : ℕ) (request : Request) (now : Moment) (tx : List Edit) (ds : List DataPage) (entry : Entry) (number : ℕ) (old mid new : Parts)
    (may : MayServe area log_pages old) (asked : IsAsked old mid) (answer : IsAnswer request now old mid (Changed tx ds)) (joins : JoinsWith ⊤ entry tx ds number mid new) where
  abbrev n : ℕ
  n = blocks_at old

  abbrev v : Volume
  v = volume_at area old

  abbrev AreMarksIn : ℕ → (ℕ → List ℕ) → Inodes → Type 0
  AreMarksIn k pages inodes = AreMarksOf k pages inodes tx ds (Fits joins.marks)

  -- ---- what is known of the transaction

  is : mid.map ≡ reserved_by tx old.map
  is = ap (λ (m : Maps). m.blocks) answer.maps.now_is

  size : length mid.map.states ≡ n
  size = mid_size tx old.map mid.map answer.maps.free is

  inodes : mid.inodes ≡ old.inodes
  inodes = ap (λ (p : Parts). p.inodes) asked.parts

  loggable : AreLoggable n tx joins.notes
  loggable = record { each = joins.each; all = subst (λ (k : ℕ). AllByRecursion (IsLoggable k) (noted tx joins.notes)) size joins.loggable }

  edits : tx_of (noted tx joins.notes) ≡ tx
  edits = tx_of-noted tx joins.notes joins.each

  done : IsDone n v (after_writes n ds tx v) (λ t. outcome (room_at area log_pages old) t request.call now)
  done = answer.follows (between area log_pages old may) area may.holds.consistent log_pages may.holds.limit

  starts : StartsWith n v request.call ds
  starts = answer.starts (between area log_pages old may) area may.holds.consistent log_pages may.holds.limit

  own : FreesOwn v.used tx
  own = answer.own (between area log_pages old may) area may.holds.consistent log_pages may.holds.limit

  whole : AreWhole old.blocks old.view
  whole = subst (λ (k : ℕ). AreWhole k old.view) (ap (λ (p : Parts). p.blocks) asked.parts) (subst (λ (image : Image). AreWhole mid.blocks image) (asked.view) (joins.whole tt))

  has : HasMarks n (page_of old.view) area old.map old.inodes ds tx joins.notes joins.marks
  has = record {
    before = may.holds.consistent;
    put = starts.consistent;
    after = done.consistent;
    whole = λ b l. whole b (let w = may.holds.within in omega (arith, l, w));
    put_whole = answer.contents.1;
    within = may.holds.places;
    bits = may.holds.bits;
    loggable = loggable;
    are = subst (λ (k : ℕ). AreMarksIn k (page_of old.view) old.inodes) size (subst (λ (image : Image). AreMarksIn (length mid.map.states) (page_of image) old.inodes) (asked.view)
        (subst (λ (m : Inodes). AreMarksIn (length mid.map.states) (page_of mid.view) m) inodes (joins.marks_are tt)));
  }

  entered : IsEnteredMap n (mid.appended + 1) tx joins.notes (taken_in tx) old.map mid.map new.map
  entered = record {
    loggable = loggable;
    reserved = record { free = answer.maps.free; states = ap (λ (m : Blocks). m.states) is };
    behind = behind_law tx joins.behind;
    list_is = λ b. takes_runs b tx;
    entered = subst (λ (es : List Edit). SameStates new.map (map_after (mid.appended + 1) es (put_state Free (taken_in es) mid.map))) edits joins.adds.map;
  }

  marked : AreMarked old.inodes joins.marks new.inodes
  marked = subst (λ (m : Inodes). AreMarked m joins.marks new.inodes) inodes joins.adds.inodes

  -- ---- the volume after it

  abbrev w : Volume
  w = volume_of (put_tx n tx (put_data ds (page_of old.view))) area new.map new.inodes

  after_is : w ≡ after_writes n ds tx v
  after_is = volume_law n (mid.appended + 1) (page_of old.view) area old.map mid.map new.map old.inodes new.inodes ds tx joins.notes joins.marks (taken_in tx) has entered marked

  map_is : AreBlocksAfter tx old.map new.map
  map_is = blocks_law n (mid.appended + 1) tx joins.notes (taken_in tx) old.map mid.map new.map entered

  inodes_are : IsMapAfter n old.inodes new.inodes tx (after_writes n ds tx v)
  inodes_are = inodes_law n (page_of old.view) area old.map old.inodes new.inodes ds tx joins.notes joins.marks has marked

  shown : (b : ℕ) → b < n → page_of new.view b ≡ put_tx n tx (put_data ds (page_of old.view)) b
  shown b l = ap (λ (image : Image). page_of image b) (joins.shows tt ∙ ap (λ (image : Image). pages_after 0 tx (put_pages ds image)) (asked.view))
      ∙ pages_law n tx joins.notes (put_pages ds old.view) b loggable l
      ∙ ap (λ (page : List ℕ). if nat_lt b n then apply_tx b tx page else page) (put_at ds old.view n b answer.contents.0 (let f = fits_whole old.blocks old.view whole in let h = may.holds.within in omega (arith, f, h)))

  -- a block of a fixed area is one of them
  used_below : (b : ℕ) → 0 < area b → b < n
  used_below b more = ltb-true b n (and_parts (nat_lt b n) (is_owned old.map b) (area_used (readers n) v may.holds.consistent.sound.agrees b more)).0

  alike : AreAlike w (volume_at area new)
  alike = record {
    extents = refl;
    area = λ b. refl;
    used = λ b. refl;
    in_use = λ i. refl;
    pages = λ b used zero. shown b (let l = ltb-true b (blocks_at new) (and_parts (nat_lt b (blocks_at new)) (is_owned new.map b) used).0 in let s = map_is.size in omega (arith, l, s));
  }

  means : MeanTheSame (readers n) w (volume_at area new)
  means = alike_law (readers n) w (volume_at area new) (subst (λ (x : Volume). IsConsistent (readers n) x) (sym after_is) done.consistent) alike

  tree : Same done.tree (tree_at area new)
  tree = subst (λ (k : ℕ). Same done.tree (tree_on (readers k) (volume_at area new))) (sym map_is.size)
      (let same : Same done.tree (tree_on (readers n) w) = subst (λ (x : Volume). Same done.tree (tree_on (readers n) x)) (sym after_is) done.same in
      record { nodes = λ k. means.tree.nodes k ∙ same.nodes k; bytes = λ k i. means.tree.bytes k i ∙ same.bytes k i })

  -- ---- between calls again

  files : (b : ℕ) → area b ≡ 0 → HoldsNone new.files b
  files b zero = subst (λ (f : MapFiles). HoldsNone f b) (sym (ap (λ (p : Parts). p.files) joins.adds.parts))
      (subst (λ (f : MapFiles). HoldsNone f b) (sym (ap (λ (p : Parts). p.files) asked.parts)) (may.holds.areas b zero))

  freed : AllByRecursion (IsBusyPage new.map) new.freed
  freed = subst (λ (fs : List FreedPage). AllByRecursion (IsBusyPage new.map) fs) (sym (ap (λ (p : Parts). p.freed) joins.adds.parts ∙ ap (λ (fs : List FreedPage). fs ++ pages_freed (mid.appended + 1) (tx_of (noted tx joins.notes))) (ap (λ (p : Parts). p.freed) asked.parts)
      ∙ ap (λ (es : List Edit). old.freed ++ pages_freed (mid.appended + 1) es) edits))
      (all_still_busy n (mid.appended + 1) tx old.map mid.map new.map (are_short n tx joins.notes loggable.each loggable.all) answer.maps.free is entered.entered own joins.gone old.freed may.holds.freed)

  -- ---- the maps' files

  files_are : new.files ≡ stale_after (taken_in tx) (freed_in tx) joins.marks old.files
  files_are = ap (λ (p : Parts). p.files) joins.adds.parts ∙ ap (λ (es : List Edit). stale_after (taken_in es) (freed_in es) joins.marks mid.files) edits ∙ ap (λ (p : Parts). stale_after (taken_in tx) (freed_in tx) joins.marks p.files) asked.parts

  block_map : new.files.blocks.stale ≡ false → (old.files.blocks.stale ≡ false) × ((b : ℕ) → is_owned new.map b ≡ is_owned old.map b)
  block_map fresh =
      let stale = neither (changes_blocks (taken_in tx) (freed_in tx)) old.files.blocks.stale (sym (ap (λ (f : MapFiles). f.blocks.stale) files_are) ∙ fresh) in
      let runs = no_runs (taken_in tx) (freed_in tx) stale.0 in
      (stale.1, λ b. ap is_owned_state (idle n (mid.appended + 1) tx old.map mid.map new.map (are_short n tx joins.notes loggable.each loggable.all) answer.maps.free is entered.entered runs.0 runs.1 map_is.size b))

  inode_map : new.files.inodes.stale ≡ false → (old.files.inodes.stale ≡ false) × (new.inodes ≡ old.inodes)
  inode_map fresh =
      let stale = neither (changes_inodes joins.marks) old.files.inodes.stale (sym (ap (λ (f : MapFiles). f.inodes.stale) files_are) ∙ fresh) in
      (stale.1, no_marks old.inodes joins.marks new.inodes stale.0 marked)

  known : KeepsFiles area old new
  known = files_stay area log_pages old new may.holds (record {
    pages = λ b more. shown b (used_below b more) ∙ done.areas b more;
    block_places = ap (λ (f : MapFiles). f.blocks.places) files_are;
    inode_places = ap (λ (f : MapFiles). f.inodes.places) files_are;
    size = map_is.size;
    extents = inodes_are.places;
    groups = same_groups old.inodes joins.marks new.inodes marked;
    block_map = block_map;
    inode_map = inode_map;
  })

  pub changed : TakesStep area log_pages request.call now Done old new
  changed = record {
    step = by_outcome (causes_of request.call old new) (tree_at area old) (tree_at area new) (room_at area log_pages old) request.call now Done (Ok (Done, done.tree)) done.outcome (refl, tree);
    follows = moves refl (record { tx = tx; put = ds; starts = starts; size = map_is.size; alike = subst (λ (x : Volume). AreAlike x (volume_at area new)) after_is alike });
    serves = record {
      holds = record {
        consistent = subst (λ (k : ℕ). IsConsistent (readers k) (volume_at area new)) (sym map_is.size) means.consistent;
        limit = ap (λ (p : Parts). p.limit) joins.adds.parts ∙ ap (λ (p : Parts). p.limit) asked.parts ∙ may.holds.limit;
        within = (let s = map_is.size in let h = may.holds.within in let b : new.blocks ≡ old.blocks = ap (λ (p : Parts). p.blocks) joins.adds.parts ∙ ap (λ (p : Parts). p.blocks) asked.parts in omega (arith, s, h, b));
        places = subst (λ (k : ℕ). PlacesWithin k new.inodes) (sym map_is.size) inodes_are.within;
        few = subst (λ (k : ℕ). k ≤ 2 ^ 27) (sym inodes_are.places) may.holds.few;
        bits = inodes_are.bits;
        freed = freed;
        areas = files;
      };
      none = map_is.rest may.none;
    };
    files = known;
  }

pub changed_law : ChangedLaw
changed_law = changed
