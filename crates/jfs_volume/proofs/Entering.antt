-- An entry with a transaction joins.
use Rattle.std.proofs.Common.{◌≡◌, ◌<◌, ◌+◌, ℕ, suc, Bool, true, if◌then◌else◌, List, [], ◌∷◌, ◌++◌, length, Option, None, refl, sym, ap, ◌∙◌, inr, subst, arith}
use Rattle.std.specs.List.{AllByRecursion}
use Rattle.std.proofs.lemmas.List.{append-nil, length-append}
use Rattle.jfs_bits.specs.declared.descriptor.Moment.{Moment}
use Rattle.jfs_disk.specs.Image.{Image, page_of}
use Rattle.jfs_disk.specs.Crash.{last_of}
use Rattle.jfs_ranges.specs.declared.edit.Edit.{Edit}
use Rattle.jfs_ranges.specs.Apply.{touches_tx}
use Rattle.jfs_bmap.specs.States.{Blocks, BlockState, Free, state_of, put_state, AreReserved}
use Rattle.jfs_imap.specs.Inodes.{Inodes}
use Rattle.jfs_pages.specs.Dirty.{dirty_of}
use Rattle.jfs_halves.specs.crash_core.specs.declared.block.Span.{Span}
use Rattle.jfs_halves.specs.crash_core.specs.Core.{Block}
use Rattle.jfs_halves.specs.crash_core.specs.Image.{pages_after}
use Rattle.jfs_halves.specs.crash_core.specs.Step.{dirtied}
use Rattle.jfs_halves.specs.crash_core.proofs.Bounds.{length-marked}
use Rattle.jfs_plain.specs.declared.call.Entry.{Entry}
use Rattle.jfs_records.specs.Records.{Noted, tx_of}
use Rattle.jfs_records.specs.Entries.{entry as item_of}
use Rattle.jfs_halves.specs.declared.freed.FreedPage.{FreedPage}
use Rattle.jfs_halves.specs.Entry.{Happened}
use Rattle.jfs_halves.specs.Marks.{map_after}
use Rattle.jfs_halves.specs.Half.{VolumeHalf, block_in}
use Rattle.jfs_halves.specs.Change.{Enters, MayEnter, SameStates}
use Rattle.jfs_halves.specs.Parts.{Parts, Text, StandsFor, IsTextOf, IsFreed, span_of}
use Rattle.jfs_halves.specs.Moves.{Moves}
use Rattle.jfs_marks.specs.declared.marks.InodeMarks.{InodeMarks}
use Rattle.jfs_volume.specs.Runs.{taken_in, pages_freed}
use Rattle.jfs_volume.specs.Append.{entered, unreserved, text_with, Adds, Stays}
use Rattle.jfs_volume.proofs.Stand.{one, none}
use Rattle.jfs_volume.proofs.Joining.{freed-later, entries-later}
use Rattle.jfs_volume.proofs.Editing.{low-marked, marked-at, marked-seen, span-touched}
use Rattle.jfs_volume.proofs.Taken.{taken_free, same_after, all_append, all_freed, last_of_list}
use Rattle.jfs_volume.proofs.Texts.{text_entered}

-- ---- it may enter

pub same_trans : (a b c : Blocks) → SameStates a b → SameStates b c → SameStates a c
same_trans a b c one two = record { states = one.states ∙ two.states; agsize = one.agsize ∙ two.agsize }

may_enter : (entry : Entry) (now : Moment) (noted : List Noted) (inodes : Inodes) (p : Parts) (half : VolumeHalf) → half.halted ≡ None → AreReserved p.map (taken_in (tx_of noted)) → SameStates (unreserved (tx_of noted) p).map half.shown.map → MayEnter half (entered entry now noted inodes half)
may_enter entry now noted inodes p half runs reserved same = record {
  runs = inr runs;
  pages = refl;
  map = record { states = refl; agsize = refl };
  takes_free = λ b t. ap (λ (states : List BlockState). state_of (record half.shown.map { states = states }) b) (sym same.states) ∙ taken_free p.map (tx_of noted) b reserved t;
  logged = λ e. absurd (cc);
}

-- ---- pages that it frees

freed_entered : (history : List Happened) (h : Happened) (freed : List FreedPage) → AllByRecursion (IsFreed history) freed → AllByRecursion (IsFreed (history ++ h ∷ [])) (freed ++ pages_freed (suc (length history)) (tx_of h.noted))
freed_entered history h freed all = all_append (IsFreed (history ++ h ∷ [])) freed (pages_freed (suc (length history)) (tx_of h.noted)) (freed-later history (h ∷ []) freed all)
    (all_freed (IsFreed (history ++ h ∷ [])) (suc (length history)) (tx_of h.noted) (λ page f. (length history, h, refl, last_of_list history h, f)))

-- ---- it joins

abbrev dirty_part : Block → Option Span
dirty_part block = block.dirty

-- what it does to the disk's pages and to those that are shown, where that is told
pub record IsEdited (seen asked : Bool) (tx : List Edit) (p q : Parts) : Type 0 where
  pub view : seen ≡ true → q.view ≡ pages_after 0 tx p.view
  pub disk : seen ≡ true → q.disk ≡ p.disk
  pub past : seen ≡ true → asked ≡ true → q.past ≡ p.past

pub enters_moves : (seen asked : Bool) (entry : Entry) (now : Moment) (noted : List Noted) (marks : InodeMarks) (p q : Parts) (half : VolumeHalf) → StandsFor seen asked (unreserved (tx_of noted) p) half → p.halted ≡ None → AreReserved p.map (taken_in (tx_of noted)) →
    ((m : ℕ) → touches_tx m (tx_of noted) ≡ true → m < p.blocks) → Adds entry noted marks p q → IsEdited seen asked (tx_of noted) p q →
    Moves seen asked (unreserved (tx_of noted) p) q half (Enters (entered entry now noted q.inodes half) ∷ [])
enters_moves seen asked entry now noted marks p q half s runs reserved within adds edited =
    let tx = tx_of noted in
    let h = entered entry now noted q.inodes half in
    let n = suc (length half.history) in
    let number : p.appended + 1 ≡ n = omega (arith, s.appended) in
    let longer : length (half.history ++ h ∷ []) ≡ n = length-append half.history (h ∷ []) ∙ omega arith in
    let changed = λ (m : ℕ). touches_tx m tx in
    let size = length-marked changed n 0 half.blocks in
    one seen asked (unreserved tx p) q half (Enters h) (may_enter entry now noted q.inodes p half (sym s.halted ∙ runs) reserved s.block_map)
    (record {
      appended = ap (λ (r : Parts). r.appended) adds.parts ∙ omega (arith, number, longer);
      taken = ap (λ (r : Parts). r.taken) adds.parts ∙ s.taken;
      told = ap (λ (r : Parts). r.told) adds.parts ∙ s.told;
      points = ap (λ (r : Parts). r.points) adds.parts ∙ s.points;
      known = ap (λ (r : Parts). r.known) adds.parts ∙ s.known;
      number = size ∙ s.number ∙ sym (ap (λ (r : Parts). r.blocks) adds.parts);
      halted = ap (λ (r : Parts). r.halted) adds.parts ∙ s.halted;
      dirty = λ m. ap span_of (adds.dirty m) ∙ span-touched (touches_tx m tx) m (p.appended + 1) (dirty_of p.dirty m) (block_in half m) (s.dirty m)
          ∙ ap (λ (k : ℕ). (if touches_tx m tx then dirtied k (block_in half m) else block_in half m).dirty) number
          ∙ ap dirty_part (sym (marked-at changed n half m (λ k e. omega (arith, within k e, s.number))));
      block_map = same_trans q.map (map_after (p.appended + 1) tx (unreserved tx p).map) (map_after n tx half.shown.map) adds.map
          (subst (λ (k : ℕ). SameStates (map_after k tx (unreserved tx p).map) (map_after n tx half.shown.map)) (sym number) (same_after n tx (unreserved tx p).map half.shown.map s.block_map));
      inodes = refl;
      handed = omega (arith, s.handed, longer);
      entries = ap (λ (r : Parts). r.entries) adds.parts ∙ ap (λ (es : List Entry). es ++ entry ∷ []) s.entries ∙ sym (entries-later half.handed half.history h s.handed);
      text = rw longer (subst (λ (t : Text). IsTextOf n (record half.waiting { items = half.waiting.items ++ item_of n noted ∷ [] }) t) (sym (ap (λ (r : Parts). r.text) adds.parts ∙ ap (λ (k : ℕ). text_with k noted p.text) number))
          (text_entered (length half.history) noted half.waiting p.text s.text));
      freed = subst (λ (fs : List FreedPage). AllByRecursion (IsFreed (half.history ++ h ∷ [])) fs) (sym (ap (λ (r : Parts). r.freed) adds.parts ∙ ap (λ (k : ℕ). p.freed ++ pages_freed k tx) number)) (freed_entered half.history h p.freed s.freed);
      view = λ t. edited.view t ∙ ap (λ (image : Image). pages_after 0 tx image) (s.view t);
      disk = λ t m k. ap (λ (image : Image). page_of image m) (edited.disk t) ∙ s.disk t m (omega (arith, k, size)) ∙ sym (marked-seen changed n half.blocks 0 m);
      low = λ t k. ap last_of (edited.past t k) ∙ s.low t k ∙ sym (low-marked changed n 0 half.blocks);
    })
    (λ t k. edited.past t k ∙ sym (append-nil p.past))

-- ---- it doesn't join

pub stays_moves : (seen asked : Bool) (tx : List Edit) (p q : Parts) (half : VolumeHalf) → StandsFor seen asked (unreserved tx p) half → Stays p q → (seen ≡ true → q.view ≡ p.view) → (seen ≡ true → q.disk ≡ p.disk) → (seen ≡ true → asked ≡ true → q.past ≡ p.past) →
    Moves seen asked (unreserved tx p) (unreserved tx q) half []
stays_moves seen asked tx p q half s stays view disk past =
    none seen asked (unreserved tx p) (unreserved tx q) half
    (record {
      appended = ap (λ (r : Parts). r.appended) stays.parts ∙ s.appended;
      taken = ap (λ (r : Parts). r.taken) stays.parts ∙ s.taken;
      told = ap (λ (r : Parts). r.told) stays.parts ∙ s.told;
      points = ap (λ (r : Parts). r.points) stays.parts ∙ s.points;
      known = ap (λ (r : Parts). r.known) stays.parts ∙ s.known;
      number = s.number ∙ sym (ap (λ (r : Parts). r.blocks) stays.parts);
      halted = ap (λ (r : Parts). r.halted) stays.parts ∙ s.halted;
      dirty = λ m. ap (λ (r : Parts). span_of (dirty_of r.dirty m)) stays.parts ∙ s.dirty m;
      block_map = same_trans (unreserved tx q).map (unreserved tx p).map half.shown.map (record { states = ap (λ (states : List BlockState). (put_state Free (taken_in tx) (record q.map { states = states })).states) stays.map.states; agsize = stays.map.agsize }) s.block_map;
      inodes = ap (λ (r : Parts). r.inodes) stays.parts ∙ s.inodes;
      handed = s.handed;
      entries = ap (λ (r : Parts). r.entries) stays.parts ∙ s.entries;
      text = subst (λ (t : Text). IsTextOf (length half.history) half.waiting t) (sym (ap (λ (r : Parts). r.text) stays.parts)) s.text;
      freed = subst (λ (fs : List FreedPage). AllByRecursion (IsFreed half.history) fs) (sym (ap (λ (r : Parts). r.freed) stays.parts)) s.freed;
      view = λ t. view t ∙ s.view t;
      disk = λ t m h. ap (λ (image : Image). page_of image m) (disk t) ∙ s.disk t m h;
      low = λ t k. ap last_of (past t k) ∙ s.low t k;
    })
    past
