-- Changes of counts and texts alone.
use Rattle.std.proofs.Common.{◌≡◌, ◌≤◌, ◌⊎◌, ◌+◌, ℕ, Bool, true, false, inl, inr, nat_lt, List, [], ◌∷◌, length, map, refl, sym, ap, arith}
use Rattle.std.proofs.lemmas.Bool.{cases_Bool}
use Rattle.std.proofs.lemmas.List.{append-nil, drop_all}
use Rattle.std.specs.List.{AllByRecursion, filter}
use Rattle.jfs_disk.specs.declared.disk.Fault.{Fault}
use Rattle.jfs_bmap.specs.States.{blocks_settled}
use Rattle.jfs_halves.specs.crash_core.specs.Step.{halted_by}
use Rattle.jfs_records.proofs.ReadBack.{length-items}
use Rattle.jfs_halves.specs.Entry.{Happened, entry_of}
use Rattle.jfs_halves.specs.Half.{VolumeHalf, Waiting, text_end}
use Rattle.jfs_halves.specs.declared.freed.FreedPage.{FreedPage}
use Rattle.jfs_halves.specs.Parts.{Parts, Text, StandsFor, IsTextOf, IsFreed}
use Rattle.jfs_halves.specs.Change.{Change, Takes, Tells, HandsOut, LogStops, after}
use Rattle.jfs_halves.specs.Moves.{Moves}
use Rattle.jfs_volume.specs.Told.{still_freed}
use Rattle.jfs_volume.proofs.Stand.{one, same_settled}

-- a text that is taken: nothing waits behind it
abbrev pub text_taken : Text → Text
text_taken text = record text { place = text.place + length text.bytes; bytes = []; ends = [] }

taken_text : (n : ℕ) (w : Waiting) (text : Text) → IsTextOf n w text → IsTextOf n (record w { place = text_end w; items = [] }) (text_taken text)
taken_text n w text is = record {
  ring = is.ring;
  place = omega (arith, is.place, ap (λ (bytes : List ℕ). length bytes) is.bytes, length-items w.ring w.place w.items);
  sync = is.sync;
  bytes = refl;
  ends = refl;
  last = is.last;
}

pub takes_moves : (seen asked : Bool) (p : Parts) (half : VolumeHalf) → StandsFor seen asked p half → Moves seen asked p (record p { taken = p.appended; text = text_taken p.text }) half (Takes ∷ [])
takes_moves seen asked p half s =
    one seen asked p (record p { taken = p.appended; text = text_taken p.text }) half Takes tt
    (record {
      appended = s.appended;
      taken = s.appended;
      told = s.told;
      points = s.points;
      known = s.known;
      number = s.number;
      halted = s.halted;
      dirty = s.dirty;
      block_map = s.block_map;
      inodes = s.inodes;
      handed = s.handed;
      entries = s.entries;
      text = taken_text (length half.history) half.waiting p.text s.text;
      freed = s.freed;
      view = s.view;
      disk = s.disk;
      low = s.low;
    })
    (λ t k. sym (append-nil p.past))

pub tells_moves : (seen asked : Bool) (p : Parts) (half : VolumeHalf) (n : ℕ) → StandsFor seen asked p half → p.told ≤ n → n ≤ p.taken → Moves seen asked p (record p { told = n; map = blocks_settled n p.map }) half (Tells n ∷ [])
tells_moves seen asked p half n s later taken =
    one seen asked p (record p { told = n; map = blocks_settled n p.map }) half (Tells n) (omega (arith, later, s.told), omega (arith, taken, s.taken))
    (record {
      appended = s.appended;
      taken = s.taken;
      told = refl;
      points = s.points;
      known = s.known;
      number = s.number;
      halted = s.halted;
      dirty = s.dirty;
      block_map = same_settled n p.map half.shown.map s.block_map;
      inodes = s.inodes;
      handed = s.handed;
      entries = s.entries;
      text = s.text;
      freed = s.freed;
      view = s.view;
      disk = s.disk;
      low = s.low;
    })
    (λ t k. sym (append-nil p.past))

pub hands_moves : (seen asked : Bool) (p : Parts) (half : VolumeHalf) → StandsFor seen asked p half → Moves seen asked p (record p { entries = [] }) half (HandsOut ∷ [])
hands_moves seen asked p half s =
    one seen asked p (record p { entries = [] }) half HandsOut tt
    (record {
      appended = s.appended;
      taken = s.taken;
      told = s.told;
      points = s.points;
      known = s.known;
      number = s.number;
      halted = s.halted;
      dirty = s.dirty;
      block_map = s.block_map;
      inodes = s.inodes;
      handed = omega arith;
      entries = ap (λ (hs : List Happened). map entry_of hs) (sym (drop_all (length half.history) half.history (omega arith)));
      text = s.text;
      freed = s.freed;
      view = s.view;
      disk = s.disk;
      low = s.low;
    })
    (λ t k. sym (append-nil p.past))

pub log_stops_moves : (seen asked : Bool) (p : Parts) (half : VolumeHalf) (fault : Fault) → StandsFor seen asked p half → Moves seen asked p (record p { halted = halted_by fault p.halted }) half (LogStops fault ∷ [])
log_stops_moves seen asked p half fault s =
    one seen asked p (record p { halted = halted_by fault p.halted }) half (LogStops fault) tt
    (record {
      appended = s.appended;
      taken = s.taken;
      told = s.told;
      points = s.points;
      known = s.known;
      number = s.number;
      halted = ap (halted_by fault) s.halted;
      dirty = s.dirty;
      block_map = s.block_map;
      inodes = s.inodes;
      handed = s.handed;
      entries = s.entries;
      text = s.text;
      freed = s.freed;
      view = s.view;
      disk = s.disk;
      low = s.low;
    })
    (λ t k. sym (append-nil p.past))

-- ---- freed pages that aren't kept any more

all-filter : {A : Type 0} (P : A → Type 0) (test : A → Bool) (xs : List A) → AllByRecursion P xs → AllByRecursion P (filter test xs)
all-filter P test [] all = tt
all-filter P test (x ∷ xs) all = at (cases_Bool (test x)) (all-filter P test xs all.1)
  where
    at : (test x ≡ true) ⊎ (test x ≡ false) → AllByRecursion P (filter test xs) → AllByRecursion P (filter test (x ∷ xs))
    at (inl e) rest = rw e (all.0, rest)
    at (inr e) rest = rw e rest

fewer_stands : (seen asked : Bool) (p : Parts) (half : VolumeHalf) (n : ℕ) → StandsFor seen asked p half → StandsFor seen asked (record p { freed = still_freed n p.freed }) half
fewer_stands seen asked p half n s = record {
  appended = s.appended;
  taken = s.taken;
  told = s.told;
  points = s.points;
  known = s.known;
  number = s.number;
  halted = s.halted;
  dirty = s.dirty;
  block_map = s.block_map;
  inodes = s.inodes;
  handed = s.handed;
  entries = s.entries;
  text = s.text;
  freed = all-filter (IsFreed half.history) (λ (f : FreedPage). nat_lt n f.by_entry) p.freed s.freed;
  view = s.view;
  disk = s.disk;
  low = s.low;
}

pub freed_moves : (seen asked : Bool) (old p : Parts) (half : VolumeHalf) (n : ℕ) (list : List Change) → Moves seen asked old p half list → Moves seen asked old (record p { freed = still_freed n p.freed }) half list
freed_moves seen asked old p half n list m = record { fit = m.fit; stands = fewer_stands seen asked p (after half list) n m.stands; past = m.past }
