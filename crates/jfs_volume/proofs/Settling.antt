-- Redo begins behind all entries, and the SYNCPT that says so is taken.
use Rattle.std.proofs.Common.{◌≡◌, ◌+◌, ℕ, zero, suc, Bool, List, [], ◌∷◌, ◌++◌, length, map, get_or, None, refl, sym, ap, ◌∙◌, arith}
use Rattle.std.proofs.lemmas.List.{append-nil, length-append}
use Rattle.jfs_pages.specs.Dirty.{dirty_of}
use Rattle.jfs_halves.specs.crash_core.specs.Core.{Block, no_block}
use Rattle.jfs_halves.specs.crash_core.specs.Step.{synced}
use Rattle.jfs_logpages.specs.Records.{ends_of}
use Rattle.jfs_records.specs.Entries.{Item, entry, point, text_size, log_records}
use Rattle.jfs_records.proofs.ReadBack.{length-items, text_size-append}
use Rattle.jfs_halves.specs.Half.{VolumeHalf, Waiting, all_synced}
use Rattle.jfs_halves.specs.Parts.{Parts, Text, StandsFor, IsTextOf, span_of}
use Rattle.jfs_halves.specs.Change.{Points, Takes, Knows, MayPoint}
use Rattle.jfs_halves.specs.Moves.{Moves}
use Rattle.jfs_volume.specs.Settle.{with_point}
use Rattle.jfs_volume.proofs.Stand.{one}

-- a SYNCPT that was taken at once: nothing waits, and the text ends 36 bytes later
point_text : (n : ℕ) (w : Waiting) (text : Text) → IsTextOf n w text → text.bytes ≡ [] →
    IsTextOf n (record w { place = w.place + text_size (w.items ++ point 0 ∷ []); items = []; sync = w.place + text_size w.items }) (record text { place = text.place + 36; sync = text.place })
point_text n w text is empty =
    let none : text_size w.items ≡ 0 = sym (length-items w.ring w.place w.items) ∙ ap (λ (b : List ℕ). length b) (sym is.bytes ∙ empty) in
    record {
      ring = is.ring;
      place = omega (arith, is.place, none, text_size-append w.items (point 0 ∷ []));
      sync = omega (arith, is.place, none);
      bytes = empty;
      ends = is.ends ∙ nothing w.ring w.place w.items none;
      last = is.last;
    }
  where
    nothing : (ring at : ℕ) (items : List Item) → text_size items ≡ 0 → ends_of 0 (log_records ring at items) ≡ []
    nothing ring at [] e = refl
    nothing ring at (entry n tx ∷ items) e = absurd (omega (arith, e))
    nothing ring at (point s ∷ items) e = absurd (omega (arith, e))

pub points_moves : (seen asked : Bool) (p : Parts) (half : VolumeHalf) → StandsFor seen asked p half → p.text.bytes ≡ [] → MayPoint half → Moves seen asked p (with_point p) half (Points ∷ Takes ∷ [])
points_moves seen asked p half s empty may = record {
  fit = (may, (tt, tt));
  stands = record {
    appended = s.appended;
    taken = s.appended;
    told = s.told;
    points = omega (arith, s.points, length-append half.points (length half.history ∷ []));
    known = s.known;
    number = s.number;
    halted = s.halted;
    dirty = s.dirty;
    block_map = s.block_map;
    inodes = s.inodes;
    handed = s.handed;
    entries = s.entries;
    text = point_text (length half.history) half.waiting p.text s.text empty;
    freed = s.freed;
    view = s.view;
    disk = s.disk;
    low = s.low;
  };
  past = λ t k. sym (append-nil p.past);
}

pub knows_moves : (seen asked : Bool) (p : Parts) (half : VolumeHalf) → StandsFor seen asked p half → Moves seen asked p (record p { known = p.points }) half (Knows ∷ [])
knows_moves seen asked p half s =
    one seen asked p (record p { known = p.points }) half Knows tt
    (record {
      appended = s.appended;
      taken = s.taken;
      told = s.told;
      points = s.points;
      known = s.points;
      number = s.number;
      halted = s.halted;
      dirty = s.dirty;
      block_map = s.block_map;
      inodes = s.inodes;
      handed = s.handed;
      entries = s.entries;
      text = s.text;
      freed = s.freed;
      view = s.view;
      disk = s.disk;
      low = s.low;
    })
    (λ t k. sym (append-nil p.past))

-- ---- after a sync no page is unsynced; where none is dirty, redo may begin behind all entries

clean_block : (blocks : List Block) (m : ℕ) → ((get_or (map synced blocks) m no_block).unsynced ≡ None) × ((get_or (map synced blocks) m no_block).dirty ≡ (get_or blocks m no_block).dirty)
clean_block [] m = (refl, refl)
clean_block (block ∷ blocks) zero = (refl, refl)
clean_block (block ∷ blocks) (suc m) = clean_block blocks m

pub may_point : (seen asked : Bool) (p : Parts) (half : VolumeHalf) → StandsFor seen asked p (all_synced half) → p.told ≡ p.appended → ((q : ℕ) → dirty_of p.dirty q ≡ None) → MayPoint (all_synced half)
may_point seen asked p half s told clean = (
  sym s.told ∙ told ∙ s.appended,
  λ q h. (sym (s.dirty q) ∙ ap span_of (clean q), (clean_block half.blocks q).0),
)
