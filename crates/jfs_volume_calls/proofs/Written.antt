-- A group that is taken, and then written or not.
use Rattle.std.proofs.Common.{◌≡◌, ◌+◌, ◌++◌, ℕ, Bool, true, false, List, [], length, Option, Some, None, refl, sym, ap, ◌∙◌, subst, arith, append_assoc}
use Rattle.std.proofs.lemmas.Bool.{eq-eqb, ne_eqb}
use Rattle.std.proofs.lemmas.List.{length-append}
use Rattle.std.proofs.lemmas.Grind.{flat_map-append}
use Rattle.jfs_disk.specs.Image.{Image}
use Rattle.jfs_disk.specs.Crash.{last_of}
use Rattle.jfs_disk.specs.Moment.{IsResting}
use Rattle.jfs_disk.specs.declared.disk.Fault.{Fault}
use Rattle.jfs_logfmt.specs.Written.{text_of}
use Rattle.jfs_logpages.specs.declared.last.Last.{Last}
use Rattle.jfs_logpages.specs.Group.{Holds, position_of}
use Rattle.jfs_logpages.specs.Records.{log_text}
use Rattle.jfs_volume.specs.records.specs.Entries.{log_records, text_size}
use Rattle.jfs_volume.specs.records.proofs.ReadBack.{length-items, text_size-append, records-append}
use Rattle.jfs_volume.specs.crash_core.specs.Step.{halted_by}
use Rattle.jfs_volume.specs.halves.specs.Half.{LogHalf, Halves, is_open}
use Rattle.jfs_volume.specs.halves.specs.Change.{Takes}
use Rattle.jfs_volume.specs.halves.specs.Both.{Changes, GroupIsWritten, GroupFails, changed}
use Rattle.jfs_volume.specs.halves.specs.Log.{LogParts, HoldsItems, LogStandsFor}
use Rattle.jfs_volume_calls.specs.Together.{NoGroup}

-- ---- no group is open, and then one is

pub not_open : (both : Halves) → NoGroup both → is_open both ≡ false
not_open both none = rw (none.durable, none.stable, none.points, eq-eqb both.volume.taken both.volume.taken refl, eq-eqb (length both.volume.points) (length both.volume.points) refl) refl

abbrev taking : Halves → Halves
taking both = changed both (Changes Takes)

-- an entry was taken
pub opened_by_entry : (both : Halves) → NoGroup both → (both.volume.taken ≡ length both.volume.history → ⊥) → is_open (taking both) ≡ true
opened_by_entry both none other = rw (none.durable, ne_eqb both.volume.taken (length both.volume.history) other) refl

-- the log's text is as long as its place says, before the group's
pub takes_log : (seen asked : Bool) (l : LogParts) (both : Halves) → LogStandsFor seen asked l both → NoGroup both → LogStandsFor seen asked l (taking both)
takes_log seen asked l both s none = record {
  durable = s.durable;
  halted = s.halted;
  ring = s.ring;
  place = λ runs. let before = s.place runs in omega (arith, before, sized, ap text_size none.group);
  items = λ t runs. let h = s.items t runs in record { front = h.front; begins = h.begins; ends = h.ends; holds = h.holds };
  resting = s.resting;
}
  where
    sized : text_size (both.log.group ++ both.volume.waiting.items) ≡ text_size both.log.group + text_size both.volume.waiting.items
    sized = text_size-append both.log.group both.volume.waiting.items

-- ---- it is written

-- what a write of a group's text does to a log side
pub record IsGroupWritten (seen asked : Bool) (bytes : List ℕ) (last : ℕ) (l m : LogParts) : Type 0 where
  pub ring : m.last.ring ≡ l.last.ring
  pub position : position_of m.last ≡ position_of l.last + length bytes
  pub durable : m.durable ≡ last
  pub halted : m.halted ≡ None
  pub holds : seen ≡ true → (before ends : List ℕ) → Holds l.last before ends l.image → (later : List ℕ) × Holds m.last (before ++ bytes) later m.image
  pub resting : asked ≡ true → IsResting (last_of l.past) → IsResting (last_of m.past)

written_items : (ring : ℕ) (log : LogHalf) (l m : Last) (before after : Image) (bytes : List ℕ) → HoldsItems ring log l before → bytes ≡ log_text (log_records ring (position_of l) log.group) →
    ((front ends : List ℕ) → Holds l front ends before → (later : List ℕ) × Holds m (front ++ bytes) later after) → (durable stable : ℕ) → HoldsItems ring (record log { durable = durable; stable = stable; items = log.items ++ log.group; group = [] }) m after
written_items ring log l m before after bytes h is write durable stable =
    let w = write (h.front ++ log_text (log_records ring log.start log.items)) h.ends h.holds in
    record {
      front = h.front;
      begins = h.begins;
      ends = w.0;
      holds = subst (λ (text : List ℕ). Holds m text w.0 after) same w.1;
    }
  where
    place : position_of l ≡ log.start + text_size log.items
    place = omega (arith, h.holds.page.size, length-append h.front (log_text (log_records ring log.start log.items)), h.begins, length-items ring log.start log.items)

    same : (h.front ++ log_text (log_records ring log.start log.items)) ++ bytes ≡ h.front ++ log_text (log_records ring log.start (log.items ++ log.group))
    same =
        append_assoc h.front (log_text (log_records ring log.start log.items)) bytes
        ∙ ap (λ (text : List ℕ). h.front ++ text)
        (ap (λ (text : List ℕ). log_text (log_records ring log.start log.items) ++ text) (is ∙ ap (λ (at : ℕ). log_text (log_records ring at log.group)) place)
        ∙ sym (flat_map-append text_of (log_records ring log.start log.items) (log_records ring (log.start + text_size log.items) log.group))
        ∙ ap log_text (sym (records-append ring log.start log.items log.group)))

pub written_stands : (seen asked : Bool) (bytes : List ℕ) (last : ℕ) (l m : LogParts) (both : Halves) → LogStandsFor seen asked l both → both.log.log_halted ≡ None → IsGroupWritten seen asked bytes last l m → last ≡ both.volume.taken →
    bytes ≡ log_text (log_records both.volume.waiting.ring (position_of l.last) both.log.group) → LogStandsFor seen asked m (changed both GroupIsWritten)
written_stands seen asked bytes last l m both s runs w reached is = record {
  durable = w.durable ∙ reached;
  halted = w.halted ∙ sym runs;
  ring = w.ring ∙ s.ring;
  place = λ _. let before = s.place runs in omega (arith, before, w.position, ap (λ (text : List ℕ). length text) is, length-items both.volume.waiting.ring (position_of l.last) both.log.group);
  items = λ t _. written_items both.volume.waiting.ring both.log l.last m.last l.image m.image bytes (s.items t runs) is (w.holds t) both.volume.taken both.log.points_taken;
  resting = λ k _. w.resting k (s.resting k runs);
}

-- ---- it isn't

pub record IsGroupLost (fault : Fault) (l m : LogParts) : Type 0 where
  pub ring : m.last.ring ≡ l.last.ring
  pub durable : m.durable ≡ l.durable
  pub halted : m.halted ≡ Some fault

never_none : (fault : Fault) (halted : Option Fault) → halted_by fault halted ≡ None → ⊥
never_none fault None e = absurd (cc)
never_none fault (Some f) e = absurd (cc)

pub lost_stands : (seen asked : Bool) (fault : Fault) (l m : LogParts) (both : Halves) → LogStandsFor seen asked l both → both.log.log_halted ≡ None → IsGroupLost fault l m → LogStandsFor seen asked m (changed both (GroupFails fault))
lost_stands seen asked fault l m both s runs lost = record {
  durable = lost.durable ∙ s.durable;
  halted = lost.halted ∙ sym (ap (halted_by fault) runs);
  ring = lost.ring ∙ s.ring;
  place = λ e. absurd (never_none fault both.log.log_halted e);
  items = λ t e. absurd (never_none fault both.log.log_halted e);
  resting = λ k e. absurd (never_none fault both.log.log_halted e);
}
