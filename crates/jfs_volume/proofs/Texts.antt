-- The text with the records of one more entry.
use Rattle.std.proofs.Common.{◌≡◌, ◌<◌, ◌≤◌, ◌⊎◌, ◌+◌, ◌-◌, ◌^◌, ℕ, suc, true, false, nat_le, min, List, [], ◌∷◌, ◌++◌, length, map, refl, sym, ap, ◌∙◌, inl, inr, arith}
use Rattle.std.specs.List.{AllByRecursion}
use Rattle.std.proofs.lemmas.Bool.{cases_lt, and_parts, leb-true, lt-leb}
use Rattle.std.proofs.lemmas.List.{append-nil, length-append}
use Rattle.std.proofs.lemmas.Grind.{flat_map-append}
use Rattle.jfs_ranges.specs.declared.edit.Edit.{Edit}
use Rattle.jfs_logfmt.specs.declared.log_record.Record.{Record}
use Rattle.jfs_logfmt.specs.Written.{Fits, text_of}
use Rattle.jfs_logpages.specs.Group.{pages_of, room_of}
use Rattle.jfs_logpages.specs.Ring.{ends_with}
use Rattle.jfs_logpages.specs.Records.{sizes_of, log_text, ends_of, AreWhole}
use Rattle.jfs_logpages.proofs.RecordEnds.{length-log, ends-append, ends-shifted}
use Rattle.jfs_records.specs.declared.note.Note.{Note}
use Rattle.jfs_records.specs.Records.{Noted, noted, records_of, tx_of}
use Rattle.jfs_records.specs.Entries.{entry as item_of, item_records, log_records, text_size}
use Rattle.jfs_records.specs.Sizes.{entry_size}
use Rattle.jfs_records.specs.Limits.{IsLoggable}
use Rattle.jfs_records.proofs.ReadBack.{length-items, length-item, records-append}
use Rattle.jfs_records.proofs.Sizes.{entry_sized}
use Rattle.jfs_records.proofs.Whole.{whole_records}
use Rattle.jfs_halves.specs.Half.{Waiting}
use Rattle.jfs_halves.specs.Parts.{Text, IsTextOf}
use Rattle.jfs_volume.specs.Room.{has_room}
use Rattle.jfs_volume.specs.Append.{text_with}

-- ---- the text

pub text_entered : (n : ℕ) (noted : List Noted) (w : Waiting) (text : Text) → IsTextOf n w text → IsTextOf (suc n) (record w { items = w.items ++ item_of (suc n) noted ∷ [] }) (text_with (suc n) noted text)
text_entered n noted w text is = record {
  ring = is.ring;
  place = is.place;
  sync = is.sync;
  bytes = ap (λ (b : List ℕ). b ++ log_text new) is.bytes ∙ sym (flat_map-append text_of before new) ∙ ap log_text (sym whole);
  ends = rw is.ends (ap (λ (l : List ℕ). ends_of 0 before ++ l) shift ∙ sym (ends-append 0 before new) ∙ ap (ends_of 0) (sym whole));
  last = refl;
}
  where
    before : List Record
    before = log_records w.ring w.place w.items

    new : List Record
    new = item_records text.ring (text.place + length text.bytes) (item_of (suc n) noted)

    size : length text.bytes ≡ text_size w.items
    size = ap (λ (b : List ℕ). length b) is.bytes ∙ length-items w.ring w.place w.items

    place : text.place + length text.bytes ≡ w.place + text_size w.items
    place = omega (arith, is.place, size)

    one : log_records w.ring (w.place + text_size w.items) (item_of (suc n) noted ∷ []) ≡ new
    one = append-nil (item_records w.ring (w.place + text_size w.items) (item_of (suc n) noted)) ∙ ap (λ (at : ℕ). item_records w.ring at (item_of (suc n) noted)) (sym place) ∙ ap (λ (r : ℕ). item_records r (text.place + length text.bytes) (item_of (suc n) noted)) (sym is.ring)

    whole : log_records w.ring w.place (w.items ++ item_of (suc n) noted ∷ []) ≡ before ++ new
    whole = records-append w.ring w.place w.items (item_of (suc n) noted ∷ []) ∙ ap (λ (l : List Record). before ++ l) one

    shift : map (λ (e : ℕ). length text.bytes + e) (ends_of 0 new) ≡ ends_of (0 + sizes_of before) new
    shift = ends-shifted (length text.bytes) 0 new ∙ ap (λ (k : ℕ). ends_of k new) (omega (arith, ap (λ (b : List ℕ). length b) is.bytes, length-log before))

-- the text as the code makes it
pub text_made : (n : ℕ) (noted : List Noted) (a b : Text) (bytes ends : List ℕ) (last : ℕ) → a ≡ b → bytes ≡ log_text (item_records b.ring (b.place + length b.bytes) (item_of n noted)) →
    ends ≡ ends_of 0 (item_records b.ring (b.place + length b.bytes) (item_of n noted)) → last ≡ n → record a { bytes = a.bytes ++ bytes; ends = ends_with (length a.bytes) a.ends ends; last = last } ≡ text_with n noted b
text_made n noted a b bytes ends last same is are reached = rw (same, is, are, reached) refl

-- ---- room

-- a text that has room is small, and so is what is measured of it up to the greatest number
pub room_fits : (text : Text) (size : ℕ) → text.ring < 2 ^ 16 → has_room text (min size (2 ^ 64 - 1)) ≡ true → (size < 2 ^ 26) × (has_room text size ≡ true)
room_fits text size ring room =
    let first = leb-true (pages_of (length text.bytes + min size (2 ^ 64 - 1))) (room_of text.ring) (and_parts (nat_le (pages_of (length text.bytes + min size (2 ^ 64 - 1))) (room_of text.ring)) _ room).0 in
    let small : min size (2 ^ 64 - 1) < 2 ^ 26 = omega (arith, first, ring) in
    let same : min size (2 ^ 64 - 1) ≡ size = omega (arith, small) in
    (omega (arith, same, small), ap (has_room text) (sym same) ∙ room)

no_room : (text : Text) (size : ℕ) → text.ring < 2 ^ 16 → 2 ^ 64 - 1 ≤ size → has_room text size ≡ false
no_room text size ring h = rw (lt-leb (pages_of (length text.bytes + size)) (room_of text.ring) (omega (arith, ring, h))) refl

pub room_same : (text : Text) (size : ℕ) → text.ring < 2 ^ 16 → has_room text (min size (2 ^ 64 - 1)) ≡ has_room text size
room_same text size ring = at (cases_lt size (2 ^ 64))
  where
    at : (size < 2 ^ 64) ⊎ (2 ^ 64 ≤ size) → has_room text (min size (2 ^ 64 - 1)) ≡ has_room text size
    at (inl h) = let same : min size (2 ^ 64 - 1) ≡ size = omega (arith, h) in ap (has_room text) same
    at (inr h) = no_room text (min size (2 ^ 64 - 1)) ring (omega (arith, h)) ∙ sym (no_room text size ring (omega (arith, h)))

-- ---- an entry's records

pub tx_of-noted : (edits : List Edit) (notes : List Note) → length edits ≡ length notes → tx_of (noted edits notes) ≡ edits
tx_of-noted [] notes same = refl
tx_of-noted (e ∷ es) [] same = absurd (omega (arith, same))
tx_of-noted (e ∷ es) (n ∷ ns) same = ap (λ (l : List Edit). e ∷ l) (tx_of-noted es ns (omega (arith, same)))

each_fits : (blocks : ℕ) (rs : List Record) → AreWhole blocks rs → AllByRecursion Fits rs
each_fits blocks [] all = tt
each_fits blocks (r ∷ rs) all = (all.0.fits, each_fits blocks rs all.1)

pub all_fit : (blocks : ℕ) (tx : List Noted) → blocks ≤ 2 ^ 23 → AllByRecursion (IsLoggable blocks) tx → AllByRecursion Fits (records_of tx)
all_fit blocks tx most all = each_fits blocks (records_of tx) (whole_records blocks most tx all)

pub draft_size : (ring at n : ℕ) (tx : List Noted) → length (log_text (item_records ring at (item_of n tx))) ≡ entry_size tx
draft_size ring at n tx = length-item ring at (item_of n tx) ∙ entry_sized n tx
