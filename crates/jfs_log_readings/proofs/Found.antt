-- A log that commits a window reads.
use Rattle.std.proofs.Common.{◌≡◌, ◌≤◌, ◌<◌, ◌+◌, ◌-◌, ◌*◌, ◌/◌, ◌%◌, ◌^◌, ℕ, List, [], ◌∷◌, length, map, reverse, refl, sym, ◌∙◌, arith}
use Rattle.std.specs.Global.{Vec}
use Rattle.std.proofs.lemmas.List.{length-map, length-reverse, reverse-reverse}
use denote.RawPtr.{null_ptr}
use Rattle.byteorder.specs.Numbers.{little_from-lt}
use Rattle.jfs_bits.specs.Field.{AreBytes, field_of}
use Rattle.jfs_disk.specs.Image.{Image, page_of}
use Rattle.jfs_records.specs.logpages.specs.Back.{Met, AreMet}
use Rattle.jfs_records.specs.logpages.specs.ReadLog.{HasSuper, label_of, IsReadAs}
use Rattle.jfs_records.specs.logpages.specs.Fresh.{own_label}
use Rattle.jfs_records.specs.logpages.specs.Ring.{slot, head_number}
use Rattle.jfs_records.specs.logpages.specs.declared.ring_text.RingText.{RingText}
use Rattle.jfs_halves.specs.Half.{Halves}
use Rattle.jfs_log_window.specs.Window.{CommitsWindow}
use Rattle.jfs_log_readings.specs.Readings.{FoundLaw}
use Rattle.jfs_log_readings.proofs.Readings.{half}

-- ---- numbers

-- there are no more records than bytes
met_most : (blocks : ℕ) (text : List ℕ) (from : ℕ) (ms : List Met) → AreMet blocks text from ms → from + length ms ≤ length text
met_most blocks text from [] met = omega (arith, met)
met_most blocks text from (m ∷ ms) met =
    let first = met.0 in
    let begins = met.1.begins in
    let rest = met_most blocks text m.end ms met.2 in
    omega (arith, first, begins, rest)

-- a page of bytes has a number of 32 bits
number_small : (page : List ℕ) → AreBytes page → head_number page < 2 ^ 32
unfolding field_of
number_small page bytes = little_from-lt 0 4 page bytes

module _ (pages blocks : ℕ) (log : Image) (both : Halves) (some : 2 ≤ pages - 2) (most : pages - 2 < 2 ^ 16) (bytes : (p : ℕ) → AreBytes (page_of log p)) (w : CommitsWindow (pages - 2) blocks log both) where
  abbrev ring : ℕ
  ring = pages - 2

  abbrev found : List Met
  found = w.m ∷ w.ms

  early : w.first < 2 ^ 40
  early =
      let q = w.reads.last in
      let number = (w.reads.run.each q (omega arith) (omega (arith, some))).0 in
      let small = number_small (slot ring log q) (bytes (2 + q % ring)) in
      let start = w.reads.start in
      omega (arith, number, small, start)

  text_size : length w.text ≤ 4080 * (ring / 2)
  text_size = half ring blocks log both w

  few : length found ≤ length w.text
  few =
      let begins = w.found.is.begins in
      let rest = met_most blocks w.text w.m.end w.ms w.found.behind.met in
      omega (arith, begins, rest)

  ends : List ℕ
  ends = reverse (map (λ (m : Met). m.end) found)

  number_ends : length ends ≡ length found
  unfolding ends
  number_ends = length-reverse (map (λ (m : Met). m.end) found) ∙ length-map found (λ (m : Met). m.end)

  abbrev vec_of : (items : List ℕ) → length items < 2 ^ 63 → Vec ℕ
  vec_of items small = record { ptr = null_ptr; len = length items; cap = length items; alloc = record { memory = record { seal = tt } }; items = items; ok = (refl, omega arith); small = small }

  abbrev read : RingText
  read = record {
    bytes = vec_of w.text (omega (arith, text_size, most));
    ends = vec_of ends (omega (arith, number_ends, few, text_size, most));
    ring = ring;
    first = w.first;
    ring_small = (omega (arith, some), omega (arith, most, some));
    first_small = early;
    half = text_size;
    some = (let begins = w.found.is.begins in let within = w.found.is.ends in omega (arith, begins, within));
  }

  is_read : HasSuper pages log → label_of log ≡ own_label → IsReadAs pages blocks log read
  unfolding ends
  is_read super label = record {
    super_block = super;
    label = label;
    text = w.reads;
    m = w.m;
    ms = w.ms;
    records = w.found;
    ends = sym (reverse-reverse (map (λ (m : Met). m.end) found));
    ring = refl;
  }

pub found_law : FoundLaw
found_law pages blocks log both some most bytes w super label = (read pages blocks log both some most bytes w, is_read pages blocks log both some most bytes w super label)
