-- A log that commits a window is read as that window alone.
use Rattle.std.proofs.Common.{◌≡◌, ◌≤◌, ◌+◌, ◌-◌, ◌*◌, ◌/◌, ◌++◌, nat_le, ℕ, zero, suc, Bool, true, false, if◌then◌else◌, List, ◌∷◌, length, take, drop, map, sym, ap, subst, ◌∙◌, inl, inr, arith}
use Rattle.std.proofs.lemmas.List.{length-append, length-take}
use Rattle.jfs_bits.specs.Field.{range_of}
use Rattle.jfs_bits.specs.declared.rule.Rule.{Rule}
use Rattle.jfs_disk.specs.Image.{Image}
use Rattle.jfs_records.specs.logpages.specs.Back.{Met, FromSync, BreaksAt}
use Rattle.jfs_records.specs.logpages.specs.ReadLog.{BreaksLog}
use Rattle.jfs_records.specs.logpages.specs.Ring.{slot, eor_of, body_of, bodies, text_of}
use Rattle.jfs_records.specs.logpages.proofs.OneReading.{only_reading}
use Rattle.jfs_records.specs.logpages.proofs.ReadBack.{reads-alike}
use Rattle.jfs_records.specs.Committed.{committed}
use Rattle.jfs_halves.specs.Half.{Halves}
use Rattle.jfs_log_window.specs.Window.{CommitsWindow}
use Rattle.jfs_log_readings.specs.Readings.{ReadingLaw, UnbrokenLaw}

-- ---- a text is at most half a ring

body_most : (page : List ℕ) → length (body_of page) ≤ 4080
unfolding range_of
body_most page = omega (arith, length-take 4080 (drop 8 page))

bodies_most : (ring : ℕ) (log : Image) (first n : ℕ) → length (bodies ring log first n) ≤ 4080 * n
bodies_most ring log first zero = omega arith
bodies_most ring log first (suc n) =
    omega (arith, length-append (bodies ring log first n) (body_of (slot ring log (first + n))), bodies_most ring log first n, body_most (slot ring log (first + n)))

text_most : (ring : ℕ) (log : Image) (first n : ℕ) → length (text_of ring log first n) ≤ 4080 * n
text_most ring log first zero = omega arith
text_most ring log first (suc n) = by (nat_le (eor_of page) 8) (text_most ring log first n)
  where
    page : List ℕ
    page = slot ring log (first + n)

    by : (b : Bool) → length (text_of ring log first n) ≤ 4080 * n → length (if b then text_of ring log first n else bodies ring log first n ++ take (eor_of page - 8) (body_of page)) ≤ 4080 * suc n
    by true fewer = omega (arith, fewer)
    by false fewer =
        omega (
          arith,
          length-append (bodies ring log first n) (take (eor_of page - 8) (body_of page)),
          bodies_most ring log first n,
          length-take (eor_of page - 8) (body_of page),
          body_most page,
        )

pub half : (ring blocks : ℕ) (log : Image) (both : Halves) (w : CommitsWindow ring blocks log both) → length w.text ≤ 4080 * (ring / 2)
half ring blocks log both w = omega (arith, ap (λ (l : List ℕ). length l) w.reads.content, text_most ring log w.first (ring / 2))

-- ---- one reading

-- of the same text from the same page on
found_as : (ring blocks first other : ℕ) (text words : List ℕ) (m : Met) (ms : List Met) → (first ≡ other) × (text ≡ words) → FromSync ring other blocks words m ms → FromSync ring first blocks text m ms
found_as ring blocks first other text words m ms same found = subst (λ (t : List ℕ). FromSync ring first blocks t m ms) (sym same.1) (subst (λ (n : ℕ). FromSync ring n blocks words m ms) (sym same.0) found)

broken_as : (ring blocks first other : ℕ) (text words : List ℕ) (address : ℕ) (rule : Rule) → (first ≡ other) × (text ≡ words) → BreaksAt ring other blocks words address rule → BreaksAt ring first blocks text address rule
broken_as ring blocks first other text words address rule same broken = subst (λ (t : List ℕ). BreaksAt ring first blocks t address rule) (sym same.1) (subst (λ (n : ℕ). BreaksAt ring n blocks words address rule) (sym same.0) broken)

pub reading_law : ReadingLaw
reading_law pages blocks log both read some w is =
    let same = reads-alike (pages - 2) log w.first read.first w.text read.bytes.items w.reads is.text in
    let one : w.m ∷ w.ms ≡ is.m ∷ is.ms = (only_reading (pages - 2) w.first blocks w.text w.m is.m w.ms is.ms (omega (arith, some)) (half (pages - 2) blocks log both w) w.found).0
    (found_as (pages - 2) blocks w.first read.first w.text read.bytes.items is.m is.ms same is.records) in
    ap (λ (l : List Met). committed (map (λ (x : Met). x.is) l)) (sym one)

pub unbroken_law : UnbrokenLaw
unbroken_law pages blocks log both some w super label = record {
  own = λ other is. is.2 (is.1 ∙ label);
  whole = λ address rule broken. at address rule broken;
}
  where
    at : (address : ℕ) (rule : Rule) → BreaksLog pages blocks log address rule → ⊥
    at address rule (inl none) = none.2 super
    at address rule (inr (known, own, inl none)) = none.2 w.reads.last w.reads.run
    at address rule (inr (known, own, inr text)) =
        let same = reads-alike (pages - 2) log w.first text.0 w.text text.1 w.reads text.2 in
        (only_reading (pages - 2) w.first blocks w.text w.m w.m w.ms w.ms (omega (arith, some)) (half (pages - 2) blocks log both w) w.found).1 address rule
        (broken_as (pages - 2) blocks w.first text.0 w.text text.1 address rule same text.3)
