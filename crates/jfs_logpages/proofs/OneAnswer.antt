-- A log has one answer.
use Rattle.std.proofs.Common.{◌≡◌, ◌≤◌, ◌<◌, ◌+◌, ◌-◌, ◌*◌, ◌/◌, ◌%◌, ℕ, zero, suc, List, ◌∷◌, ◌++◌, length, take, drop, map, reverse, nat_le, Bool, true, false, IsTrue, if◌then◌else◌, Result, Ok, Err, sym, ap, subst, ◌∙◌, inl, inr, arith}
use Rattle.std.proofs.Math.Nat.{mod-lt}
use Rattle.std.proofs.lemmas.List.{length-append, length-take, reverse-reverse}
use Rattle.jfs_bits.specs.Field.{range_of}
use Rattle.jfs_logfmt.specs.Super.{is_log_super, log_super_of}
use Rattle.jfs_bits.specs.declared.rule.Rule.{Rule}
use Rattle.jfs_disk.specs.Image.{Image, page_of}
use Rattle.jfs_logpages.specs.Back.{Met}
use Rattle.jfs_logpages.specs.Laws.{HasOneAnswer, LooksAtLog}
use Rattle.jfs_logpages.specs.ReadLog.{HasSuper, label_of, IsNotOwn, BreaksText, BreaksLog, IsReadAs, IsReadLog}
use Rattle.jfs_logpages.specs.Ring.{slot, eor_of, body_of, bodies, text_of, IsNumbered, IsRun, Reads}
use Rattle.jfs_logpages.specs.declared.ring_text.RingText.{RingText}
use Rattle.jfs_logpages.specs.declared.error.RingError.{RingError}
use Rattle.jfs_logpages.specs.declared.error.RingError.TheVariants as errors
use Rattle.jfs_logpages.proofs.ReadBack.{reads-alike}
use Rattle.jfs_logpages.proofs.Shown.{text-same}
use Rattle.jfs_logpages.proofs.Stops.{Ending, IsEnding, ends-once, broken-ending, read-ending}

-- ---- the text's size

body-most : (page : List ℕ) → length (body_of page) ≤ 4080
unfolding range_of
body-most page = omega (arith, length-take 4080 (drop 8 page))

bodies-most : (ring : ℕ) (log : Image) (first n : ℕ) → length (bodies ring log first n) ≤ 4080 * n
bodies-most ring log first zero = omega arith
bodies-most ring log first (suc n) =
    omega (arith, length-append (bodies ring log first n) (body_of (slot ring log (first + n))), bodies-most ring log first n, body-most (slot ring log (first + n)))

text-most : (ring : ℕ) (log : Image) (first n : ℕ) → length (text_of ring log first n) ≤ 4080 * n
text-most ring log first zero = omega arith
text-most ring log first (suc n) = by (nat_le (eor_of page) 8) (text-most ring log first n)
  where
    page : List ℕ
    page = slot ring log (first + n)

    by : (b : Bool) → length (text_of ring log first n) ≤ 4080 * n → length (if b then text_of ring log first n else bodies ring log first n ++ take (eor_of page - 8) (body_of page)) ≤ 4080 * suc n
    by true fewer = omega (arith, fewer)
    by false fewer =
        omega (
          arith,
          length-append (bodies ring log first n) (take (eor_of page - 8) (body_of page)),
          bodies-most ring log first n,
          length-take (eor_of page - 8) (body_of page),
          body-most page,
        )

-- ---- one answer

-- the reading of a log's records, of whatever text it has
record IsLogEnding (ring blocks : ℕ) (log : Image) (first : ℕ) (text : List ℕ) (ending : Ending) : Type 0 where
  pub reads : Reads ring log first text
  pub ends : IsEnding ring first blocks text ending

log-ends-once : (ring blocks : ℕ) (log : Image) (first other : ℕ) (text words : List ℕ) (one two : Ending) → 0 < ring → IsLogEnding ring blocks log first text one → IsLogEnding ring blocks log other words two → one ≡ two
log-ends-once ring blocks log first other text words one two some x y =
    let same = reads-alike ring log other first words text y.reads x.reads in
    let half : length text ≤ 4080 * (ring / 2) = omega (arith, ap (λ (l : List ℕ). length l) x.reads.content, text-most ring log first (ring / 2)) in
    ends-once ring first blocks text one two some half x.ends
    (subst (λ (t : List ℕ). IsEnding ring first blocks t two) same.1 (subst (λ (n : ℕ). IsEnding ring n blocks words two) same.0 y.ends))

as-read : (pages blocks : ℕ) (log : Image) (read : RingText) (is : IsReadAs pages blocks log read) → IsLogEnding (pages - 2) blocks log read.first read.bytes.items (Ok (is.m ∷ is.ms))
as-read pages blocks log read is = record { reads = is.text; ends = read-ending (pages - 2) read.first blocks read.bytes.items is.m is.ms is.records }

as-broken : (pages blocks : ℕ) (log : Image) (address : ℕ) (rule : Rule) (is : BreaksText (pages - 2) blocks log address rule) → IsLogEnding (pages - 2) blocks log is.0 is.1 (Err (address, rule))
as-broken pages blocks log address rule is = record { reads = is.2; ends = broken-ending (pages - 2) is.0 blocks is.1 address rule is.3 }

-- the records that are read of a log are the same ones
pub records-once : (pages blocks : ℕ) (log : Image) (one other : RingText) → 2 < pages → (a : IsReadAs pages blocks log one) → (b : IsReadAs pages blocks log other) → a.m ∷ a.ms ≡ b.m ∷ b.ms
records-once pages blocks log one other some a b =
    list-of (log-ends-once (pages - 2) blocks log one.first other.first one.bytes.items other.bytes.items (Ok (a.m ∷ a.ms)) (Ok (b.m ∷ b.ms)) (omega (arith, some)) (as-read pages blocks log one a) (as-read pages blocks log other b))
  where
    list-of : {xs ys : List Met} → (let x : Ending = Ok xs in let y : Ending = Ok ys in x ≡ y) → xs ≡ ys
    list-of e = cc

both-read : (pages blocks : ℕ) (log : Image) (one other : RingText) → 2 < pages → IsReadAs pages blocks log one → IsReadAs pages blocks log other → (one.first ≡ other.first) × (one.bytes.items ≡ other.bytes.items) × (one.ends.items ≡ other.ends.items)
both-read pages blocks log one other some a b =
    let same = reads-alike (pages - 2) log one.first other.first one.bytes.items other.bytes.items a.text b.text in
    let ends : reverse one.ends.items ≡ reverse other.ends.items = sym a.ends ∙ ap (λ (l : List Met). map (λ (m : Met). m.end) l) (records-once pages blocks log one other some a b) ∙ b.ends in
    (same.0, same.1, sym (reverse-reverse one.ends.items) ∙ ap (λ (l : List ℕ). reverse l) ends ∙ reverse-reverse other.ends.items)

not-both : {X : Type 0} (pages blocks : ℕ) (log : Image) (read : RingText) (address : ℕ) (rule : Rule) → 2 < pages → IsReadAs pages blocks log read → BreaksLog pages blocks log address rule → X
not-both pages blocks log read address rule some a (inl super) = absurd (super.2 a.super_block)
not-both pages blocks log read address rule some a (inr (known, own, inl ring)) = absurd (ring.2 a.text.last a.text.run)
not-both pages blocks log read address rule some a (inr (known, own, inr text)) =
    let same = log-ends-once (pages - 2) blocks log read.first text.0 read.bytes.items text.1 (Ok (a.m ∷ a.ms)) (Err (address, rule)) (omega (arith, some)) (as-read pages blocks log read a) (as-broken pages blocks log address rule text) in cc

one-error : (address at : ℕ) (rule broken : Rule) → address ≡ at → rule ≡ broken → errors.BadLog address rule ≡ errors.BadLog at broken
one-error address at rule broken a r = ap (λ (n : ℕ). errors.BadLog n rule) a ∙ ap (λ (x : Rule). errors.BadLog at x) r

both-broken : (pages blocks : ℕ) (log : Image) (address at : ℕ) (rule broken : Rule) → 2 < pages → BreaksLog pages blocks log address rule → BreaksLog pages blocks log at broken → errors.BadLog address rule ≡ errors.BadLog at broken
both-broken pages blocks log address at rule broken some (inl x) (inl y) = one-error address at rule broken (x.1 ∙ sym y.1) (x.0 ∙ sym y.0)
both-broken pages blocks log address at rule broken some (inl x) (inr (known, own, y)) = absurd (x.2 known)
both-broken pages blocks log address at rule broken some (inr (known, own, x)) (inl y) = absurd (y.2 known)
both-broken pages blocks log address at rule broken some (inr (known, own, inl x)) (inr (_, _, inl y)) = one-error address at rule broken (x.1 ∙ sym y.1) (x.0 ∙ sym y.0)
both-broken pages blocks log address at rule broken some (inr (known, own, inl x)) (inr (_, _, inr y)) = absurd (x.2 y.2.last y.2.run)
both-broken pages blocks log address at rule broken some (inr (known, own, inr x)) (inr (_, _, inl y)) = absurd (y.2 x.2.last x.2.run)
both-broken pages blocks log address at rule broken some (inr (known, own, inr x)) (inr (_, _, inr y)) =
    pair-of (log-ends-once (pages - 2) blocks log x.0 y.0 x.1 y.1 (Err (address, rule)) (Err (at, broken)) (omega (arith, some)) (as-broken pages blocks log address rule x) (as-broken pages blocks log at broken y))
  where
    pair-of : (let a : Ending = Err (address, rule) in let b : Ending = Err (at, broken) in a ≡ b) → errors.BadLog address rule ≡ errors.BadLog at broken
    pair-of e = let p : (address, rule) ≡ (at, broken) = cc in ap (λ (x : ℕ × Rule). errors.BadLog x.0 x.1) p

not-foreign : {X : Type 0} (pages blocks : ℕ) (log : Image) (label : List ℕ) (address : ℕ) (rule : Rule) → IsNotOwn pages log (errors.ForeignLog label) → BreaksLog pages blocks log address rule → X
not-foreign pages blocks log label address rule is (inl super) = absurd (super.2 is.0)
not-foreign pages blocks log label address rule is (inr (known, own, x)) = absurd (is.2 (is.1 ∙ own))

pub has-one : HasOneAnswer
has-one pages blocks log some (Ok a) (Ok b) x y = both-read pages blocks log a b some x y
has-one pages blocks log some (Ok a) (Err (errors.ForeignLog label)) x y = absurd (y.2 (y.1 ∙ x.label))
has-one pages blocks log some (Ok a) (Err (errors.BadLog address rule)) x y = not-both pages blocks log a address rule some x y
has-one pages blocks log some (Ok a) (Err (errors.Read fault)) x y = tt
has-one pages blocks log some (Ok a) (Err errors.Memory) x y = tt
has-one pages blocks log some (Err (errors.ForeignLog label)) (Ok b) x y = absurd (x.2 (x.1 ∙ y.label))
has-one pages blocks log some (Err (errors.BadLog address rule)) (Ok b) x y = not-both pages blocks log b address rule some y x
has-one pages blocks log some (Err (errors.Read fault)) (Ok b) x y = tt
has-one pages blocks log some (Err errors.Memory) (Ok b) x y = tt
has-one pages blocks log some (Err (errors.Read fault)) (Err other) x y = inr (inl tt)
has-one pages blocks log some (Err errors.Memory) (Err other) x y = inr (inl tt)
has-one pages blocks log some (Err one) (Err (errors.Read fault)) x y = inr (inr tt)
has-one pages blocks log some (Err one) (Err errors.Memory) x y = inr (inr tt)
has-one pages blocks log some (Err (errors.ForeignLog label)) (Err (errors.ForeignLog other)) x y = inl (ap (λ (l : List ℕ). errors.ForeignLog l) (x.1 ∙ sym y.1))
has-one pages blocks log some (Err (errors.ForeignLog label)) (Err (errors.BadLog address rule)) x y = not-foreign pages blocks log label address rule x y
has-one pages blocks log some (Err (errors.BadLog address rule)) (Err (errors.ForeignLog label)) x y = not-foreign pages blocks log label address rule y x
has-one pages blocks log some (Err (errors.BadLog address rule)) (Err (errors.BadLog at broken)) x y = inl (both-broken pages blocks log address at rule broken some x y)

-- ---- pages that aren't looked at

slots-same : (pages : ℕ) (log other : Image) → 2 < pages → ((n : ℕ) → 0 < n → n < pages → page_of other n ≡ page_of log n) → (k : ℕ) → slot (pages - 2) other k ≡ slot (pages - 2) log k
slots-same pages log other some same k = same (2 + k % (pages - 2)) (omega arith) (omega (arith, some, mod-lt k {m = pages - 2} (omega (arith, some))))

run-same : (ring : ℕ) (log other : Image) (q : ℕ) → ((k : ℕ) → slot ring other k ≡ slot ring log k) → IsRun ring log q → IsRun ring other q
run-same ring log other q same run = record { long = run.long; each = λ k h g. subst (λ (p : List ℕ). IsNumbered k p) (sym (same k)) (run.each k h g) }

reads-same : (ring : ℕ) (log other : Image) (first : ℕ) (text : List ℕ) → ((k : ℕ) → slot ring other k ≡ slot ring log k) → Reads ring log first text → Reads ring other first text
reads-same ring log other first text same reads = record {
  last = reads.last;
  run = run-same ring log other reads.last same reads.run;
  greatest = λ q run. reads.greatest q (run-same ring other log q (λ k. sym (same k)) run);
  start = reads.start;
  content = reads.content ∙ sym (text-same ring log other first (ring / 2) (λ k h. same (first + k)));
}

super-same : (pages : ℕ) (log other : Image) → page_of other 1 ≡ page_of log 1 → HasSuper pages log → HasSuper pages other
super-same pages log other same has = subst (λ (p : List ℕ). IsTrue (is_log_super p) × ((log_super_of p).size ≡ pages)) (sym same) has

label-same : (log other : Image) → page_of other 1 ≡ page_of log 1 → label_of other ≡ label_of log
label-same log other same = ap (λ (p : List ℕ). (log_super_of p).label) same

pub looks : LooksAtLog
looks pages blocks log other some same a is = by a is
  where
    first_page : page_of other 1 ≡ page_of log 1
    first_page = same 1 (omega arith) (omega (arith, some))

    slots : (k : ℕ) → slot (pages - 2) other k ≡ slot (pages - 2) log k
    slots = slots-same pages log other some same

    broken : (address : ℕ) (rule : Rule) → BreaksLog pages blocks log address rule → BreaksLog pages blocks other address rule
    broken address rule (inl super) = inl (super.0, super.1, λ has. super.2 (super-same pages other log (sym first_page) has))
    broken address rule (inr (known, own, inl ring)) =
        inr (super-same pages log other first_page known, label-same log other first_page ∙ own, inl (ring.0, ring.1, λ q run. ring.2 q (run-same (pages - 2) other log q (λ k. sym (slots k)) run)))
    broken address rule (inr (known, own, inr text)) =
        inr (super-same pages log other first_page known, label-same log other first_page ∙ own, inr (text.0, text.1, reads-same (pages - 2) log other text.0 text.1 slots text.2, text.3))

    by : (a : Result RingText RingError) → IsReadLog pages blocks log a → IsReadLog pages blocks other a
    by (Ok read) is = record {
      super_block = super-same pages log other first_page is.super_block;
      label = label-same log other first_page ∙ is.label;
      text = reads-same (pages - 2) log other read.first read.bytes.items slots is.text;
      m = is.m;
      ms = is.ms;
      records = is.records;
      ends = is.ends;
      ring = is.ring;
    }
    by (Err (errors.ForeignLog label)) is = (super-same pages log other first_page is.0, is.1 ∙ sym (label-same log other first_page), is.2)
    by (Err (errors.BadLog address rule)) is = broken address rule is
    by (Err (errors.Read fault)) is = tt
    by (Err errors.Memory) is = tt
