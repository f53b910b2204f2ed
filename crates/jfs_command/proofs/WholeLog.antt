-- A log reads as one of whole pages does, whatever the sizes of the pages are by which it was read.
use Rattle.std.proofs.Common.{◌≡◌, ◌<◌, ◌≤◌, ◌+◌, ◌-◌, ◌*◌, ◌/◌, ◌%◌, ℕ, zero, suc, min, max, Bool, true, false, IsTrue, List, [], ◌∷◌, ◌++◌, length, take, drop, get_or, replicate, nat_le, if◌then◌else◌, Result, Ok, Err, IfErr, refl, sym, ap, subst, ◌∙◌, inl, inr, arith}
use Rattle.std.proofs.Math.Nat.{mod-lt}
use Rattle.std.proofs.Math.Seq.{take-length}
use Rattle.std.proofs.lemmas.Bool.{le-leb}
use Rattle.std.proofs.lemmas.List.{length-append, length-replicate, length-take, length-take-le, length-drop, get_or-take, get_or-drop, get_or_append_left, get_or-append_right, drop_at}
use Rattle.jfs_bits.specs.Field.{field_of, range_of}
use Rattle.jfs_bits.specs.Piece.{puts}
use Rattle.jfs_bits.proofs.Pieces.{length-puts}
use Rattle.jfs_bits.specs.declared.rule.Rule.{Rule}
use Rattle.jfs_disk.specs.Image.{Image, page_of}
use Rattle.jfs_logfmt.specs.Super.{is_log_super, log_super_of, log_super_pieces}
use Rattle.jfs_logfmt.specs.declared.log_super.LogSuper.{LogSuper}
use Rattle.jfs_logfmt.proofs.ReadBack.{LogSuperInRange, log_super_of-puts, is_log_super-puts}
use Rattle.jfs_logpages.specs.Fresh.{own_label}
use Rattle.jfs_logpages.specs.ReadLog.{HasSuper, label_of, BreaksLog, IsReadLog}
use Rattle.jfs_logpages.specs.Ring.{slot, head_number, tail_number, eor_of, eor_at, last_end, body_of, bodies, text_of, IsPageOf, IsRun, Shows, Reads}
use Rattle.jfs_logpages.specs.declared.ring_text.RingText.{RingText}
use Rattle.jfs_logpages.specs.declared.error.RingError.{RingError}
use Rattle.jfs_logpages.specs.declared.error.RingError.TheVariants as errors
use Rattle.jfs_logpages.proofs.TextRead.{reads-shown}
use Rattle.jfs_command.specs.Log.{HasLabel}
use Rattle.jfs_command.proofs.Evidence.{pages_from, page-from}

-- each of the log's pages has 4,096 bytes
abbrev pub IsWholeLog : ℕ → Image → Type 0
IsWholeLog pages log = (n : ℕ) → n < pages → length (page_of log n) ≡ 4096

-- a log of whole pages that reads so
pub record ReadsWhole (pages blocks : ℕ) (a : Result RingText RingError) : Type 0 where
  pub log : Image
  pub whole : IsWholeLog pages log
  pub is : IsReadLog pages blocks log a

-- ---- a page of a ring

abbrev ring_page : ℕ → ℕ → ℕ → List ℕ → List ℕ
ring_page head tail eor body = head ∷ 0 ∷ 0 ∷ 0 ∷ 0 ∷ 0 ∷ eor ∷ 0 ∷ (body ++ (tail ∷ 0 ∷ 0 ∷ 0 ∷ 0 ∷ 0 ∷ eor ∷ 0 ∷ []))

record IsRingPage (head tail eor : ℕ) (body page : List ℕ) : Type 0 where
  pub size : length page ≡ 4096
  pub head_is : head_number page ≡ head
  pub tail_is : tail_number page ≡ tail
  pub eor_is : eor_of page ≡ eor
  pub body_is : (i : ℕ) → i < 4080 → get_or page (8 + i) 0 ≡ get_or body i 0

ring_page-is : (head tail eor : ℕ) (body : List ℕ) → length body ≡ 4080 → IsRingPage head tail eor body (ring_page head tail eor body)
unfolding field_of
ring_page-is head tail eor body long = record {
  size = omega (arith, length-append body trailer, long);
  head_is = omega arith;
  tail_is = omega (arith, behind 0, behind 1, behind 2, behind 3);
  eor_is = omega (arith, behind 6, behind 7);
  body_is = λ i h. sym (get_or-drop 8 (ring_page head tail eor body) i 0) ∙ get_or_append_left body trailer 0 i (omega (arith, h, long));
}
  where
    trailer : List ℕ
    trailer = tail ∷ 0 ∷ 0 ∷ 0 ∷ 0 ∷ 0 ∷ eor ∷ 0 ∷ []

    behind : (i : ℕ) → get_or (body ++ trailer) (4080 + i) 0 ≡ get_or trailer i 0
    behind i = get_or-append_right body trailer 4080 (4080 + i) 0 long (omega arith) ∙ ap (λ (m : ℕ). get_or trailer m 0) (let e : 4080 + i - 4080 ≡ i = omega arith in e)

-- ---- a log of such pages

-- page 0 isn't used
abbrev log_page : List ℕ → (ℕ → List ℕ) → ℕ → List ℕ
log_page first ring zero = first
log_page first ring (suc zero) = first
log_page first ring (suc (suc p)) = ring p

abbrev made : ℕ → List ℕ → (ℕ → List ℕ) → Image
made pages first ring = pages_from 0 pages (log_page first ring)

made-page : (pages n : ℕ) (first : List ℕ) (ring : ℕ → List ℕ) → n < pages → page_of (made pages first ring) n ≡ log_page first ring n
made-page pages n first ring lt = page-from 0 pages n (log_page first ring) lt ∙ ap (λ (m : ℕ). log_page first ring m) (let e : 0 + n ≡ n = omega arith in e)

made-slot : (pages k : ℕ) (first : List ℕ) (ring : ℕ → List ℕ) → 2 < pages → slot (pages - 2) (made pages first ring) k ≡ ring (k % (pages - 2))
made-slot pages k first ring some =
    made-page pages (2 + k % (pages - 2)) first ring (omega (arith, some, mod-lt k {m = pages - 2} (omega (arith, some))))
    ∙ ap (λ (m : ℕ). log_page first ring m) (let e : 2 + k % (pages - 2) ≡ suc (suc (k % (pages - 2))) = omega arith in e)

made-whole : (pages : ℕ) (first : List ℕ) (ring : ℕ → List ℕ) → length first ≡ 4096 → ((p : ℕ) → length (ring p) ≡ 4096) → IsWholeLog pages (made pages first ring)
made-whole pages first ring long each n lt = ap (λ (q : List ℕ). length q) (made-page pages n first ring lt) ∙ by n
  where
    by : (n : ℕ) → length (log_page first ring n) ≡ 4096
    by zero = long
    by (suc zero) = long
    by (suc (suc p)) = each p

-- ---- its superblock

abbrev zeros16 : List ℕ
zeros16 = 0 ∷ 0 ∷ 0 ∷ 0 ∷ 0 ∷ 0 ∷ 0 ∷ 0 ∷ 0 ∷ 0 ∷ 0 ∷ 0 ∷ 0 ∷ 0 ∷ 0 ∷ 0 ∷ []

abbrev super_with : ℕ → List ℕ → LogSuper
super_with pages label = record { serial = 0; size = pages; state = 0; uuid = zeros16; label = label }

abbrev super_page : ℕ → List ℕ → List ℕ
super_page pages label = puts (log_super_pieces (super_with pages label)) (replicate 4096 0)

in_range : (pages : ℕ) (label : List ℕ) → pages ≤ 32768 → length label ≡ 16 → LogSuperInRange (super_with pages label)
in_range pages label small long = record { serial = omega arith; size = omega (arith, small); state = omega arith; uuid = refl; label = long }

super-size : (pages : ℕ) (label : List ℕ) → length label ≡ 16 → length (super_page pages label) ≡ 4096
unfolding log_super_pieces
super-size pages label long =
    length-puts (log_super_pieces (super_with pages label)) ((0, 4) ∷ (4, 4) ∷ (8, 4) ∷ (12, 4) ∷ (16, 4) ∷ (20, 4) ∷ (24, 4) ∷ (28, 4) ∷ (32, 4) ∷ (36, 16) ∷ (52, 16) ∷ []) (replicate 4096 0)
    (refl, refl, (refl, refl, (refl, refl, (refl, refl, (refl, refl, (refl, refl, (refl, refl, (refl, refl, (refl, refl, (refl, refl, (refl, long, tt))))))))))) refl
    ∙ length-replicate {A = ℕ} 4096 0

record HasOwn (pages : ℕ) (label : List ℕ) (log : Image) : Type 0 where
  pub has : HasSuper pages log
  pub label_is : label_of log ≡ label

made-super : (pages : ℕ) (label : List ℕ) (ring : ℕ → List ℕ) → 2 < pages → pages ≤ 32768 → length label ≡ 16 → HasOwn pages label (made pages (super_page pages label) ring)
made-super pages label ring some small long =
    let first = super_page pages label in
    let there : page_of (made pages first ring) 1 ≡ first = made-page pages 1 first ring (omega (arith, some)) in
    let range = in_range pages label small long in
    let zero_size = length-replicate {A = ℕ} 4096 0 in
    let is : log_super_of (page_of (made pages first ring) 1) ≡ super_with pages label = ap (λ (p : List ℕ). log_super_of p) there ∙ log_super_of-puts (super_with pages label) (replicate 4096 0) range zero_size in
    record {
      has = (
        ap (λ (p : List ℕ). is_log_super p) there ∙ is_log_super-puts (super_with pages label) (replicate 4096 0) range zero_size,
        ap (λ (s : LogSuper). s.size) is,
      );
      label_is = ap (λ (s : LogSuper). s.label) is;
    }

-- no superblock
abbrev no_super : List ℕ
no_super = 0 ∷ 0 ∷ 0 ∷ 0 ∷ replicate 4092 0

no_super-size : length no_super ≡ 4096
no_super-size = omega (arith, length-replicate {A = ℕ} 4092 0)

not-super : IsTrue (is_log_super no_super) → ⊥
unfolding field_of
not-super h = absurd cc

made-no_super : (pages : ℕ) (ring : ℕ → List ℕ) → 2 < pages → HasSuper pages (made pages no_super ring) → ⊥
made-no_super pages ring some has =
    not-super (subst (λ (p : List ℕ). IsTrue (is_log_super p)) (made-page pages 1 no_super ring (omega (arith, some))) has.0)

-- ---- a ring that reads as a text

-- the bodies of n pages have so many bytes at most, and so has their text
body-most : (page : List ℕ) → length (body_of page) ≤ 4080
unfolding range_of
body-most page = omega (arith, length-take 4080 (drop 8 page))

bodies-most : (ring : ℕ) (log : Image) (first n : ℕ) → length (bodies ring log first n) ≤ 4080 * n
bodies-most ring log first zero = omega arith
bodies-most ring log first (suc n) =
    omega (arith, length-append (bodies ring log first n) (body_of (slot ring log (first + n))), bodies-most ring log first n, body-most (slot ring log (first + n)))

text-most : (ring : ℕ) (log : Image) (first n : ℕ) → length (text_of ring log first n) ≤ 4080 * n
text-most ring log first zero = omega arith
text-most ring log first (suc n) = by (nat_le (eor_of page) 8) (text-most ring log first n)
  where
    page : List ℕ
    page = slot ring log (first + n)

    by : (b : Bool) → length (text_of ring log first n) ≤ 4080 * n → length (if b then text_of ring log first n else bodies ring log first n ++ take (eor_of page - 8) (body_of page)) ≤ 4080 * suc n
    by true fewer = omega (arith, fewer)
    by false fewer =
        omega (
          arith,
          length-append (bodies ring log first n) (take (eor_of page - 8) (body_of page)),
          bodies-most ring log first n,
          length-take (eor_of page - 8) (body_of page),
          body-most page,
        )

-- the body of page k of a text
abbrev body_at : List ℕ → ℕ → List ℕ
body_at text k = take 4080 (drop (4080 * k) text ++ replicate 4080 0)

body_at-size : (text : List ℕ) (k : ℕ) → length (body_at text k) ≡ 4080
body_at-size text k =
    length-take-le 4080 (drop (4080 * k) text ++ replicate 4080 0) (omega (arith, length-append (drop (4080 * k) text) (replicate 4080 0), length-replicate {A = ℕ} 4080 0))

body_at-byte : (text : List ℕ) (k i : ℕ) → i < 4080 → 4080 * k + i < length text → get_or (body_at text k) i 0 ≡ get_or text (4080 * k + i) 0
body_at-byte text k i h g =
    get_or-take 4080 (drop (4080 * k) text ++ replicate 4080 0) i 0 h
    ∙ get_or_append_left (drop (4080 * k) text) (replicate 4080 0) 0 i (omega (arith, length-drop (4080 * k) text, g))
    ∙ get_or-drop (4080 * k) text i 0

-- page k of a text
abbrev page_at : List ℕ → List ℕ → ℕ → List ℕ
page_at text ends k = ring_page k k (eor_at ends k) (body_at text k)

page_at-is : (text ends : List ℕ) (k : ℕ) → IsPageOf text ends k (page_at text ends k)
page_at-is text ends k =
    let is = ring_page-is k k (eor_at ends k) (body_at text k) (body_at-size text k) in
    record {
      size = is.size;
      number = (is.head_is, is.tail_is);
      eor = is.eor_is;
      begins = λ i h g. is.body_is i h ∙ body_at-byte text k i h g;
    }

module _ (ring : ℕ) (log : Image) (first : ℕ) (text : List ℕ) (some : 2 ≤ ring) (reads : Reads ring log first text) where
  -- the text from page number 0 on, and its end
  abbrev pub whole_text : List ℕ
  whole_text = replicate (4080 * first) 0 ++ text

  abbrev pub end : ℕ
  end = 4080 * first + length text

  abbrev pub ends : List ℕ
  ends = end ∷ []

  -- The page at a place of the ring: that of the text with the number that stands there, but of none past the last one.
  abbrev pub text_page : ℕ → List ℕ
  text_page p = page_at whole_text ends (min (head_number (page_of log (2 + p))) reads.last)

  pub text_page-size : (p : ℕ) → length (text_page p) ≡ 4096
  text_page-size p = (page_at-is whole_text ends (min (head_number (page_of log (2 + p))) reads.last)).size

  long : reads.last + 1 ≡ first + ring / 2
  long = let run = reads.run.long in let start = reads.start in omega (arith, run, start)

  size : length whole_text ≡ end
  size = omega (arith, length-append (replicate (4080 * first) 0) text, length-replicate {A = ℕ} (4080 * first) 0)

  most : length text ≤ 4080 * (ring / 2)
  most = omega (arith, ap (λ (t : List ℕ). length t) reads.content, text-most ring log first (ring / 2))

  last_end-is : last_end ends (4080 * suc reads.last) ≡ end
  last_end-is = rw (le-leb end (4080 * suc reads.last) (let m = most in let l = long in omega (arith, m, l))) (let e : max end 0 ≡ end = omega arith in e)

  module _ (image : Image) (slots : (k : ℕ) → slot ring image k ≡ text_page (k % ring)) where
    numbered : (k : ℕ) → slot ring image k ≡ page_at whole_text ends (min (head_number (slot ring log k)) reads.last)
    numbered k = slots k

    head_is : (k : ℕ) → head_number (slot ring image k) ≡ min (head_number (slot ring log k)) reads.last
    head_is k = ap (λ (p : List ℕ). head_number p) (numbered k) ∙ (page_at-is whole_text ends (min (head_number (slot ring log k)) reads.last)).number.0

    shows : Shows ring whole_text ends reads.last image
    shows = record {
      long = reads.run.long;
      each = λ k h g.
          let same : min (head_number (slot ring log k)) reads.last ≡ k = let n = (reads.run.each k h g).0 in omega (arith, n, h) in
          subst (λ (p : List ℕ). IsPageOf whole_text ends k p) (sym (numbered k ∙ ap (λ (n : ℕ). page_at whole_text ends n) same)) (page_at-is whole_text ends k);
      next = λ is. let n = head_is (suc reads.last) in omega (arith, n, is.0);
      none = λ k g is. let n = head_is k in omega (arith, n, is.0, g, some);
    }

    pub text_reads : Reads ring image first text
    text_reads =
        let read = reads-shown ring image whole_text ends reads.last some shows (omega (arith, size, last_end-is)) in
        let start : reads.last + 1 - ring / 2 ≡ first = sym reads.start in
        let all : take (last_end ends (4080 * suc reads.last)) whole_text ≡ whole_text = ap (λ (n : ℕ). take n whole_text) (last_end-is ∙ sym size) ∙ take-length whole_text in
        let front : length (replicate {A = ℕ} (4080 * first) 0) ≡ 4080 * first = length-replicate {A = ℕ} (4080 * first) 0 in
        let rest : drop (4080 * first) whole_text ≡ text = drop_at (replicate {A = ℕ} (4080 * first) 0) text (4080 * first) front in
        subst (λ (t : List ℕ). Reads ring image first t) (ap (λ (t : List ℕ). drop (4080 * first) t) all ∙ rest)
        (subst (λ (n : ℕ). Reads ring image n (drop (4080 * n) (take (last_end ends (4080 * suc reads.last)) whole_text))) start read)

-- ---- a ring of which no number ends half

-- page p has the numbers that it had, and nothing else
abbrev bare_page : Image → ℕ → List ℕ
bare_page log p = ring_page (head_number (page_of log (2 + p))) (tail_number (page_of log (2 + p))) 0 (replicate 4080 0)

bare_page-is : (log : Image) (p : ℕ) → IsRingPage (head_number (page_of log (2 + p))) (tail_number (page_of log (2 + p))) 0 (replicate 4080 0) (bare_page log p)
bare_page-is log p = ring_page-is (head_number (page_of log (2 + p))) (tail_number (page_of log (2 + p))) 0 (replicate 4080 0) (length-replicate {A = ℕ} 4080 0)

run-back : (ring : ℕ) (log image : Image) (q : ℕ) → ((k : ℕ) → slot ring image k ≡ bare_page log (k % ring)) → IsRun ring image q → IsRun ring log q
run-back ring log image q slots run = record {
  long = run.long;
  each = λ k h g.
      let is = bare_page-is log (k % ring) in
      let n = run.each k h g in (
        sym is.head_is ∙ ap (λ (p : List ℕ). head_number p) (sym (slots k)) ∙ n.0,
        sym is.tail_is ∙ ap (λ (p : List ℕ). tail_number p) (sym (slots k)) ∙ n.1,
      );
}

-- ---- each answer

own_size : length own_label ≡ 16
own_size = refl

module _ (pages blocks : ℕ) (log : Image) (long : 256 ≤ pages) (small : pages ≤ 32768) where
  some : 2 < pages
  some = omega (arith, long)

  own : (ring : ℕ → List ℕ) → HasOwn pages own_label (made pages (super_page pages own_label) ring)
  own ring = made-super pages own_label ring some small own_size

  -- with this text in its ring
  module _ (first : ℕ) (text : List ℕ) (reads : Reads (pages - 2) log first text) where
    ring_long : 2 ≤ pages - 2
    ring_long = omega (arith, long)

    abbrev text_log : Image
    text_log = made pages (super_page pages own_label) (text_page (pages - 2) log first text ring_long reads)

    text_whole : IsWholeLog pages text_log
    text_whole = made-whole pages (super_page pages own_label) (text_page (pages - 2) log first text ring_long reads) (super-size pages own_label own_size) (text_page-size (pages - 2) log first text ring_long reads)

    text_own : HasOwn pages own_label text_log
    text_own = own (text_page (pages - 2) log first text ring_long reads)

    text_is : Reads (pages - 2) text_log first text
    text_is = text_reads (pages - 2) log first text ring_long reads text_log (λ k. made-slot pages k (super_page pages own_label) (text_page (pages - 2) log first text ring_long reads) some)

  broken : (address : ℕ) (rule : Rule) → BreaksLog pages blocks log address rule → ReadsWhole pages blocks (Err (errors.BadLog address rule))
  broken address rule (inl super) = record {
    log = made pages no_super (bare_page log);
    whole = made-whole pages no_super (bare_page log) no_super-size (λ p. (bare_page-is log p).size);
    is = inl (super.0, super.1, made-no_super pages (bare_page log) some);
  }
  broken address rule (inr (known, label, inl ring)) =
      let is = own (bare_page log) in
      record {
        log = made pages (super_page pages own_label) (bare_page log);
        whole = made-whole pages (super_page pages own_label) (bare_page log) (super-size pages own_label own_size) (λ p. (bare_page-is log p).size);
        is = inr (
          is.has,
          is.label_is,
          inl (
            ring.0,
            ring.1,
            λ q run. ring.2 q (run-back (pages - 2) log (made pages (super_page pages own_label) (bare_page log)) q (λ k. made-slot pages k (super_page pages own_label) (bare_page log) some) run),
          ),
        );
      }
  broken address rule (inr (known, label, inr (first, text, reads, breaks))) =
      let is = text_own first text reads in
      record {
        log = text_log first text reads;
        whole = text_whole first text reads;
        is = inr (is.has, is.label_is, inr (first, text, text_is first text reads, breaks));
      }

  answered : (a : Result RingText RingError) → IfErr a HasLabel → IsReadLog pages blocks log a → ReadsWhole pages blocks a
  answered (Ok read) sized is =
      let own_is = text_own read.first read.bytes.items is.text in
      record {
        log = text_log read.first read.bytes.items is.text;
        whole = text_whole read.first read.bytes.items is.text;
        is = record {
          super_block = own_is.has;
          label = own_is.label_is;
          text = text_is read.first read.bytes.items is.text;
          m = is.m;
          ms = is.ms;
          records = is.records;
          ends = is.ends;
          ring = is.ring;
        };
      }
  answered (Err (errors.ForeignLog label)) sized is =
      let has = made-super pages label (bare_page log) some small sized in
      record {
        log = made pages (super_page pages label) (bare_page log);
        whole = made-whole pages (super_page pages label) (bare_page log) (super-size pages label sized) (λ p. (bare_page-is log p).size);
        is = (has.has, sym has.label_is, is.2);
      }
  answered (Err (errors.BadLog address rule)) sized is = broken address rule is
  answered (Err (errors.Read fault)) sized is = record {
    log = made pages no_super (bare_page log);
    whole = made-whole pages no_super (bare_page log) no_super-size (λ p. (bare_page-is log p).size);
    is = tt;
  }
  answered (Err errors.Memory) sized is = record {
    log = made pages no_super (bare_page log);
    whole = made-whole pages no_super (bare_page log) no_super-size (λ p. (bare_page-is log p).size);
    is = tt;
  }

pub whole_log : (pages blocks : ℕ) (log : Image) (a : Result RingText RingError) → 256 ≤ pages → pages ≤ 32768 → IfErr a HasLabel → IsReadLog pages blocks log a → ReadsWhole pages blocks a
whole_log pages blocks log a long small sized is = answered pages blocks log long small a sized is
