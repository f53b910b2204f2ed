use Rattle.std.proofs.Common.{◌≡◌, ◌<◌, ◌+◌, ◌-◌, ℕ, List, length, drop, refl, ◌∙◌, inl, inr, arith, subst, sym, ap}
use Rattle.std.proofs.lemmas.List.{length-replicate, get_or-replicate}
use Rattle.jfs_bits.specs.Field.{put_bytes}
use Rattle.jfs_bits.specs.Piece.{puts}
use Rattle.jfs_logfmt.specs.Written.{text_of}
use Rattle.jfs_logpages.specs.Fresh.{first_record, IsOutside, IsBegun}
use Rattle.jfs_logpages.proofs.Histories.{histories-same, histories-join, histories-written, histories-failed}
use Rattle.jfs_logpages.specs.Ring.{IsWritten, ring_pieces, fresh_text, fresh_ends}
use Rattle.jfs_logpages.proofs.Filled.{blank-put, blank-written, fresh-last, fresh-is-last, fresh-is-ring, put-more, page_of-log, others-put}
use Rattle.jfs_logpages.proofs.Begun.{known, ring-page, begun-more, all-written, all-failed}
use Rattle.jfs_logpages.proofs.fresh.write_ring.Goals as goal

long : (text : List ℕ) → text ≡ text_of first_record → length text ≡ 36 → length (text_of first_record) ≡ 36
long text e size = sym (ap (λ (b : List ℕ). length b) e) ∙ size

put : (ring : ℕ) (text old page : List ℕ) → text ≡ text_of first_record → page ≡ puts (ring_pieces (ring - 1) 44) (put_bytes (8 + 0) text old) → page ≡ puts (ring_pieces (ring - 1) 44) (put_bytes (8 + 0) (text_of first_record) old)
put ring text old page e is = is ∙ ap (λ (b : List ℕ). puts (ring_pieces (ring - 1) 44) (put_bytes (8 + 0) b old)) e

inside : (first count k : ℕ) → k < count → IsOutside first count (first + k) → ⊥
inside first count k h (inl low) = omega (arith, low)
inside first count k h (inr high) = omega (arith, high, h)

pub loop-q-init : goal.loop-q-init
loop-q-init g c = record {
  blank = rw c.zeros-page.ensures (length-replicate {A = ℕ} 4096 0, λ i h. get_or-replicate {A = ℕ} 4096 (8 + i) 0 0 (omega arith));
  pages = refl;
  faults = refl;
  written = λ t k h. absurd (omega arith);
  others = λ t n side. refl;
  past = λ k. histories-same _ (g.D.Disk.past c.args.disk.now);
  begun = λ t k pages uuid old start e sizes begun. begun;
}

pub loop-q-preserved : goal.loop-q-preserved
loop-q-preserved g c =
    let inv = c.loop-q.invariant in
    let old = c.loop-q.page.0 in
    let page = c.put_page.new.page.0 in
    record {
      blank = blank-put c.loop-q.q old page inv.blank (omega arith) c.put_page.ensures.bytes;
      pages = c.in_ok-write.ensures.pages ∙ inv.pages;
      faults = omega (arith, inv.faults, c.in_ok-write.ensures.cause.ok);
      written = λ t. put-more (fresh_text c.args.ring (text_of first_record)) (fresh_ends c.args.ring) (g.D.Disk.image c.loop-q.disk) (g.D.Disk.image c.write.new.self) page (c.args.base + 2) c.loop-q.q
          (omega (arith, (g.met.D.Disk.has_pages c.loop-q.disk t).number, inv.pages, c.requires.place)) (c.in_ok-write.ensures.image t)
          (blank-written c.args.ring c.loop-q.q (text_of first_record) old page (omega arith) (omega arith) inv.blank c.put_page.ensures.bytes) (inv.written t);
      others = λ t. others-put (c.args.base + 2) c.args.ring (c.args.base + 2 + c.loop-q.q) _ _ _ page (omega arith) (omega arith) (c.in_ok-write.ensures.image t) (inv.others t);
      past = λ k. histories-join _ (g.D.Disk.past c.args.disk.now) (g.D.Disk.past c.loop-q.disk) (g.D.Disk.past c.write.new.self) (g.met.D.Disk.has_state c.args.disk.now k) (inv.past k)
          (histories-written _ (g.D.Disk.past c.loop-q.disk) (g.D.Disk.past c.write.new.self) (c.args.base + 2 + c.loop-q.q) page (inside (c.args.base + 2) c.args.ring c.loop-q.q (omega arith)) (c.in_ok-write.ensures.past k));
      begun = λ t k pages uuid old start e sizes begun.
          let disk = c.loop-q.disk in
          let laws = g.met.D.Disk in
          let fresh = blank-written c.args.ring c.loop-q.q (text_of first_record) c.loop-q.page.0 page (omega arith) (omega arith) inv.blank c.put_page.ensures.bytes in
          begun-more c.args.base pages uuid old (g.D.Disk.image disk) start c.loop-q.q (g.D.Disk.page_count c.args.disk.now) page (g.D.Disk.past disk) (g.D.Disk.past c.write.new.self)
          (known (g.D.Disk.page_count c.args.disk.now) (g.D.Disk.page_count disk) old (g.D.Disk.image disk) (g.D.Disk.past disk) (c.args.base + 2 + c.loop-q.q) page inv.pages (laws.has_pages disk t) (laws.reads_now disk k) (laws.reads_crash disk k) (laws.has_state disk k)
          sizes (omega (arith, c.requires.place)) fresh.size)
          (ring-page c.args.base pages c.args.ring uuid c.loop-q.q page e (omega arith) fresh) (inv.begun t k pages uuid old start e sizes begun) (c.in_ok-write.ensures.past k);
    }

pub returns-in_err-write-clause-others : goal.returns-in_err-write-clause-others
returns-in_err-write-clause-others g c = λ t. others-put (c.args.base + 2) c.args.ring (c.args.base + 2 + c.loop-q.q) _ _ _ _ (omega arith) (omega arith) (c.in_err-write.ensures.image_failed t).2 (c.loop-q.invariant.others t)

pub returns-in_err-write-2-clause-others : goal.returns-in_err-write-2-clause-others
returns-in_err-write-2-clause-others g c = λ t. others-put (c.args.base + 2) c.args.ring (c.args.base + 2 + (c.args.ring - 1)) _ _ _ _ (omega arith) (omega (arith, c.requires.ring)) (c.in_err-write-2.ensures.image_failed t).2 (c.loop-q.invariant.others t)

pub returns-clause-others : goal.returns-clause-others
returns-clause-others g c = λ t. others-put (c.args.base + 2) c.args.ring (c.args.base + 2 + (c.args.ring - 1)) _ _ _ _ (omega arith) (omega (arith, c.requires.ring)) (c.in_ok-write-2.ensures.image t) (c.loop-q.invariant.others t)

pub returns-clause-last : goal.returns-clause-last
returns-clause-last g c =
    fresh-is-last c.args.ring (text_of first_record) c.put_page-2.new.page.0 c.requires.ring (long c.first_text.result c.first_text.ensures.text c.first_text.ensures.size)
    (fresh-last c.args.ring (text_of first_record) c.loop-q.page.0 c.put_page-2.new.page.0 c.requires.ring c.requires.ring_small (long c.first_text.result c.first_text.ensures.text c.first_text.ensures.size) c.loop-q.invariant.blank (put c.args.ring c.first_text.result c.loop-q.page.0 c.put_page-2.new.page.0 c.first_text.ensures.text c.put_page-2.ensures.bytes))

pub returns-clause-image : goal.returns-clause-image
returns-clause-image g c = λ t.
    let inv = c.loop-q.invariant in
    let text = fresh_text c.args.ring (text_of first_record) in
    let ends = fresh_ends c.args.ring in
    let last : ℕ = c.args.ring - 1 in
    let all = put-more text ends (g.D.Disk.image c.loop-q.disk) (g.D.Disk.image c.write-2.new.self) c.put_page-2.new.page.0 (c.args.base + 2) last
    (omega (arith, (g.met.D.Disk.has_pages c.loop-q.disk t).number, inv.pages, c.requires.place, c.requires.ring)) (c.in_ok-write-2.ensures.image t)
    (fresh-last c.args.ring (text_of first_record) c.loop-q.page.0 c.put_page-2.new.page.0 c.requires.ring c.requires.ring_small (long c.first_text.result c.first_text.ensures.text c.first_text.ensures.size) inv.blank (put c.args.ring c.first_text.result c.loop-q.page.0 c.put_page-2.new.page.0 c.first_text.ensures.text c.put_page-2.ensures.bytes))
    (λ k h. inv.written t k (omega arith)) in
    fresh-is-ring c.args.ring text ends (drop c.args.base (g.D.Disk.image c.write-2.new.self)) c.requires.ring
    (λ k h. subst (λ (page : List ℕ). IsWritten text ends k page) (sym (page_of-log c.args.base k (g.D.Disk.image c.write-2.new.self))) (all k (omega arith)))

pub returns-in_err-write-clause-past : goal.returns-in_err-write-clause-past
returns-in_err-write-clause-past g c = λ k.
    histories-join _ (g.D.Disk.past c.args.disk.now) (g.D.Disk.past c.loop-q.disk) (g.D.Disk.past c.write.new.self) (g.met.D.Disk.has_state c.args.disk.now k) (c.loop-q.invariant.past k)
    (histories-failed _ (g.D.Disk.past c.loop-q.disk) (g.D.Disk.past c.write.new.self) (c.args.base + 2 + c.loop-q.q) _ (inside (c.args.base + 2) c.args.ring c.loop-q.q (omega arith)) (c.in_err-write.ensures.past_failed k))

pub returns-in_err-write-2-clause-past : goal.returns-in_err-write-2-clause-past
returns-in_err-write-2-clause-past g c = λ k.
    histories-join _ (g.D.Disk.past c.args.disk.now) (g.D.Disk.past c.loop-q.disk) (g.D.Disk.past c.write-2.new.self) (g.met.D.Disk.has_state c.args.disk.now k) (c.loop-q.invariant.past k)
    (histories-failed _ (g.D.Disk.past c.loop-q.disk) (g.D.Disk.past c.write-2.new.self) (c.args.base + 2 + (c.args.ring - 1)) _ (inside (c.args.base + 2) c.args.ring (c.args.ring - 1) (omega (arith, c.requires.ring))) (c.in_err-write-2.ensures.past_failed k))

pub returns-clause-past : goal.returns-clause-past
returns-clause-past g c = λ k.
    histories-join _ (g.D.Disk.past c.args.disk.now) (g.D.Disk.past c.loop-q.disk) (g.D.Disk.past c.write-2.new.self) (g.met.D.Disk.has_state c.args.disk.now k) (c.loop-q.invariant.past k)
    (histories-written _ (g.D.Disk.past c.loop-q.disk) (g.D.Disk.past c.write-2.new.self) (c.args.base + 2 + (c.args.ring - 1)) _ (inside (c.args.base + 2) c.args.ring (c.args.ring - 1) (omega (arith, c.requires.ring))) (c.in_ok-write-2.ensures.past k))

pub returns-in_err-write-clause-all : goal.returns-in_err-write-clause-all
returns-in_err-write-clause-all g c = λ t k pages uuid old start e sizes begun.
    let inv = c.loop-q.invariant in
    let page = c.put_page.new.page.0 in
    let disk = c.loop-q.disk in
    let laws = g.met.D.Disk in
    let fresh = blank-written c.args.ring c.loop-q.q (text_of first_record) c.loop-q.page.0 page (omega arith) (omega arith) inv.blank c.put_page.ensures.bytes in
    all-failed c.args.base pages uuid old (g.D.Disk.image disk) start c.loop-q.q (c.args.base + 2 + c.loop-q.q) (g.D.Disk.page_count c.args.disk.now) page (g.D.Disk.past disk) (g.D.Disk.past c.write.new.self)
    (known (g.D.Disk.page_count c.args.disk.now) (g.D.Disk.page_count disk) old (g.D.Disk.image disk) (g.D.Disk.past disk) (c.args.base + 2 + c.loop-q.q) page inv.pages (laws.has_pages disk t) (laws.reads_now disk k) (laws.reads_crash disk k) (laws.has_state disk k)
    sizes (omega (arith, c.requires.place)) fresh.size)
    (ring-page c.args.base pages c.args.ring uuid c.loop-q.q page e (omega arith) fresh) (inr (omega arith)) (inv.begun t k pages uuid old start e sizes begun) (c.in_err-write.ensures.past_failed k)

pub returns-in_err-write-2-clause-all : goal.returns-in_err-write-2-clause-all
returns-in_err-write-2-clause-all g c = λ t k pages uuid old start e sizes begun.
    let inv = c.loop-q.invariant in
    let page = c.put_page-2.new.page.0 in
    let disk = c.loop-q.disk in
    let laws = g.met.D.Disk in
    let last : ℕ = c.args.ring - 1 in
    let fresh = fresh-last c.args.ring (text_of first_record) c.loop-q.page.0 page c.requires.ring c.requires.ring_small (long c.first_text.result c.first_text.ensures.text c.first_text.ensures.size) inv.blank (put c.args.ring c.first_text.result c.loop-q.page.0 page c.first_text.ensures.text c.put_page-2.ensures.bytes) in
    all-failed c.args.base pages uuid old (g.D.Disk.image disk) start c.loop-q.q (c.args.base + 2 + last) (g.D.Disk.page_count c.args.disk.now) page (g.D.Disk.past disk) (g.D.Disk.past c.write-2.new.self)
    (known (g.D.Disk.page_count c.args.disk.now) (g.D.Disk.page_count disk) old (g.D.Disk.image disk) (g.D.Disk.past disk) (c.args.base + 2 + last) page inv.pages (laws.has_pages disk t) (laws.reads_now disk k) (laws.reads_crash disk k) (laws.has_state disk k)
    sizes (omega (arith, c.requires.place, c.requires.ring)) fresh.size)
    (ring-page c.args.base pages c.args.ring uuid last page e (omega (arith, c.requires.ring)) fresh) (inr (omega arith)) (inv.begun t k pages uuid old start e sizes begun) (c.in_err-write-2.ensures.past_failed k)

pub returns-clause-begun : goal.returns-clause-begun
returns-clause-begun g c = λ t k pages uuid old start e sizes begun.
    let inv = c.loop-q.invariant in
    let page = c.put_page-2.new.page.0 in
    let disk = c.loop-q.disk in
    let laws = g.met.D.Disk in
    let last : ℕ = c.args.ring - 1 in
    let end : c.loop-q.q ≡ last = omega arith in
    let all : last + 1 ≡ c.args.ring = omega (arith, c.requires.ring) in
    let fresh = fresh-last c.args.ring (text_of first_record) c.loop-q.page.0 page c.requires.ring c.requires.ring_small (long c.first_text.result c.first_text.ensures.text c.first_text.ensures.size) inv.blank (put c.args.ring c.first_text.result c.loop-q.page.0 page c.first_text.ensures.text c.put_page-2.ensures.bytes) in
    subst (λ (n : ℕ). IsBegun c.args.base pages uuid old start n (g.D.Disk.past c.write-2.new.self)) all
    (begun-more c.args.base pages uuid old (g.D.Disk.image disk) start last (g.D.Disk.page_count c.args.disk.now) page (g.D.Disk.past disk) (g.D.Disk.past c.write-2.new.self)
    (known (g.D.Disk.page_count c.args.disk.now) (g.D.Disk.page_count disk) old (g.D.Disk.image disk) (g.D.Disk.past disk) (c.args.base + 2 + last) page inv.pages (laws.has_pages disk t) (laws.reads_now disk k) (laws.reads_crash disk k) (laws.has_state disk k)
    sizes (omega (arith, c.requires.place, c.requires.ring)) fresh.size)
    (ring-page c.args.base pages c.args.ring uuid last page e (omega (arith, c.requires.ring)) fresh)
    (subst (λ (n : ℕ). IsBegun c.args.base pages uuid old start n (g.D.Disk.past disk)) end (inv.begun t k pages uuid old start e sizes begun)) (c.in_ok-write-2.ensures.past k))

pub returns-clause-all : goal.returns-clause-all
returns-clause-all g c = λ t k pages uuid old start e sizes begun.
    let inv = c.loop-q.invariant in
    let page = c.put_page-2.new.page.0 in
    let disk = c.loop-q.disk in
    let laws = g.met.D.Disk in
    let last : ℕ = c.args.ring - 1 in
    let fresh = fresh-last c.args.ring (text_of first_record) c.loop-q.page.0 page c.requires.ring c.requires.ring_small (long c.first_text.result c.first_text.ensures.text c.first_text.ensures.size) inv.blank (put c.args.ring c.first_text.result c.loop-q.page.0 page c.first_text.ensures.text c.put_page-2.ensures.bytes) in
    all-written c.args.base pages uuid old (g.D.Disk.image disk) start c.loop-q.q (c.args.base + 2 + last) (g.D.Disk.page_count c.args.disk.now) page (g.D.Disk.past disk) (g.D.Disk.past c.write-2.new.self)
    (known (g.D.Disk.page_count c.args.disk.now) (g.D.Disk.page_count disk) old (g.D.Disk.image disk) (g.D.Disk.past disk) (c.args.base + 2 + last) page inv.pages (laws.has_pages disk t) (laws.reads_now disk k) (laws.reads_crash disk k) (laws.has_state disk k)
    sizes (omega (arith, c.requires.place, c.requires.ring)) fresh.size)
    (ring-page c.args.base pages c.args.ring uuid last page e (omega (arith, c.requires.ring)) fresh) (inr (omega arith)) (inv.begun t k pages uuid old start e sizes begun) (c.in_ok-write-2.ensures.past k)
