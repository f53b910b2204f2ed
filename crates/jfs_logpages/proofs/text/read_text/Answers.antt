use Rattle.std.proofs.Common.{◌≡◌, ◌+◌, ◌%◌, ◌∙◌, ◌++◌, ℕ, List, length, take, drop, refl, sym, ap, ◌/◌, inl, inr, arith}
use Rattle.std.proofs.lemmas.List.{length-append}
use Rattle.jfs_bits.specs.Field.{range_of}
use Rattle.jfs_disk.specs.Image.{Image, page_of}
use Rattle.jfs_logpages.specs.Ring.{body_of, eor_of, text_of}
use Rattle.jfs_logpages.specs.Shown.{AreBodiesOf, IsTextOf}
use Rattle.jfs_logpages.proofs.TextRead.{length-body}
use Rattle.jfs_logpages.proofs.Shown.{text-none, text-read}
use Rattle.jfs_logpages.proofs.text.read_text.Goals as goal
use Rattle.jfs_logpages.proofs.text.read_text.Goals.{then-eor-gt8, else-eor-gt8}

pub loop-n-preserved : goal.loop-n-preserved
unfolding range_of
loop-n-preserved g c =
    let inv = c.loop-n.invariant in
    let page = c.read.new.into.0 in
    let read : g.D.Disk.tells → page ≡ page_of (g.D.Disk.image c.args.disk.now) (c.args.base + 2 + (c.args.first + c.loop-n.n) % c.args.ring) = λ t. rw (inv.image t, c.from.ensures, c.from-in-loop-n.ensures) at (c.in_ok-read.ensures.bytes t) in
    let items : c.extend_from_slice.new.self.items ≡ c.loop-n.text.items ++ body_of page = c.in-Ok.ensures.items in
    let size : length page ≡ 4096 = c.bytes-size.ensures.size in
    let long : length c.extend_from_slice.new.self.items ≡ length c.loop-n.text.items + 4080 = omega (arith, ap (λ (b : List ℕ). length b) items, length-append c.loop-n.text.items (body_of page), length-body page size) in
    let eor : c.min-eor.result ≡ eor_of page = omega (arith, c.min-eor.ensures, c.get_u16.ensures.value, c.get_u16-in-loop-n.ensures.value) in
    let more = λ (end : ℕ). text-read g.D.Disk.tells (g.D.Disk.image c.args.disk.now) c.args.base c.args.ring c.args.first c.loop-n.n c.loop-n.end end c.loop-n.text.items page c.extend_from_slice.new.self.items (omega arith) size read items inv.within in
    elim c.if-eor-gt8.branch [
      | then-eor-gt8 w ↦ record {
        faults = c.in_ok-read.ensures.cause.ok ∙ inv.faults;
        pages = c.in_ok-read.ensures.pages ∙ inv.pages;
        image = λ t. c.in_ok-read.ensures.image t ∙ inv.image t;
        past = λ t. c.in_ok-read.ensures.past t ∙ inv.past t;
        size = omega (arith, long, inv.size);
        within = omega (arith, long, w.end-is, w.len.ensures, w.min.ensures);
        read = more c.if-eor-gt8.end (inl (omega (arith, w.if-eor-gt8.true, eor), omega (arith, w.end-is, w.len.ensures, w.min.ensures, w.from-then-eor-gt8.ensures, eor))) inv.read;
      }
      | else-eor-gt8 w ↦ record {
        faults = c.in_ok-read.ensures.cause.ok ∙ inv.faults;
        pages = c.in_ok-read.ensures.pages ∙ inv.pages;
        image = λ t. c.in_ok-read.ensures.image t ∙ inv.image t;
        past = λ t. c.in_ok-read.ensures.past t ∙ inv.past t;
        size = omega (arith, long, inv.size);
        within = omega (arith, long, w.end-is, inv.within);
        read = more c.if-eor-gt8.end (inr (omega (arith, w.if-eor-gt8.false, eor), w.end-is)) inv.read;
      }
    ]

pub loop-n-init : goal.loop-n-init
loop-n-init g c = record {
  pages = refl;
  image = λ t. refl;
  past = λ t. refl;
  faults = refl;
  size = ap (λ (b : List ℕ). length b) c.new-text.ensures.items;
  within = omega arith;
  read = rw c.new-text.ensures.items (text-none g.D.Disk.tells (g.D.Disk.image c.args.disk.now) c.args.base c.args.ring c.args.first);
}

text-is : (base ring first n end : ℕ) (text items : List ℕ) (before image : Image) → n ≡ ring / 2 → items ≡ take end text → AreBodiesOf base ring first n end text before image → IsTextOf base ring first items before image
text-is base ring first n end text items before image half cut read = record { numbers = read.numbers; content = cut ∙ sym read.content ∙ ap (λ (m : ℕ). text_of ring (drop base image) first m) half }

pub returns-clause-text : goal.returns-clause-text
returns-clause-text g c = λ before is sizes.
    let read = c.loop-n.invariant.read before is sizes in (
      read.0,
      read.1,
      read.2,
      text-is c.args.base c.args.ring c.args.first c.loop-n.n c.loop-n.end c.loop-n.text.items c.truncate.new.self.items before read.0 (omega (arith, c.loop-n-test.false, c.loop-n.auto.n-end)) c.truncate.ensures.items read.3,
    )
