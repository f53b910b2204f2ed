use Rattle.std.proofs.Common.{◌<◌, ◌+◌, ◌-◌, ◌∙◌, ℕ, drop, Err, refl, sym, ap, subst, arith}
use Rattle.jfs_bits.specs.Count.{Rose}
use Rattle.jfs_logpages.specs.ReadLog.{BreaksRing}
use Rattle.jfs_logpages.specs.Outcome.{IsReadFault}
use Rattle.jfs_logpages.proofs.ReadBack.{run-in, run-out}
use Rattle.jfs_logpages.proofs.Answered.{no-text}
use Rattle.jfs_logpages.proofs.Shown.{run-renumbered, numbered-back}
use Rattle.jfs_logpages.proofs.ring.read_newest.Goals as goal

pub returns-in-Err-clause-none : goal.returns-in-Err-clause-none
returns-in-Err-clause-none g c = λ before is. (before, is, refl, no-text (BreaksRing c.args.ring (drop c.args.base before)) c.read_error.result c.read_error.ensures.nothing)

pub returns-clause-none : goal.returns-clause-none
returns-clause-none g c = λ before is. (before, is, refl, no-text (BreaksRing c.args.ring (drop c.args.base before)) c.read_error-in-Err-read_text.result c.read_error-in-Err-read_text.ensures.nothing)

pub returns-in-None-clause-none : goal.returns-in-None-clause-none
returns-in-None-clause-none g c = λ before is.
    let read = c.in-Ok.ensures.marks before is in (
      read.0,
      read.1,
      read.2,
      (
        refl,
        refl,
        λ q run. c.in-None.ensures.none refl q (rw (c.deref.ensures.value, c.from-half.ensures)
            (run-out c.args.ring (drop c.args.base read.0) c.in-Ok.marks.items q (omega (arith, c.requires.ring)) c.in-Ok.ensures.size read.3.each run)),
      ),
    )

pub returns-in-Ok-read_text-clause-text : goal.returns-in-Ok-read_text-clause-text
returns-in-Ok-read_text-clause-text g c = λ before is.
    let marked = c.in-Ok.ensures.marks before is in
    let text = c.in-Ok-read_text.ensures.text marked.0 (λ t. marked.1 t ∙ sym (c.in-Ok.ensures.image t)) (λ p h. marked.3.sizes p (omega (arith, h, c.in-Ok.ensures.size))) in
    let log = drop c.args.base text.0 in
    let some : 0 < c.args.ring = omega (arith, c.requires.ring) in (
      text.0,
      λ t. text.1 t ∙ c.in-Ok.ensures.image t,
      text.2 ∙ marked.2,
      record {
        last = c.in-Some.last;
        run = run-renumbered c.args.base c.args.ring c.in-Some.last marked.0 text.0 some text.3.numbers
            (run-in c.args.ring (drop c.args.base marked.0) c.in-Ok.marks.items c.in-Some.last some c.in-Ok.ensures.size marked.3.each
            (rw (c.deref.ensures.value, c.from-half.ensures) at c.in-Some.ensures.found.0));
        greatest = λ r run. c.in-Some.ensures.found.1 r (rw (c.deref.ensures.value, c.from-half.ensures)
            (run-out c.args.ring (drop c.args.base marked.0) c.in-Ok.marks.items r some c.in-Ok.ensures.size marked.3.each
            (run-renumbered c.args.base c.args.ring r text.0 marked.0 some (numbered-back c.args.base c.args.ring marked.0 text.0 text.3.numbers) run)));
        start = ap (λ (h : ℕ). c.in-Some.last + 1 - h) c.from-half.ensures;
        content = text.3.content;
      },
    )

pub returns-in-Err-clause-cause : goal.returns-in-Err-clause-cause
returns-in-Err-clause-cause g c =
    let before = g.D.Disk.fault_count c.args.disk.now in
    subst (λ (n : ℕ). IsReadFault before n c.read_error.result) c.faults.ensures
    (c.read_error.ensures.cause before (λ e. subst (λ (n : ℕ). Rose before n) (sym c.faults.ensures) (c.in-Err.ensures.cause.failed (ap Err e))))

pub returns-clause-cause : goal.returns-clause-cause
returns-clause-cause g c =
    let before = g.D.Disk.fault_count c.args.disk.now in
    let last = c.in-Err-read_text.ensures in
    subst (λ (n : ℕ). IsReadFault before n c.read_error-in-Err-read_text.result) c.faults-in-Err-read_text.ensures
    (c.read_error-in-Err-read_text.ensures.cause before (λ e. subst (λ (n : ℕ). Rose before n) (sym c.faults-in-Err-read_text.ensures)
    (subst (λ (n : ℕ). Rose n (g.D.Disk.fault_count c.read_text.new.disk)) c.in-Ok.ensures.cause.ok (last.cause.failed (ap Err e)))))
