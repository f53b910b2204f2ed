use Rattle.std.proofs.Common.{◌∙◌, ℕ, IsTrue, List, drop, Err, refl, sym, ap, subst}
use Rattle.std.proofs.lemmas.Bool.Decides.{Decides-eqb}
use Rattle.std.proofs.lemmas.Slice.Eq.{slice_eq-Decides}
use Rattle.jfs_bits.specs.Count.{Rose}
use Rattle.jfs_logfmt.specs.Super.{is_log_super}
use Rattle.jfs_logpages.specs.Outcome.{IsReadFault}
use Rattle.jfs_logpages.proofs.Answered.{not-own, known-super, not-super, other-size, other-label, other-super, same-label, own-super}
use Rattle.jfs_logpages.proofs.Shown.{super-shown}
use Rattle.jfs_logpages.proofs.ring.read_super.Goals as goal

pub returns-in-Err-clause-other : goal.returns-in-Err-clause-other
returns-in-Err-clause-other g c =
    let image = g.D.Disk.image c.args.disk.now in
    (image, λ t. refl, not-own c.args.pages (drop c.args.base image) c.read_error.result c.read_error.ensures.nothing)

pub returns-in-Err-clause-cause : goal.returns-in-Err-clause-cause
returns-in-Err-clause-cause g c =
    let before = g.D.Disk.fault_count c.args.disk.now in
    subst (λ (n : ℕ). IsReadFault before n c.read_error.result) c.faults.ensures
    (c.read_error.ensures.cause before (λ e. subst (λ (n : ℕ). Rose before n) (sym c.faults.ensures) (c.in-Err.ensures.cause.failed (ap Err e))))

pub returns-in-Err-read_log_super-clause-other : goal.returns-in-Err-read_log_super-clause-other
returns-in-Err-read_log_super-clause-other g c =
    let page = c.read.new.into.0 in
    let shown = super-shown g.D.Disk.tells (g.D.Disk.image c.args.disk.now) c.args.base page c.bytes-size.ensures.size (λ t. c.in-Ok.ensures.bytes t) in (
      shown.0,
      shown.1,
      (refl, refl, λ has. not-super page _ c.read_log_super.result _ c.read_log_super.ensures c.in-Err-read_log_super.is (subst (λ (p : List ℕ). IsTrue (is_log_super p)) (sym shown.2) has.0)),
    )

pub returns-then-s-pages-clause-other : goal.returns-then-s-pages-clause-other
returns-then-s-pages-clause-other g c =
    let page = c.read.new.into.0 in
    let s = c.in-Ok-read_log_super.s in
    let shown = super-shown g.D.Disk.tells (g.D.Disk.image c.args.disk.now) c.args.base page c.bytes-size.ensures.size (λ t. c.in-Ok.ensures.bytes t) in
    let known = known-super page s _ c.read_log_super.result c.read_log_super.ensures c.in-Ok-read_log_super.is in
    (shown.0, shown.1, (refl, refl, other-size c.args.pages (drop c.args.base shown.0) page s shown.2 known c.if-s-pages.true))

pub returns-then-ne-clause-other : goal.returns-then-ne-clause-other
returns-then-ne-clause-other g c =
    let page = c.read.new.into.0 in
    let s = c.in-Ok-read_log_super.s in
    let shown = super-shown g.D.Disk.tells (g.D.Disk.image c.args.disk.now) c.args.base page c.bytes-size.ensures.size (λ t. c.in-Ok.ensures.bytes t) in
    let known = known-super page s _ c.read_log_super.result c.read_log_super.ensures c.in-Ok-read_log_super.is in (
      shown.0,
      shown.1,
      other-super c.args.pages (drop c.args.base shown.0) page s shown.2 known c.if-s-pages.false
          (λ is. other-label _ _ _ c.ne.result (slice_eq-Decides Decides-eqb _ _ _ refl) c.ne.ensures c.if-ne.true (c.as_slice.ensures ∙ is ∙ sym c.as_slice-in-Ok-read_log_super.ensures)),
    )

pub returns-else-ne-clause-own : goal.returns-else-ne-clause-own
returns-else-ne-clause-own g c =
    let page = c.read.new.into.0 in
    let s = c.in-Ok-read_log_super.s in
    let shown = super-shown g.D.Disk.tells (g.D.Disk.image c.args.disk.now) c.args.base page c.bytes-size.ensures.size (λ t. c.in-Ok.ensures.bytes t) in
    let own = own-super c.args.pages (drop c.args.base shown.0) page s shown.2
    (known-super page s _ c.read_log_super.result c.read_log_super.ensures c.in-Ok-read_log_super.is) c.if-s-pages.false
    (sym c.as_slice.ensures ∙ same-label _ _ _ c.ne.result (slice_eq-Decides Decides-eqb _ _ _ refl) c.ne.ensures c.if-ne.false ∙ c.as_slice-in-Ok-read_log_super.ensures) in
    (shown.0, shown.1, own.0, own.1)
