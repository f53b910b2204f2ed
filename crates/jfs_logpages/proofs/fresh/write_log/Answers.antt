use Rattle.std.proofs.Common.{◌≤◌, ◌+◌, ◌-◌, ℕ, refl, sym, subst, inl, inr, arith}
use Rattle.jfs_disk.specs.Image.{ArePages}
use Rattle.jfs_disk.specs.Moment.{now_of}
use Rattle.jfs_logpages.specs.Fresh.{IsOutside}
use Rattle.jfs_logpages.proofs.Histories.{histories-fewer, histories-join}
use Rattle.jfs_logpages.proofs.Begun.{begins}
use Rattle.jfs_logpages.proofs.fresh.write_log.Goals as goal

fewer : (first count low size n : ℕ) → first ≤ low → low + size ≤ first + count → IsOutside first count n → IsOutside low size n
fewer first count low size n h g (inl below) = inl (omega (arith, below, h))
fewer first count low size n h g (inr above) = inr (omega (arith, above, g))

pub returns-in_err-page-clause-past : goal.returns-in_err-page-clause-past
returns-in_err-page-clause-past g c = λ k.
    histories-fewer _ _ _ _ (λ n. fewer (c.args.base + 1) (c.args.pages - 1) (c.args.base + 2) (c.args.pages - 2) n (omega arith) (omega (arith, c.requires.pages))) (c.in_err-page.ensures.past k)

pub returns-in_err-write_super-clause-past : goal.returns-in_err-write_super-clause-past
returns-in_err-write_super-clause-past g c = λ k.
    histories-join _ (g.D.Disk.past c.args.disk.now) (g.D.Disk.past c.write_ring.new.disk) (g.D.Disk.past c.write_super.new.disk) (g.met.D.Disk.has_state c.args.disk.now k)
    (histories-fewer _ _ _ _ (λ n. fewer (c.args.base + 1) (c.args.pages - 1) (c.args.base + 2) (c.args.pages - 2) n (omega arith) (omega (arith, c.requires.pages))) (c.in_ok-page.ensures.past k))
    (histories-fewer _ _ _ _ (λ n. fewer (c.args.base + 1) (c.args.pages - 1) (c.args.base + 1) 1 n (omega arith) (omega (arith, c.requires.pages))) (c.in_err-write_super.ensures.past k))

pub returns-clause-past : goal.returns-clause-past
returns-clause-past g c = λ k.
    histories-join _ (g.D.Disk.past c.args.disk.now) (g.D.Disk.past c.write_ring.new.disk) (g.D.Disk.past c.write_super.new.disk) (g.met.D.Disk.has_state c.args.disk.now k)
    (histories-fewer _ _ _ _ (λ n. fewer (c.args.base + 1) (c.args.pages - 1) (c.args.base + 2) (c.args.pages - 2) n (omega arith) (omega (arith, c.requires.pages))) (c.in_ok-page.ensures.past k))
    (histories-fewer _ _ _ _ (λ n. fewer (c.args.base + 1) (c.args.pages - 1) (c.args.base + 1) 1 n (omega arith) (omega (arith, c.requires.pages))) (c.in_ok-write_super.ensures.past k))

pub returns-in_err-page-clause-moments : goal.returns-in_err-page-clause-moments
returns-in_err-page-clause-moments g c = λ t k rests.
    let disk = c.args.disk.now in
    let laws = g.met.D.Disk in
    c.write_ring.ensures.all t k c.args.pages c.args.uuid (g.D.Disk.image disk) (now_of (g.D.Disk.past disk)) refl (laws.has_pages disk t)
    (begins c.args.base c.args.pages c.args.uuid (g.D.Disk.image disk) (g.D.Disk.page_count disk) (g.D.Disk.past disk)
    (record { pages = laws.has_pages disk t; now = laws.reads_now disk k; crash = laws.reads_crash disk k; state = laws.has_state disk k }) rests)

pub returns-in_err-write_super-clause-moments : goal.returns-in_err-write_super-clause-moments
returns-in_err-write_super-clause-moments g c = λ t k rests.
    let disk = c.args.disk.now in
    let laws = g.met.D.Disk in
    c.write_super.ensures.all t k (g.D.Disk.image disk) (now_of (g.D.Disk.past disk)) (c.args.pages - 2)
    (subst (λ (n : ℕ). ArePages n (g.D.Disk.image disk)) (sym c.write_ring.ensures.pages) (laws.has_pages disk t))
    (c.in_ok-page.ensures.begun t k c.args.pages c.args.uuid (g.D.Disk.image disk) (now_of (g.D.Disk.past disk)) refl (laws.has_pages disk t)
    (begins c.args.base c.args.pages c.args.uuid (g.D.Disk.image disk) (g.D.Disk.page_count disk) (g.D.Disk.past disk)
    (record { pages = laws.has_pages disk t; now = laws.reads_now disk k; crash = laws.reads_crash disk k; state = laws.has_state disk k }) rests))

pub returns-clause-moments : goal.returns-clause-moments
returns-clause-moments g c = λ t k rests.
    let disk = c.args.disk.now in
    let laws = g.met.D.Disk in
    c.write_super.ensures.all t k (g.D.Disk.image disk) (now_of (g.D.Disk.past disk)) (c.args.pages - 2)
    (subst (λ (n : ℕ). ArePages n (g.D.Disk.image disk)) (sym c.write_ring.ensures.pages) (laws.has_pages disk t))
    (c.in_ok-page.ensures.begun t k c.args.pages c.args.uuid (g.D.Disk.image disk) (now_of (g.D.Disk.past disk)) refl (laws.has_pages disk t)
    (begins c.args.base c.args.pages c.args.uuid (g.D.Disk.image disk) (g.D.Disk.page_count disk) (g.D.Disk.past disk)
    (record { pages = laws.has_pages disk t; now = laws.reads_now disk k; crash = laws.reads_crash disk k; state = laws.has_state disk k }) rests))
