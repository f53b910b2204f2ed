use Rattle.std.proofs.Common.{◌+◌, ◌∙◌, [], refl, ap, inl, inr, arith, ℕ}
use Rattle.std.proofs.lemmas.List.{get_or-set_same}
use Rattle.jfs_disk.specs.Image.{Image, page_of}
use Rattle.jfs_bits.specs.Piece.{puts}
use Rattle.jfs_logfmt.specs.Super.{log_super_pieces}
use Rattle.jfs_logpages.specs.Fresh.{IsOutside, fresh_super}
use Rattle.jfs_logpages.proofs.Histories.{histories-written, histories-failed}
use Rattle.jfs_logpages.proofs.Begun.{known, all-written, all-failed}
use Rattle.jfs_logpages.proofs.fresh.write_super.Goals as goal

pub returns-clause-image : goal.returns-clause-image
returns-clause-image g c = λ t.
    let old = c.args.disk.now in
    ap (λ (im : Image). page_of im (c.args.base + 1)) (c.in_ok-write.ensures.image t)
    ∙ get_or-set_same (g.D.Disk.image old) (c.args.base + 1) c.write_log_super.new.page.0 [] (omega (arith, (g.met.D.Disk.has_pages old t).number, c.requires.place, c.requires.some))
    ∙ c.write_log_super.ensures.bytes
    ∙ ap (λ (b : _). puts (log_super_pieces (fresh_super c.args.pages c.args.uuid)) b) c.zeros-page.ensures

inside : (n : ℕ) → IsOutside n 1 n → ⊥
inside n (inl low) = omega (arith, low)
inside n (inr high) = omega (arith, high)

pub returns-clause-past : goal.returns-clause-past
returns-clause-past g c = λ k. histories-written _ (g.D.Disk.past c.args.disk.now) (g.D.Disk.past c.write.new.self) (c.args.base + 1) c.write_log_super.new.page.0 (inside (c.args.base + 1)) (c.in_ok-write.ensures.past k)

pub returns-in_err-write-clause-past : goal.returns-in_err-write-clause-past
returns-in_err-write-clause-past g c = λ k. histories-failed _ (g.D.Disk.past c.args.disk.now) (g.D.Disk.past c.write.new.self) (c.args.base + 1) c.write_log_super.new.page.0 (inside (c.args.base + 1)) (c.in_err-write.ensures.past_failed k)

pub returns-clause-all : goal.returns-clause-all
returns-clause-all g c = λ t k old start done sizes begun.
    let disk = c.args.disk.now in
    let laws = g.met.D.Disk in
    let page = c.write_log_super.new.page.0 in
    all-written c.args.base c.args.pages c.args.uuid old (g.D.Disk.image disk) start done (c.args.base + 1) (g.D.Disk.page_count disk) page (g.D.Disk.past disk) (g.D.Disk.past c.write.new.self)
    (known (g.D.Disk.page_count disk) (g.D.Disk.page_count disk) old (g.D.Disk.image disk) (g.D.Disk.past disk) (c.args.base + 1) page refl (laws.has_pages disk t) (laws.reads_now disk k) (laws.reads_crash disk k) (laws.has_state disk k)
    sizes (omega (arith, c.requires.place, c.requires.some)) c.bytes-size.ensures.size)
    (inl (refl, c.write_log_super.ensures.bytes ∙ ap (λ (b : _). puts (log_super_pieces (fresh_super c.args.pages c.args.uuid)) b) c.zeros-page.ensures)) (inl (omega arith)) begun (c.in_ok-write.ensures.past k)

pub returns-in_err-write-clause-all : goal.returns-in_err-write-clause-all
returns-in_err-write-clause-all g c = λ t k old start done sizes begun.
    let disk = c.args.disk.now in
    let laws = g.met.D.Disk in
    let page = c.write_log_super.new.page.0 in
    all-failed c.args.base c.args.pages c.args.uuid old (g.D.Disk.image disk) start done (c.args.base + 1) (g.D.Disk.page_count disk) page (g.D.Disk.past disk) (g.D.Disk.past c.write.new.self)
    (known (g.D.Disk.page_count disk) (g.D.Disk.page_count disk) old (g.D.Disk.image disk) (g.D.Disk.past disk) (c.args.base + 1) page refl (laws.has_pages disk t) (laws.reads_now disk k) (laws.reads_crash disk k) (laws.has_state disk k)
    sizes (omega (arith, c.requires.place, c.requires.some)) c.bytes-size.ensures.size)
    (inl (refl, c.write_log_super.ensures.bytes ∙ ap (λ (b : _). puts (log_super_pieces (fresh_super c.args.pages c.args.uuid)) b) c.zeros-page.ensures)) (inl (omega arith)) begun (c.in_err-write.ensures.past_failed k)
