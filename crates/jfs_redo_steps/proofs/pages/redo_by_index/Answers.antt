use Rattle.std.proofs.Common.{◌≡◌, ◌<◌, ◌+◌, ◌∙◌, ℕ, length, drop, refl, subst, arith}
use Rattle.jfs_disk.specs.Image.{page_of}
use Rattle.jfs_redo_steps.specs.Pages.{ArePagesRedone}
use Rattle.jfs_disk.specs.Moment.{now_of}
use Rattle.jfs_redo_steps.proofs.DiskPages.{none_redone, redone_on, stopped_at, written_as}
use Rattle.jfs_redo_steps.proofs.Moments.{first_moment, all_wider}
use Rattle.jfs_redo_steps.proofs.Turns.{turn_on}
use Rattle.jfs_redo_steps.proofs.pages.redo_by_index.Goals as goal

pub loop-p-preserved : goal.loop-p-preserved
loop-p-preserved g c =
    let i = c.loop-p.invariant in
    let p = c.loop-p.p in
    let at = c.loop-p.at in
    let index = c.args.index.now in
    let low : p < c.args.count = omega (arith, c.loop-p-test.true, c.loop-p.auto.p-end) in
    let own = c.own_from-own in
    let old = g.D.Disk.image c.args.disk.now in (
      c.in-Ok.ensures.pages ∙ i.0,
      c.in-Ok.ensures.room ∙ i.1,
      c.in-Ok.ensures.cause.ok ∙ i.2,
      own.ensures.within,
      own.ensures.rising,
      λ q above. own.ensures.behind q (omega (arith, above)) ∙ i.5 q (omega (arith, above)),
      λ tells es is.
          let whole = g.met.D.Disk.has_pages c.args.disk.now tells in
          let size : length (page_of old p) ≡ 4096 = whole.sizes p (omega (arith, c.requires.within, low)) in
          redone_on c.args.count es index (drop at index) own.result.now is old (g.D.Disk.image c.loop-p.disk) p low size (i.6 tells es is) (i.5 p (omega arith)) own.ensures.own
          (g.D.Disk.image c.redo_on_disk.new.disk) (omega (arith, whole.number, c.requires.within, low)) (c.in-Ok.ensures.redone tells),
      λ tells crashes es is rests.
          let whole = g.met.D.Disk.has_pages c.args.disk.now tells in
          let size : length (page_of old p) ≡ 4096 = whole.sizes p (omega (arith, c.requires.within, low)) in
          let before = i.6 tells es is in
          let seen = g.met.D.Disk.reads_now c.loop-p.disk crashes in
          turn_on p es old (g.D.Disk.image c.loop-p.disk) (now_of (g.D.Disk.past c.args.disk.now)) (g.D.Disk.past c.loop-p.disk) (g.D.Disk.past c.redo_on_disk.new.disk) (omega (arith, whole.number, c.requires.within, low)) size before seen
          (i.7 tells crashes es is rests)
          (written_as c.args.count es index (drop at index) own.result.now is old (g.D.Disk.image c.loop-p.disk) p low size before (i.5 p (omega arith)) own.ensures.own (g.D.Disk.past c.loop-p.disk) (g.D.Disk.past c.redo_on_disk.new.disk) (c.in-Ok.ensures.writes tells crashes)),
    )

pub loop-p-init : goal.loop-p-init
loop-p-init g c = (
  refl,
  refl,
  refl,
  omega arith,
  c.requires.rising,
  λ q above. refl,
  λ tells es is. none_redone es (g.D.Disk.image c.args.disk.now),
  λ tells crashes es is rests.
      first_moment es (g.D.Disk.image c.args.disk.now) (g.D.Disk.past c.args.disk.now) (g.met.D.Disk.has_state c.args.disk.now crashes) (g.met.D.Disk.reads_now c.args.disk.now crashes) rests,
)

pub returns-in-Err-clause-moments : goal.returns-in-Err-clause-moments
returns-in-Err-clause-moments g c tells crashes es is rests =
    let i = c.loop-p.invariant in
    let p = c.loop-p.p in
    let at = c.loop-p.at in
    let low : p < c.args.count = omega (arith, c.loop-p-test.true, c.loop-p.auto.p-end) in
    let own = c.own_from-own in
    let old = g.D.Disk.image c.args.disk.now in
    let whole = g.met.D.Disk.has_pages c.args.disk.now tells in
    let size : length (page_of old p) ≡ 4096 = whole.sizes p (omega (arith, c.requires.within, low)) in
    let before = i.6 tells es is in
    all_wider (p + 1) c.args.count es old (now_of (g.D.Disk.past c.args.disk.now)) (g.D.Disk.past c.redo_on_disk.new.disk) (omega (arith, low))
    (turn_on p es old (g.D.Disk.image c.loop-p.disk) (now_of (g.D.Disk.past c.args.disk.now)) (g.D.Disk.past c.loop-p.disk) (g.D.Disk.past c.redo_on_disk.new.disk) (omega (arith, whole.number, c.requires.within, low)) size before (g.met.D.Disk.reads_now c.loop-p.disk crashes)
    (i.7 tells crashes es is rests)
    (written_as c.args.count es c.args.index.now (drop at c.args.index.now) own.result.now is old (g.D.Disk.image c.loop-p.disk) p low size before (i.5 p (omega arith)) own.ensures.own (g.D.Disk.past c.loop-p.disk) (g.D.Disk.past c.redo_on_disk.new.disk) (c.in-Err.ensures.writes tells crashes)))

pub returns-clause-moments : goal.returns-clause-moments
returns-clause-moments g c tells crashes es is rests =
    all_wider c.loop-p.p c.args.count es (g.D.Disk.image c.args.disk.now) (now_of (g.D.Disk.past c.args.disk.now)) (g.D.Disk.past c.loop-p.disk) (omega (arith, c.loop-p.auto.p-end)) (c.loop-p.invariant.7 tells crashes es is rests)

pub returns-in-Err-clause-stopped : goal.returns-in-Err-clause-stopped
returns-in-Err-clause-stopped g c tells es is =
    let i = c.loop-p.invariant in
    let p = c.loop-p.p in
    let at = c.loop-p.at in
    let low : p < c.args.count = omega (arith, c.loop-p-test.true, c.loop-p.auto.p-end) in
    let own = c.own_from-own in
    let old = g.D.Disk.image c.args.disk.now in
    let whole = g.met.D.Disk.has_pages c.args.disk.now tells in
    let size : length (page_of old p) ≡ 4096 = whole.sizes p (omega (arith, c.requires.within, low)) in
    stopped_at c.args.count es c.args.index.now (drop at c.args.index.now) own.result.now is old (g.D.Disk.image c.loop-p.disk) p low size (i.6 tells es is) (i.5 p (omega arith)) own.ensures.own
    (g.D.Disk.image c.redo_on_disk.new.disk) (c.in-Err.ensures.torn tells)

pub returns-clause-redone : goal.returns-clause-redone
returns-clause-redone g c tells es is =
    let all : c.loop-p.p ≡ c.args.count = omega (arith, c.loop-p-test.false, c.loop-p.auto.p-end) in
    subst (λ (n : ℕ). ArePagesRedone n es (g.D.Disk.image c.args.disk.now) (g.D.Disk.image c.loop-p.disk)) all (c.loop-p.invariant.6 tells es is)
