use Rattle.std.proofs.Common.{◌≡◌, ◌+◌, ◌++◌, ◌∷◌, [], ◌%◌, ◌≤◌, ℕ, suc, length, inl, inr, refl, set, subst, ◌∙◌, arith}
use Rattle.std.proofs.Math.Nat.{mod-lt}
use Rattle.jfs_disk.specs.Crash.{last_of, written, LeavesTorn}
use Rattle.jfs_disk.proofs.WriteThenSync.{resting-synced}
use Rattle.jfs_logpages.specs.Fresh.{IsOutside}
use Rattle.jfs_logpages.proofs.Histories.{histories-same, histories-join, histories-written, histories-failed, histories-synced}
use Rattle.jfs_logpages.specs.Ring.{Further, IsWritten, ends_with}
use Rattle.jfs_logpages.proofs.NextPage.{next-place, next-page}
use Rattle.jfs_logpages.proofs.Moments.{further-start, further-more, further-failed, further-synced}
use Rattle.jfs_logpages.proofs.group.write_further.Goals as goal

-- a page of the ring is none beside it
inside : (ring number : ℕ) → 2 ≤ ring → IsOutside 2 ring (2 + number % ring) → ⊥
inside ring number some (inl low) = omega (arith, low)
inside ring number some (inr high) = omega (arith, high, mod-lt number {m = ring} (omega (arith, some)))

pub loop-i-init : goal.loop-i-init
loop-i-init g c =
    let last = c.args.last.now in
    let part = c.args.part.now in
    let here : last.number ≡ last.number + 0 = omega arith in
    record {
      number = here;
      ring = refl;
      fill = refl;
      pages = refl;
      faults = refl;
      past = λ k. histories-same _ (g.D.Disk.past part);
      page = λ h. absurd (omega arith);
      written = subst (λ (q : ℕ). Further g.D.Disk.tells g.D.Disk.tells_crashes last.ring last.number (last.number + c.args.further) last.fill c.args.group.now c.args.ends.now
          (g.D.Disk.image part) (g.D.Disk.image part) (g.D.Disk.past part) (g.D.Disk.past part) q) here
          (further-start g.D.Disk.tells g.D.Disk.tells_crashes last.ring last.number (last.number + c.args.further) last.fill c.args.group.now c.args.ends.now (g.D.Disk.image part) (g.D.Disk.past part));
    }

pub loop-i-preserved : goal.loop-i-preserved
loop-i-preserved g c =
    let laws = g.met.D.Disk in
    let mid = c.loop-i.part in
    let new = c.write.new.self in
    let last = c.args.last.now in
    let page = c.fill_page.new.page.0 in
    let inv = c.loop-i.invariant in
    let at = next-place c.loop-i.last.number c.loop-i.last.ring last.number c.loop-i.i last.ring inv.number inv.ring in
    let step : suc (last.number + c.loop-i.i) ≡ last.number + (c.loop-i.i + 1) = omega arith in
    record {
      number = omega (arith, inv.number);
      ring = inv.ring;
      fill = inv.fill;
      pages = c.in_ok-write.ensures.pages ∙ inv.pages;
      faults = omega (arith, inv.faults, c.in_ok-write.ensures.cause.ok);
      past = λ k. histories-join (IsOutside 2 last.ring) (g.D.Disk.past c.args.part.now) (g.D.Disk.past mid) (g.D.Disk.past new) (laws.has_state c.args.part.now k) (inv.past k)
          (histories-written (IsOutside 2 last.ring) (g.D.Disk.past mid) (g.D.Disk.past new) (2 + suc (last.number + c.loop-i.i) % last.ring) page (inside last.ring (suc (last.number + c.loop-i.i)) c.requires.ring)
          (subst (λ (n : ℕ). g.D.Disk.past new ≡ g.D.Disk.past mid ++ written n page (last_of (g.D.Disk.past mid)) ∷ []) at (c.in_ok-write.ensures.past k)));
      page = λ h text ends is size. subst (λ (q : ℕ). IsWritten (text ++ c.args.group.now) (ends_with (length text) ends c.args.ends.now) q page) step
          (next-page c.loop-i.last.number last.number c.loop-i.i (last.number + c.args.further) last.fill _ last.ring c.args.group.now c.args.ends.now _ page inv.number refl c.requires.fill c.fill_page.ensures.written text ends is size);
      written = subst (λ (q : ℕ). Further g.D.Disk.tells g.D.Disk.tells_crashes last.ring last.number (last.number + c.args.further) last.fill c.args.group.now c.args.ends.now
          (g.D.Disk.image c.args.part.now) (g.D.Disk.image new) (g.D.Disk.past c.args.part.now) (g.D.Disk.past new) q) step
          (further-more g.D.Disk.tells g.D.Disk.tells_crashes last.ring last.number (last.number + c.args.further) last.fill (g.D.Disk.page_count mid) c.args.group.now c.args.ends.now
          (g.D.Disk.image c.args.part.now) (g.D.Disk.image mid) (g.D.Disk.image new) (g.D.Disk.past c.args.part.now) (g.D.Disk.past mid) (g.D.Disk.past new) (last.number + c.loop-i.i) page
          (λ t k. record { pages = laws.has_pages mid t; now = laws.reads_now mid k; crash = laws.reads_crash mid k })
          (λ t. laws.has_pages mid t)
          (omega (arith, c.requires.place, inv.pages)) (omega arith) (omega arith)
          (next-page c.loop-i.last.number last.number c.loop-i.i (last.number + c.args.further) last.fill _ last.ring c.args.group.now c.args.ends.now _ page inv.number refl c.requires.fill c.fill_page.ensures.written)
          (λ t. subst (λ (n : ℕ). g.D.Disk.image new ≡ set (g.D.Disk.image mid) n page) at (c.in_ok-write.ensures.image t))
          (λ k. subst (λ (n : ℕ). g.D.Disk.past new ≡ g.D.Disk.past mid ++ written n page (last_of (g.D.Disk.past mid)) ∷ []) at (c.in_ok-write.ensures.past k))
          inv.written);
    }

pub returns-in_err-write-clause-all : goal.returns-in_err-write-clause-all
returns-in_err-write-clause-all g c = λ t k.
    let laws = g.met.D.Disk in
    let mid = c.loop-i.part in
    let last = c.args.last.now in
    let page = c.fill_page.new.page.0 in
    let inv = c.loop-i.invariant in
    let at = next-place c.loop-i.last.number c.loop-i.last.ring last.number c.loop-i.i last.ring inv.number inv.ring in
    further-failed g.D.Disk.tells g.D.Disk.tells_crashes last.ring last.number (last.number + c.args.further) last.fill (g.D.Disk.page_count mid) c.args.group.now c.args.ends.now
    (g.D.Disk.image c.args.part.now) (g.D.Disk.image mid) (g.D.Disk.past c.args.part.now) (g.D.Disk.past mid) (g.D.Disk.past c.write.new.self) (last.number + c.loop-i.i) page
    (record { pages = laws.has_pages mid t; now = laws.reads_now mid k; crash = laws.reads_crash mid k })
    (omega (arith, c.requires.place, inv.pages)) (omega arith) (omega arith)
    (next-page c.loop-i.last.number last.number c.loop-i.i (last.number + c.args.further) last.fill _ last.ring c.args.group.now c.args.ends.now _ page inv.number refl c.requires.fill c.fill_page.ensures.written)
    (subst (λ (n : ℕ). LeavesTorn n page (g.D.Disk.past mid) (g.D.Disk.past c.write.new.self)) at (c.in_err-write.ensures.past_failed k))
    inv.written t k

pub returns-in_err-sync-clause-all : goal.returns-in_err-sync-clause-all
returns-in_err-sync-clause-all g c = λ t k text ends is size mid since all.
    rw (c.in_err-sync.ensures.past_failed k) (c.loop-i.invariant.written.all t k text ends is size mid since all)

pub returns-clause-all : goal.returns-clause-all
returns-clause-all g c = λ t k.
    let laws = g.met.D.Disk in
    let mid = c.loop-i.part in
    let last = c.args.last.now in
    further-synced g.D.Disk.tells g.D.Disk.tells_crashes last.ring last.number (last.number + c.args.further) last.fill (g.D.Disk.page_count mid) c.args.group.now c.args.ends.now
    (g.D.Disk.image c.args.part.now) (g.D.Disk.image mid) (g.D.Disk.past c.args.part.now) (g.D.Disk.past mid) (g.D.Disk.past c.sync.new.self) (last.number + c.loop-i.i)
    (record { pages = laws.has_pages mid t; now = laws.reads_now mid k; crash = laws.reads_crash mid k })
    (omega arith) (omega arith) (c.in_ok-sync.ensures.past k) c.loop-i.invariant.written t k

pub returns-clause-resting : goal.returns-clause-resting
returns-clause-resting g c = λ k. resting-synced (g.D.Disk.past c.loop-i.part) (g.D.Disk.past c.sync.new.self) (c.in_ok-sync.ensures.past k)

pub returns-in_err-write-clause-past : goal.returns-in_err-write-clause-past
returns-in_err-write-clause-past g c = λ k rests.
    let laws = g.met.D.Disk in
    let mid = c.loop-i.part in
    let last = c.args.last.now in
    let page = c.fill_page.new.page.0 in
    let inv = c.loop-i.invariant in
    let at = next-place c.loop-i.last.number c.loop-i.last.ring last.number c.loop-i.i last.ring inv.number inv.ring in
    histories-join (IsOutside 2 last.ring) (g.D.Disk.past c.args.part.now) (g.D.Disk.past mid) (g.D.Disk.past c.write.new.self) (laws.has_state c.args.part.now k) (inv.past k)
    (histories-failed (IsOutside 2 last.ring) (g.D.Disk.past mid) (g.D.Disk.past c.write.new.self) (2 + suc (last.number + c.loop-i.i) % last.ring) page (inside last.ring (suc (last.number + c.loop-i.i)) c.requires.ring)
    (subst (λ (n : ℕ). LeavesTorn n page (g.D.Disk.past mid) (g.D.Disk.past c.write.new.self)) at (c.in_err-write.ensures.past_failed k)))

pub returns-in_err-sync-clause-past : goal.returns-in_err-sync-clause-past
returns-in_err-sync-clause-past g c = λ k rests. rw (c.in_err-sync.ensures.past_failed k) (c.loop-i.invariant.past k)

pub returns-clause-past : goal.returns-clause-past
returns-clause-past g c = λ k rests.
    let some = g.met.D.Disk.has_state c.args.part.now k in
    let past = c.loop-i.invariant.past k in
    histories-join (IsOutside 2 c.args.last.now.ring) (g.D.Disk.past c.args.part.now) (g.D.Disk.past c.loop-i.part) (g.D.Disk.past c.sync.new.self) some past
    (histories-synced (IsOutside 2 c.args.last.now.ring) (g.D.Disk.past c.args.part.now) (g.D.Disk.past c.loop-i.part) (g.D.Disk.past c.sync.new.self) some rests past (c.in_ok-sync.ensures.past k))
