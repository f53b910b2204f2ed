use Rattle.std.proofs.Common.{◌⊎◌, ◌≤◌, ◌+◌, ◌%◌, ℕ, Result, Ok, Err, OnOk, OnErr, inl, inr, arith, ◌∙◌}
use Rattle.std.proofs.Math.Nat.{mod-lt}
use Rattle.jfs_disk.proofs.WriteThenSync.{Writes, all-failed, all-written, all-synced, resting-synced}
use Rattle.jfs_logpages.specs.Fresh.{IsOutside}
use Rattle.jfs_logpages.proofs.Histories.{histories-same, histories-join, histories-written, histories-failed, histories-synced}
use Rattle.jfs_logpages.proofs.NextPage.{last-front}
use Rattle.jfs_logpages.proofs.Grown.{group-goes-on}
use Rattle.jfs_logpages.proofs.Middle.{ring-goes-on, written-on}
use Rattle.jfs_logpages.proofs.Moments.{group-of, rest-all, torn-all, first-written}
use Rattle.jfs_logpages.proofs.group.rewrite_last.Goals as goal

-- what follows where it is done; and where it is done or not
if_done : {T E A B : Type 0} (r : Result T E) → (A → B) → OnOk r A → OnOk r B
if_done (Ok it) f a = f a
if_done (Err why) f a = a

done_or_not : {T E A B : Type 0} (r : Result T E) → OnOk r A → OnErr r B → A ⊎ B
done_or_not (Ok it) a b = inl a
done_or_not (Err why) a b = inr b

pub returns-then-last-eq4080-clause-page : goal.returns-then-last-eq4080-clause-page
returns-then-last-eq4080-clause-page g c = λ text ends last after.
    written-on text ends _ _ c.args.last.now.number c.args.last.now.page.0 (group-goes-on text c.args.group.now ends c.args.ends.now after) (omega (arith, last.size, c.if-last-eq4080.true)) last.page

pub returns-then-last-eq4080-clause-image : goal.returns-then-last-eq4080-clause-image
returns-then-last-eq4080-clause-image g c = λ t text ends last is after.
    ring-goes-on c.args.last.now.ring text ends _ _ c.args.last.now.number (g.D.Disk.image c.args.part.now) (omega (arith, last.size, last.stops, c.if-last-eq4080.true)) (group-goes-on text c.args.group.now ends c.args.ends.now after) is

pub returns-then-last-eq4080-clause-moments : goal.returns-then-last-eq4080-clause-moments
returns-then-last-eq4080-clause-moments g c = λ t k text ends last is rests after.
    let laws = g.met.D.Disk in
    let old = c.args.part.now in
    let now = c.args.last.now in
    let of = group-of now.ring now.number now.fill now.page.0 text c.args.group.now ends c.args.ends.now c.requires.ring c.requires.near after last in
    rest-all now.ring text c.args.group.now ends c.args.ends.now now.number _ (g.D.Disk.page_count old) (g.D.Disk.image old) (g.D.Disk.past old)
    (record { pages = laws.has_pages old t; now = laws.reads_now old k; crash = laws.reads_crash old k }) (laws.has_state old k) rests of is

pub returns-in_err-write-clause-moments : goal.returns-in_err-write-clause-moments
returns-in_err-write-clause-moments g c = λ t k text ends last is rests after.
    let laws = g.met.D.Disk in
    let old = c.args.part.now in
    let now = c.args.last.now in
    let page = c.fill_page.new.page.0 in
    let of = group-of now.ring now.number now.fill now.page.0 text c.args.group.now ends c.args.ends.now c.requires.ring c.requires.near after last in
    let writes : Writes (g.D.Disk.page_count old) (2 + now.number % now.ring) page (g.D.Disk.image old) (g.D.Disk.past old) = record {
      laws = record { pages = laws.has_pages old t; now = laws.reads_now old k; crash = laws.reads_crash old k; state = laws.has_state old k };
      there = omega (arith, c.requires.place, mod-lt now.number {m = now.ring} (omega (arith, c.requires.ring)));
      size = c.bytes-bytes.ensures.size;
    } in
    torn-all now.ring text c.args.group.now ends c.args.ends.now now.number _ (g.D.Disk.page_count old) (g.D.Disk.image old) (g.D.Disk.past c.write.new.self) page _ (laws.has_pages old t) c.requires.place of is
    (c.fill_page.ensures.written text ends (omega (arith, last.size)) last.ended after (last-front now.ring now.number now.fill now.page.0 text ends last))
    (all-failed _ (2 + now.number % now.ring) page _ (g.D.Disk.past old) (g.D.Disk.past c.write.new.self) writes (c.in_err-write.ensures.past_failed k) rests)

pub returns-clause-moments : goal.returns-clause-moments
returns-clause-moments g c = λ t k text ends last is rests after.
    let laws = g.met.D.Disk in
    let old = c.args.part.now in
    let mid = c.write.new.self in
    let now = c.args.last.now in
    let page = c.fill_page.new.page.0 in
    let at = 2 + now.number % now.ring in
    let of = group-of now.ring now.number now.fill now.page.0 text c.args.group.now ends c.args.ends.now c.requires.ring c.requires.near after last in
    let writes : Writes (g.D.Disk.page_count old) at page (g.D.Disk.image old) (g.D.Disk.past old) = record {
      laws = record { pages = laws.has_pages old t; now = laws.reads_now old k; crash = laws.reads_crash old k; state = laws.has_state old k };
      there = omega (arith, c.requires.place, mod-lt now.number {m = now.ring} (omega (arith, c.requires.ring)));
      size = c.bytes-bytes.ensures.size;
    } in
    torn-all now.ring text c.args.group.now ends c.args.ends.now now.number _ (g.D.Disk.page_count old) (g.D.Disk.image old) (g.D.Disk.past c.sync.new.self) page _ (laws.has_pages old t) c.requires.place of is
    (c.fill_page.ensures.written text ends (omega (arith, last.size)) last.ended after (last-front now.ring now.number now.fill now.page.0 text ends last))
    (elim (done_or_not c.sync.result c.sync.ensures.past c.sync.ensures.past_failed) [
      | inl synced ↦ all-synced _ at page _ (g.D.Disk.image mid) (g.D.Disk.past old) (g.D.Disk.past mid) (g.D.Disk.past c.sync.new.self) writes (c.in_ok-write.ensures.past k) rests (laws.reads_crash mid k) (laws.reads_now mid k) (synced k)
      | inr same ↦ all-written _ at page _ (g.D.Disk.past old) (g.D.Disk.past c.sync.new.self) writes (same k ∙ c.in_ok-write.ensures.past k) rests
    ])

pub returns-clause-image : goal.returns-clause-image
returns-clause-image g c = if_done c.sync.result (λ same. λ t text ends last is after.
    let laws = g.met.D.Disk in
    let old = c.args.part.now in
    let now = c.args.last.now in
    let of = group-of now.ring now.number now.fill now.page.0 text c.args.group.now ends c.args.ends.now c.requires.ring c.requires.near after last in
    first-written now.ring text c.args.group.now ends c.args.ends.now now.number _ (g.D.Disk.page_count old) (g.D.Disk.image old) (g.D.Disk.image c.sync.new.self) c.fill_page.new.page.0 (laws.has_pages old t) c.requires.place of is
    (c.fill_page.ensures.written text ends (omega (arith, last.size)) last.ended after (last-front now.ring now.number now.fill now.page.0 text ends last))
    (c.sync.ensures.image t ∙ c.in_ok-write.ensures.image t)) c.sync.ensures.past

pub returns-clause-resting : goal.returns-clause-resting
returns-clause-resting g c = if_done c.sync.result (λ synced. λ k rests. resting-synced (g.D.Disk.past c.write.new.self) (g.D.Disk.past c.sync.new.self) (synced k)) c.sync.ensures.past

-- a page of the ring is none beside it
inside : (ring number : ℕ) → 2 ≤ ring → IsOutside 2 ring (2 + number % ring) → ⊥
inside ring number some (inl low) = omega (arith, low)
inside ring number some (inr high) = omega (arith, high, mod-lt number {m = ring} (omega (arith, some)))

pub returns-then-last-eq4080-clause-past : goal.returns-then-last-eq4080-clause-past
returns-then-last-eq4080-clause-past g c = λ k rests. histories-same _ (g.D.Disk.past c.args.part.now)

pub returns-in_err-write-clause-past : goal.returns-in_err-write-clause-past
returns-in_err-write-clause-past g c = λ k rests.
    let last = c.args.last.now in
    histories-failed (IsOutside 2 last.ring) (g.D.Disk.past c.args.part.now) (g.D.Disk.past c.write.new.self) (2 + last.number % last.ring) c.fill_page.new.page.0 (inside last.ring last.number c.requires.ring) (c.in_err-write.ensures.past_failed k)

pub returns-clause-past : goal.returns-clause-past
returns-clause-past g c = λ k rests.
    let old = g.D.Disk.past c.args.part.now in
    let mid = g.D.Disk.past c.write.new.self in
    let new = g.D.Disk.past c.sync.new.self in
    let last = c.args.last.now in
    let some = g.met.D.Disk.has_state c.args.part.now k in
    let stay = histories-written (IsOutside 2 last.ring) old mid (2 + last.number % last.ring) c.fill_page.new.page.0 (inside last.ring last.number c.requires.ring) (c.in_ok-write.ensures.past k) in
    elim (done_or_not c.sync.result c.sync.ensures.past c.sync.ensures.past_failed) [
      | inl synced ↦ histories-join (IsOutside 2 last.ring) old mid new some stay (histories-synced (IsOutside 2 last.ring) old mid new some rests stay (synced k))
      | inr same ↦ rw (same k) stay
    ]
