use Rattle.std.proofs.Common.{◌≡◌, ◌+◌, ◌-◌, ◌/◌, ◌++◌, ℕ, length, refl, subst, ◌∙◌, arith}
use Rattle.jfs_disk.specs.Moment.{now_of}
use Rattle.jfs_logpages.specs.Ring.{IsWritten, ends_with}
use Rattle.jfs_logpages.proofs.Moments.{group-of, rest-mid, last-grown}
use Rattle.jfs_logpages.proofs.group.write_group.Goals as goal
use Rattle.jfs_logpages.proofs.group.write_group.Goals.{then-further-gt0+in_ok-write_further, else-further-gt0}

pub returns-in_err-write_further-clause-moments : goal.returns-in_err-write_further-clause-moments
returns-in_err-write_further-clause-moments g c = λ t k text ends last is rests after.
    let laws = g.met.D.Disk in
    let mid = c.rewrite_last.new.part in
    let now = c.args.last.now in
    let first = c.rewrite_last.ensures in
    let of = group-of now.ring now.number now.fill now.page.0 text c.args.group.now ends c.args.ends.now c.requires.ring c.requires.near after last in
    (rw (first.ring, first.number, first.fill) at (c.write_further.ensures.all t k)) text ends of last.size
    (rest-mid now.ring _ _ now.number (g.D.Disk.page_count mid) (g.D.Disk.image mid) (g.D.Disk.past mid)
    (record { pages = laws.has_pages mid t; now = laws.reads_now mid k; crash = laws.reads_crash mid k })
    c.requires.ring (omega (arith, c.requires.place, first.pages)) (c.in_ok-rewrite_last.ensures.resting k rests) (c.in_ok-rewrite_last.ensures.image t text ends last is after))
    (now_of (g.D.Disk.past c.args.part.now)) (first.moments t k text ends last is rests after)

pub returns-clause-moments : goal.returns-clause-moments
returns-clause-moments g c = λ t k text ends last is rests after.
    let laws = g.met.D.Disk in
    let mid = c.rewrite_last.new.part in
    let now = c.args.last.now in
    let first = c.rewrite_last.ensures in
    let of = group-of now.ring now.number now.fill now.page.0 text c.args.group.now ends c.args.ends.now c.requires.ring c.requires.near after last in
    elim c.if-further-gt0.branch [
      | then-further-gt0+in_ok-write_further w ↦
          rw w.part-is ((rw (first.ring, first.number, first.fill) at (w.write_further.ensures.all t k)) text ends of last.size
          (rest-mid now.ring _ _ now.number (g.D.Disk.page_count mid) (g.D.Disk.image mid) (g.D.Disk.past mid)
          (record { pages = laws.has_pages mid t; now = laws.reads_now mid k; crash = laws.reads_crash mid k })
          c.requires.ring (omega (arith, c.requires.place, first.pages)) (c.in_ok-rewrite_last.ensures.resting k rests) (c.in_ok-rewrite_last.ensures.image t text ends last is after))
          (now_of (g.D.Disk.past c.args.part.now)) (first.moments t k text ends last is rests after))
      | else-further-gt0 w ↦ rw w.part-is (first.moments t k text ends last is rests after)
    ]

pub returns-clause-last : goal.returns-clause-last
returns-clause-last g c = λ text ends last after.
    let now = c.args.last.now in
    let first = c.rewrite_last.ensures in
    let further : ℕ = (now.fill + length c.args.group.now - 1) / 4080 in
    let of = group-of now.ring now.number now.fill now.page.0 text c.args.group.now ends c.args.ends.now c.requires.ring c.requires.near after last in
    elim c.if-further-gt0.branch [
      | then-further-gt0+in_ok-write_further w ↦ rw w.last-is
          (last-grown now.ring now.number now.fill now.page.0 text c.args.group.now ends c.args.ends.now further w.write_further.new.last.ring w.write_further.new.last.number w.write_further.new.last.page.0 last after
          (w.write_further.ensures.ring ∙ first.ring) (omega (arith, w.in_ok-write_further.ensures.number, first.number)) refl
          ((rw (first.ring, first.number, first.fill) at (w.in_ok-write_further.ensures.page w.if-further-gt0.true)) text ends of last.size))
      | else-further-gt0 w ↦ rw w.last-is
          (let none : further ≡ 0 = omega (arith, w.if-further-gt0.false) in
          let same : now.number ≡ now.number + further = omega arith in
          last-grown now.ring now.number now.fill now.page.0 text c.args.group.now ends c.args.ends.now further c.rewrite_last.new.last.ring c.rewrite_last.new.last.number c.rewrite_last.new.last.page.0 last after
          first.ring (omega (arith, first.number, none)) refl
          (subst (λ (n : ℕ). IsWritten (text ++ c.args.group.now) (ends_with (length text) ends c.args.ends.now) n c.rewrite_last.new.last.page.0) same (first.page text ends last after)))
    ]
