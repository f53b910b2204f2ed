use Rattle.std.proofs.Common.{◌≡◌, ◌+◌, ◌*◌, suc, sym, ap, ◌∙◌, subst, ℕ, Option, Some, None, arith}
use Rattle.std.specs.Option.{unwrap_or}
use Rattle.jfs_disk.specs.Image.{page_of}
use Rattle.jfs_reader.specs.objects.specs.Contents.{block_of}
use Rattle.jfs_each.specs.Each.{AllFit}
use Rattle.jfs_mount.specs.Subject.{subject_of}
use Rattle.jfs_mount.proofs.Inodes.{AreAdded, iag_added, iag_stays, extents_hold, extents_break, places_are}
use Rattle.jfs_mount.proofs.extents.places_of.Goals as goal

pub returns-in-Some-clause-finds : goal.returns-in-Some-clause-finds
returns-in-Some-clause-finds g c tells s is =
    let image = g.V.PageView.image c.args.view.now in
    let i = c.loop-i.invariant in
    let j = c.from-j.result + 1 in
    let es = c.args.maps.now.inodes.extents in
    let from = c.from-j.ensures in
    let at : c.from-j.result + 1 ≡ suc c.loop-i.i = omega (arith, from) in
    let same = c.from_block-rest.ensures.same j (omega arith) ∙ i.same j (omega (arith, from)) in
    extents_break (subject_of s (page_of image)) c.args.maps.now is c.loop-i.i c.in-Some.value c.loop-i.places.items c.loop-i-test.true (i.added tells)
    (iag_stays (g.V.PageView.block_count c.loop-i.view) c.args.maps.now.blocks (g.V.PageView.image c.loop-i.view) image c.from_block-rest.result.now es j c.loop-i.i
    c.loop-i.places.items c.add_iag.new.places.items c.in_ok-value.field-0 (Some c.in-Some.value)
    (i.blocks ∙ sym c.requires.blocks) (i.image tells) at same c.in-Some.is (c.in_ok-value.ensures.adds tells))
    c.page_or_zero.result
    (c.page_or_zero.ensures ∙ ap (λ (o : Option ℕ). unwrap_or o 0) (same ∙ ap (block_of es) at))

pub loop-i-preserved : goal.loop-i-preserved
loop-i-preserved g c =
    let i = c.loop-i.invariant in
    let o = c.in_ok-value.ensures in
    let none = c.in_default.is in
    let j = c.from-j.result + 1 in
    let es = c.args.maps.now.inodes.extents in
    let from = c.from-j.ensures in
    let at : c.from-j.result + 1 ≡ suc c.loop-i.i = omega (arith, from) in
    let same_blocks = i.blocks ∙ sym c.requires.blocks in
    record {
      image = λ tells. o.image tells ∙ i.image tells;
      blocks = o.count_of_blocks ∙ i.blocks;
      device = o.device ∙ i.device;
      count = o.fault ∙ i.count;
      same = λ k l. c.from_block-rest.ensures.same k (omega (arith, from, l)) ∙ i.same k (omega (arith, l));
      few = (let below = c.if-i-most.false in omega (arith, below));
      all = (let more = o.all none in let before = i.all in omega (arith, more, before));
      fit = subst (λ (n : ℕ). (AllFit n c.loop-i.places.items → AllFit n c.add_iag.new.places.items)) same_blocks o.fit i.fit;
      added = λ tells.
          iag_added c.args.maps.now.blocks (page_of (g.V.PageView.image c.args.view.now)) es c.loop-i.i c.loop-i.places.items c.add_iag.new.places.items (i.added tells)
          (iag_stays (g.V.PageView.block_count c.loop-i.view) c.args.maps.now.blocks (g.V.PageView.image c.loop-i.view) (g.V.PageView.image c.args.view.now) c.from_block-rest.result.now es j c.loop-i.i
          c.loop-i.places.items c.add_iag.new.places.items c.in_ok-value.field-0 None same_blocks (i.image tells) at (c.from_block-rest.ensures.same j (omega arith) ∙ i.same j (omega (arith, from))) none (o.adds tells));
    }

pub returns-clause-finds : goal.returns-clause-finds
returns-clause-finds g c tells s is =
    let most = c.loop-i.auto.i-end in
    let last = c.loop-i-test.false in
    let page = page_of (g.V.PageView.image c.args.view.now) in
    let at : c.loop-i.i ≡ c.args.maps.now.inodes.iags = omega (arith, most, last) in
    let added = subst (λ (n : ℕ). AreAdded c.args.maps.now.blocks page c.args.maps.now.inodes.extents (128 * n) c.loop-i.places.items) at (c.loop-i.invariant.added tells) in
    (extents_hold (subject_of s page) c.args.maps.now is c.loop-i.places.items added, places_are (subject_of s page) c.args.maps.now is c.loop-i.places.items added)
