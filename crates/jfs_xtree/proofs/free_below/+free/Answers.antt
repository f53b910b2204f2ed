use Rattle.std.proofs.Common.{◌≡◌, ◌<◌, ap, sym, subst, ◌∙◌, arith, ◌-◌, List, true, ℕ, OnOk, IfErr}
use Rattle.jfs_disk.specs.Image.{Image, page_of}
use Rattle.jfs_xtpage.specs.Page.{head_of, entries_of, rises_from}
use Rattle.jfs_xtree.specs.Spells.{page_nodes}
use Rattle.jfs_xtree.specs.CutParts.{Frees, StopsAt, children_from, part_of}
use Rattle.jfs_xtree.proofs.CutFrees.{a_leaf, read_leaf, read_inner, child_refused, child_stops, child_goes, children_done, page_breaks, leaf_is_deep, inner_is_deep, leaf_frees_if, leaf_misses_if, inner_frees, inner_stops}
use Rattle.jfs_xtree.proofs.free_below.+free.Goals as goal

pub free_children-returns-in-Err-clause-bad : goal.free_children-returns-in-Err-clause-bad
free_children-returns-in-Err-clause-bad g t c tells =
    let v = c.get_u16-count.ensures.value in
    let nodes = page_nodes c.args.blocks (page_of (g.V.PageView.image c.args.view.now)) in
    let low = c.args.cut.now.met in
    child_refused nodes c.args.below low low c.loop-i.cut.met c.loop-i.i c.page_of-n.result c.args.bytes.now (children_from nodes c.args.below c.args.from low (entries_of c.args.bytes.now)) c.args.cut.now.pages.items c.loop-i.cut.pages.items c.args.cut.now.runs c.loop-i.cut.runs c.in-Err.e
    (let l = c.loop-i-test.true in omega (arith, l, v)) c.page_of-n.ensures.page c.in-Err.ensures.passes (c.loop-i.invariant.5 tells)

pub free_children-returns-in-Err-free_page-clause-bad : goal.free_children-returns-in-Err-free_page-clause-bad
free_children-returns-in-Err-free_page-clause-bad g t c tells =
    let v = c.get_u16-count.ensures.value in
    let nodes = page_nodes c.args.blocks (page_of (g.V.PageView.image c.args.view.now)) in
    let low = c.args.cut.now.met in
    let after = c.pass_key.new.met in
    child_stops nodes c.args.below low low c.loop-i.cut.met after c.loop-i.i c.page_of-n.result c.args.bytes.now (children_from nodes c.args.below c.args.from low (entries_of c.args.bytes.now)) c.args.cut.now.pages.items c.loop-i.cut.pages.items c.args.cut.now.runs c.loop-i.cut.runs c.in-Err-free_page.e
    (let l = c.loop-i-test.true in omega (arith, l, v)) c.page_of-n.ensures.page c.loop-i.invariant.4 c.in-Ok.ensures.passes
    (subst (λ (i : Image). StopsAt after (part_of (page_nodes c.args.blocks (page_of i)) c.args.below after c.page_of-n.result) c.in-Err-free_page.e) (c.loop-i.invariant.0 tells) (c.in-Err-free_page.ensures.bad tells)) (c.loop-i.invariant.5 tells)

pub free_children-loop-i-preserved : goal.free_children-loop-i-preserved
free_children-loop-i-preserved g t c =
    let v = c.get_u16-count.ensures.value in
    let inv = c.loop-i.invariant in
    let nodes = page_nodes c.args.blocks (page_of (g.V.PageView.image c.args.view.now)) in
    let low = c.args.cut.now.met in
    let after = c.pass_key.new.met in (
      (λ tells. c.in-Ok-free_page.ensures.image tells ∙ inv.0 tells),
      c.in-Ok-free_page.ensures.count_of_blocks ∙ inv.1,
      c.in-Ok-free_page.ensures.fault ∙ inv.2,
      c.in-Ok-free_page.ensures.draft ∙ inv.3,
      (λ z. absurd (omega (arith, z))),
      (λ tells. child_goes nodes c.args.below low low c.loop-i.cut.met after c.free_page.new.cut.met c.loop-i.i c.page_of-n.result c.args.bytes.now (children_from nodes c.args.below c.args.from low (entries_of c.args.bytes.now)) c.args.cut.now.pages.items c.loop-i.cut.pages.items c.free_page.new.cut.pages.items
          c.args.cut.now.runs c.loop-i.cut.runs c.free_page.new.cut.runs (let l = c.loop-i-test.true in omega (arith, l, v)) c.page_of-n.ensures.page inv.4 c.in-Ok.ensures.passes
          (subst (λ (i : Image). Frees after (part_of (page_nodes c.args.blocks (page_of i)) c.args.below after c.page_of-n.result) c.free_page.new.cut.met c.loop-i.cut.pages.items c.free_page.new.cut.pages.items c.loop-i.cut.runs c.free_page.new.cut.runs) (inv.0 tells) (c.in-Ok-free_page.ensures.frees tells))
          (inv.5 tells)),
      c.in-Ok-free_page.ensures.device ∙ inv.6,
    )

pub free_children-returns-clause-frees : goal.free_children-returns-clause-frees
free_children-returns-clause-frees g t c tells =
    let v = c.get_u16-count.ensures.value in let p = c.requires.place in
    let nodes = page_nodes c.args.blocks (page_of (g.V.PageView.image c.args.view.now)) in
    let low = c.args.cut.now.met in
    children_done nodes c.args.below low low c.loop-i.cut.met c.loop-i.i c.args.bytes.now (children_from nodes c.args.below c.args.from low (entries_of c.args.bytes.now)) c.args.cut.now.pages.items c.loop-i.cut.pages.items c.args.cut.now.runs c.loop-i.cut.runs
    (let l = c.loop-i-test.false in omega (arith, l, v)) (let e = c.loop-i.auto.i-end (omega (arith, v, p)) in omega (arith, e, v)) (c.loop-i.invariant.5 tells)

pub free_page-returns-in-Err-clause-bad : goal.free_page-returns-in-Err-clause-bad
free_page-returns-in-Err-clause-bad g t c tells = page_breaks (page_nodes c.args.blocks (page_of (g.V.PageView.image c.args.view.now))) c.args.below c.args.cut.now.met c.args.n c.in-Err.e (c.in-Err.ensures.bad tells)

pub free_page-returns-then-below-gt0-clause-bad : goal.free_page-returns-then-below-gt0-clause-bad
free_page-returns-then-below-gt0-clause-bad g t c tells =
    let image = g.V.PageView.image c.args.view.now in
    leaf_is_deep (page_nodes c.args.blocks (page_of image)) c.args.below c.args.cut.now.met c.args.n (entries_of c.in-Ok.page.0)
    (read_leaf c.args.blocks c.args.n image c.in-Ok.page.0 c.bytes.result.now c.get_u8.result c.is_leaf.result (c.in-Ok.ensures.bytes tells) c.bytes.ensures.value c.in-Ok.ensures.sound c.is_leaf.ensures c.get_u8.ensures.value c.if-is_leaf.true) c.if-below-gt0.true

pub free_page-returns-then-is_leaf-clause-frees : goal.free_page-returns-then-is_leaf-clause-frees
free_page-returns-then-is_leaf-clause-frees g t c tells =
    let image = g.V.PageView.image c.args.view.now in
    let same = sym c.bytes-then-is_leaf.ensures.value in
    let leaf = read_leaf c.args.blocks c.args.n image c.in-Ok.page.0 c.bytes.result.now c.get_u8.result c.is_leaf.result (c.in-Ok.ensures.bytes tells) c.bytes.ensures.value c.in-Ok.ensures.sound c.is_leaf.ensures c.get_u8.ensures.value c.if-is_leaf.true in
    let n = subst (λ (b : List ℕ). 2 < (head_of b).nextindex) same c.in-Ok.ensures.some in
    leaf_frees_if (page_nodes c.args.blocks (page_of image)) c.args.below c.args.cut.now.met c.args.n c.free_leaf.new.cut.met c.bytes-then-is_leaf.result.now c.args.cut.now.pages.items c.free_leaf.new.cut.pages.items c.args.cut.now.runs c.free_leaf.new.cut.runs c.free_leaf.result
    (leaf ∙ ap (λ b. a_leaf (entries_of b)) same) (let z = c.if-below-gt0.false in omega (arith, z)) (omega (arith, n)) (subst (λ b. rises_from 0 (entries_of b) ≡ true) same c.in-Ok.ensures.sound.order)
    (c.free_leaf.ensures.rest.0 ∙ c.in_ok-push_page.ensures.pages) c.free_leaf.ensures.fits c.free_leaf.ensures.runs c.free_leaf.ensures.met

pub free_page-returns-then-is_leaf-clause-bad : goal.free_page-returns-then-is_leaf-clause-bad
free_page-returns-then-is_leaf-clause-bad g t c tells =
    let image = g.V.PageView.image c.args.view.now in
    let same = sym c.bytes-then-is_leaf.ensures.value in
    let leaf = read_leaf c.args.blocks c.args.n image c.in-Ok.page.0 c.bytes.result.now c.get_u8.result c.is_leaf.result (c.in-Ok.ensures.bytes tells) c.bytes.ensures.value c.in-Ok.ensures.sound c.is_leaf.ensures c.get_u8.ensures.value c.if-is_leaf.true in
    let n = subst (λ (b : List ℕ). 2 < (head_of b).nextindex) same c.in-Ok.ensures.some in
    leaf_misses_if (page_nodes c.args.blocks (page_of image)) c.args.below c.args.cut.now.met c.args.n c.bytes-then-is_leaf.result.now c.free_leaf.result
    (leaf ∙ ap (λ b. a_leaf (entries_of b)) same) (let z = c.if-below-gt0.false in omega (arith, z)) (omega (arith, n)) c.free_leaf.ensures.bad

pub free_page-returns-then-below-eq0-clause-bad : goal.free_page-returns-then-below-eq0-clause-bad
free_page-returns-then-below-eq0-clause-bad g t c tells =
    let image = g.V.PageView.image c.args.view.now in
    let inner = read_inner c.args.blocks c.args.n image c.in-Ok.page.0 c.bytes.result.now c.get_u8.result c.is_leaf.result (c.in-Ok.ensures.bytes tells) c.bytes.ensures.value c.in-Ok.ensures.sound c.in-Ok.ensures.some c.is_leaf.ensures c.get_u8.ensures.value c.if-is_leaf.false in
    inner_is_deep (page_nodes c.args.blocks (page_of image)) c.args.below c.args.cut.now.met c.args.n _ inner.0 c.if-below-eq0.true

pub free_page-returns-clause-frees : goal.free_page-returns-clause-frees
free_page-returns-clause-frees g t c tells =
    let image = g.V.PageView.image c.args.view.now in
    let inner = read_inner c.args.blocks c.args.n image c.in-Ok.page.0 c.bytes.result.now c.get_u8.result c.is_leaf.result (c.in-Ok.ensures.bytes tells) c.bytes.ensures.value c.in-Ok.ensures.sound c.in-Ok.ensures.some c.is_leaf.ensures c.get_u8.ensures.value c.if-is_leaf.false in
    let low = c.args.cut.now.met in
    inner_frees (page_nodes c.args.blocks (page_of image)) c.args.below (c.args.below - 1) low c.args.n c.free_children.new.cut.met (entries_of c.in-Ok.page.0) c.args.cut.now.pages.items c.push_page.new.pages.items c.free_children.new.cut.pages.items c.args.cut.now.runs c.free_children.new.cut.runs c.free_children.result
    inner (let z = c.if-below-eq0.false in omega (arith, z)) c.in_ok-push_page.ensures.pages
    (subst (λ (i : Image). OnOk c.free_children.result (Frees low (children_from (page_nodes c.args.blocks (page_of i)) (c.args.below - 1) 0 low (entries_of c.in-Ok.page.0)) c.free_children.new.cut.met c.push_page.new.pages.items c.free_children.new.cut.pages.items c.args.cut.now.runs c.free_children.new.cut.runs)) (c.in-Ok.ensures.image tells)
    (subst (λ b. OnOk c.free_children.result (Frees low (children_from (page_nodes c.args.blocks (page_of (g.V.PageView.image c.read_page.new.view))) (c.args.below - 1) 0 low (entries_of b)) c.free_children.new.cut.met c.push_page.new.pages.items c.free_children.new.cut.pages.items c.args.cut.now.runs c.free_children.new.cut.runs)) c.bytes-2.ensures.value (c.free_children.ensures.frees tells)))

pub free_page-returns-clause-bad : goal.free_page-returns-clause-bad
free_page-returns-clause-bad g t c tells =
    let image = g.V.PageView.image c.args.view.now in
    let inner = read_inner c.args.blocks c.args.n image c.in-Ok.page.0 c.bytes.result.now c.get_u8.result c.is_leaf.result (c.in-Ok.ensures.bytes tells) c.bytes.ensures.value c.in-Ok.ensures.sound c.in-Ok.ensures.some c.is_leaf.ensures c.get_u8.ensures.value c.if-is_leaf.false in
    let low = c.args.cut.now.met in
    inner_stops (page_nodes c.args.blocks (page_of image)) c.args.below (c.args.below - 1) low c.args.n (entries_of c.in-Ok.page.0) c.free_children.result inner (let z = c.if-below-eq0.false in omega (arith, z))
    (subst (λ (i : Image). IfErr c.free_children.result (λ e. StopsAt low (children_from (page_nodes c.args.blocks (page_of i)) (c.args.below - 1) 0 low (entries_of c.in-Ok.page.0)) e)) (c.in-Ok.ensures.image tells)
    (subst (λ b. IfErr c.free_children.result (λ e. StopsAt low (children_from (page_nodes c.args.blocks (page_of (g.V.PageView.image c.read_page.new.view))) (c.args.below - 1) 0 low (entries_of b)) e)) c.bytes-2.ensures.value (c.free_children.ensures.bad tells)))
