use Rattle.std.proofs.Common.{refl, ap, sym, subst, ◌∙◌, arith, ◌+◌, ◌-◌, drop, List, []}
use Rattle.std.specs.Prelude.{nat_lt}
use Rattle.jfs_disk.specs.Image.{Image, page_of}
use Rattle.jfs_tree.specs.Draft.{shown}
use Rattle.jfs_tree.specs.Frames.{KeepsFrames}
use Rattle.jfs_tree.specs.declared.draft.Drafted.{Drafted}
use Rattle.jfs_xtpage.specs.Page.{entries_of, entry_of, count_of}
use Rattle.jfs_xtpage.specs.declared.head.XtForm.TheVariants.{Full}
use Rattle.jfs_xtpage.proofs.Entries.{length-entries}
use Rattle.jfs_xtree.specs.Node.{frame_of, is_leaf, xt_node}
use Rattle.jfs_xtree.specs.Spells.{page_nodes}
use Rattle.jfs_xtree.specs.CutMet.{met_below}
use Rattle.jfs_xtree.specs.CutParts.{CutsNode, CutsPage, Frees, StopsAt, key_at, children_from}
use Rattle.jfs_xtree.proofs.Reading.{is_rising, sound_inner}
use Rattle.jfs_xtree.proofs.CutFrees.{fits_first, frees_under}
use Rattle.jfs_xtree.proofs.CutSteps.{leaf_done, page_settled, inner_done, left_some, is_some, is_none, one_or_none, kind_cut}
use Rattle.jfs_xtree.proofs.CutWays.{leaf_met_if, child_breaks, below_breaks, behind_breaks, behind_is, inner_met, child_is, child_node, settled_kept, settled_gone, none_left}
use Rattle.jfs_xtree.proofs.CutFramed.{none_framed, settled_way}
use Rattle.jfs_xtree.proofs.cut_page.+cut_page.Goals as goal

pub returns-then-is_leaf-clause-cuts : goal.returns-then-is_leaf-clause-cuts
returns-then-is_leaf-clause-cuts g t c tells =
    leaf_done c.args.form c.args.blocks c.args.bound c.args.bytes.now c.cut_leaf.new.bytes (g.V.PageView.image c.args.view.now) c.args.cut.now.draft.pages.items c.args.cut.now.pages.items c.args.cut.now.runs c.cut_leaf.new.runs c.cut_leaf.result
    c.requires.sound (ap is_leaf (sym c.get_u8.ensures.value) ∙ sym c.is_leaf.ensures ∙ c.if-is_leaf.true) c.requires.fresh.0 c.requires.fresh.1 c.requires.fresh.2 c.cut_leaf.ensures.rows c.cut_leaf.ensures.gone c.cut_leaf.ensures.kind c.cut_leaf.ensures.kept

pub returns-then-is_leaf-clause-met : goal.returns-then-is_leaf-clause-met
returns-then-is_leaf-clause-met g t c tells =
    leaf_met_if c.args.form c.args.blocks c.args.bound c.args.most c.args.cut.now.met c.leaf_end-cut.result 0 c.args.bytes.now (g.V.PageView.image c.args.view.now) c.args.cut.now.pages.items c.args.cut.now.runs c.cut_leaf.new.runs c.cut_leaf.result
    c.requires.sound (ap is_leaf (sym c.get_u8.ensures.value) ∙ sym c.is_leaf.ensures ∙ c.if-is_leaf.true) c.requires.fresh.1 c.requires.fresh.2 c.cut_leaf.ensures.gone c.leaf_end-cut.ensures refl

pub returns-in-Err-clause-bad : goal.returns-in-Err-clause-bad
returns-in-Err-clause-bad g t c tells = λ page.
    let flag = ap is_leaf (sym c.get_u8.ensures.value) ∙ sym c.is_leaf.ensures ∙ c.if-is_leaf.false in
    let place = c.child_place-place.result in
    let x = entry_of c.args.bytes.now place in
    let size = length-entries c.args.bytes.now 0 (count_of c.args.bytes.now) in let inside = c.child_place-place.ensures.within in
    child_breaks (page_nodes c.args.blocks (page_of (g.V.PageView.image c.args.view.now))) c.args.bound c.args.most c.saturating_sub.result place (key_at c.args.cut.now.met place x.offset) x.at.addr (record { key = c.args.cut.now.met; page = page })
    (xt_node c.args.form c.args.blocks c.args.bytes.now) c.args.bytes.now c.in-Err.e c.requires.sound.order c.saturating_sub.ensures (c.child_place-place.ensures.leads (is_rising c.args.bytes.now c.requires.sound.order))
    (sound_inner c.args.form c.args.blocks c.args.bytes.now c.requires.sound flag (omega (arith, size, inside))) refl refl (c.in-Err.ensures.bad tells c.args.bound)

pub returns-in-Err-cut_page-clause-bad : goal.returns-in-Err-cut_page-clause-bad
returns-in-Err-cut_page-clause-bad g t c tells = λ page.
    let image = g.V.PageView.image c.args.view.now in
    let flag = ap is_leaf (sym c.get_u8.ensures.value) ∙ sym c.is_leaf.ensures ∙ c.if-is_leaf.false in
    let place = c.child_place-place.result in
    let n = c.page_of-n.result in
    let key = c.read_way.new.low in
    let size = length-entries c.args.bytes.now 0 (count_of c.args.bytes.now) in let inside = c.child_place-place.ensures.within in
    below_breaks (page_nodes c.args.blocks (page_of image)) c.args.bound c.args.most (c.args.most - 1) c.saturating_sub.result place key n (record { key = c.args.cut.now.met; page = page })
    (xt_node c.args.form c.args.blocks c.args.bytes.now) c.args.bytes.now c.in-Err-cut_page.e c.requires.sound.order c.saturating_sub.ensures (c.child_place-place.ensures.leads (is_rising c.args.bytes.now c.requires.sound.order))
    (sound_inner c.args.form c.args.blocks c.args.bytes.now c.requires.sound flag (omega (arith, size, inside))) c.in-Ok.ensures.passes c.page_of-n.ensures.page (let m = c.in-Ok.ensures.most in omega (arith, m))
    (subst (λ o. StopsAt key (met_below (page_nodes c.args.blocks (page_of image)) c.args.bound (c.args.most - 1) (record { key = key; page = n }) o) c.in-Err-cut_page.e) (child_node c.args.blocks n (entry_of c.args.bytes.now place).at.addr image c.in-Ok.page.0 (c.in-Ok.ensures.bytes tells) c.page_of-n.ensures.page)
    (subst (λ (i : Image). StopsAt key (met_below (page_nodes c.args.blocks (page_of i)) c.args.bound (c.args.most - 1) (record { key = key; page = n }) (xt_node Full c.args.blocks c.in-Ok.page.0)) c.in-Err-cut_page.e) (c.in-Ok.ensures.image tells) (c.in-Err-cut_page.ensures.bad tells n)))

pub overflow_add-cut : goal.overflow_add-cut
overflow_add-cut g t c = let a = c.in-Ok-cut_page.ensures.below in let b = c.in_ok-settle.ensures.came.1 in let m = c.in-Ok.ensures.most in let f = c.ranges.most.fits in omega (arith, a, b, m, f)

pub returns-in-Err-free_children-clause-bad : goal.returns-in-Err-free_children-clause-bad
returns-in-Err-free_children-clause-bad g t c tells = λ page.
    let image = g.V.PageView.image c.args.view.now in
    let flag = ap is_leaf (sym c.get_u8.ensures.value) ∙ sym c.is_leaf.ensures ∙ c.if-is_leaf.false in
    let place = c.child_place-place.result in
    let n = c.page_of-n.result in
    let key = c.read_way.new.low in
    let size = length-entries c.args.bytes.now 0 (count_of c.args.bytes.now) in let inside = c.child_place-place.ensures.within in
    let some = c.in-Ok.ensures.some in
    behind_breaks (page_nodes c.args.blocks (page_of image)) c.args.bound c.args.most (c.args.most - 1) c.saturating_sub.result place key n c.settle.new.cut.met c.settle.new.cut.below (record { key = c.args.cut.now.met; page = page })
    (xt_node c.args.form c.args.blocks c.args.bytes.now) c.args.bytes.now c.in-Ok-cut_page.kept c.cut_page.new.cut.pages.items c.cut_page.new.cut.runs c.in-Err-free_children.e c.requires.sound.order c.saturating_sub.ensures (c.child_place-place.ensures.leads (is_rising c.args.bytes.now c.requires.sound.order))
    (sound_inner c.args.form c.args.blocks c.args.bytes.now c.requires.sound flag (omega (arith, size, inside))) c.in-Ok.ensures.passes c.page_of-n.ensures.page (let m = c.in-Ok.ensures.most in omega (arith, m))
    (child_is c.args.blocks c.args.bound (c.args.most - 1) key n (entry_of c.args.bytes.now place).at.addr c.cut_page.new.cut.met c.settle.new.cut.met c.cut_page.new.cut.below c.settle.new.cut.below image (g.V.PageView.image c.read_way.new.view) c.in-Ok.page.0 c.in-Ok-cut_page.kept c.cut_page.new.cut.pages.items c.cut_page.new.cut.runs
    (c.in-Ok.ensures.image tells) (c.in-Ok.ensures.bytes tells) c.page_of-n.ensures.page c.in_ok-settle.ensures.came.0 c.in_ok-settle.ensures.came.1
    (c.in-Ok-cut_page.ensures.met tells (λ leaf. fits_first key c.in-Ok.page.0 (omega (arith, some)) (c.in-Ok.ensures.fits leaf)) n))
    (subst (λ (i : Image). StopsAt c.settle.new.cut.met (children_from (page_nodes c.args.blocks (page_of i)) c.settle.new.cut.below (place + 1) c.settle.new.cut.met (entries_of c.args.bytes.now)) c.in-Err-free_children.e) (c.in-Ok-cut_page.ensures.image tells ∙ c.in-Ok.ensures.image tells) (c.in-Err-free_children.ensures.bad tells))

pub returns-clause-cuts : goal.returns-clause-cuts
returns-clause-cuts g t c tells =
    let image = g.V.PageView.image c.args.view.now in
    let nodes = page_nodes c.args.blocks (page_of image) in
    let flag = ap is_leaf (sym c.get_u8.ensures.value) ∙ sym c.is_leaf.ensures ∙ c.if-is_leaf.false in
    let place = c.child_place-place.result in
    let left = place + c.number_of.result in
    let one = c.in-Ok-free_children.ensures.draft in
    let is = c.number_of.ensures in
    let few = one_or_none c.in-Ok-cut_page.kept in
    let inside = c.child_place-place.ensures.within in
    let settled = page_settled c.args.blocks c.args.bound c.page_of-n.result image (g.V.PageView.image c.read_way.new.view) c.in-Ok.page.0 c.end_level.new.bytes c.in-Ok-cut_page.kept c.cut_page.new.cut.draft.pages.items c.settle.new.cut.draft.pages.items c.cut_page.new.cut.pages.items c.settle.new.cut.pages.items c.cut_page.new.cut.runs c.settle.new.cut.runs
    (c.in-Ok.ensures.image tells) (c.in-Ok.ensures.bytes tells ∙ ap (page_of image) (sym c.page_of-n.ensures.page))
    (subst (λ node. CutsNode c.args.blocks c.args.bound (page_of (g.V.PageView.image c.read_way.new.view)) (shown c.cut_page.new.cut.draft.pages.items (g.V.PageView.image c.read_way.new.view)) (xt_node Full c.args.blocks c.in-Ok.page.0) node c.in-Ok-cut_page.kept c.cut_page.new.cut.pages.items c.cut_page.new.cut.runs)
    (sym (c.end_level.ensures.node Full c.args.blocks)) (c.in-Ok-cut_page.ensures.cuts tells)) c.in_ok-settle.ensures.settles c.in_ok-settle.ensures.runs in
    inner_done c.args.form c.args.blocks c.args.bound c.saturating_sub.result place left c.in-Ok-cut_page.kept (nat_lt 0 left) c.args.bytes.now c.xt_cut.new.bytes image (shown c.free_children.new.cut.draft.pages.items image) c.page_of-n.result c.settle.new.cut.pages.items c.free_children.new.cut.pages.items c.settle.new.cut.runs c.free_children.new.cut.runs
    c.requires.sound flag c.saturating_sub.ensures (c.child_place-place.ensures.leads (is_rising c.args.bytes.now c.requires.sound.order)) c.page_of-n.ensures.page (ap (λ n. place + n) is) (is_some left) (is_none left)
    (kind_cut c.args.bytes.now c.xt_cut.new.bytes left c.requires.page (omega (arith, inside, is, few)) c.xt_cut.ensures.head) c.xt_cut.ensures.entries
    (subst (λ (ds : List Drafted). CutsPage c.args.blocks c.args.bound (page_of image) (shown ds image) c.page_of-n.result c.in-Ok-cut_page.kept c.settle.new.cut.pages.items c.settle.new.cut.runs) (sym one) settled)
    (frees_under nodes c.settle.new.cut.below c.settle.new.cut.met c.free_children.new.cut.met (drop (place + 1) (entries_of c.args.bytes.now)) c.settle.new.cut.pages.items c.free_children.new.cut.pages.items c.settle.new.cut.runs c.free_children.new.cut.runs
    (subst (λ ms. Frees c.settle.new.cut.met ms c.free_children.new.cut.met c.settle.new.cut.pages.items c.free_children.new.cut.pages.items c.settle.new.cut.runs c.free_children.new.cut.runs) (behind_is nodes c.settle.new.cut.below place c.settle.new.cut.met c.args.bytes.now)
    (subst (λ (i : Image). Frees c.settle.new.cut.met (children_from (page_nodes c.args.blocks (page_of i)) c.settle.new.cut.below (place + 1) c.settle.new.cut.met (entries_of c.args.bytes.now)) c.free_children.new.cut.met c.settle.new.cut.pages.items c.free_children.new.cut.pages.items c.settle.new.cut.runs c.free_children.new.cut.runs)
    (c.in-Ok-cut_page.ensures.image tells ∙ c.in-Ok.ensures.image tells) (c.in-Ok-free_children.ensures.frees tells))))

pub returns-clause-kept : goal.returns-clause-kept
returns-clause-kept g t c =
    let left = c.child_place-place.result + c.number_of.result in
    let is = c.number_of.ensures in let few = one_or_none c.in-Ok-cut_page.kept in let inside = c.child_place-place.ensures.within in
    left_some c.args.bytes.now c.xt_cut.new.bytes left (nat_lt 0 left) (omega (arith, inside, is, few)) c.xt_cut.ensures.entries (is_some left) (is_none left)

pub returns-clause-met : goal.returns-clause-met
returns-clause-met g t c tells = λ fits page.
    let image = g.V.PageView.image c.args.view.now in
    let flag = ap is_leaf (sym c.get_u8.ensures.value) ∙ sym c.is_leaf.ensures ∙ c.if-is_leaf.false in
    let place = c.child_place-place.result in
    let left = place + c.number_of.result in
    let n = c.page_of-n.result in
    let key = c.read_way.new.low in
    let kept = c.in-Ok-cut_page.kept in
    let size = length-entries c.args.bytes.now 0 (count_of c.args.bytes.now) in let inside = c.child_place-place.ensures.within in
    let some = c.in-Ok.ensures.some in
    let settled = page_settled c.args.blocks c.args.bound n image (g.V.PageView.image c.read_way.new.view) c.in-Ok.page.0 c.end_level.new.bytes kept c.cut_page.new.cut.draft.pages.items c.settle.new.cut.draft.pages.items c.cut_page.new.cut.pages.items c.settle.new.cut.pages.items c.cut_page.new.cut.runs c.settle.new.cut.runs
    (c.in-Ok.ensures.image tells) (c.in-Ok.ensures.bytes tells ∙ ap (page_of image) (sym c.page_of-n.ensures.page))
    (subst (λ node. CutsNode c.args.blocks c.args.bound (page_of (g.V.PageView.image c.read_way.new.view)) (shown c.cut_page.new.cut.draft.pages.items (g.V.PageView.image c.read_way.new.view)) (xt_node Full c.args.blocks c.in-Ok.page.0) node kept c.cut_page.new.cut.pages.items c.cut_page.new.cut.runs)
    (sym (c.end_level.ensures.node Full c.args.blocks)) (c.in-Ok-cut_page.ensures.cuts tells)) c.in_ok-settle.ensures.settles c.in_ok-settle.ensures.runs in
    inner_met c.args.blocks c.args.bound c.args.most (c.args.most - 1) c.saturating_sub.result place key n c.settle.new.cut.met c.settle.new.cut.below c.free_children.new.cut.met (c.settle.new.cut.below + 1) (record { key = c.args.cut.now.met; page = page }) (xt_node c.args.form c.args.blocks c.args.bytes.now) c.args.bytes.now image
    (shown c.settle.new.cut.draft.pages.items image) kept (nat_lt 0 left) c.cut_page.new.cut.pages.items c.settle.new.cut.pages.items c.free_children.new.cut.pages.items c.cut_page.new.cut.runs c.settle.new.cut.runs c.free_children.new.cut.runs
    c.requires.sound.order c.saturating_sub.ensures (c.child_place-place.ensures.leads (is_rising c.args.bytes.now c.requires.sound.order)) (sound_inner c.args.form c.args.blocks c.args.bytes.now c.requires.sound flag (omega (arith, size, inside))) c.in-Ok.ensures.passes c.page_of-n.ensures.page
    (let m = c.in-Ok.ensures.most in omega (arith, m))
    (child_is c.args.blocks c.args.bound (c.args.most - 1) key n (entry_of c.args.bytes.now place).at.addr c.cut_page.new.cut.met c.settle.new.cut.met c.cut_page.new.cut.below c.settle.new.cut.below image (g.V.PageView.image c.read_way.new.view) c.in-Ok.page.0 kept c.cut_page.new.cut.pages.items c.cut_page.new.cut.runs
    (c.in-Ok.ensures.image tells) (c.in-Ok.ensures.bytes tells) c.page_of-n.ensures.page c.in_ok-settle.ensures.came.0 c.in_ok-settle.ensures.came.1
    (c.in-Ok-cut_page.ensures.met tells (λ leaf. fits_first key c.in-Ok.page.0 (omega (arith, some)) (c.in-Ok.ensures.fits leaf)) n))
    settled (settled_kept kept n c.end_level.new.bytes c.cut_page.new.cut.draft.pages.items c.settle.new.cut.draft.pages.items c.cut_page.new.cut.pages.items c.settle.new.cut.pages.items c.in_ok-settle.ensures.settles)
    (settled_gone kept n c.end_level.new.bytes c.cut_page.new.cut.draft.pages.items c.settle.new.cut.draft.pages.items c.cut_page.new.cut.pages.items c.settle.new.cut.pages.items c.in_ok-settle.ensures.settles)
    (subst (λ rs. Frees c.settle.new.cut.met (children_from (page_nodes c.args.blocks (page_of image)) c.settle.new.cut.below (place + 1) c.settle.new.cut.met (entries_of c.args.bytes.now)) c.free_children.new.cut.met c.settle.new.cut.pages.items c.free_children.new.cut.pages.items rs c.free_children.new.cut.runs) c.in_ok-settle.ensures.runs
    (subst (λ (i : Image). Frees c.settle.new.cut.met (children_from (page_nodes c.args.blocks (page_of i)) c.settle.new.cut.below (place + 1) c.settle.new.cut.met (entries_of c.args.bytes.now)) c.free_children.new.cut.met c.settle.new.cut.pages.items c.free_children.new.cut.pages.items c.settle.new.cut.runs c.free_children.new.cut.runs)
    (c.in-Ok-cut_page.ensures.image tells ∙ c.in-Ok.ensures.image tells) (c.in-Ok-free_children.ensures.frees tells)))
    refl (λ z. none_left place left c.number_of.result kept refl c.number_of.ensures (is_none left z))

pub returns-clause-below : goal.returns-clause-below
returns-clause-below g t c = let a = c.in-Ok-cut_page.ensures.below in let b = c.in_ok-settle.ensures.came.1 in let m = c.in-Ok.ensures.most in omega (arith, a, b, m)

pub returns-then-is_leaf-clause-framed : goal.returns-then-is_leaf-clause-framed
returns-then-is_leaf-clause-framed g t c tells = none_framed (g.V.PageView.image c.args.view.now) c.args.cut.now.draft.pages.items c.cut_leaf.result c.requires.fresh.0

pub returns-clause-framed : goal.returns-clause-framed
returns-clause-framed g t c tells =
    let image = g.V.PageView.image c.args.view.now in
    subst (λ (ds : List Drafted). KeepsFrames (frame_of Full) image [] ds) (sym c.in-Ok-free_children.ensures.draft)
    (settled_way image (g.V.PageView.image c.read_way.new.view) c.in-Ok-cut_page.kept c.page_of-n.result c.in-Ok.page.0 c.cut_page.new.bytes c.end_level.new.bytes c.cut_page.new.cut.draft.pages.items c.settle.new.cut.draft.pages.items c.cut_page.new.cut.pages.items c.settle.new.cut.pages.items
    (c.in-Ok.ensures.image tells) (c.in-Ok.ensures.bytes tells ∙ ap (page_of image) (sym c.page_of-n.ensures.page)) (c.in-Ok-cut_page.ensures.framed tells) c.in_ok-settle.ensures.settles c.in-Ok-cut_page.ensures.frame c.end_level.ensures.frame)
