use Rattle.std.proofs.Common.{rules, ◌≡◌, ◌≤◌, ◌<◌, refl, sym, subst, ◌+◌, ◌-◌, ◌^◌, [], ◌∷◌, length, true, false, IfOk, IfErr, arith}
use Rattle.std.specs.List.{All}
use Rattle.jfs_bits.specs.Extent.{FitsXad}
use Rattle.jfs_tree.specs.Form.{AllBelow}
use Rattle.jfs_tree.specs.Draft.{shown}
use Rattle.jfs_xtree.specs.Node.{all_within}
use Rattle.jfs_put_range.specs.Parts.{IsPart, WrotePage, RefutesPage, RefutesChildren, Pushed, BeginsBy, OthersFramed, most_taken}
use Rattle.jfs_put_range.proofs.Refuted.{zero_refuted, broken_refuted}
use Rattle.jfs_disk.specs.Image.{Image}
use Rattle.jfs_put_range.proofs.Framed.{others_then, page_others}
use Rattle.jfs_put_range.proofs.Finishing.{inner_done, inner_fails}
use Rattle.jfs_put_range.proofs.Pushing.{part_below, part_from, cut_taken, child_pushed, none_done, no_extents, first_within, rest_within, first_fits, rest_fits, some_begins, first_begins, grown_fits, both_pushed, rest_refuses, head_refuses, fewer_taken}
use Rattle.jfs_put_range.proofs.Skipped.{skip_all, skip_errs, drop_some, drop_fits, drop_within, drop_less}
use Rattle.jfs_bits.specs.declared.rule.Rule.TheVariants as broken
use Rattle.jfs_tree.proofs.Drafts.{drafts_both, drafts_still}
use Rattle.jfs_put_range.proofs.descent.+put.Goals as goal

pub put_below-returns-then-most-eq0-clause-bad : goal.put_below-returns-then-most-eq0-clause-bad
put_below-returns-then-most-eq0-clause-bad g t c tells =
    zero_refuted (g.V.PageView.block_count c.args.view.now) c.args.part.now.xs.items c.args.part.now.left c.args.part.now.right (shown c.args.draft.now.pages.items (g.V.PageView.image c.args.view.now)) c.args.most c.args.page c.args.stack.now.items
    c.args.page broken.Deep c.if-most-eq0.true

pub put_below-returns-in-Err-clause-bad : goal.put_below-returns-in-Err-clause-bad
put_below-returns-in-Err-clause-bad g t c tells =
    broken_refuted (g.V.PageView.block_count c.args.view.now) c.args.part.now.xs.items c.args.part.now.left c.args.part.now.right (shown c.args.draft.now.pages.items (g.V.PageView.image c.args.view.now)) c.args.most c.args.page c.args.stack.now.items
    c.in-Err.e (c.in-Err.ensures.bad tells)

pub put_below-returns-then-opened-clause-wrote : goal.put_below-returns-then-opened-clause-wrote
put_below-returns-then-opened-clause-wrote g t c tells =
    let i = g.V.PageView.image c.args.view.now in
    subst (λ b. IfOk c.put_leaf.result (λ grown. WrotePage c.args.part.now.last b c.args.part.now.xs.items c.args.part.now.left c.args.part.now.right (shown c.args.draft.now.pages.items i) (shown c.put_leaf.new.draft.pages.items i) grown.levels c.args.page grown.sibling c.args.stack.now.items c.put_leaf.new.stack.items))
    c.blocks-blocks.ensures (c.put_leaf.ensures.wrote i (c.in-Ok.ensures.bytes tells))

pub put_below-returns-then-opened-clause-bad : goal.put_below-returns-then-opened-clause-bad
put_below-returns-then-opened-clause-bad g t c tells =
    let i = g.V.PageView.image c.args.view.now in
    subst (λ b. IfErr c.put_leaf.result (λ e. RefutesPage b c.args.part.now.xs.items c.args.part.now.left c.args.part.now.right (shown c.args.draft.now.pages.items i) c.args.most c.args.page c.args.stack.now.items e))
    c.blocks-blocks.ensures (c.put_leaf.ensures.bad i c.args.most (c.in-Ok.ensures.bytes tells))

pub put_below-returns-in-Err-put_children-clause-bad : goal.put_below-returns-in-Err-put_children-clause-bad
put_below-returns-in-Err-put_children-clause-bad g t c tells =
    inner_fails c.args.part.now.last true g.V.PageView.tells (g.V.PageView.block_count c.args.view.now) (g.V.PageView.block_count c.open_page.new.view) c.args.part.now.xs.items c.args.part.now.left c.args.part.now.right c.args.draft.now.pages.items (g.V.PageView.image c.args.view.now) (g.V.PageView.image c.open_page.new.view)
    c.args.page c.in-Ok.opened.page.0 c.in-Ok.opened.entries.items c.as_slice.result.now c.in-Ok.opened.leaf c.args.stack.now.items (c.in-Ok.ensures.image tells) c.in-Ok.ensures.count_of_blocks c.in-Ok.ensures.opened c.if-opened.false (c.in-Ok.ensures.bytes tells) c.as_slice.ensures.value
    c.args.most (c.args.most - 1) c.in-Err-put_children.e (let h = c.if-most-eq0.false in omega (arith, h)) (c.in-Err-put_children.ensures.bad tells)

pub put_below-returns-in-Err-put_children-clause-below : goal.put_below-returns-in-Err-put_children-clause-below
put_below-returns-in-Err-put_children-clause-below g t c = λ bound h. (c.in-Err-put_children.ensures.below bound h, tt)

pub put_below-returns-in-Ok-store-clause-wrote : goal.put_below-returns-in-Ok-store-clause-wrote
put_below-returns-in-Ok-store-clause-wrote g t c tells =
    inner_done c.args.part.now.last c.starts_new-full.result g.V.PageView.tells (g.V.PageView.block_count c.args.view.now) (g.V.PageView.block_count c.open_page.new.view) c.args.part.now.xs.items c.args.part.now.left c.args.part.now.right c.args.draft.now.pages.items (g.V.PageView.image c.args.view.now) (g.V.PageView.image c.open_page.new.view)
    c.args.page c.in-Ok.opened.page.0 c.in-Ok.opened.entries.items c.as_slice.result.now c.in-Ok.opened.leaf c.args.stack.now.items (c.in-Ok.ensures.image tells) c.in-Ok.ensures.count_of_blocks c.in-Ok.ensures.opened c.if-opened.false (c.in-Ok.ensures.bytes tells) c.as_slice.ensures.value
    c.put_children.new.draft.pages.items c.store.new.draft.pages.items c.in-Ok-put_children.levels (c.in-Ok-put_children.levels + 1) c.new-list.result.items c.put_children.new.list.items c.as_slice-4.result.now c.put_children.new.stack.items c.store.new.stack.items c.in-Ok-store.sibling
    tells c.requires.some c.new-list.ensures.items c.as_slice-4.ensures.value refl c.in-Ok-put_children.ensures.front c.in-Ok-store.ensures.front c.starts_new-full.ensures.last c.in-Ok-put_children.ensures.pushed c.in-Ok-store.ensures.stored c.in-Ok-store.ensures.keeps

pub put_below-returns-in-Ok-store-clause-below : goal.put_below-returns-in-Ok-store-clause-below
put_below-returns-in-Ok-store-clause-below g t c = λ bound h. c.in-Ok-store.ensures.below bound (c.in-Ok-put_children.ensures.below bound h)

pub put_below-returns-clause-below : goal.put_below-returns-clause-below
put_below-returns-clause-below g t c = λ bound h. c.in-Err-store.ensures.below bound (c.in-Ok-put_children.ensures.below bound h)

pub put_both-put_child-requires : goal.put_both-put_child-requires
put_both-put_child-requires g t c κs within =
    let blocks = g.V.PageView.block_count c.args.view.now in
    let s = c.requires.small in
    let part : IsPart blocks c.in-Ok.cut.head.xs.items = subst (IsPart blocks) (sym c.in-Ok.ensures.below) (part_below blocks c.args.bound c.args.part.now.xs.items (omega (arith, s)) c.requires.part) in
    let range = first_within blocks c.args.child.now c.args.rest.now c.requires.range in
    let fits = first_fits c.args.child.now c.args.rest.now c.requires.fits in
    let taken = cut_taken c.args.bound c.args.part.now.xs.items c.args.part.now.left c.args.part.now.right c.args.part.now.last c.in-Ok.cut.head c.in-Ok.cut.tail c.args.most c.in-Ok.ensures in
    let held = c.requires.enough in
    let enough : most_taken c.in-Ok.cut.head.xs.items c.in-Ok.cut.head.left c.in-Ok.cut.head.right c.args.most ≤ length c.args.stack.now.items = omega (arith, taken, held) in
    search rules

pub put_both-returns-in-Err-clause-bad : goal.put_both-returns-in-Err-clause-bad
put_both-returns-in-Err-clause-bad g t c tells =
    head_refuses (g.V.PageView.block_count c.args.view.now) c.args.part.now.xs.items c.args.part.now.left c.args.part.now.right c.args.part.now.last c.args.top (shown c.args.draft.now.pages.items (g.V.PageView.image c.args.view.now)) c.args.most c.args.bound c.args.child.now c.args.rest.now c.in-Ok.cut.head c.in-Ok.cut.tail
    c.args.stack.now.items c.in-Err.e c.in-Ok.ensures c.requires.begins (c.in-Err.ensures.bad tells)

pub put_both-put_children-requires : goal.put_both-put_children-requires
put_both-put_children-requires g t c κs within =
    let blocks = g.V.PageView.block_count c.args.view.now in
    let now = g.V.PageView.block_count c.put_child.new.view in
    let size : now ≡ blocks = c.in-Ok-put_child.ensures.count_of_blocks in
    let s = c.requires.small in
    let small : now < 2 ^ 32 = omega (arith, s, size) in
    let part : IsPart now c.in-Ok.cut.tail.xs.items = subst (λ b. IsPart b c.in-Ok.cut.tail.xs.items) (sym size) (subst (IsPart blocks) (sym c.in-Ok.ensures.from) (part_from blocks c.args.bound c.args.part.now.xs.items (omega (arith, s)) c.requires.part)) in
    let range : all_within now c.args.rest.now ≡ true = subst (λ b. all_within b c.args.rest.now ≡ true) (sym size) (rest_within blocks c.args.child.now c.args.rest.now c.requires.range) in
    let fits = rest_fits c.args.child.now c.args.rest.now c.requires.fits in
    let some = some_begins c.args.bound c.args.rest.now c.requires.begins in
    let taken = cut_taken c.args.bound c.args.part.now.xs.items c.args.part.now.left c.args.part.now.right c.args.part.now.last c.in-Ok.cut.head c.in-Ok.cut.tail c.args.most c.in-Ok.ensures in
    let held = c.requires.enough in
    let used = c.in-Ok-put_child.ensures.used in
    let enough : most_taken c.in-Ok.cut.tail.xs.items c.in-Ok.cut.tail.left c.in-Ok.cut.tail.right c.args.most ≤ length c.put_child.new.stack.items = omega (arith, taken, held, used) in
    let inside : AllBelow now c.put_child.new.stack.items = subst (λ b. AllBelow b c.put_child.new.stack.items) (sym size) (c.in-Ok-put_child.ensures.below blocks c.requires.within) in
    search rules

pub put_both-returns-in-Ok-put_children-clause-pushed : goal.put_both-returns-in-Ok-put_children-clause-pushed
put_both-returns-in-Ok-put_children-clause-pushed g t c =
    both_pushed g.V.PageView.tells (g.V.PageView.block_count c.args.view.now) c.args.part.now.xs.items c.args.part.now.left c.args.part.now.right c.args.part.now.last c.args.top c.args.draft.now.pages.items c.put_child.new.draft.pages.items (g.V.PageView.image c.args.view.now) (g.V.PageView.image c.put_child.new.view)
    c.args.bound c.in-Ok-put_child.levels c.args.child.now c.args.rest.now c.args.list.now.items c.put_child.new.list.items c.in-Ok.cut.head c.in-Ok.cut.tail c.args.stack.now.items c.put_child.new.stack.items c.in-Ok.ensures c.requires.begins (λ tells. c.in-Ok-put_child.ensures.image tells) c.in-Ok-put_child.ensures.front
    c.in-Ok-put_child.ensures.pushed c.put_children.new.draft.pages.items c.in-Ok-put_children.levels c.max.result c.put_children.new.list.items c.put_children.new.stack.items c.in-Ok-put_children.ensures.front c.max.ensures
    (subst (λ b. Pushed g.V.PageView.tells c.in-Ok.cut.tail.last b c.in-Ok.cut.tail.xs.items c.in-Ok.cut.tail.left c.in-Ok.cut.tail.right false (shown c.put_child.new.draft.pages.items (g.V.PageView.image c.put_child.new.view)) (shown c.put_children.new.draft.pages.items (g.V.PageView.image c.put_child.new.view))
    c.in-Ok-put_children.levels c.args.rest.now c.put_child.new.list.items c.put_children.new.list.items c.put_child.new.stack.items c.put_children.new.stack.items) c.in-Ok-put_child.ensures.count_of_blocks c.in-Ok-put_children.ensures.pushed)

pub put_both-returns-in-Ok-put_children-clause-below : goal.put_both-returns-in-Ok-put_children-clause-below
put_both-returns-in-Ok-put_children-clause-below g t c = λ bound h. c.in-Ok-put_children.ensures.below bound (c.in-Ok-put_child.ensures.below bound h)

pub put_both-returns-clause-bad : goal.put_both-returns-clause-bad
put_both-returns-clause-bad g t c tells =
    rest_refuses g.V.PageView.tells (g.V.PageView.block_count c.args.view.now) c.args.part.now.xs.items c.args.part.now.left c.args.part.now.right c.args.part.now.last c.args.top c.args.draft.now.pages.items c.put_child.new.draft.pages.items (g.V.PageView.image c.args.view.now) (g.V.PageView.image c.put_child.new.view)
    c.args.bound c.in-Ok-put_child.levels c.args.child.now c.args.rest.now c.args.list.now.items c.put_child.new.list.items c.in-Ok.cut.head c.in-Ok.cut.tail c.args.stack.now.items c.put_child.new.stack.items c.in-Ok.ensures c.requires.begins (λ tells. c.in-Ok-put_child.ensures.image tells) c.in-Ok-put_child.ensures.front
    c.in-Ok-put_child.ensures.pushed c.args.most c.in-Err-put_children.e tells
    (subst (λ b. RefutesChildren b c.in-Ok.cut.tail.xs.items c.in-Ok.cut.tail.left c.in-Ok.cut.tail.right false (shown c.put_child.new.draft.pages.items (g.V.PageView.image c.put_child.new.view)) c.args.most c.args.rest.now c.put_child.new.stack.items c.in-Err-put_children.e)
    c.in-Ok-put_child.ensures.count_of_blocks (c.in-Err-put_children.ensures.bad tells))

pub put_both-returns-clause-below : goal.put_both-returns-clause-below
put_both-returns-clause-below g t c = λ bound h. c.in-Err-put_children.ensures.below bound (c.in-Ok-put_child.ensures.below bound h)

pub put_child-returns-then-is_empty-clause-pushed : goal.put_child-returns-then-is_empty-clause-pushed
put_child-returns-then-is_empty-clause-pushed g t c =
    none_done c.args.part.now.last g.V.PageView.tells (g.V.PageView.block_count c.args.view.now) c.args.part.now.xs.items c.args.part.now.left c.args.part.now.right c.args.top (shown c.args.draft.now.pages.items (g.V.PageView.image c.args.view.now)) (c.args.child.now ∷ []) c.args.list.now.items c.push_all.new.list.items c.args.stack.now.items
    c.push_all.result (no_extents c.args.part.now.xs.items (search rules)) (omega arith) (search rules) c.requires.range c.push_all.ensures.pushed c.push_all.ensures.levels

pub put_child-returns-in-Err-clause-below : goal.put_child-returns-in-Err-clause-below
put_child-returns-in-Err-clause-below g t c = λ bound h. (c.in-Err.ensures.below bound h).0

pub put_child-returns-in-Ok-push_grown-clause-pushed : goal.put_child-returns-in-Ok-push_grown-clause-pushed
put_child-returns-in-Ok-push_grown-clause-pushed g t c =
    let blocks = g.V.PageView.block_count c.args.view.now in
    let inside = (c.in-Ok.ensures.below blocks c.requires.within).1 in
    child_pushed c.args.part.now.last g.V.PageView.tells blocks c.args.part.now.xs.items c.args.part.now.left c.args.part.now.right c.args.top (shown c.args.draft.now.pages.items (g.V.PageView.image c.args.view.now)) (shown c.put_below.new.draft.pages.items (g.V.PageView.image c.args.view.now)) c.in-Ok.grown.levels c.args.child.now c.in-Ok.grown.sibling
    c.args.list.now.items c.push_grown.new.list.items c.args.stack.now.items c.put_below.new.stack.items (search rules) c.in-Ok.ensures.alone c.requires.range inside c.in-Ok-push_grown.ensures.list
    (grown_fits c.args.top c.args.child.now c.in-Ok.grown.sibling blocks c.requires.fits c.requires.small c.in-Ok.ensures.key inside) c.in-Ok.ensures.wrote

pub put_child-returns-in-Ok-push_grown-clause-below : goal.put_child-returns-in-Ok-push_grown-clause-below
put_child-returns-in-Ok-push_grown-clause-below g t c = λ bound h. (c.in-Ok.ensures.below bound h).0

pub put_child-returns-in-Err-push_grown-clause-below : goal.put_child-returns-in-Err-push_grown-clause-below
put_child-returns-in-Err-push_grown-clause-below g t c = λ bound h. (c.in-Ok.ensures.below bound h).0

pub put_children-returns-then-is_empty-clause-pushed : goal.put_children-returns-then-is_empty-clause-pushed
put_children-returns-then-is_empty-clause-pushed g t c =
    none_done c.args.part.now.last g.V.PageView.tells (g.V.PageView.block_count c.args.view.now) c.args.part.now.xs.items c.args.part.now.left c.args.part.now.right c.args.top (shown c.args.draft.now.pages.items (g.V.PageView.image c.args.view.now)) c.args.entries.now c.args.list.now.items c.push_all.new.list.items c.args.stack.now.items
    c.push_all.result (no_extents c.args.part.now.xs.items (search rules)) c.requires.some c.requires.fits c.requires.range c.push_all.ensures.pushed c.push_all.ensures.levels

pub put_from-put_both-requires : goal.put_from-put_both-requires
put_from-put_both-requires g t c κs within =
    let all = c.in-Some.ensures.cases.0 in
    let shorter = c.in-Some.ensures.cases.1 in
    let begins = first_begins c.in-Some.rest.now c.in-Some-first.next.now c.in-Some-first.ensures.value in
    let fits = subst (All FitsXad) all c.requires.fits in
    let range = subst (λ es. all_within (g.V.PageView.block_count c.args.view.now) es ≡ true) all c.requires.range in
    search rules

pub put_children-put_from-requires : goal.put_children-put_from-requires
put_children-put_from-requires g t c κs within =
    let blocks = g.V.PageView.block_count c.args.view.now in
    let back = sym c.split_at.ensures.back in
    let some = subst (λ ys. 0 < length ys) back (drop_some c.children_before.result c.args.entries.now c.children_before.ensures.within) in
    let fits = subst (All FitsXad) back (drop_fits c.children_before.result c.args.entries.now c.requires.fits) in
    let range = subst (λ ys. all_within blocks ys ≡ true) back (drop_within blocks c.children_before.result c.args.entries.now c.requires.range) in
    let shorter = subst (λ ys. length ys ≤ length c.args.entries.now) back (drop_less c.children_before.result c.args.entries.now) in
    search rules

pub put_children-returns-clause-pushed : goal.put_children-returns-clause-pushed
put_children-returns-clause-pushed g t c =
    let i = g.V.PageView.image c.args.view.now in
    skip_all c.args.part.now.last g.V.PageView.tells (g.V.PageView.block_count c.args.view.now) c.first_block.result c.args.part.now.xs.items c.args.part.now.left c.args.part.now.right c.args.top c.is_first.result (shown c.args.draft.now.pages.items i) c.args.entries.now c.split_at.result.0.now c.split_at.result.1.now c.children_before.result c.args.stack.now.items
    c.split_at.ensures.front c.split_at.ensures.back c.is_first.ensures c.first_block.ensures c.requires.part.range.rises
    (λ some. subst (BeginsBy c.first_block.result) (sym c.split_at.ensures.back) (c.children_before.ensures.begins (let n = c.split_at.ensures.front_len in omega (arith, some, n))))
    (shown c.put_from.new.draft.pages.items i) c.args.list.now.items c.push_all-2.new.list.items c.put_from.new.list.items c.put_from.new.stack.items c.put_from.result (λ m. fewer_taken m c.args.stack.now.items c.put_from.new.stack.items c.put_from.ensures.front)
    (subst (λ ys. 0 < length ys) (sym c.split_at.ensures.back) (drop_some c.children_before.result c.args.entries.now c.children_before.ensures.within)) c.requires.fits c.requires.range c.in_default.ensures.pushed c.put_from.ensures.pushed

pub put_children-returns-clause-bad : goal.put_children-returns-clause-bad
put_children-returns-clause-bad g t c tells =
    let i = g.V.PageView.image c.args.view.now in
    skip_errs c.args.part.now.last g.V.PageView.tells (g.V.PageView.block_count c.args.view.now) c.first_block.result c.args.part.now.xs.items c.args.part.now.left c.args.part.now.right c.args.top c.is_first.result (shown c.args.draft.now.pages.items i) c.args.entries.now c.split_at.result.0.now c.split_at.result.1.now c.children_before.result c.args.stack.now.items
    c.split_at.ensures.front c.split_at.ensures.back c.is_first.ensures c.first_block.ensures c.requires.part.range.rises
    (λ some. subst (BeginsBy c.first_block.result) (sym c.split_at.ensures.back) (c.children_before.ensures.begins (let n = c.split_at.ensures.front_len in omega (arith, some, n))))
    c.args.most c.put_from.result (subst (λ ys. 0 < length ys) (sym c.split_at.ensures.back) (drop_some c.children_before.result c.args.entries.now c.children_before.ensures.within)) (c.put_from.ensures.bad tells)

pub put_below-returns-then-opened-clause-others : goal.put_below-returns-then-opened-clause-others
put_below-returns-then-opened-clause-others g t c tells = c.put_leaf.ensures.others (g.V.PageView.image c.args.view.now) (c.in-Ok.ensures.bytes tells)

pub put_below-returns-in-Ok-store-clause-others : goal.put_below-returns-in-Ok-store-clause-others
put_below-returns-in-Ok-store-clause-others g t c tells =
    page_others c.starts_new-full.result c.as_slice-4.result.now c.in-Ok.opened.page.0 c.args.page c.args.draft.now.pages.items c.put_children.new.draft.pages.items c.store.new.draft.pages.items (g.V.PageView.image c.args.view.now)
    c.args.stack.now.items c.put_children.new.stack.items c.store.new.stack.items c.in-Ok-store.sibling (c.in-Ok.ensures.bytes tells)
    (λ m. fewer_taken m c.args.stack.now.items c.put_children.new.stack.items c.in-Ok-put_children.ensures.front) (λ m. fewer_taken m c.put_children.new.stack.items c.store.new.stack.items c.in-Ok-store.ensures.front)
    (subst (λ (i : Image). OthersFramed (shown c.args.draft.now.pages.items i) (shown c.put_children.new.draft.pages.items i) c.args.stack.now.items c.put_children.new.stack.items) (c.in-Ok.ensures.image tells) (c.in-Ok-put_children.ensures.others tells))
    c.in-Ok-store.ensures.stored c.in-Ok-store.ensures.keeps

pub put_both-returns-in-Ok-put_children-clause-others : goal.put_both-returns-in-Ok-put_children-clause-others
put_both-returns-in-Ok-put_children-clause-others g t c tells =
    let i = g.V.PageView.image c.args.view.now in
    others_then (shown c.args.draft.now.pages.items i) (shown c.put_child.new.draft.pages.items i) (shown c.put_children.new.draft.pages.items i) c.args.stack.now.items c.put_child.new.stack.items c.put_children.new.stack.items
    (λ m. fewer_taken m c.args.stack.now.items c.put_child.new.stack.items c.in-Ok-put_child.ensures.front) (λ m. fewer_taken m c.put_child.new.stack.items c.put_children.new.stack.items c.in-Ok-put_children.ensures.front)
    (c.in-Ok-put_child.ensures.others tells)
    (subst (λ (j : Image). OthersFramed (shown c.put_child.new.draft.pages.items j) (shown c.put_children.new.draft.pages.items j) c.put_child.new.stack.items c.put_children.new.stack.items) (c.in-Ok-put_child.ensures.image tells) (c.in-Ok-put_children.ensures.others tells))

pub put_below-returns-in-Ok-store-clause-drafted : goal.put_below-returns-in-Ok-store-clause-drafted
put_below-returns-in-Ok-store-clause-drafted g t c =
    drafts_both c.args.draft.now.pages.items c.put_children.new.draft.pages.items c.store.new.draft.pages.items c.args.stack.now.items c.put_children.new.stack.items c.store.new.stack.items c.in-Ok-put_children.ensures.drafted c.in-Ok-store.ensures.drafted

pub put_both-returns-in-Ok-put_children-clause-drafted : goal.put_both-returns-in-Ok-put_children-clause-drafted
put_both-returns-in-Ok-put_children-clause-drafted g t c =
    drafts_both c.args.draft.now.pages.items c.put_child.new.draft.pages.items c.put_children.new.draft.pages.items c.args.stack.now.items c.put_child.new.stack.items c.put_children.new.stack.items c.in-Ok-put_child.ensures.drafted c.in-Ok-put_children.ensures.drafted

pub put_child-returns-then-is_empty-clause-drafted : goal.put_child-returns-then-is_empty-clause-drafted
put_child-returns-then-is_empty-clause-drafted g t c = drafts_still c.args.draft.now.pages.items c.args.stack.now.items c.push_all.result

pub put_children-returns-then-is_empty-clause-drafted : goal.put_children-returns-then-is_empty-clause-drafted
put_children-returns-then-is_empty-clause-drafted g t c = drafts_still c.args.draft.now.pages.items c.args.stack.now.items c.push_all.result
