use Rattle.std.proofs.Common.{◌≡◌, ◌∙◌, ap, sym, subst, ◌+◌, [], length, take, get_or, not, arith}
use Rattle.jfs_disk.specs.Image.{Image}
use Rattle.jfs_tree.specs.declared.draft.Drafted.{Drafted}
use Rattle.jfs_tree.specs.Tell.{TellsDraft, TellsLines, TellsOne, TellsPage, is_hidden}
use Rattle.jfs_tree.proofs.DraftEdited.{DraftSoFar, page_told, page_hidden, all_told}
use Rattle.jfs_tree.proofs.DraftTold.{told_more, told_hidden}
use Rattle.jfs_tree.proofs.LinesOnly.{more_told}
use Rattle.jfs_tree.proofs.tell_all.tell_draft.Goals as goal
use Rattle.jfs_tree.proofs.tell_all.tell_draft.Goals.{then-is_told+in_ok-tell_drafted, else-is_told}

pub loop-i-preserved : goal.loop-i-preserved
loop-i-preserved g c =
    let d : Drafted = record { number = 0; page = record { 0 = [] } } in
    let ds = c.as_slice-pages.result.now in
    let same = c.as_slice-pages.ensures.value in
    let inv = c.loop-i.invariant in
    let told_bound = λ (e : Drafted). subst (λ n. c.is_told.result ≡ not (is_hidden n (take c.loop-i.i ds) (get_or ds c.loop-i.i e).number)) c.blocks-blocks.ensures (c.is_told.ensures e) in
    elim c.if-is_told.branch [
      | then-is_told+in_ok-tell_drafted w ↦ (
        (λ t. ap (λ v. g.V.PageView.image v) w.view-is ∙ w.in_ok-tell_drafted.ensures.image t ∙ inv.0 t),
        ap (λ v. g.V.PageView.block_count v) w.view-is ∙ w.in_ok-tell_drafted.ensures.count_of_blocks ∙ inv.1,
        ap (λ v. g.V.PageView.faults v) w.view-is ∙ w.in_ok-tell_drafted.ensures.fault ∙ inv.2,
        λ t. subst (λ xs. TellsDraft (g.V.PageView.block_count c.args.view.now) (g.V.PageView.image c.args.view.now) (take (c.loop-i.i + 1) xs) c.args.tx.now c.if-is_told.tx) same
            (subst (λ later. TellsDraft (g.V.PageView.block_count c.args.view.now) (g.V.PageView.image c.args.view.now) (take (c.loop-i.i + 1) ds) c.args.tx.now later) (sym w.tx-is)
            (told_more (g.V.PageView.block_count c.args.view.now) (g.V.PageView.image c.args.view.now) ds c.loop-i.i d c.is_told.result c.args.tx.now c.loop-i.tx w.tell_drafted.new.tx (let h = c.loop-i-test.true in omega (arith, h)) (told_bound d) w.if-is_told.true
            (subst (λ n. TellsOne n (g.V.PageView.image c.args.view.now) (get_or ds c.loop-i.i d).number (get_or ds c.loop-i.i d).page.0 c.loop-i.tx w.tell_drafted.new.tx) inv.1
            (subst (λ (i : Image). TellsOne (g.V.PageView.block_count c.loop-i.view) i (get_or ds c.loop-i.i d).number (get_or ds c.loop-i.i d).page.0 c.loop-i.tx w.tell_drafted.new.tx) (inv.0 t) (w.in_ok-tell_drafted.ensures.told t)))
            (subst (λ xs. TellsDraft (g.V.PageView.block_count c.args.view.now) (g.V.PageView.image c.args.view.now) (take c.loop-i.i xs) c.args.tx.now c.loop-i.tx) (sym same) (inv.3 t)))),
        λ t. subst (λ xs. DraftSoFar (g.V.PageView.block_count c.args.view.now) (g.V.PageView.image c.args.view.now) c.args.taken.now c.args.kind xs (c.loop-i.i + 1) c.args.tx.now c.if-is_told.tx) same
            (subst (λ later. DraftSoFar (g.V.PageView.block_count c.args.view.now) (g.V.PageView.image c.args.view.now) c.args.taken.now c.args.kind ds (c.loop-i.i + 1) c.args.tx.now later) (sym w.tx-is)
            (page_told (g.V.PageView.block_count c.args.view.now) (g.V.PageView.image c.args.view.now) c.args.taken.now c.args.kind ds c.loop-i.i d c.is_told.result c.args.tx.now c.loop-i.tx w.tell_drafted.new.tx (let h = c.loop-i-test.true in omega (arith, h)) (told_bound d) w.if-is_told.true
            (subst (λ (i : Image). TellsPage i c.args.taken.now c.args.kind (get_or ds c.loop-i.i d).number (get_or ds c.loop-i.i d).page.0 c.loop-i.tx w.tell_drafted.new.tx) (inv.0 t) (w.in_ok-tell_drafted.ensures.edits t))
            (subst (λ xs. DraftSoFar (g.V.PageView.block_count c.args.view.now) (g.V.PageView.image c.args.view.now) c.args.taken.now c.args.kind xs c.loop-i.i c.args.tx.now c.loop-i.tx) (sym same) (inv.4 t)))),
        subst (TellsLines c.args.tx.now) (sym w.tx-is) (more_told c.args.tx.now c.loop-i.tx w.tell_drafted.new.tx inv.5 w.in_ok-tell_drafted.ensures.lines),
        ap (λ v. g.V.PageView.device v) w.view-is ∙ w.in_ok-tell_drafted.ensures.device ∙ inv.6,
      )
      | else-is_told w ↦ (
        (λ t. ap (λ v. g.V.PageView.image v) w.view-is ∙ inv.0 t),
        ap (λ v. g.V.PageView.block_count v) w.view-is ∙ inv.1,
        ap (λ v. g.V.PageView.faults v) w.view-is ∙ inv.2,
        λ t. subst (λ xs. TellsDraft (g.V.PageView.block_count c.args.view.now) (g.V.PageView.image c.args.view.now) (take (c.loop-i.i + 1) xs) c.args.tx.now c.if-is_told.tx) same
            (subst (λ later. TellsDraft (g.V.PageView.block_count c.args.view.now) (g.V.PageView.image c.args.view.now) (take (c.loop-i.i + 1) ds) c.args.tx.now later) (sym w.tx-is)
            (told_hidden (g.V.PageView.block_count c.args.view.now) (g.V.PageView.image c.args.view.now) ds c.loop-i.i d c.is_told.result c.args.tx.now c.loop-i.tx (let h = c.loop-i-test.true in omega (arith, h)) (told_bound d) w.if-is_told.false
            (subst (λ xs. TellsDraft (g.V.PageView.block_count c.args.view.now) (g.V.PageView.image c.args.view.now) (take c.loop-i.i xs) c.args.tx.now c.loop-i.tx) (sym same) (inv.3 t)))),
        λ t. subst (λ xs. DraftSoFar (g.V.PageView.block_count c.args.view.now) (g.V.PageView.image c.args.view.now) c.args.taken.now c.args.kind xs (c.loop-i.i + 1) c.args.tx.now c.if-is_told.tx) same
            (subst (λ later. DraftSoFar (g.V.PageView.block_count c.args.view.now) (g.V.PageView.image c.args.view.now) c.args.taken.now c.args.kind ds (c.loop-i.i + 1) c.args.tx.now later) (sym w.tx-is)
            (page_hidden (g.V.PageView.block_count c.args.view.now) (g.V.PageView.image c.args.view.now) c.args.taken.now c.args.kind ds c.loop-i.i d c.is_told.result c.args.tx.now c.loop-i.tx (let h = c.loop-i-test.true in omega (arith, h)) (told_bound d) w.if-is_told.false
            (subst (λ xs. DraftSoFar (g.V.PageView.block_count c.args.view.now) (g.V.PageView.image c.args.view.now) c.args.taken.now c.args.kind xs c.loop-i.i c.args.tx.now c.loop-i.tx) (sym same) (inv.4 t)))),
        subst (TellsLines c.args.tx.now) (sym w.tx-is) inv.5,
        ap (λ v. g.V.PageView.device v) w.view-is ∙ inv.6,
      )
    ]

pub returns-clause-edits : goal.returns-clause-edits
returns-clause-edits g c tells =
    all_told (g.V.PageView.block_count c.args.view.now) (g.V.PageView.image c.args.view.now) c.args.taken.now c.args.kind c.args.draft.now.pages.items c.loop-i.i c.args.tx.now c.loop-i.tx
    (let h = c.loop-i-test.false in let e = ap length c.as_slice-pages.ensures.value in omega (arith, h, e)) (c.loop-i.invariant.4 tells)
