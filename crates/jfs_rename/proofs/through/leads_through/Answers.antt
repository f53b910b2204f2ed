use Rattle.std.proofs.Common.{◌∙◌, ◌≡◌, ◌<◌, ◌+◌, sym, ap, subst, inl, inr, ℕ, List, ◌∷◌, drop, length, get_or, eq-eqb, ne_eqb}
use Rattle.std.proofs.lemmas.List.{drop_more, drop_all}
use Rattle.jfs_disk.specs.Image.{page_of}
use Rattle.jfs_link.specs.way.proofs.Walks.{begins_not, ends_here}
use Rattle.jfs_rename.specs.Through.{HasGone}
use Rattle.jfs_rename.proofs.Leading.{follows_it, goes_further, tells_end}
use Rattle.jfs_rename.proofs.through.leads_through.Goals as goal

split : (path : List (List ℕ)) (i : ℕ) (name : List ℕ) → i < length path → name ≡ get_or path i name → drop i path ≡ name ∷ drop (i + 1) path
split path i name l e = drop_more path i name l ∙ ap (λ (x : List ℕ). x ∷ drop (i + 1) path) (sym e)

pub returns-in-Err-clause-follows : goal.returns-in-Err-clause-follows
returns-in-Err-clause-follows g c tells within area bm con = inr (begins_not g.V.PageView.tells (g.V.PageView.block_count c.args.view.now) (page_of (g.V.PageView.image c.args.view.now)) c.args.inodes.now c.args.names.now c.in-Err.e (c.in-Err.ensures.meets tells) within area bm con)

pub returns-then-at-n-clause-follows : goal.returns-then-at-n-clause-follows
returns-then-at-n-clause-follows g c tells =
    let i = c.loop-name.invariant in
    let here = split c.args.names.now c.loop-name.name-index c.name-item.result c.loop-name-test.true c.name-item.is in
    follows_it g.V.PageView.tells (g.V.PageView.block_count c.args.view.now) (page_of (g.V.PageView.image c.args.view.now)) c.args.inodes.now c.args.names.now c.args.n c.name-item.result (drop (c.loop-name.name-index + 1) c.args.names.now) c.loop-name.at (subst (λ names. HasGone g.V.PageView.tells (g.V.PageView.block_count c.args.view.now) (page_of (g.V.PageView.image c.args.view.now)) c.args.inodes.now c.args.names.now names c.args.n c.loop-name.at) here i.gone) (eq-eqb c.loop-name.at.number c.args.n c.if-at-n.true) tells

pub returns-in-Err-enter-clause-follows : goal.returns-in-Err-enter-clause-follows
returns-in-Err-enter-clause-follows g c tells =
    let i = c.loop-name.invariant in
    let here = split c.args.names.now c.loop-name.name-index c.name-item.result c.loop-name-test.true c.name-item.is in
    let gone = (subst (λ names. HasGone g.V.PageView.tells (g.V.PageView.block_count c.args.view.now) (page_of (g.V.PageView.image c.args.view.now)) c.args.inodes.now c.args.names.now names c.args.n c.loop-name.at) here i.gone) in
    ends_here g.V.PageView.tells (g.V.PageView.block_count c.args.view.now) (page_of (g.V.PageView.image c.args.view.now)) c.args.inodes.now c.args.names.now c.name-item.result (drop (c.loop-name.name-index + 1) c.args.names.now) c.loop-name.at gone.come c.in-Err-enter.e (λ told. rw (i.count_of_blocks, i.image told) at (c.in-Err-enter.ensures.follows told)) tells

pub loop-name-preserved : goal.loop-name-preserved
loop-name-preserved g c =
    let i = c.loop-name.invariant in
    let here = split c.args.names.now c.loop-name.name-index c.name-item.result c.loop-name-test.true c.name-item.is in
    record {
      image = λ told. c.enter.ensures.image told ∙ i.image told;
      count_of_blocks = c.enter.ensures.count_of_blocks ∙ i.count_of_blocks;
      device = c.enter.ensures.device ∙ i.device;
      fault = c.in-Ok-enter.ensures.fault ∙ i.fault;
      gone = goes_further g.V.PageView.tells (g.V.PageView.block_count c.args.view.now) (page_of (g.V.PageView.image c.args.view.now)) c.args.inodes.now c.args.names.now c.args.n c.name-item.result (drop (c.loop-name.name-index + 1) c.args.names.now) c.loop-name.at (subst (λ names. HasGone g.V.PageView.tells (g.V.PageView.block_count c.args.view.now) (page_of (g.V.PageView.image c.args.view.now)) c.args.inodes.now c.args.names.now names c.args.n c.loop-name.at) here i.gone) (ne_eqb c.loop-name.at.number c.args.n c.if-at-n.false)
          c.in-Ok-enter.next (rw i.count_of_blocks at c.in-Ok-enter.ensures.held) (λ told. rw (i.image told) at (c.in-Ok-enter.ensures.shown told))
          (λ told. rw (i.count_of_blocks, i.image told) at (c.in-Ok-enter.ensures.meets told)) (λ told. rw (i.count_of_blocks, i.image told) at (c.in-Ok-enter.ensures.follows told));
    }

pub returns-clause-follows : goal.returns-clause-follows
returns-clause-follows g c tells = tells_end g.V.PageView.tells (g.V.PageView.block_count c.args.view.now) (page_of (g.V.PageView.image c.args.view.now)) c.args.inodes.now c.args.names.now c.args.n c.loop-name.at
    (subst (λ names. HasGone g.V.PageView.tells (g.V.PageView.block_count c.args.view.now) (page_of (g.V.PageView.image c.args.view.now)) c.args.inodes.now c.args.names.now names c.args.n c.loop-name.at) (drop_all c.loop-name.name-index c.args.names.now c.loop-name-test.false) c.loop-name.invariant.gone) tells
