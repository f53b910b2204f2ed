use Rattle.std.proofs.Common.{◌∙◌, ◌≡◌, ◌<◌, ◌+◌, sym, ap, subst, inr, ℕ, List, ◌∷◌, drop, length, get_or}
use Rattle.std.proofs.lemmas.List.{drop_more, drop_all}
use Rattle.jfs_disk.specs.Image.{page_of}
use Rattle.jfs_way.specs.Walk.{HasCome}
use Rattle.jfs_way.proofs.Walks.{begins, begins_not, meets_first, goes_on, ends_here, meets_here, arrives, meets_all}
use Rattle.jfs_way.proofs.path.walk.Goals as goal

split : (path : List (List ℕ)) (i : ℕ) (name : List ℕ) → i < length path → name ≡ get_or path i name → drop i path ≡ name ∷ drop (i + 1) path
split path i name l e = drop_more path i name l ∙ ap (λ (x : List ℕ). x ∷ drop (i + 1) path) (sym e)

pub loop-name-init : goal.loop-name-init
loop-name-init g c = record {
  image = c.load.ensures.image;
  count_of_blocks = c.load.ensures.count_of_blocks;
  device = c.load.ensures.device;
  fault = c.in-Ok.ensures.fault;
  come = begins g.V.PageView.tells (g.V.PageView.block_count c.args.view.now) (page_of (g.V.PageView.image c.args.view.now)) c.args.inodes.now c.args.path.now
      c.in-Ok.at c.in-Ok.ensures.number c.in-Ok.ensures.held c.in-Ok.ensures.shown c.in-Ok.ensures.meets;
}

pub returns-in-Err-clause-follows : goal.returns-in-Err-clause-follows
returns-in-Err-clause-follows g c tells within area map con =
    inr (begins_not g.V.PageView.tells (g.V.PageView.block_count c.args.view.now) (page_of (g.V.PageView.image c.args.view.now)) c.args.inodes.now c.args.path.now c.in-Err.e (c.in-Err.ensures.meets tells) within area map con)

pub returns-in-Err-clause-meets : goal.returns-in-Err-clause-meets
returns-in-Err-clause-meets g c tells =
    meets_first g.V.PageView.tells (g.V.PageView.block_count c.args.view.now) (page_of (g.V.PageView.image c.args.view.now)) c.args.inodes.now c.args.path.now c.in-Err.e (c.in-Err.ensures.meets tells)

pub returns-in-Err-enter-clause-follows : goal.returns-in-Err-enter-clause-follows
returns-in-Err-enter-clause-follows g c =
    let i = c.loop-name.invariant in
    let here = split c.args.path.now c.loop-name.name-index c.name-item.result c.loop-name-test.true c.name-item.is in
    ends_here g.V.PageView.tells (g.V.PageView.block_count c.args.view.now) (page_of (g.V.PageView.image c.args.view.now)) c.args.inodes.now c.args.path.now c.name-item.result (drop (c.loop-name.name-index + 1) c.args.path.now) c.loop-name.at
    (subst (λ names. HasCome g.V.PageView.tells (g.V.PageView.block_count c.args.view.now) (page_of (g.V.PageView.image c.args.view.now)) c.args.inodes.now c.args.path.now names c.loop-name.at) here i.come)
    c.in-Err-enter.e (λ told. rw (i.count_of_blocks, i.image told) at (c.in-Err-enter.ensures.follows told))

pub returns-in-Err-enter-clause-meets : goal.returns-in-Err-enter-clause-meets
returns-in-Err-enter-clause-meets g c =
    let i = c.loop-name.invariant in
    let here = split c.args.path.now c.loop-name.name-index c.name-item.result c.loop-name-test.true c.name-item.is in
    meets_here g.V.PageView.tells (g.V.PageView.block_count c.args.view.now) (page_of (g.V.PageView.image c.args.view.now)) c.args.inodes.now c.args.path.now c.name-item.result (drop (c.loop-name.name-index + 1) c.args.path.now) c.loop-name.at
    (subst (λ names. HasCome g.V.PageView.tells (g.V.PageView.block_count c.args.view.now) (page_of (g.V.PageView.image c.args.view.now)) c.args.inodes.now c.args.path.now names c.loop-name.at) here i.come)
    c.in-Err-enter.e (λ told. rw (i.count_of_blocks, i.image told) at (c.in-Err-enter.ensures.meets told))

pub loop-name-preserved : goal.loop-name-preserved
loop-name-preserved g c =
    let i = c.loop-name.invariant in
    let here = split c.args.path.now c.loop-name.name-index c.name-item.result c.loop-name-test.true c.name-item.is in
    record {
      image = λ told. c.enter.ensures.image told ∙ i.image told;
      count_of_blocks = c.enter.ensures.count_of_blocks ∙ i.count_of_blocks;
      device = c.enter.ensures.device ∙ i.device;
      fault = c.in-Ok-enter.ensures.fault ∙ i.fault;
      come = goes_on g.V.PageView.tells (g.V.PageView.block_count c.args.view.now) (page_of (g.V.PageView.image c.args.view.now)) c.args.inodes.now c.args.path.now c.name-item.result (drop (c.loop-name.name-index + 1) c.args.path.now) c.loop-name.at
          (subst (λ names. HasCome g.V.PageView.tells (g.V.PageView.block_count c.args.view.now) (page_of (g.V.PageView.image c.args.view.now)) c.args.inodes.now c.args.path.now names c.loop-name.at) here i.come)
          c.in-Ok-enter.next (rw i.count_of_blocks at c.in-Ok-enter.ensures.held) (λ told. rw (i.image told) at (c.in-Ok-enter.ensures.shown told))
          (λ told. rw (i.count_of_blocks, i.image told) at (c.in-Ok-enter.ensures.meets told)) (λ told. rw (i.count_of_blocks, i.image told) at (c.in-Ok-enter.ensures.follows told));
    }

pub returns-clause-follows : goal.returns-clause-follows
returns-clause-follows g c =
    arrives g.V.PageView.tells (g.V.PageView.block_count c.args.view.now) (page_of (g.V.PageView.image c.args.view.now)) c.args.inodes.now c.args.path.now c.loop-name.at
    (subst (λ names. HasCome g.V.PageView.tells (g.V.PageView.block_count c.args.view.now) (page_of (g.V.PageView.image c.args.view.now)) c.args.inodes.now c.args.path.now names c.loop-name.at)
    (drop_all c.loop-name.name-index c.args.path.now c.loop-name-test.false) c.loop-name.invariant.come)

pub returns-clause-meets : goal.returns-clause-meets
returns-clause-meets g c =
    meets_all g.V.PageView.tells (g.V.PageView.block_count c.args.view.now) (page_of (g.V.PageView.image c.args.view.now)) c.args.inodes.now c.args.path.now c.loop-name.at
    (subst (λ names. HasCome g.V.PageView.tells (g.V.PageView.block_count c.args.view.now) (page_of (g.V.PageView.image c.args.view.now)) c.args.inodes.now c.args.path.now names c.loop-name.at)
    (drop_all c.loop-name.name-index c.args.path.now c.loop-name-test.false) c.loop-name.invariant.come)
