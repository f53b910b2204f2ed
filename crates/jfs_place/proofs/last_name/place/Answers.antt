use Rattle.std.proofs.Common.{◌∙◌, sym, inl, subst, false, true}
use Rattle.jfs_disk.specs.Image.{page_of}
use Rattle.jfs_way.specs.Walk.{IsThere, tree_in}
use Rattle.jfs_place.proofs.Fronts.{place_refused, place_found, spot_refused, spot_found, last_short}
use Rattle.jfs_place.proofs.HeldNode.{held_node, node_there, node_kind}
use Rattle.jfs_place.proofs.last_name.place.Goals as goal

pub returns-in-Err-clause-refuses : goal.returns-in-Err-clause-refuses
returns-in-Err-clause-refuses g c tells within area map con =
    place_refused (tree_in (g.V.PageView.block_count c.args.view.now) (page_of (g.V.PageView.image c.args.view.now)) area map c.args.inodes.now) c.args.path.now c.in-Some.front.now c.in-Some.name.now c.in-Err.e
    c.in-Some.ensures.cases.0 (c.in-Err.ensures.follows tells within area map con)

pub returns-in-Err-clause-fails : goal.returns-in-Err-clause-fails
returns-in-Err-clause-fails g c tells =
    spot_refused (g.V.PageView.block_count c.args.view.now) (page_of (g.V.PageView.image c.args.view.now)) c.args.inodes.now c.args.path.now c.in-Some.front.now c.in-Some.name.now c.in-Err.e c.in-Some.ensures.cases.0 (c.in-Err.ensures.meets tells)

pub returns-then-not-has_names-clause-refuses : goal.returns-then-not-has_names-clause-refuses
returns-then-not-has_names-clause-refuses g c tells within area map con =
    let blocks = g.V.PageView.block_count c.args.view.now in
    let pages = page_of (g.V.PageView.image c.args.view.now) in
    let f = c.in-Ok.ensures.follows tells within area map con in
    let there = subst (IsThere (tree_in blocks pages area map c.args.inodes.now)) f.2.0 f.2.1 in
    inl (place_found (tree_in blocks pages area map c.args.inodes.now) c.args.path.now c.in-Some.front.now c.in-Some.name.now c.in-Ok.dir
    (held_node blocks pages area map c.args.inodes.now con c.in-Ok.dir c.in-Ok.ensures.held (c.in-Ok.ensures.shown tells) there) false c.in-Some.ensures.cases.0 f
    (node_there blocks pages area map c.args.inodes.now con c.in-Ok.dir c.in-Ok.ensures.held (c.in-Ok.ensures.shown tells) there)
    (node_kind blocks pages area map c.args.inodes.now con c.in-Ok.dir c.in-Ok.ensures.held (c.in-Ok.ensures.shown tells) there false (sym c.has_names.ensures ∙ c.if-not-has_names.true)))

pub returns-then-not-has_names-clause-fails : goal.returns-then-not-has_names-clause-fails
returns-then-not-has_names-clause-fails g c tells =
    inl (spot_found (g.V.PageView.block_count c.args.view.now) (page_of (g.V.PageView.image c.args.view.now)) c.args.inodes.now c.args.path.now c.in-Some.front.now c.in-Some.name.now c.in-Ok.dir false
    c.in-Some.ensures.cases.0 (c.in-Ok.ensures.meets tells) (sym c.has_names.ensures ∙ c.if-not-has_names.true))

pub returns-clause-name : goal.returns-clause-name
returns-clause-name g c = last_short c.args.path.now c.in-Some.front.now c.in-Some.name.now c.in-Some.ensures.cases.0 c.requires.names

pub returns-clause-follows : goal.returns-clause-follows
returns-clause-follows g c tells within area map con =
    let blocks = g.V.PageView.block_count c.args.view.now in
    let pages = page_of (g.V.PageView.image c.args.view.now) in
    let f = c.in-Ok.ensures.follows tells within area map con in
    let there = subst (IsThere (tree_in blocks pages area map c.args.inodes.now)) f.2.0 f.2.1 in (
      place_found (tree_in blocks pages area map c.args.inodes.now) c.args.path.now c.in-Some.front.now c.in-Some.name.now c.in-Ok.dir
          (held_node blocks pages area map c.args.inodes.now con c.in-Ok.dir c.in-Ok.ensures.held (c.in-Ok.ensures.shown tells) there) true c.in-Some.ensures.cases.0 f
          (node_there blocks pages area map c.args.inodes.now con c.in-Ok.dir c.in-Ok.ensures.held (c.in-Ok.ensures.shown tells) there)
          (node_kind blocks pages area map c.args.inodes.now con c.in-Ok.dir c.in-Ok.ensures.held (c.in-Ok.ensures.shown tells) there true (sym c.has_names.ensures ∙ c.if-not-has_names.false)),
      there,
    )

pub returns-clause-meets : goal.returns-clause-meets
returns-clause-meets g c tells =
    spot_found (g.V.PageView.block_count c.args.view.now) (page_of (g.V.PageView.image c.args.view.now)) c.args.inodes.now c.args.path.now c.in-Some.front.now c.in-Some.name.now c.in-Ok.dir true
    c.in-Some.ensures.cases.0 (c.in-Ok.ensures.meets tells) (sym c.has_names.ensures ∙ c.if-not-has_names.false)
