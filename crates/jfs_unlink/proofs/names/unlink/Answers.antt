use Rattle.std.proofs.Common.{◌∙◌, sym, inl, length, refl, false, None}
use Rattle.jfs_disk.specs.Image.{page_of}
use Rattle.jfs_unlink.proofs.Paths.{last_is}
use Rattle.jfs_unlink.proofs.Refusing.{unlink_no_dir, unlink_no_big}
use Rattle.jfs_unlink.proofs.Calls.{some_of, one_at_most, more_than_one, unlink_drops, unlink_leaves, drops_once, leaves_once, takes_last}
use Rattle.jfs_unlink.proofs.names.unlink.Goals as goal

pub returns-then-has_names-clause-steps : goal.returns-then-has_names-clause-steps
returns-then-has_names-clause-steps g c tells room same within area map con =
    inl (unlink_no_dir (g.V.PageView.block_count c.args.view.now) (page_of (g.V.PageView.image c.args.view.now)) (g.met.V.PageView.has_pages c.args.view.now tells) area map c.args.inodes.now con c.args.path.now (some_of (length c.args.path.now) c.is_empty.result c.is_empty.ensures c.if-is_empty.false)
    c.in-Ok.ends c.in-Ok.ensures.held (c.in-Ok.ensures.shown tells) (c.in-Ok.ensures.follows tells within area map con) c.args.now room (sym c.has_names.ensures ∙ c.if-has_names.true))

pub returns-then-is_last_of_big-clause-steps : goal.returns-then-is_last_of_big-clause-steps
returns-then-is_last_of_big-clause-steps g c tells room same within area map con =
    inl (unlink_no_big (g.V.PageView.block_count c.args.view.now) (page_of (g.V.PageView.image c.args.view.now)) (g.met.V.PageView.has_pages c.args.view.now tells) area map c.args.inodes.now con c.args.path.now (some_of (length c.args.path.now) c.is_empty.result c.is_empty.ensures c.if-is_empty.false)
    c.in-Ok.ends c.in-Ok.ensures.held (c.in-Ok.ensures.shown tells) (c.in-Ok.ensures.follows tells within area map con) c.args.now room c.args.limit same
    (sym c.has_names.ensures ∙ c.if-has_names.false) (sym c.is_last_of_big.ensures ∙ c.if-is_last_of_big.true))

pub returns-then-ends-le1-clause-takes : goal.returns-then-ends-le1-clause-takes
returns-then-ends-le1-clause-takes g c tells =
    takes_last (g.V.PageView.block_count c.args.view.now) (page_of (g.V.PageView.image c.args.view.now)) c.args.inodes.now c.args.path.now c.args.limit c.args.now (some_of (length c.args.path.now) c.is_empty.result c.is_empty.ensures c.if-is_empty.false) c.in-Ok.ends (c.in-Ok.ensures.meets tells)
    (sym c.has_names.ensures ∙ c.if-has_names.false) (sym c.is_last_of_big.ensures ∙ c.if-is_last_of_big.false) (one_at_most c.in-Ok.ends.at.inode.nlink c.if-ends-le1.true)
    c.index-path-path.result (last_is c.args.path.now (some_of (length c.args.path.now) c.is_empty.result c.is_empty.ensures c.if-is_empty.false) c.index-path-path.result c.index-path-path.is) c.drop_named.result (rw (c.find_ends.ensures.count_of_blocks, c.find_ends.ensures.image tells) at (c.drop_named.ensures.drops tells)) (rw (c.find_ends.ensures.count_of_blocks, c.find_ends.ensures.image tells) at (c.drop_named.ensures.whole tells))

pub returns-then-ends-le1-clause-steps : goal.returns-then-ends-le1-clause-steps
returns-then-ends-le1-clause-steps g c tells room same =
    unlink_drops (g.V.PageView.block_count c.args.view.now) (page_of (g.V.PageView.image c.args.view.now)) c.args.inodes.now c.args.path.now c.in-Ok.ends
    (record {
      whole = g.met.V.PageView.has_pages c.args.view.now tells;
      some = some_of (length c.args.path.now) c.is_empty.result c.is_empty.ensures c.if-is_empty.false;
      held = c.in-Ok.ensures.held;
      shown = c.in-Ok.ensures.shown tells;
      follows = c.in-Ok.ensures.follows tells;
      meets = c.in-Ok.ensures.meets tells;
    })
    c.args.now room c.args.limit same (sym c.has_names.ensures ∙ c.if-has_names.false) (sym c.is_last_of_big.ensures ∙ c.if-is_last_of_big.false) (one_at_most c.in-Ok.ends.at.inode.nlink c.if-ends-le1.true)
    c.index-path-path.result (last_is c.args.path.now (some_of (length c.args.path.now) c.is_empty.result c.is_empty.ensures c.if-is_empty.false) c.index-path-path.result c.index-path-path.is) c.drop_named.result (rw (c.find_ends.ensures.count_of_blocks, c.find_ends.ensures.image tells) at (c.drop_named.ensures.drops tells)) (rw (c.find_ends.ensures.count_of_blocks, c.find_ends.ensures.image tells) at (c.drop_named.ensures.stays tells))

pub returns-else-ends-le1-clause-steps : goal.returns-else-ends-le1-clause-steps
returns-else-ends-le1-clause-steps g c tells room same =
    unlink_leaves (g.V.PageView.block_count c.args.view.now) (page_of (g.V.PageView.image c.args.view.now)) c.args.inodes.now c.args.path.now c.in-Ok.ends
    (record {
      whole = g.met.V.PageView.has_pages c.args.view.now tells;
      some = some_of (length c.args.path.now) c.is_empty.result c.is_empty.ensures c.if-is_empty.false;
      held = c.in-Ok.ensures.held;
      shown = c.in-Ok.ensures.shown tells;
      follows = c.in-Ok.ensures.follows tells;
      meets = c.in-Ok.ensures.meets tells;
    })
    c.args.now room c.args.limit same (sym c.has_names.ensures ∙ c.if-has_names.false) (sym c.is_last_of_big.ensures ∙ c.if-is_last_of_big.false) (more_than_one c.in-Ok.ends.at.inode.nlink c.if-ends-le1.false)
    c.index-path-path.result (last_is c.args.path.now (some_of (length c.args.path.now) c.is_empty.result c.is_empty.ensures c.if-is_empty.false) c.index-path-path.result c.index-path-path.is) c.leave_named.result (rw (c.find_ends.ensures.count_of_blocks, c.find_ends.ensures.image tells) at (c.leave_named.ensures.leaves tells)) (rw (c.find_ends.ensures.count_of_blocks, c.find_ends.ensures.image tells) at (c.leave_named.ensures.stays tells))

pub returns-then-ends-le1-clause-once : goal.returns-then-ends-le1-clause-once
returns-then-ends-le1-clause-once g c tells =
    drops_once (g.V.PageView.block_count c.args.view.now) (page_of (g.V.PageView.image c.args.view.now)) c.args.inodes.now c.args.path.now c.in-Ok.ends
    (record {
      whole = g.met.V.PageView.has_pages c.args.view.now tells;
      some = some_of (length c.args.path.now) c.is_empty.result c.is_empty.ensures c.if-is_empty.false;
      held = c.in-Ok.ensures.held;
      shown = c.in-Ok.ensures.shown tells;
      follows = c.in-Ok.ensures.follows tells;
      meets = c.in-Ok.ensures.meets tells;
    })
    c.args.now (record { limit = c.args.limit; free = 0; deep = λ dir name. false; inode = None }) c.args.limit refl (sym c.has_names.ensures ∙ c.if-has_names.false) (sym c.is_last_of_big.ensures ∙ c.if-is_last_of_big.false) (one_at_most c.in-Ok.ends.at.inode.nlink c.if-ends-le1.true)
    c.index-path-path.result (last_is c.args.path.now (some_of (length c.args.path.now) c.is_empty.result c.is_empty.ensures c.if-is_empty.false) c.index-path-path.result c.index-path-path.is) c.drop_named.result (rw (c.find_ends.ensures.count_of_blocks, c.find_ends.ensures.image tells) at (c.drop_named.ensures.drops tells))

pub returns-else-ends-le1-clause-once : goal.returns-else-ends-le1-clause-once
returns-else-ends-le1-clause-once g c tells =
    leaves_once (g.V.PageView.block_count c.args.view.now) (page_of (g.V.PageView.image c.args.view.now)) c.args.inodes.now c.args.path.now c.in-Ok.ends
    (record {
      whole = g.met.V.PageView.has_pages c.args.view.now tells;
      some = some_of (length c.args.path.now) c.is_empty.result c.is_empty.ensures c.if-is_empty.false;
      held = c.in-Ok.ensures.held;
      shown = c.in-Ok.ensures.shown tells;
      follows = c.in-Ok.ensures.follows tells;
      meets = c.in-Ok.ensures.meets tells;
    })
    c.args.now (record { limit = c.args.limit; free = 0; deep = λ dir name. false; inode = None }) c.args.limit refl (sym c.has_names.ensures ∙ c.if-has_names.false) (sym c.is_last_of_big.ensures ∙ c.if-is_last_of_big.false) (more_than_one c.in-Ok.ends.at.inode.nlink c.if-ends-le1.false)
    c.index-path-path.result (last_is c.args.path.now (some_of (length c.args.path.now) c.is_empty.result c.is_empty.ensures c.if-is_empty.false) c.index-path-path.result c.index-path-path.is) c.leave_named.result (rw (c.find_ends.ensures.count_of_blocks, c.find_ends.ensures.image tells) at (c.leave_named.ensures.leaves tells))
