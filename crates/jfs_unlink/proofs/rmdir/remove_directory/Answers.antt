use Rattle.std.proofs.Common.{◌∙◌, sym, inl, length}
use Rattle.jfs_disk.specs.Image.{page_of}
use Rattle.jfs_unlink.proofs.Paths.{last_is}
use Rattle.jfs_unlink.proofs.Refusing.{rmdir_no_file}
use Rattle.jfs_unlink.proofs.Calls.{some_of, rmdir_drops, rmdir_full, removes_once}
use Rattle.jfs_unlink.proofs.rmdir.remove_directory.Goals as goal

pub returns-then-not-has_names-clause-steps : goal.returns-then-not-has_names-clause-steps
returns-then-not-has_names-clause-steps g c tells within area map con =
    inl (rmdir_no_file (g.V.PageView.block_count c.args.view.now) (page_of (g.V.PageView.image c.args.view.now)) (g.met.V.PageView.has_pages c.args.view.now tells) area map c.args.inodes.now con c.args.path.now (some_of (length c.args.path.now) c.is_empty.result c.is_empty.ensures c.if-is_empty.false)
    c.in-Ok.ends c.in-Ok.ensures.held (c.in-Ok.ensures.shown tells) (c.in-Ok.ensures.follows tells within area map con) c.args.now (sym c.has_names.ensures ∙ c.if-not-has_names.true))

pub returns-in-Err-check_bare-clause-steps : goal.returns-in-Err-check_bare-clause-steps
returns-in-Err-check_bare-clause-steps g c tells =
    rmdir_full (g.V.PageView.block_count c.args.view.now) (page_of (g.V.PageView.image c.args.view.now)) c.args.inodes.now c.args.path.now c.in-Ok.ends
    (record {
      whole = g.met.V.PageView.has_pages c.args.view.now tells;
      some = some_of (length c.args.path.now) c.is_empty.result c.is_empty.ensures c.if-is_empty.false;
      held = c.in-Ok.ensures.held;
      shown = c.in-Ok.ensures.shown tells;
      follows = c.in-Ok.ensures.follows tells;
      meets = c.in-Ok.ensures.meets tells;
    })
    c.args.now (sym c.has_names.ensures ∙ c.if-not-has_names.false) c.in-Err-check_bare.e (rw (c.blocks-2.ensures, c.find_ends.ensures.count_of_blocks) at c.in-Err-check_bare.ensures)

pub returns-clause-steps : goal.returns-clause-steps
returns-clause-steps g c tells =
    rmdir_drops (g.V.PageView.block_count c.args.view.now) (page_of (g.V.PageView.image c.args.view.now)) c.args.inodes.now c.args.path.now c.in-Ok.ends
    (record {
      whole = g.met.V.PageView.has_pages c.args.view.now tells;
      some = some_of (length c.args.path.now) c.is_empty.result c.is_empty.ensures c.if-is_empty.false;
      held = c.in-Ok.ensures.held;
      shown = c.in-Ok.ensures.shown tells;
      follows = c.in-Ok.ensures.follows tells;
      meets = c.in-Ok.ensures.meets tells;
    })
    c.args.now (sym c.has_names.ensures ∙ c.if-not-has_names.false) (rw (c.blocks-2.ensures, c.find_ends.ensures.count_of_blocks) at c.in-Ok-check_bare.ensures)
    c.index-path-path.result (last_is c.args.path.now (some_of (length c.args.path.now) c.is_empty.result c.is_empty.ensures c.if-is_empty.false) c.index-path-path.result c.index-path-path.is) c.drop_named.result (rw (c.find_ends.ensures.count_of_blocks, c.find_ends.ensures.image tells, c.saturating_sub-links.ensures) at (c.drop_named.ensures.drops tells)) (rw (c.find_ends.ensures.count_of_blocks, c.find_ends.ensures.image tells) at (c.drop_named.ensures.stays tells))

pub returns-clause-once : goal.returns-clause-once
returns-clause-once g c tells =
    removes_once (g.V.PageView.block_count c.args.view.now) (page_of (g.V.PageView.image c.args.view.now)) c.args.inodes.now c.args.path.now c.in-Ok.ends
    (record {
      whole = g.met.V.PageView.has_pages c.args.view.now tells;
      some = some_of (length c.args.path.now) c.is_empty.result c.is_empty.ensures c.if-is_empty.false;
      held = c.in-Ok.ensures.held;
      shown = c.in-Ok.ensures.shown tells;
      follows = c.in-Ok.ensures.follows tells;
      meets = c.in-Ok.ensures.meets tells;
    })
    c.args.now (sym c.has_names.ensures ∙ c.if-not-has_names.false) (rw (c.blocks-2.ensures, c.find_ends.ensures.count_of_blocks) at c.in-Ok-check_bare.ensures)
    c.index-path-path.result (last_is c.args.path.now (some_of (length c.args.path.now) c.is_empty.result c.is_empty.ensures c.if-is_empty.false) c.index-path-path.result c.index-path-path.is) c.drop_named.result (rw (c.find_ends.ensures.count_of_blocks, c.find_ends.ensures.image tells, c.saturating_sub-links.ensures) at (c.drop_named.ensures.drops tells))
