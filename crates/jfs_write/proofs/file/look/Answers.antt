use Rattle.std.proofs.Common.{sym}
use Rattle.jfs_disk.specs.Image.{page_of}
use Rattle.jfs_write.proofs.Calls.{kept_refused, space_refused}
use Rattle.jfs_write.proofs.file.look.Goals as goal

pub returns-in-Err-check_end-clause-looks : goal.returns-in-Err-check_end-clause-looks
returns-in-Err-check_end-clause-looks g c tells =
    kept_refused (g.V.PageView.block_count c.args.view.now) (page_of (g.V.PageView.image c.args.view.now)) (g.met.V.PageView.has_pages c.args.view.now tells) c.args.blocks.now c.args.inodes.now c.in-Ok.at c.in-Ok.ensures.held (c.in-Ok.ensures.shown tells) c.args.path.now (c.in-Ok.ensures.follows tells)
    c.args.offset c.args.limit c.in-Err-check_end.e c.args.count c.in-Err-check_end.ensures

pub returns-in-Ok-look_for_space-clause-looks : goal.returns-in-Ok-look_for_space-clause-looks
returns-in-Ok-look_for_space-clause-looks g c tells = record {
  walks = c.in-Ok.ensures.follows tells;
  walked = c.in-Ok.ensures.meets tells;
  allowed = c.in-Ok-check_end.ensures;
  space = sym (rw c.blocks_in-need.ensures.blocks at c.in-Ok-look_for_space.ensures.exactly);
}

pub returns-in-Err-look_for_space-clause-looks : goal.returns-in-Err-look_for_space-clause-looks
returns-in-Err-look_for_space-clause-looks g c tells =
    space_refused (g.V.PageView.block_count c.args.view.now) (page_of (g.V.PageView.image c.args.view.now)) (g.met.V.PageView.has_pages c.args.view.now tells) c.args.blocks.now c.args.inodes.now c.in-Ok.at c.in-Ok.ensures.held (c.in-Ok.ensures.shown tells) c.args.path.now (c.in-Ok.ensures.follows tells)
    c.args.offset c.args.limit c.in-Err-look_for_space.e c.args.count c.in-Ok-check_end.ensures (sym (rw c.blocks_in-need.ensures.blocks at c.in-Err-look_for_space.ensures.exactly))
