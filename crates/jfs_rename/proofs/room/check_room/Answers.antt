use Rattle.std.proofs.Common.{◌∙◌, refl, inl, inr, Ok, Err}
use Rattle.jfs_disk.specs.Image.{page_of}
use Rattle.jfs_link.proofs.Asks.{space_by, deep_by}
use Rattle.jfs_rename.proofs.room.check_room.Goals as goal

pub returns-in-Err-clause-room : goal.returns-in-Err-clause-room
returns-in-Err-clause-room g c tells inodes held shown dir within area con log_pages there = inl (space_by (g.V.PageView.block_count c.args.view.now) (page_of (g.V.PageView.image c.args.view.now)) area c.args.blocks.now inodes c.requires.size con (Err c.in-Err.e) c.in-Err.ensures.room log_pages)

pub returns-in-Ok-true-clause-room : goal.returns-in-Ok-true-clause-room
returns-in-Ok-true-clause-room g c tells inodes held shown dir within area con log_pages there = inr (inl (
  space_by (g.V.PageView.block_count c.args.view.now) (page_of (g.V.PageView.image c.args.view.now)) area c.args.blocks.now inodes c.requires.size con (Ok tt) c.in-Ok.ensures.room log_pages,
  deep_by (g.V.PageView.block_count c.args.view.now) (page_of (g.V.PageView.image c.args.view.now)) area c.args.blocks.now inodes con c.args.target.now held shown there dir c.args.name.now c.in-Ok-true.field-0 (rw c.root_in.ensures.root at (c.in-Ok-true.ensures.deep tells)) log_pages ∙ c.in-Ok-true.field-0-test,
  refl,
))

pub returns-in-Ok-false-clause-room : goal.returns-in-Ok-false-clause-room
returns-in-Ok-false-clause-room g c tells inodes held shown dir within area con log_pages there = (
  space_by (g.V.PageView.block_count c.args.view.now) (page_of (g.V.PageView.image c.args.view.now)) area c.args.blocks.now inodes c.requires.size con (Ok tt) c.in-Ok.ensures.room log_pages,
  deep_by (g.V.PageView.block_count c.args.view.now) (page_of (g.V.PageView.image c.args.view.now)) area c.args.blocks.now inodes con c.args.target.now held shown there dir c.args.name.now c.in-Ok-false.field-0 (rw c.root_in.ensures.root at (c.in-Ok-false.ensures.deep tells)) log_pages ∙ c.in-Ok-false.field-0-test,
)
