use Rattle.std.proofs.Common.{◌∙◌, sym}
use Rattle.jfs_image.specs.View.{image_of, blocks_in}
use Rattle.jfs_image.proofs.Stood.{inode_there, inode_err}
use Rattle.jfs_image.proofs.inode.inode_at.Goals as goal

pub returns-in-Ok-Some : goal.returns-in-Ok-Some
returns-in-Ok-Some c =
    inode_there (image_of c.args.view.now) (blocks_in c.args.view.now) c.args.n c.requires.blocks_are c.in-Ok-Some.page c.inode_on.result
    (sym c.in-Ok-Some.field-0-is ∙ c.in-Ok-Some.ensures.page tt c.requires.map_is) c.inode_on.ensures

pub returns-in-Err : goal.returns-in-Err
returns-in-Err c = inode_err (image_of c.args.view.now) (blocks_in c.args.view.now) c.args.n c.args.map.now c.in-Err.e c.requires.map_is c.in-Err.ensures.outside
