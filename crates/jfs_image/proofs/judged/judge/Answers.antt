use Rattle.std.proofs.Common.{subst, Option, Ok}
use Rattle.jfs_inode.specs.declared.fields.Dinode.{Dinode}
use Rattle.jfs_image.specs.View.{image_of, blocks_in}
use Rattle.jfs_image.specs.Standing.{InodeIs}
use Rattle.jfs_image.proofs.Judging.{judged_as}
use Rattle.jfs_image.proofs.judged.judge.Goals as goal

pub returns-in-Ok-Some : goal.returns-in-Ok-Some
returns-in-Ok-Some c =
    judged_as (image_of c.args.view.now) (blocks_in c.args.view.now) c.args.n c.in-Ok-Some.d c.judge_as.result c.requires.blocks_are
    (subst (λ (o : Option Dinode). InodeIs (image_of c.args.view.now) c.args.n (Ok o)) c.in-Ok-Some.field-0-is c.in-Ok-Some.ensures) c.judge_as.ensures

pub returns-in-Ok-None : goal.returns-in-Ok-None
returns-in-Ok-None c = subst (λ (o : Option Dinode). InodeIs (image_of c.args.view.now) c.args.n (Ok o)) c.in-Ok-None.field-0-is c.in-Ok-None.ensures
