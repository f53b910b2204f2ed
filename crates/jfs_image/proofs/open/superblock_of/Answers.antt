use Rattle.std.proofs.Common.{arith}
use Rattle.jfs_image.proofs.Opening.{no_ninth, is_super, no_super}
use Rattle.jfs_image.proofs.open.superblock_of.Goals as goal

pub returns-in_default : goal.returns-in_default
returns-in_default c = no_ninth c.args.image.now c.in_default.ensures

pub returns-in-Ok : goal.returns-in-Ok
returns-in-Ok c =
    is_super c.args.image.now c.len-pages.result c.in-Some.page.now c.in-Ok.superblock c.in-Some.ensures c.len-pages.ensures (omega (arith, c.if-pages.false)) c.in-Ok.ensures.accepted.0 c.in-Ok.ensures.accepted.1

pub returns-in-Err : goal.returns-in-Err
returns-in-Err c = no_super c.args.image.now c.len-pages.result c.in-Some.page.now c.in-Err.field-0 c.in-Some.ensures c.len-pages.ensures c.in-Err.ensures.refused
