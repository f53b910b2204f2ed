use Rattle.std.proofs.Common.{◌*◌, arith}
use Rattle.std.specs.Prelude.{get_or}
use Rattle.jfs_dtpage.specs.Page.{table_of}
use Rattle.jfs_dtree.proofs.Places.{place_within}
use Rattle.jfs_dtree.proofs.Replaced.{no_change, leaf_led, leaf_still}
use Rattle.jfs_dtree.proofs.leaf.lead_name.Goals as goal

pub returns-then-not-is_sound_leaf-clause-change : goal.returns-then-not-is_sound_leaf-clause-change
returns-then-not-is_sound_leaf-clause-change c = no_change c.args.bytes.now

pub dt_set_inode-requires-clause-place : goal.dt_set_inode-requires-clause-place
dt_set_inode-requires-clause-place c = place_within c.args.form c.args.bytes.now c.name.result.now c.in-Ok.place c.in-Ok.ensures

pub returns-in-Ok-clause-node : goal.returns-in-Ok-clause-node
returns-in-Ok-clause-node c = λ blocks es leaf.
    leaf_led c.args.form blocks c.args.bytes.now c.dt_set_inode.new.bytes c.name.result.now c.args.x.now c.args.inode c.in-Ok.place es leaf c.name.ensures.units c.in-Ok.ensures
    c.dt_set_inode.ensures.sound c.dt_set_inode.ensures.entries c.dt_set_inode.ensures.head

pub returns-in-Ok-clause-change : goal.returns-in-Ok-clause-change
returns-in-Ok-clause-change c =
    (32 * get_or (table_of c.args.form c.args.bytes.now) c.in-Ok.place 0, (let b = c.dt_set_inode.ensures.behind in omega (arith, b)), c.dt_set_inode.ensures.kept)

pub returns-in_default-clause-node : goal.returns-in_default-clause-node
returns-in_default-clause-node c = λ blocks es leaf.
    leaf_still c.args.form blocks c.args.bytes.now c.name.result.now c.args.x.now c.args.inode c.in_default.field-0 es leaf c.name.ensures.units c.in_default.ensures

pub returns-in_default-clause-change : goal.returns-in_default-clause-change
returns-in_default-clause-change c = no_change c.args.bytes.now
