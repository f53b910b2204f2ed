use Rattle.std.proofs.Common.{sym, ◌∙◌, ap, List, arith}
use Rattle.std.proofs.lemmas.List.{drop_all}
use Rattle.jfs_ranges.specs.declared.edit.Edit.{Edit}
use Rattle.jfs_bmap.specs.States.{Free, put_state}
use Rattle.jfs_bmap.proofs.Puts.{put-none}
use Rattle.jfs_volume.specs.Runs.{taken_in}
use Rattle.jfs_volume.proofs.GivingBack.{next-there, rest-there, rest-freed}
use Rattle.jfs_volume.proofs.give_back.give_back_all.Goals as goal

pub give_back_of-requires : goal.give_back_of-requires
give_back_of-requires c = next-there c.args.edits.now c.loop-edit.edit-index c.edit-item.result c.loop-edit.blocks (omega arith) c.edit-item.is c.loop-edit.invariant.reserved

pub loop-edit-preserved : goal.loop-edit-preserved
loop-edit-preserved c =
    let es = c.args.edits.now in
    let i = c.loop-edit.edit-index in
    let m = c.loop-edit.blocks in
    rw c.give_back_of.ensures (record {
      left = rest-freed es i c.edit-item.result m (omega arith) c.edit-item.is ∙ c.loop-edit.invariant.left;
      reserved = rest-there es i c.edit-item.result m (omega arith) c.edit-item.is c.loop-edit.invariant.reserved;
    })

pub returns : goal.returns
returns c = sym (ap (λ (es : List Edit). put_state Free (taken_in es) c.loop-edit.blocks) (drop_all c.loop-edit.edit-index c.args.edits.now (omega arith)) ∙ put-none Free c.loop-edit.blocks) ∙ c.loop-edit.invariant.left
