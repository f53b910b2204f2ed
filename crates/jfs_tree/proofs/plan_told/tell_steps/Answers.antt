use Rattle.std.proofs.Common.{◌-◌, ◌∙◌, refl, length}
use Rattle.std.specs.Prelude.{reverse}
use Rattle.jfs_tree.specs.Fresh.{blocks_of}
use Rattle.jfs_tree.proofs.Runs.{left_named, taken_named}
use Rattle.jfs_disk.specs.Image.{page_of}
use Rattle.jfs_tree.proofs.Adds.{ok_maps}
use Rattle.jfs_tree.proofs.Changed.{taken_changes}
use Rattle.jfs_tree.proofs.Becoming.{front_fits}
use Rattle.jfs_tree.proofs.Drafts.{are_drafted}
use Rattle.jfs_tree.proofs.plan_told.tell_steps.Goals as goal

pub finish-requires-clause-fits : goal.finish-requires-clause-fits
finish-requires-clause-fits g c = front_fits (blocks_of c.args.fresh.now) c.as_slice.result.now c.args.left.now (length c.args.left.now) (c.as_slice.ensures.value ∙ c.in-Ok.ensures) refl c.requires.front

pub returns-clause-rest : goal.returns-clause-rest
returns-clause-rest g c =
    ok_maps c.finish.result c.finish.ensures.rest c.finish.ensures.rest (λ p rest again.
    left_named (blocks_of c.args.fresh.now) c.as_slice.result.now (reverse (blocks_of c.args.fresh.now)) c.args.left.now (blocks_of p.fresh) (length c.args.left.now)
    (c.as_slice.ensures.value ∙ c.in-Ok.ensures) refl refl c.requires.front rest)

pub returns-clause-taken : goal.returns-clause-taken
returns-clause-taken g c =
    ok_maps c.finish.result c.finish.ensures.rest c.finish.ensures.allocs (λ p rest ends.
    taken_named (blocks_of c.args.fresh.now) c.as_slice.result.now (blocks_of p.fresh) (length c.as_slice.result.now - (length c.args.left.now)) c.args.tx.now p.tx (c.as_slice.ensures.value ∙ c.in-Ok.ensures) rest ends)

pub returns-clause-edits : goal.returns-clause-edits
returns-clause-edits g c tells =
    ok_maps c.finish.result c.finish.ensures.rest (c.finish.ensures.edits tells) (λ p rest edits.
    taken_changes (g.V.PageView.block_count c.args.view.now) c.args.kind (page_of (g.V.PageView.image c.args.view.now)) (blocks_of c.args.fresh.now) c.as_slice.result.now (blocks_of p.fresh) (length c.as_slice.result.now - (length c.args.left.now)) c.args.tx.now p.tx (c.as_slice.ensures.value ∙ c.in-Ok.ensures) rest edits)

pub finish-requires-clause-drafted : goal.finish-requires-clause-drafted
finish-requires-clause-drafted g c =
    are_drafted (g.V.PageView.block_count c.args.view.now) c.args.draft.now.pages.items (blocks_of c.args.fresh.now) c.as_slice.result.now (reverse (blocks_of c.args.fresh.now)) c.args.left.now (length c.args.left.now)
    (c.as_slice.ensures.value ∙ c.in-Ok.ensures) refl refl c.requires.front c.requires.within c.requires.drafted
