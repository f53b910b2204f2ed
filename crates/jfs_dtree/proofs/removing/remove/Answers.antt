use Rattle.std.proofs.Common.{refl, sym, ap, ◌∙◌, subst, ℕ, List, Some, None, Err}
use Rattle.std.specs.Option.{option_map}
use Rattle.jfs_disk.specs.Image.{page_of}
use Rattle.jfs_name.specs.declared.name.NameEntry.{NameEntry}
use Rattle.jfs_dtree.specs.Laws.{point}
use Rattle.jfs_dtree.specs.Removing.{MissesName}
use Rattle.jfs_dtree.specs.Replacing.{FollowsWay}
use Rattle.jfs_dtree.specs.Spells.{found_for}
use Rattle.jfs_dtree.proofs.Roots.{failed_follows, first_as, found_as, told_failed}
use Rattle.jfs_dtree.proofs.Lessened.{removes_as, missed_as, misses_as}
use Rattle.jfs_dtree.proofs.Emptied.{left_as}
use Rattle.jfs_dtree.proofs.Frames.{parent_kept}
use Rattle.jfs_dtree.proofs.removing.remove.Goals as goal

pub remove_and_tell-requires-clause-point : goal.remove_and_tell-requires-clause-point
remove_and_tell-requires-clause-point g c = point c.new-x.result

pub returns-in-Ok-Some-clause-removes : goal.returns-in-Ok-Some-clause-removes
returns-in-Ok-Some-clause-removes g c tells =
    let with_units = λ (units : List ℕ). (let e : NameEntry = record { name = units; inode = 0 } in e) in
    removes_as c.blocks-blocks.result (g.V.PageView.block_count c.args.view.now) (g.V.PageView.image c.args.view.now) c.args.root.now c.remove_and_tell.new.root c.remove_and_tell.new.root c.args.name.now c.new-x.result c.in-Ok-Some.entry c.in-Ok-Some.field-0 c.inode.result
    c.args.tx.now c.remove_and_tell.new.tx c.blocks-blocks.ensures (c.new-x.ensures ∙ ap with_units c.as_slice.ensures) c.inode.ensures c.in-Ok-Some.field-0-is (λ blocks. refl) (c.in-Ok-Some.ensures.removes tells)

pub returns-in-Ok-None-clause-missed : goal.returns-in-Ok-None-clause-missed
returns-in-Ok-None-clause-missed g c tells =
    let with_units = λ (units : List ℕ). (let e : NameEntry = record { name = units; inode = 0 } in e) in
    missed_as c.blocks-blocks.result (g.V.PageView.block_count c.args.view.now) (g.V.PageView.image c.args.view.now) c.args.root.now c.remove_and_tell.new.root c.args.name.now c.new-x.result c.in-Ok-None.field-0
    c.args.tx.now c.remove_and_tell.new.tx c.blocks-blocks.ensures (c.new-x.ensures ∙ ap with_units c.as_slice.ensures) c.in-Ok-None.field-0-is (c.in-Ok-None.ensures.removes tells)

pub returns-in-Err-clause-missed : goal.returns-in-Err-clause-missed
returns-in-Err-clause-missed g c tells =
    subst (MissesName (g.V.PageView.block_count c.args.view.now) (page_of (g.V.PageView.image c.args.view.now)) c.args.name.now c.args.root.now) (sym c.handed_on.ensures)
    (misses_as c.blocks-blocks.result (g.V.PageView.block_count c.args.view.now) (g.V.PageView.image c.args.view.now) c.args.root.now c.args.name.now c.in-Err.e c.blocks-blocks.ensures (c.in-Err.ensures.bad tells))

pub returns-in-Ok-Some-clause-way : goal.returns-in-Ok-Some-clause-way
returns-in-Ok-Some-clause-way g c tells =
    sym (first_as c.blocks-blocks.result (g.V.PageView.block_count c.args.view.now) (g.V.PageView.image c.args.view.now) c.args.root.now c.args.name.now c.new-x.result c.blocks-blocks.ensures (ap (λ (e : NameEntry). e.name) c.new-x.ensures ∙ c.as_slice.ensures))
    ∙ c.in-Ok-Some.ensures.way tells

pub returns-in-Ok-None-clause-way : goal.returns-in-Ok-None-clause-way
returns-in-Ok-None-clause-way g c tells =
    sym (first_as c.blocks-blocks.result (g.V.PageView.block_count c.args.view.now) (g.V.PageView.image c.args.view.now) c.args.root.now c.args.name.now c.new-x.result c.blocks-blocks.ensures (ap (λ (e : NameEntry). e.name) c.new-x.ensures ∙ c.as_slice.ensures))
    ∙ c.in-Ok-None.ensures.way tells

pub returns-in-Err-clause-way : goal.returns-in-Err-clause-way
returns-in-Err-clause-way g c tells =
    told_failed _ _ c.in-Err.e c.handed_on.result c.handed_on.ensures
    (first_as c.blocks-blocks.result (g.V.PageView.block_count c.args.view.now) (g.V.PageView.image c.args.view.now) c.args.root.now c.args.name.now c.new-x.result c.blocks-blocks.ensures (ap (λ (e : NameEntry). e.name) c.new-x.ensures ∙ c.as_slice.ensures))
    (c.in-Err.ensures.way tells)

pub returns-in-Ok-Some-clause-left : goal.returns-in-Ok-Some-clause-left
returns-in-Ok-Some-clause-left g c tells =
    left_as c.blocks-blocks.result (g.V.PageView.block_count c.args.view.now) (g.V.PageView.image c.args.view.now) c.args.root.now c.remove_and_tell.new.root c.remove_and_tell.new.root c.args.tx.now c.remove_and_tell.new.tx
    c.blocks-blocks.ensures (λ blocks. refl) (c.in-Ok-Some.ensures.left tells)

pub returns-in-Ok-Some-clause-parent : goal.returns-in-Ok-Some-clause-parent
returns-in-Ok-Some-clause-parent g c = parent_kept c.args.root.now c.remove_and_tell.new.root c.remove_and_tell.ensures.frame

pub returns-in-Ok-Some-clause-on_way : goal.returns-in-Ok-Some-clause-on_way
returns-in-Ok-Some-clause-on_way g c tells =
    let inode_of = λ (e : NameEntry). e.inode in
    sym (found_as c.blocks-blocks.result (g.V.PageView.block_count c.args.view.now) (g.V.PageView.image c.args.view.now) c.args.root.now c.args.name.now c.as_slice.result.now c.new-x.result c.in-Ok-Some.field-0 (Some c.inode.result)
    c.blocks-blocks.ensures c.new-x.ensures c.as_slice.ensures (ap Some c.inode.ensures ∙ sym (ap (option_map inode_of) c.in-Ok-Some.field-0-is)) (c.in-Ok-Some.ensures.on_way tells))

pub returns-in-Ok-None-clause-on_way : goal.returns-in-Ok-None-clause-on_way
returns-in-Ok-None-clause-on_way g c tells =
    let inode_of = λ (e : NameEntry). e.inode in
    sym (found_as c.blocks-blocks.result (g.V.PageView.block_count c.args.view.now) (g.V.PageView.image c.args.view.now) c.args.root.now c.args.name.now c.as_slice.result.now c.new-x.result c.in-Ok-None.field-0 None
    c.blocks-blocks.ensures c.new-x.ensures c.as_slice.ensures (sym (ap (option_map inode_of) c.in-Ok-None.field-0-is)) (c.in-Ok-None.ensures.on_way tells))

pub returns-in-Err-clause-on_way : goal.returns-in-Err-clause-on_way
returns-in-Err-clause-on_way g c tells =
    let found = found_for (g.V.PageView.block_count c.args.view.now) (page_of (g.V.PageView.image c.args.view.now)) c.args.root.now c.args.name.now in
    subst (λ d. FollowsWay found (Err d)) (sym c.handed_on.ensures) (failed_follows found c.in-Err.e)
