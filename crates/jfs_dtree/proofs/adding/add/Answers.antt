use Rattle.std.proofs.Common.{sym, ap, ◌∙◌, subst, ℕ, List, true, false}
use Rattle.jfs_disk.specs.Image.{page_of}
use Rattle.jfs_name.specs.declared.name.NameEntry.{NameEntry}
use Rattle.jfs_bits.specs.declared.rule.PageKind.TheVariants.{Dtree}
use Rattle.jfs_tree.specs.Changes.{TellsTaken}
use Rattle.jfs_tree.specs.Fresh.{blocks_of}
use Rattle.jfs_dtree.specs.Spells.{root_node, page_nodes, broken_for, found_for}
use Rattle.jfs_dtree.specs.Room.{FollowsRoom, TightFrom, deep_on_way}
use Rattle.jfs_dtree.specs.Adding.{RefusesName, ClashesFor, AddTellsWay, AddFollowsWay}
use Rattle.jfs_dtree.proofs.Roots.{adds_as, refuses_as, takes_as, levels_as, found_no_room, shallow_follows, found_tells, deep_as, failed, failed_adding, found_adding, way_deep_as}
use Rattle.jfs_dtree.proofs.Refused.{refusal_tells}
use Rattle.jfs_dtree.proofs.Frames.{named_as, parent_kept}
use Rattle.jfs_dtree.proofs.adding.add.Goals as goal

pub returns-in-Ok-clause-adds : goal.returns-in-Ok-clause-adds
returns-in-Ok-clause-adds g c tells =
    let with_units = λ (units : List ℕ). (let e : NameEntry = record { name = units; inode = c.args.inode } in e) in
    let b = c.blocks-blocks.result in
    let count = g.V.PageView.block_count c.is_deep.new.view in
    let image = g.V.PageView.image c.is_deep.new.view in
    let free = blocks_of c.args.fresh.now in
    let left = blocks_of c.add_and_tell.new.fresh in
    adds_as b count (g.V.PageView.block_count c.args.view.now) image (g.V.PageView.image c.args.view.now)
    c.args.root.now c.add_and_tell.new.root c.args.name.now c.new-x.result c.args.inode free left c.args.tx.now c.add_and_tell.new.tx
    (c.blocks-blocks.ensures ∙ sym c.is_deep.ensures.count_of_blocks) (c.is_deep.ensures.count_of_blocks ∙ c.find.ensures.count_of_blocks) (c.is_deep.ensures.image tells ∙ c.find.ensures.image tells) (c.new-x.ensures ∙ ap with_units c.as_slice.ensures)
    (λ es spelled. sym (c.in-Ok-None.ensures.found tells es spelled) ∙ c.in-Ok-None.field-0-is)
    (c.in-Ok.ensures.adds tells)

pub returns-in-Ok-clause-levels : goal.returns-in-Ok-clause-levels
returns-in-Ok-clause-levels g c tells =
    let with_units = λ (units : List ℕ). (let e : NameEntry = record { name = units; inode = c.args.inode } in e) in
    let b = c.blocks-blocks.result in
    let count = g.V.PageView.block_count c.is_deep.new.view in
    let image = g.V.PageView.image c.is_deep.new.view in
    let free = blocks_of c.args.fresh.now in
    levels_as b count (g.V.PageView.block_count c.args.view.now) image (g.V.PageView.image c.args.view.now)
    c.args.root.now c.add_and_tell.new.root c.args.name.now c.new-x.result c.args.inode free c.args.tx.now c.add_and_tell.new.tx
    (c.blocks-blocks.ensures ∙ sym c.is_deep.ensures.count_of_blocks) (c.is_deep.ensures.count_of_blocks ∙ c.find.ensures.count_of_blocks) (c.is_deep.ensures.image tells ∙ c.find.ensures.image tells) (c.new-x.ensures ∙ ap with_units c.as_slice.ensures)
    (λ es spelled. sym (c.in-Ok-None.ensures.found tells es spelled) ∙ c.in-Ok-None.field-0-is)
    (c.in-Ok.ensures.levels tells)

pub returns-in-Err-add_and_tell-clause-refused : goal.returns-in-Err-add_and_tell-clause-refused
returns-in-Err-add_and_tell-clause-refused g c tells =
    let with_units = λ (units : List ℕ). (let e : NameEntry = record { name = units; inode = c.args.inode } in e) in
    subst (RefusesName (g.V.PageView.block_count c.args.view.now) (page_of (g.V.PageView.image c.args.view.now)) (with_units c.args.name.now) c.args.root.now (blocks_of c.args.fresh.now)) (sym c.handed_on.ensures)
    (refuses_as c.blocks-blocks.result (g.V.PageView.block_count c.is_deep.new.view) (g.V.PageView.block_count c.args.view.now) (g.V.PageView.image c.is_deep.new.view) (g.V.PageView.image c.args.view.now)
    c.args.root.now c.args.name.now c.new-x.result c.args.inode (blocks_of c.args.fresh.now) c.in-Err-add_and_tell.e
    (c.blocks-blocks.ensures ∙ sym c.is_deep.ensures.count_of_blocks) (c.is_deep.ensures.count_of_blocks ∙ c.find.ensures.count_of_blocks) (c.is_deep.ensures.image tells ∙ c.find.ensures.image tells) (c.new-x.ensures ∙ ap with_units c.as_slice.ensures)
    (λ es spelled. sym (c.in-Ok-None.ensures.found tells es spelled) ∙ c.in-Ok-None.field-0-is) (deep_as c.blocks-blocks.result (g.V.PageView.block_count c.args.view.now) (g.V.PageView.image c.find.new.view) (g.V.PageView.image c.args.view.now) c.args.root.now c.args.name.now c.new-x.result c.in-Ok-false.field-0 false (c.blocks-blocks.ensures ∙ c.find.ensures.count_of_blocks) (c.find.ensures.image tells)
    (ap (λ (e : NameEntry). e.name) c.new-x.ensures ∙ c.as_slice.ensures) c.in-Ok-false.field-0-test (c.in-Ok-false.ensures.deep tells)) (c.in-Err-add_and_tell.ensures.refused tells) (c.in-Err-add_and_tell.ensures.full tells))

pub returns-in-Ok-clause-room : goal.returns-in-Ok-clause-room
returns-in-Ok-clause-room g c tells =
    let with_units = λ (units : List ℕ). (let e : NameEntry = record { name = units; inode = c.args.inode } in e) in
    takes_as c.blocks-blocks.result (g.V.PageView.block_count c.is_deep.new.view) (g.V.PageView.block_count c.args.view.now) (g.V.PageView.image c.is_deep.new.view) (g.V.PageView.image c.args.view.now)
    c.args.root.now c.args.name.now c.new-x.result c.args.inode (blocks_of c.args.fresh.now) (blocks_of c.add_and_tell.new.fresh)
    (c.blocks-blocks.ensures ∙ sym c.is_deep.ensures.count_of_blocks) (c.is_deep.ensures.count_of_blocks ∙ c.find.ensures.count_of_blocks) (c.is_deep.ensures.image tells ∙ c.find.ensures.image tells) (c.new-x.ensures ∙ ap with_units c.as_slice.ensures) (c.in-Ok.ensures.room tells)

pub returns-in-Ok-clause-deep : goal.returns-in-Ok-clause-deep
returns-in-Ok-clause-deep g c tells = (deep_as c.blocks-blocks.result (g.V.PageView.block_count c.args.view.now) (g.V.PageView.image c.find.new.view) (g.V.PageView.image c.args.view.now) c.args.root.now c.args.name.now c.new-x.result c.in-Ok-false.field-0 false (c.blocks-blocks.ensures ∙ c.find.ensures.count_of_blocks) (c.find.ensures.image tells)
    (ap (λ (e : NameEntry). e.name) c.new-x.ensures ∙ c.as_slice.ensures) c.in-Ok-false.field-0-test (c.in-Ok-false.ensures.deep tells))

pub returns-in-Err-add_and_tell-clause-deep : goal.returns-in-Err-add_and_tell-clause-deep
returns-in-Err-add_and_tell-clause-deep g c tells =
    subst (λ e. FollowsRoom (g.V.PageView.block_count c.args.view.now) (page_of (g.V.PageView.image c.args.view.now)) c.args.root.now c.args.name.now (failed e)) (sym c.handed_on.ensures)
    (shallow_follows (g.V.PageView.block_count c.args.view.now) (page_of (g.V.PageView.image c.args.view.now)) c.args.root.now c.args.name.now c.in-Err-add_and_tell.e (deep_as c.blocks-blocks.result (g.V.PageView.block_count c.args.view.now) (g.V.PageView.image c.find.new.view) (g.V.PageView.image c.args.view.now) c.args.root.now c.args.name.now c.new-x.result c.in-Ok-false.field-0 false (c.blocks-blocks.ensures ∙ c.find.ensures.count_of_blocks) (c.find.ensures.image tells)
    (ap (λ (e : NameEntry). e.name) c.new-x.ensures ∙ c.as_slice.ensures) c.in-Ok-false.field-0-test (c.in-Ok-false.ensures.deep tells)))

pub returns-in-Err-add_and_tell-clause-way : goal.returns-in-Err-add_and_tell-clause-way
returns-in-Err-add_and_tell-clause-way g c tells =
    let with_units = λ (units : List ℕ). (let e : NameEntry = record { name = units; inode = c.args.inode } in e) in
    let loose = subst (λ i. TightFrom c.blocks-blocks.result (page_of i) c.args.root.now c.new-x.result.name false) (sym (c.is_deep.ensures.image tells))
    (subst (TightFrom c.blocks-blocks.result (page_of (g.V.PageView.image c.find.new.view)) c.args.root.now c.new-x.result.name) c.in-Ok-false.field-0-test (c.in-Ok-false.ensures.tight tells)) in
    subst (λ e. AddTellsWay (broken_for (g.V.PageView.block_count c.args.view.now) (page_of (g.V.PageView.image c.args.view.now)) c.args.root.now c.args.name.now) (ClashesFor (g.V.PageView.block_count c.args.view.now) (page_of (g.V.PageView.image c.args.view.now)) (with_units c.args.name.now) c.args.root.now) (failed e)) (sym c.handed_on.ensures)
    (refusal_tells c.blocks-blocks.result (g.V.PageView.block_count c.args.view.now) (g.V.PageView.image c.is_deep.new.view) (g.V.PageView.image c.args.view.now) c.args.root.now c.args.name.now c.new-x.result c.args.inode c.in-Err-add_and_tell.e
    (c.blocks-blocks.ensures ∙ c.find.ensures.count_of_blocks) (c.is_deep.ensures.image tells ∙ c.find.ensures.image tells) (c.new-x.ensures ∙ ap with_units c.as_slice.ensures) loose (c.in-Err-add_and_tell.ensures.way tells))

pub returns-in-Ok-true-clause-deep : goal.returns-in-Ok-true-clause-deep
returns-in-Ok-true-clause-deep g c tells = (deep_as c.blocks-blocks.result (g.V.PageView.block_count c.args.view.now) (g.V.PageView.image c.find.new.view) (g.V.PageView.image c.args.view.now) c.args.root.now c.args.name.now c.new-x.result c.in-Ok-true.field-0 true (c.blocks-blocks.ensures ∙ c.find.ensures.count_of_blocks) (c.find.ensures.image tells)
    (ap (λ (e : NameEntry). e.name) c.new-x.ensures ∙ c.as_slice.ensures) c.in-Ok-true.field-0-test (c.in-Ok-true.ensures.deep tells))

pub returns-in-Ok-true-clause-refused : goal.returns-in-Ok-true-clause-refused
returns-in-Ok-true-clause-refused g c tells = λ es spelled. (
  (sym (c.in-Ok-None.ensures.found tells es spelled) ∙ c.in-Ok-None.field-0-is),
  (deep_as c.blocks-blocks.result (g.V.PageView.block_count c.args.view.now) (g.V.PageView.image c.find.new.view) (g.V.PageView.image c.args.view.now) c.args.root.now c.args.name.now c.new-x.result c.in-Ok-true.field-0 true (c.blocks-blocks.ensures ∙ c.find.ensures.count_of_blocks) (c.find.ensures.image tells)
      (ap (λ (e : NameEntry). e.name) c.new-x.ensures ∙ c.as_slice.ensures) c.in-Ok-true.field-0-test (c.in-Ok-true.ensures.deep tells)) es spelled,
)

pub returns-in-Err-clause-deep : goal.returns-in-Err-clause-deep
returns-in-Err-clause-deep g c tells = found_no_room (g.V.PageView.block_count c.args.view.now) (page_of (g.V.PageView.image c.args.view.now)) c.args.root.now c.args.name.now c.in-Err.e (c.in-Err.ensures.bad tells)

pub returns-in-Err-clause-way : goal.returns-in-Err-clause-way
returns-in-Err-clause-way g c tells = found_tells (page_nodes (g.V.PageView.block_count c.args.view.now) (page_of (g.V.PageView.image c.args.view.now))) (root_node (g.V.PageView.block_count c.args.view.now) c.args.root.now) _ _ c.in-Err.e (c.in-Err.ensures.bad tells) (c.in-Err.ensures.way tells)

pub returns-in-Ok-clause-edits : goal.returns-in-Ok-clause-edits
returns-in-Ok-clause-edits g c tells =
    subst (λ blocks. TellsTaken blocks Dtree (page_of (g.V.PageView.image c.args.view.now)) (blocks_of c.args.fresh.now) (blocks_of c.add_and_tell.new.fresh) c.args.tx.now c.add_and_tell.new.tx) (c.is_deep.ensures.count_of_blocks ∙ c.find.ensures.count_of_blocks)
    (subst (λ image. TellsTaken (g.V.PageView.block_count c.is_deep.new.view) Dtree (page_of image) (blocks_of c.args.fresh.now) (blocks_of c.add_and_tell.new.fresh) c.args.tx.now c.add_and_tell.new.tx) (c.is_deep.ensures.image tells ∙ c.find.ensures.image tells) (c.in-Ok.ensures.edits tells))

pub returns-in-Ok-clause-parent : goal.returns-in-Ok-clause-parent
returns-in-Ok-clause-parent g c = parent_kept c.args.root.now c.add_and_tell.new.root c.add_and_tell.ensures.frame

pub returns-in-Ok-clause-named : goal.returns-in-Ok-clause-named
returns-in-Ok-clause-named g c tells =
    let with_units = λ (units : List ℕ). (let e : NameEntry = record { name = units; inode = c.args.inode } in e) in
    named_as c.blocks-blocks.result (g.V.PageView.block_count c.is_deep.new.view) (g.V.PageView.block_count c.args.view.now) (g.V.PageView.image c.is_deep.new.view) (g.V.PageView.image c.args.view.now)
    c.args.root.now c.new-x.result (with_units c.args.name.now) (blocks_of c.args.fresh.now) (blocks_of c.add_and_tell.new.fresh) c.args.tx.now c.add_and_tell.new.tx
    (c.blocks-blocks.ensures ∙ sym c.is_deep.ensures.count_of_blocks) (c.is_deep.ensures.count_of_blocks ∙ c.find.ensures.count_of_blocks) (c.is_deep.ensures.image tells ∙ c.find.ensures.image tells) (c.new-x.ensures ∙ ap with_units c.as_slice.ensures) (c.in-Ok.ensures.framed tells)

pub returns-in-Ok-clause-on_way : goal.returns-in-Ok-clause-on_way
returns-in-Ok-clause-on_way g c tells = (
  (sym (c.in-Ok-None.ensures.on_way tells) ∙ c.in-Ok-None.field-0-is),
  way_deep_as c.blocks-blocks.result (g.V.PageView.block_count c.args.view.now) (g.V.PageView.image c.find.new.view) (g.V.PageView.image c.args.view.now) c.args.root.now c.args.name.now c.new-x.result c.in-Ok-false.field-0 false (c.blocks-blocks.ensures ∙ c.find.ensures.count_of_blocks) (c.find.ensures.image tells)
      (ap (λ (e : NameEntry). e.name) c.new-x.ensures ∙ c.as_slice.ensures) c.in-Ok-false.field-0-test (c.in-Ok-false.ensures.on_way tells),
)

pub returns-in-Err-add_and_tell-clause-on_way : goal.returns-in-Err-add_and_tell-clause-on_way
returns-in-Err-add_and_tell-clause-on_way g c tells =
    let found = found_for (g.V.PageView.block_count c.args.view.now) (page_of (g.V.PageView.image c.args.view.now)) c.args.root.now c.args.name.now in
    let deep = deep_on_way (g.V.PageView.block_count c.args.view.now) (page_of (g.V.PageView.image c.args.view.now)) c.args.root.now c.args.name.now in
    subst (λ e. AddFollowsWay found deep (failed e)) (sym c.handed_on.ensures) (failed_adding found deep c.in-Err-add_and_tell.e)

pub returns-in-Ok-true-clause-on_way : goal.returns-in-Ok-true-clause-on_way
returns-in-Ok-true-clause-on_way g c tells = (
  (sym (c.in-Ok-None.ensures.on_way tells) ∙ c.in-Ok-None.field-0-is),
  way_deep_as c.blocks-blocks.result (g.V.PageView.block_count c.args.view.now) (g.V.PageView.image c.find.new.view) (g.V.PageView.image c.args.view.now) c.args.root.now c.args.name.now c.new-x.result c.in-Ok-true.field-0 true (c.blocks-blocks.ensures ∙ c.find.ensures.count_of_blocks) (c.find.ensures.image tells)
      (ap (λ (e : NameEntry). e.name) c.new-x.ensures ∙ c.as_slice.ensures) c.in-Ok-true.field-0-test (c.in-Ok-true.ensures.on_way tells),
)

pub returns-in-Ok-Some-clause-on_way : goal.returns-in-Ok-Some-clause-on_way
returns-in-Ok-Some-clause-on_way g c tells = (c.in-Ok-Some.field-0-0, sym (c.in-Ok-Some.ensures.on_way tells) ∙ c.in-Ok-Some.field-0-is)

pub returns-in-Err-clause-on_way : goal.returns-in-Err-clause-on_way
returns-in-Err-clause-on_way g c tells = found_adding (page_nodes (g.V.PageView.block_count c.args.view.now) (page_of (g.V.PageView.image c.args.view.now))) (root_node (g.V.PageView.block_count c.args.view.now) c.args.root.now) _ _ c.in-Err.e (c.in-Err.ensures.bad tells)
