use Rattle.std.proofs.Common.{ap, ◌∙◌}
use Rattle.jfs_dtpage.specs.declared.head.DtForm.TheVariants.{Root, Full}
use Rattle.jfs_bits.specs.declared.descriptor.Pxd.{Pxd}
use Rattle.jfs_dtpage.specs.declared.head.Place.TheVariants.{OnVolume}
use Rattle.jfs_dtree.proofs.Moves.{kept_leaf}
use Rattle.jfs_dtree.proofs.Down.{moved_leaf, moved_inner, moved_room, root_left}
use Rattle.jfs_dtree.proofs.move_down.move_down.Goals as goal

pub returns-clause-entries : goal.returns-clause-entries
returns-clause-entries c = λ blocks es is. moved_leaf blocks c.args.root.now c.copy_entries.new.page es c.copy_entries.ensures.page c.copy_entries.ensures.entries (kept_leaf Full c.dt_new.new.bytes c.copy_entries.new.page c.copy_entries.ensures.head ∙ c.dt_new.ensures.kind ∙ c.is_leaf.ensures) is

pub returns-clause-children : goal.returns-clause-children
returns-clause-children c = λ blocks cs is. moved_inner blocks c.args.root.now c.copy_entries.new.page cs c.copy_entries.ensures.page c.copy_entries.ensures.entries (kept_leaf Full c.dt_new.new.bytes c.copy_entries.new.page c.copy_entries.ensures.head ∙ c.dt_new.ensures.kind ∙ c.is_leaf.ensures) is

pub returns-clause-root : goal.returns-clause-root
returns-clause-root c = λ blocks h.
    root_left blocks c.args.q c.dt_new-2.new.bytes c.insert.new.bytes c.page_at-3.result c.insert.ensures.page (kept_leaf Root c.dt_new-2.new.bytes c.insert.new.bytes c.insert.ensures.head ∙ c.dt_new-2.ensures.kind) c.dt_new-2.ensures.entries c.page_at-3.ensures.is c.insert.ensures.entries h

pub returns-clause-room : goal.returns-clause-room
returns-clause-room c = moved_room c.args.root.now c.copy_entries.new.page c.requires.page c.copy_entries.ensures.page c.copy_entries.ensures.entries

pub returns-clause-place : goal.returns-clause-place
returns-clause-place c = c.copy_entries.ensures.head.place ∙ c.dt_new.ensures.head ∙ ap (λ (p : Pxd). OnVolume 0 0 128 1 p) c.page_at.ensures.is
