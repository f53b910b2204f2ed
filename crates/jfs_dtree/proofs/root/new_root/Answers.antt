use Rattle.std.proofs.Common.{◌∙◌}
use Rattle.jfs_dtree.proofs.Emptied.{leaf_left}
use Rattle.jfs_dtree.proofs.Roots.{new_root_node, new_root_list}
use Rattle.jfs_dtree.proofs.root.new_root.Goals as goal

pub returns-clause-node : goal.returns-clause-node
returns-clause-node c = new_root_node c.set_parent.new.root (c.set_parent.ensures.sound c.dt_new.ensures.sound) (c.set_parent.ensures.kind ∙ c.dt_new.ensures.kind) (c.set_parent.ensures.entries c.dt_new.ensures.sound ∙ c.dt_new.ensures.entries)

pub returns-clause-list : goal.returns-clause-list
returns-clause-list c = new_root_list c.set_parent.new.root (c.set_parent.ensures.sound c.dt_new.ensures.sound) (c.set_parent.ensures.kind ∙ c.dt_new.ensures.kind) (c.set_parent.ensures.entries c.dt_new.ensures.sound ∙ c.dt_new.ensures.entries)

pub returns-clause-left : goal.returns-clause-left
returns-clause-left c blocks pages =
    leaf_left blocks pages c.set_parent.new.root (new_root_node c.set_parent.new.root (c.set_parent.ensures.sound c.dt_new.ensures.sound) (c.set_parent.ensures.kind ∙ c.dt_new.ensures.kind) (c.set_parent.ensures.entries c.dt_new.ensures.sound ∙ c.dt_new.ensures.entries) blocks)
