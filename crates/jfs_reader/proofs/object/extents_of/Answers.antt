use Rattle.std.proofs.Common.{sym, ◌∙◌}
use Rattle.jfs_reader.proofs.Listed.{object_extents}
use Rattle.jfs_reader.proofs.object.extents_of.Goals as goal

pub returns-clause-list : goal.returns-clause-list
returns-clause-list g c tells =
    object_extents (g.V.PageView.block_count c.args.view.now) (g.V.PageView.image c.args.view.now) c.root_in.result.now c.args.d.now c.extents.result
    (sym c.has_extents.ensures ∙ c.if-not-has_extents.false) c.root_in.ensures.root c.root_in.ensures.width
    (c.extents.ensures.list tells) (c.extents.ensures.bad tells)
