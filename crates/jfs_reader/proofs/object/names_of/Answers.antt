use Rattle.std.proofs.Common.{sym, ◌∙◌}
use Rattle.jfs_reader.proofs.Named.{object_names}
use Rattle.jfs_reader.proofs.object.names_of.Goals as goal

pub returns-clause-list : goal.returns-clause-list
returns-clause-list g c tells =
    object_names (g.V.PageView.block_count c.args.view.now) (g.V.PageView.image c.args.view.now) c.root_in.result.now c.args.d.now c.list.result
    (sym c.has_names.ensures ∙ c.if-not-has_names.false) c.root_in.ensures.root
    (c.list.ensures.list tells) (c.list.ensures.bad tells)
