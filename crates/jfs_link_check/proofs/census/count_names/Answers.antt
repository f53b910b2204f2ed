-- An inode that is no directory, and one that is.
use Rattle.std.proofs.Common.{refl, sym, ◌∙◌}
use Rattle.jfs_disk.specs.Image.{page_of}
use Rattle.jfs_link_check.proofs.Directory.{noted, not_noted}
use Rattle.jfs_link_check.proofs.census.count_names.Goals as goal

pub returns-then-not-has_names-clause-noted : goal.returns-then-not-has_names-clause-noted
returns-then-not-has_names-clause-noted g c tells sound =
    not_noted (g.V.PageView.block_count c.args.view.now) (page_of (g.V.PageView.image c.args.view.now)) c.args.n c.args.at c.args.inode.now c.args.census.now.names (sym c.has_names.ensures ∙ c.if-not-has_names.true)

pub returns-in-Ok-clause-noted : goal.returns-in-Ok-clause-noted
returns-in-Ok-clause-noted g c tells sound = noted (g.V.PageView.block_count c.args.view.now) (page_of (g.V.PageView.image c.args.view.now)) c.args.n c.args.at c.args.inode.now c.args.census.now.names c.begin.new.self
    c.count_tree.new.census.names c.judge_links.new.self c.args.inode.now.nlink (sym c.has_names.ensures ∙ c.if-not-has_names.false) c.begin.ensures (c.in_ok-count_tree.ensures.seen tells sound).1 refl
    c.in-Ok.ensures.stays c.in-Ok.ensures.found
