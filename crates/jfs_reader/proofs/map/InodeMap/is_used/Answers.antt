use Rattle.std.proofs.Common.{sym, ◌∙◌}
use Rattle.jfs_disk.specs.Image.{page_of}
use Rattle.jfs_meaning.specs.Readers.{readers}
use Rattle.jfs_reader.proofs.Homes.{unused, used_after}
use Rattle.jfs_reader.proofs.map.InodeMap.is_used.Goals as goal

pub returns-in-Ok-Some-clause-used : goal.returns-in-Ok-Some-clause-used
returns-in-Ok-Some-clause-used g c tells =
    used_after (g.V.PageView.block_count c.args.view.now) (g.V.PageView.block_count c.home.new.view) (g.V.PageView.image c.args.view.now) (g.V.PageView.image c.home.new.view) c.args.self.now c.args.n c.in-Ok-Some.field-0-0 c.is_marked.result
    c.home.ensures.count_of_blocks (c.home.ensures.image tells) (c.is_marked.ensures.marked tells) (λ is. sym c.in-Ok-Some.field-0-is ∙ c.in-Ok-Some.ensures.page tells is)

pub returns-in-Ok-None-clause-used : goal.returns-in-Ok-None-clause-used
returns-in-Ok-None-clause-used g c tells is =
    sym (unused (readers (g.V.PageView.block_count c.args.view.now)) (page_of (g.V.PageView.image c.args.view.now)) c.args.n (sym (sym c.in-Ok-None.field-0-is ∙ c.in-Ok-None.ensures.page tells is)))
