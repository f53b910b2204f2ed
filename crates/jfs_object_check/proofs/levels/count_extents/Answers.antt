-- No extents, and a tree that breaks no rule.
use Rattle.std.proofs.Common.{sym, ◌∙◌}
use Rattle.jfs_disk.specs.Image.{page_of}
use Rattle.jfs_owners.proofs.Totals.{lacks_extents}
use Rattle.jfs_object_check.proofs.Growing.{nothing_held, nothing_thin, levels_held, levels_thin}
use Rattle.jfs_object_check.proofs.Holding.{tree_adds}
use Rattle.jfs_object_check.proofs.Thinly.{no_extents, thin_seen}
use Rattle.jfs_object_check.proofs.levels.count_extents.Goals as goal

pub returns-then-not-has_extents-clause-thin : goal.returns-then-not-has_extents-clause-thin
returns-then-not-has_extents-clause-thin g c = λ tells at es sound.
    no_extents (g.V.PageView.block_count c.args.view.now) c.args.n at (page_of (g.V.PageView.image c.args.view.now)) c.args.inode.now c.args.findings.now.items (sym c.has_extents.ensures ∙ c.if-not-has_extents.true)

pub returns-then-not-has_extents-clause-held : goal.returns-then-not-has_extents-clause-held
returns-then-not-has_extents-clause-held g c = λ tells es sound.
    lacks_extents (g.V.PageView.block_count c.args.view.now) (g.V.PageView.image c.args.view.now) c.args.inode.now c.args.owners.now (sym c.has_extents.ensures ∙ c.if-not-has_extents.true)

pub returns-clause-thin : goal.returns-clause-thin
returns-clause-thin g c = λ tells at es sound.
    let e = c.count_levels.ensures in
    thin_seen (g.V.PageView.block_count c.args.view.now) (page_of (g.V.PageView.image c.args.view.now)) c.args.inode.now (sym c.has_extents.ensures ∙ c.if-not-has_extents.false) es sound e.fits
    c.args.n at c.root_in.result.now c.count_levels.result c.args.findings.now.items c.count_levels.new.findings.items c.root_in.ensures.root (e.thin tells)

pub returns-clause-held : goal.returns-clause-held
returns-clause-held g c = λ tells es sound.
    tree_adds (g.V.PageView.block_count c.args.view.now) (page_of (g.V.PageView.image c.args.view.now)) c.args.inode.now (sym c.has_extents.ensures ∙ c.if-not-has_extents.false) es sound
    c.root_in.result.now c.count_levels.result c.args.owners.now c.count_levels.new.owners c.root_in.ensures.root (c.count_levels.ensures.held tells)

pub returns-then-not-has_extents-clause-levels : goal.returns-then-not-has_extents-clause-levels
returns-then-not-has_extents-clause-levels g c = λ tells.
    nothing_held (g.V.PageView.block_count c.args.view.now) (page_of (g.V.PageView.image c.args.view.now)) c.args.inode.now c.args.owners.now (sym c.has_extents.ensures ∙ c.if-not-has_extents.true)

pub returns-then-not-has_extents-clause-thin_levels : goal.returns-then-not-has_extents-clause-thin_levels
returns-then-not-has_extents-clause-thin_levels g c = λ tells.
    nothing_thin (g.V.PageView.block_count c.args.view.now) (page_of (g.V.PageView.image c.args.view.now)) c.args.inode.now c.args.n c.args.findings.now.items (sym c.has_extents.ensures ∙ c.if-not-has_extents.true)

pub returns-clause-levels : goal.returns-clause-levels
returns-clause-levels g c = λ tells.
    levels_held (g.V.PageView.block_count c.args.view.now) (page_of (g.V.PageView.image c.args.view.now)) c.args.inode.now (sym c.has_extents.ensures ∙ c.if-not-has_extents.false) c.root_in.result.now c.root_in.ensures.root
    c.count_levels.result c.args.owners.now c.count_levels.new.owners (c.count_levels.ensures.held tells)

pub returns-clause-thin_levels : goal.returns-clause-thin_levels
returns-clause-thin_levels g c = λ tells.
    levels_thin (g.V.PageView.block_count c.args.view.now) (page_of (g.V.PageView.image c.args.view.now)) c.args.inode.now (sym c.has_extents.ensures ∙ c.if-not-has_extents.false) c.root_in.result.now c.root_in.ensures.root
    c.args.n c.count_levels.result c.args.findings.now.items c.count_levels.new.findings.items (c.count_levels.ensures.thin tells)
