use Rattle.std.proofs.Common.{◌/◌, sym, subst, ◌∙◌, List}
use Rattle.jfs_disk.specs.Image.{page_of}
use Rattle.jfs_write_pages.specs.declared.spot.Spot.{Spot}
use Rattle.jfs_write_pages.specs.Spots.{AllSpots}
use Rattle.jfs_write.proofs.Spots.{both_fit, first_low}
use Rattle.jfs_write.proofs.Lying.{lies_by, never_outside}
use Rattle.jfs_write.proofs.data.data_of.Goals as goal

pub push_pages-requires : goal.push_pages-requires
push_pages-requires g c = subst (λ (ss : List Spot). AllSpots (g.V.PageView.block_count c.args.view.now) ss) (sym (c.as_slice.ensures.value ∙ c.in-Ok.ensures))
    (both_fit (g.V.PageView.block_count c.args.view.now) (c.args.change.now.size / 4096) (c.args.change.now.offset / 4096) c.args.es.now c.args.spots.now c.requires.within (first_low c.args.change.now.offset c.requires.low) c.requires.spots)

pub returns-then-lie_within-clause-within : goal.returns-then-lie_within-clause-within
returns-then-lie_within-clause-within g c = lies_by (g.V.PageView.block_count c.args.view.now) c.blocks-3.result c.push_pages.new.out c.lie_within.result (c.blocks-3.ensures ∙ c.push_pages.ensures.count_of_blocks) c.lie_within.ensures c.if-lie_within.true

pub returns-clause-only : goal.returns-clause-only
returns-clause-only g c tells = absurd (never_outside (g.V.PageView.block_count c.args.view.now) c.blocks-3.result (page_of (g.V.PageView.image c.args.view.now)) c.args.change.now.size c.args.change.now.offset c.args.change.now.bytes.now c.as_slice.result.now c.push_pages.new.out c.lie_within.result
    (subst (λ (ss : List Spot). AllSpots (g.V.PageView.block_count c.args.view.now) ss) (sym (c.as_slice.ensures.value ∙ c.in-Ok.ensures))
    (both_fit (g.V.PageView.block_count c.args.view.now) (c.args.change.now.size / 4096) (c.args.change.now.offset / 4096) c.args.es.now c.args.spots.now c.requires.within (first_low c.args.change.now.offset c.requires.low) c.requires.spots))
    (rw c.new-list.ensures at (c.in-Ok-push_pages.ensures.pushed tells)) (c.blocks-3.ensures ∙ c.push_pages.ensures.count_of_blocks) c.lie_within.ensures c.if-lie_within.false)
