use Rattle.std.proofs.Common.{◌∙◌, length}
use Rattle.jfs_tree.specs.Fresh.{blocks_of}
use Rattle.jfs_write.proofs.Spots.{few_of, seen_fit, seen_short, seen_range, seen_needed}
use Rattle.jfs_write.proofs.make.make.Goals as goal

pub data_of-requires-clause-spots : goal.data_of-requires-clause-spots
data_of-requires-clause-spots g c = seen_fit (g.V.PageView.block_count c.args.view.now) c.args.es.now c.args.change.now.offset (length c.args.change.now.bytes.now) (blocks_of c.args.runs.now) c.requires.bytes (few_of c.blocks-2.result (g.V.PageView.block_count c.args.view.now) c.blocks-2.ensures c.blocks-2.type_inv) c.requires.extents c.requires.runs c.args.spots.now c.as_slice.result.now
    c.requires.spots (c.as_slice.ensures.value ∙ c.in-Ok.ensures)

pub edits_of-requires-clause-spots : goal.edits_of-requires-clause-spots
edits_of-requires-clause-spots g c = seen_short (g.V.PageView.block_count c.args.view.now) c.args.es.now c.args.change.now.offset (length c.args.change.now.bytes.now) (blocks_of c.args.runs.now) c.requires.bytes (few_of c.blocks-2.result (g.V.PageView.block_count c.args.view.now) c.blocks-2.ensures c.blocks-2.type_inv) c.requires.extents c.requires.runs c.args.spots.now c.as_slice-2.result.now
    c.requires.spots (c.as_slice-2.ensures.value ∙ c.in-Ok.ensures)

pub edits_of-requires-clause-range : goal.edits_of-requires-clause-range
edits_of-requires-clause-range g c = seen_range (g.V.PageView.block_count c.args.view.now) c.args.es.now c.args.change.now.offset (length c.args.change.now.bytes.now) (blocks_of c.args.runs.now) c.requires.bytes (few_of c.blocks-2.result (g.V.PageView.block_count c.args.view.now) c.blocks-2.ensures c.blocks-2.type_inv) c.requires.extents c.requires.runs c.args.spots.now c.as_slice-2.result.now
    c.requires.spots (c.as_slice-2.ensures.value ∙ c.in-Ok.ensures) (g.V.PageView.block_count c.data_of.new.view) c.data_of.ensures.count_of_blocks

pub edits_of-requires-clause-enough : goal.edits_of-requires-clause-enough
edits_of-requires-clause-enough g c some = c.requires.enough (seen_needed (g.V.PageView.block_count c.args.view.now) c.args.es.now c.args.change.now.offset (length c.args.change.now.bytes.now) (blocks_of c.args.runs.now) c.requires.bytes (few_of c.blocks-2.result (g.V.PageView.block_count c.args.view.now) c.blocks-2.ensures c.blocks-2.type_inv) c.requires.extents c.requires.runs c.args.spots.now c.as_slice-2.result.now
    c.requires.spots (c.as_slice-2.ensures.value ∙ c.in-Ok.ensures) some)
