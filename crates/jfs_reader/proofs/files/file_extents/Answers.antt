use Rattle.jfs_disk.specs.Image.{page_of}
use Rattle.jfs_meaning.specs.objects.specs.Image.{aggregate_at}
use Rattle.jfs_reader.proofs.Listed.{extents_are}
use Rattle.jfs_reader.proofs.files.file_extents.Goals as goal

pub returns-in-Ok-clause-list : goal.returns-in-Ok-clause-list
returns-in-Ok-clause-list g c tells =
    let image = g.V.PageView.image c.args.view.now in
    extents_are (g.V.PageView.block_count c.args.view.now) (g.V.PageView.block_count c.aggregate_root.new.view) image (g.V.PageView.image c.aggregate_root.new.view)
    c.in-Ok.root (aggregate_at (page_of image) c.args.k) c.extents.result
    c.aggregate_root.ensures.count_of_blocks (c.aggregate_root.ensures.image tells) (c.in-Ok.ensures.root tells) c.in-Ok.ensures.width
    (c.extents.ensures.list tells) (c.extents.ensures.bad tells)
