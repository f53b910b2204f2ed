use Rattle.std.proofs.Common.{◌∙◌, refl, sym}
use Rattle.jfs_disk.specs.Image.{page_of}
use Rattle.jfs_meaning.specs.Readers.{readers}
use Rattle.jfs_reader.proofs.Parts.{number_is}
use Rattle.jfs_reader.proofs.map.InodeMap.read.Goals as goal

pub returns-in-Ok-clause-map : goal.returns-in-Ok-clause-map
returns-in-Ok-clause-map g c tells same = record {
  extents = same;
  iags = number_is (readers (g.V.PageView.block_count c.args.view.now)) (page_of (g.V.PageView.image c.args.view.now)) 16 c.args.extents c.as_slice.result.now same c.as_slice.ensures 0 0 refl 4 c.in-Ok.part (c.in-Ok.ensures.part tells) ∙ sym c.number_in.ensures;
}
