use Rattle.std.proofs.Common.{◌∙◌, ◌+◌, ◌*◌, ◌/◌, ◌%◌, suc, arith}
use Rattle.jfs_disk.specs.Image.{page_of}
use Rattle.jfs_meaning.specs.Readers.{readers}
use Rattle.jfs_reader.proofs.Parts.{place_is}
use Rattle.jfs_reader.proofs.map.InodeMap.extent.Goals as goal

pub returns-in-Ok-clause-place : goal.returns-in-Ok-clause-place
returns-in-Ok-clause-place g c tells is =
    c.place_in.ensures.value
    ∙ place_is (readers (g.V.PageView.block_count c.args.view.now)) (page_of (g.V.PageView.image c.args.view.now)) 16 c.args.self.now.extents c.as_slice.result.now is.extents c.as_slice.ensures (c.from-j.result + 1) (suc (c.args.e / 128)) (let j = c.from-j.ensures in omega (arith, j))
    (3072 + 8 * (c.args.e % 128)) c.in-Ok.part (c.in-Ok.ensures.part tells)
