use Rattle.std.proofs.Common.{◌∙◌, ◌+◌, ◌/◌, ◌%◌, suc, arith}
use Rattle.jfs_disk.specs.Image.{page_of}
use Rattle.jfs_meaning.specs.Readers.{readers}
use Rattle.jfs_reader.proofs.Parts.{bit_is}
use Rattle.jfs_reader.proofs.map.InodeMap.is_marked.Goals as goal

pub returns-in-Ok-clause-marked : goal.returns-in-Ok-clause-marked
returns-in-Ok-clause-marked g c tells is =
    c.bit_in.ensures
    ∙ bit_is (readers (g.V.PageView.block_count c.args.view.now)) (page_of (g.V.PageView.image c.args.view.now)) 16 c.args.self.now.extents c.as_slice.result.now is.extents c.as_slice.ensures (c.from-j.result + 1) (suc (c.args.n / 4096)) (let j = c.from-j.ensures in omega (arith, j))
    (c.args.n % 4096) c.in-Ok.part (c.in-Ok.ensures.part tells)
