use Rattle.std.proofs.Common.{below_more}
use Rattle.jfs_image.proofs.Viewed.{size_at}
use Rattle.jfs_image.proofs.view.ListView.new.Goals as goal

pub loop-page-preserved : goal.loop-page-preserved
loop-page-preserved c =
    below_more _ _ c.loop-page.invariant
    (size_at c.args.pages.now c.as_slice-page-items.result.now c.loop-page.page-index _ c.as_slice-page-items.ensures c.loop-page-test.true c.bytes-bytes.ensures.size)
