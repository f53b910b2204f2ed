use Rattle.jfs_disk.specs.Image.{page_of}
use Rattle.jfs_write_pages.proofs.Steps.{unrecorded}
use Rattle.jfs_write_pages.proofs.page.old_of.Goals as goal

pub returns-then-not-spot-clause-page : goal.returns-then-not-spot-clause-page
returns-then-not-spot-clause-page g c tells = unrecorded (page_of (g.V.PageView.image c.args.view.now)) c.args.spot.now c.zeros.result.0 c.zeros.ensures c.if-not-spot.true
