use Rattle.jfs_bmap.proofs.FilePages.{control-page}
use Rattle.jfs_bmap.proofs.map_pages.MapPages.write_page.Goals as goal

pub returns-in-3 : goal.returns-in-3
returns-in-3 c = rw c.in-3.is (control-page _ c.self.inside.dmaps.items c.args.self.now c.self.inside.control.0 c.self.view_is c.self.invariant.ranks)
