use Rattle.std.proofs.Common.{sym}
use Rattle.jfs_bmap.proofs.Views.{length-set_of}
use Rattle.jfs_bmap.proofs.map_pages.MapPages.blocks.Goals as goal

pub returns-clause-value : goal.returns-clause-value
returns-clause-value c = rw (← c.self.view_is) (sym (length-set_of c.self.inside.blocks c.self.inside.dmaps.items))
