use Rattle.std.proofs.Common.{sym, ◌∙◌}
use Rattle.jfs_bmap.proofs.Views.{free_in-set_of}
use Rattle.jfs_bmap.proofs.map_pages.MapPages.free.Goals as goal

pub returns : goal.returns
returns c = rw (← c.self.view_is) (c.self.invariant.count ∙ sym (free_in-set_of c.self.inside.blocks c.self.inside.dmaps.items))
