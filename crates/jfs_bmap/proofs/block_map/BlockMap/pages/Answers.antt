use Rattle.std.proofs.Common.{sym, ap, ◌∙◌}
use Rattle.jfs_bmap.specs.MapFile.{pages_of}
use Rattle.jfs_bmap.proofs.Opened.{size-is}
use Rattle.jfs_bmap.proofs.block_map.BlockMap.pages.Goals as goal

pub returns : goal.returns
returns c = c.file_pages.ensures ∙ ap pages_of (sym (size-is c.self.inside c.args.self.now c.self.view_is))
