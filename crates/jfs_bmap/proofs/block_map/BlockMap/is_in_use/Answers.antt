use Rattle.std.proofs.Common.{sym, ap, ◌∙◌, ℕ}
use Rattle.jfs_bmap.specs.MapFile.{is_in_use}
use Rattle.jfs_bmap.proofs.Opened.{size-is}
use Rattle.jfs_bmap.proofs.block_map.BlockMap.is_in_use.Goals as goal

pub returns : goal.returns
returns c = c.is_in_use.ensures ∙ ap (λ (count : ℕ). is_in_use count c.args.n) (sym (size-is c.self.inside c.args.self.now c.self.view_is))
