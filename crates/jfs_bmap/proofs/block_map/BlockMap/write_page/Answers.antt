use Rattle.std.proofs.Common.{sym, ap}
use Rattle.jfs_bmap.specs.States.{Blocks}
use Rattle.jfs_bmap.proofs.Opened.{size-is, owned-is}
use Rattle.jfs_bmap.proofs.block_map.BlockMap.write_page.Goals as goal

pub returns : goal.returns
returns c =
    let m = c.self.inside in
    let value = c.args.self.now in
    rw (owned-is m value c.self.view_is c.self.invariant.0, size-is m value c.self.view_is, ap (λ (b : Blocks). b.agsize) (sym c.self.view_is)) c.write_page.ensures
