use Rattle.std.proofs.Common.{◌≤◌, length, arith}
use Rattle.jfs_bmap.specs.Set.{taken_at}
use Rattle.jfs_map_check.proofs.BlockPages.{decided_first, decided_control, decided_dmap}
use Rattle.jfs_map_check.proofs.block_page.is_canonical.Goals as goal

pub returns-in-0-clause-page : goal.returns-in-0-clause-page
returns-in-0-clause-page c =
    decided_first (length c.args.map.now.owned) c.args.map.now.agsize (taken_at c.args.map.now.owned) c.args.n c.args.page.now.0 c.write_page.new.page.0 c.same_numbers.result c.write_page.ensures c.in-0.is
    c.same_numbers.ensures.fits c.same_numbers.ensures.fits_too c.same_numbers.ensures.same

pub returns-in-3-clause-page : goal.returns-in-3-clause-page
returns-in-3-clause-page c =
    decided_control (length c.args.map.now.owned) c.args.map.now.agsize (taken_at c.args.map.now.owned) c.args.n c.args.page.now.0 c.write_page.new.page.0 c.agree_outside.result c.write_page.ensures c.in-3.is
    c.agree_outside.ensures.size c.agree_outside.ensures.bytes c.agree_outside.ensures.bytes_too c.agree_outside.ensures.same

pub returns-in_default-clause-page : goal.returns-in_default-clause-page
returns-in_default-clause-page c =
    let most : 4 ≤ c.args.n = omega arith in
    decided_dmap (length c.args.map.now.owned) c.args.map.now.agsize (taken_at c.args.map.now.owned) c.args.n c.args.page.now.0 c.write_page.new.page.0 c.agree_outside-in_default.result c.write_page.ensures most
    c.agree_outside-in_default.ensures.size c.agree_outside-in_default.ensures.bytes c.agree_outside-in_default.ensures.bytes_too c.agree_outside-in_default.ensures.same
