use Rattle.std.proofs.Common.{◌≤◌, ◌<◌, ◌⊎◌, inl, inr, IsTrue, length, arith}
use Rattle.jfs_bmap.specs.Set.{taken_at}
use Rattle.jfs_map_check.proofs.Noted.{no_bit, dmap_noted}
use Rattle.jfs_map_check.proofs.block_map.note_all.Goals as goal
use Rattle.jfs_map_check.proofs.block_map.note_all.Goals.{then-passed-via-then-passed, then-passed-via-else-passed+then-j-lt4}

pub returns-then-passed : goal.returns-then-passed
returns-then-passed c =
    let which : IsTrue c.in_ok-passed.passed ⊎ (c.args.j < 4) = elim c.then-passed.branch [ then-passed-via-then-passed w ↦ inl w.if-passed.true | then-passed-via-else-passed+then-j-lt4 w ↦ inr w.if-j-lt4.true ] in
    no_bit (length c.args.map.now.owned) c.args.map.now.agsize (taken_at c.args.map.now.owned) c.args.j c.args.n c.args.page.now.0 c.in_ok-passed.passed c.args.findings.now.items c.note_canonical.new.findings.items
    c.in_ok-passed.ensures.passed which c.in_ok-passed.ensures.findings

pub returns : goal.returns
returns c =
    let most : 4 ≤ c.args.j = omega arith in
    dmap_noted (length c.args.map.now.owned) c.args.map.now.agsize (taken_at c.args.map.now.owned) c.args.j c.args.n c.args.page.now.0 c.note_canonical.new.canonical.0 c.min-count.result c.args.findings.now.items c.note_canonical.new.findings.items c.note_bits.new.findings.items
    most (omega arith) c.in_ok-passed.ensures.canonical c.in_ok-passed.ensures.findings c.in_ok-note_bits.ensures
