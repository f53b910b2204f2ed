use Rattle.std.proofs.Common.{◌≡◌, ◌+◌, ◌*◌, ◌∙◌, arith}
use Rattle.jfs_bmap.proofs.page_of_set.dmap_of.Goals as goal

pub returns-clause-set : goal.returns-clause-set
returns-clause-set c i most within =
    let place : 8 * (1024 * c.args.k) + i ≡ 8192 * c.args.k + i = omega arith in
    c.dmap_canonical.ensures.set i (omega (arith, c.min.ensures))
    ∙ rw place at (c.bits_of-bits.ensures i most (omega (arith, c.requires.size)) (omega arith) c.requires.words)
