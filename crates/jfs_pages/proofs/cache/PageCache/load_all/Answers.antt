use Rattle.std.proofs.Common.{ℕ, IsSome, arith}
use Rattle.jfs_pages.specs.Kept.{cached}
use Rattle.jfs_pages.proofs.Among.{among_at, all_among}
use Rattle.jfs_pages.proofs.cache.PageCache.load_all.Goals as goal

pub load-requires : goal.load-requires
load-requires g c = omega (arith, c.requires _ (among_at c.args.pages.now c.loop-n.n-index c.loop-n-test.true), c.loop-n.invariant.blocks)

pub returns-clause-there : goal.returns-clause-there
returns-clause-there g c = all_among (λ (n : ℕ). IsSome (cached c.loop-n.self.kept n)) c.args.pages.now (λ k h. c.loop-n.invariant.there k (omega (arith, c.loop-n-test.false)))
