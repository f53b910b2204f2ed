use Rattle.std.proofs.Common.{◌≡◌, ◌*◌, suc, add-one, arith}
use Rattle.std.proofs.lemmas.Nat.{one_shl}
use Rattle.jfs_buddy.specs.Buddy.{start_of}
use Rattle.jfs_buddy.proofs.Levels.{halves-within}
use Rattle.jfs_buddy.proofs.join.shows_halves.Goals as goal

pub leaf_rank-right-requires-clause-within : goal.leaf_rank-right-requires-clause-within
leaf_rank-right-requires-clause-within c =
    let h = halves-within (2 * c.args.height) c.args.k c.args.leaf (omega arith) c.requires.within in
    let begin : c.start-begin.result ≡ start_of (suc c.args.k) c.args.leaf = rw add-one at c.start-begin.ensures in
    rw (one_shl c.args.k 32 (omega arith), begin) h.1
