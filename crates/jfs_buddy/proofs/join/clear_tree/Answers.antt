use Rattle.std.proofs.Common.{arith}
use Rattle.jfs_buddy.proofs.Finds.{cleared-tree}
use Rattle.jfs_buddy.proofs.join.clear_tree.Goals as goal

pub returns : goal.returns
returns c some = cleared-tree c.args.height c.args.whole c.fill.new.self some (omega (arith, c.requires, c.fill.ensures.len)) (rw c.fill.ensures.len (c.fill.ensures.after (λ y h. h)))
