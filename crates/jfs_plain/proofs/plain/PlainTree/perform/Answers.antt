use Rattle.std.proofs.Common.{refl}
use Rattle.jfs_plain.specs.Plain.{tree_of}
use Rattle.jfs_plain.proofs.Chained.{same}
use Rattle.jfs_plain.proofs.plain.PlainTree.perform.Goals as goal

pub returns-in-Sync-clause-answer : goal.returns-in-Sync-clause-answer
returns-in-Sync-clause-answer c = (tree_of c.args.self.now, rw c.in-Sync.is refl, same _)
