use Rattle.std.proofs.Common.{◌≡◌, false, get_or}
use Rattle.jfs_imap.proofs.Trees.{root-clear}
use Rattle.jfs_imap.proofs.summary.Summary.first.Goals as goal

pub returns-then-not-nodes : goal.returns-then-not-nodes
returns-then-not-nodes c =
    let clear : get_or c.self.inside.nodes.items 1 false ≡ false = rw c.as_slice-nodes.ensures.value at c.if-not-nodes.true in
    rw (← c.self.view_is) (root-clear c.self.inside.height c.self.inside.leaves c.self.inside.nodes.items c.self.invariant clear)
