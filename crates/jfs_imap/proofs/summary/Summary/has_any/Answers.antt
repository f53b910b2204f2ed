use Rattle.std.proofs.Common.{◌+◌, ◌/◌, ◌∙◌, Bool, false, List, get_or, ap}
use Rattle.jfs_imap.proofs.Trees.{eighth-any}
use Rattle.jfs_imap.proofs.summary.Summary.has_any.Goals as goal

pub returns : goal.returns
returns c = rw (← c.self.view_is) (ap (λ (z : List Bool). get_or z (c.self.inside.leaves / 128 + c.args.k) false) c.as_slice-nodes.ensures.value ∙ eighth-any c.self.inside.height c.self.inside.leaves c.self.inside.nodes.items c.self.invariant c.args.k (rw (← c.self.view_is) at c.requires))
