use Rattle.std.proofs.Common.{rules}
use Rattle.jfs_tree.proofs.Taking.{below_popped}
use Rattle.jfs_refill.proofs.Rooting.{two_off}
use Rattle.jfs_tree.proofs.Drafts.{drafts_two}
use Rattle.jfs_refill.proofs.storing.split.Goals as goal

pub returns-in_err-put_two-clause-below : goal.returns-in_err-put_two-clause-below
returns-in_err-put_two-clause-below c = λ bound h. let b = below_popped bound c.in-Some.q c.args.stack.now.items c.pop.new.self.items c.in-Some.ensures.items h in search rules

pub returns-clause-keeps : goal.returns-clause-keeps
returns-clause-keeps c =
    two_off c.args.draft.now.pages.items c.put_two.new.draft.pages.items c.args.n c.in-Some.q c.divide-key.new.bytes c.divide-key.new.second c.args.stack.now.items c.pop.new.self.items c.in_ok-put_two.ensures.puts c.in-Some.ensures.items

pub returns-clause-below : goal.returns-clause-below
returns-clause-below c = λ bound h. below_popped bound c.in-Some.q c.args.stack.now.items c.pop.new.self.items c.in-Some.ensures.items h

pub returns-clause-drafted : goal.returns-clause-drafted
returns-clause-drafted c =
    drafts_two c.args.draft.now.pages.items c.put_two.new.draft.pages.items c.args.n c.in-Some.q c.divide-key.new.bytes c.divide-key.new.second c.args.stack.now.items c.pop.new.self.items c.in_ok-put_two.ensures.puts c.in-Some.ensures.items
