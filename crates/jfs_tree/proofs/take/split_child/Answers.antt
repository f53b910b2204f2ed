use Rattle.std.proofs.Common.{rules}
use Rattle.jfs_tree.proofs.Taking.{child_parted, below_popped}
use Rattle.jfs_tree.proofs.BytesKept.{two_off}
use Rattle.jfs_tree.proofs.FilledSteps.{child_parts_filled}
use Rattle.jfs_tree.specs.Form.{as_child}
use Rattle.jfs_tree.proofs.Framing.{two_framed}
use Rattle.jfs_tree.proofs.Clearing.{child_at}
use Rattle.jfs_tree.proofs.Drafts.{drafts_two}
use Rattle.jfs_tree.proofs.take.split_child.Goals as goal

pub returns-in_err-put_two-clause-below : goal.returns-in_err-put_two-clause-below
returns-in_err-put_two-clause-below g c = λ bound h. let b = below_popped bound c.in-Some.q c.args.fresh.now.items c.pop.new.self.items c.in-Some.ensures.items h in search rules

pub returns-clause-did : goal.returns-clause-did
returns-clause-did g c =
    child_parted (g.F.PageForm.node c.args.form.now) g.F.PageForm.scale g.met.F.PageForm.order c.args.bytes.0 c.split_child-key.new.bytes c.split_child-key.new.right c.args.page c.args.place c.in-Some.q c.split_child-key.result c.args.sibling
    c.args.draft.now.pages.items c.put_two.new.draft.pages.items c.args.fresh.now.items c.pop.new.self.items c.split_child-key.ensures.parts c.in-Some.ensures.items c.in_ok-put_two.ensures.puts

pub returns-clause-below : goal.returns-clause-below
returns-clause-below g c = λ bound h. below_popped bound c.in-Some.q c.args.fresh.now.items c.pop.new.self.items c.in-Some.ensures.items h

pub returns-clause-keeps : goal.returns-clause-keeps
returns-clause-keeps g c =
    two_off c.args.draft.now.pages.items c.put_two.new.draft.pages.items c.args.page c.in-Some.q c.split_child-key.new.bytes c.split_child-key.new.right c.args.fresh.now.items c.pop.new.self.items c.in_ok-put_two.ensures.puts c.in-Some.ensures.items

pub returns-clause-filled : goal.returns-clause-filled
returns-clause-filled g c appends least fills =
    child_parts_filled appends least (g.F.PageForm.node c.args.form.now) g.F.PageForm.scale g.met.F.PageForm.order c.args.bytes.0 c.split_child-key.new.bytes c.split_child-key.new.right c.args.page c.args.place c.in-Some.q c.split_child-key.result c.args.last c.args.sibling
    c.args.draft.now.pages.items c.put_two.new.draft.pages.items c.args.fresh.now.items c.pop.new.self.items c.split_child-key.ensures.parts (c.split_child-key.ensures.fills appends least fills) c.in-Some.ensures.items c.in_ok-put_two.ensures.puts

pub returns-clause-cut : goal.returns-clause-cut
returns-clause-cut g c = λ all at. let t = c.split_child-key.ensures.parts all at (c.requires.goes all at) in (t.front, t.first, t.back, t.is, t.some, t.key_is)

pub returns-clause-framed : goal.returns-clause-framed
returns-clause-framed g c =
    two_framed (g.F.PageForm.frame c.args.form.now) (g.F.PageForm.new_frame c.args.form.now) c.args.bytes.0 c.split_child-key.new.bytes c.split_child-key.new.right c.args.page c.in-Some.q c.args.draft.now.pages.items c.put_two.new.draft.pages.items c.args.fresh.now.items c.pop.new.self.items
    c.in_ok-put_two.ensures.puts c.in-Some.ensures.items c.split_child-key.ensures.frame
    (let at = child_at c.args.place (g.F.PageForm.node c.args.form.now c.args.bytes.0) (as_child c.args.sibling) c.requires.there in c.split_child-key.ensures.new at.0 at.1 (c.requires.goes at.0 at.1))

pub returns-clause-drafted : goal.returns-clause-drafted
returns-clause-drafted g c =
    drafts_two c.args.draft.now.pages.items c.put_two.new.draft.pages.items c.args.page c.in-Some.q c.split_child-key.new.bytes c.split_child-key.new.right c.args.fresh.now.items c.pop.new.self.items c.in_ok-put_two.ensures.puts c.in-Some.ensures.items
