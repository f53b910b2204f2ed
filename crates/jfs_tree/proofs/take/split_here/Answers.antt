use Rattle.std.proofs.Common.{rules}
use Rattle.jfs_tree.proofs.Taking.{here_parted, below_popped}
use Rattle.jfs_tree.proofs.BytesKept.{two_off}
use Rattle.jfs_tree.proofs.FilledSteps.{here_parts_filled}
use Rattle.jfs_tree.proofs.Framing.{two_framed}
use Rattle.jfs_tree.proofs.Clearing.{leaf_apart}
use Rattle.jfs_tree.proofs.Drafts.{drafts_two}
use Rattle.jfs_tree.proofs.take.split_here.Goals as goal

pub returns-in_err-put_two-clause-below : goal.returns-in_err-put_two-clause-below
returns-in_err-put_two-clause-below g c = λ bound h. let b = below_popped bound c.in-Some.q c.args.fresh.now.items c.pop.new.self.items c.in-Some.ensures.items h in search rules

pub returns-clause-did : goal.returns-clause-did
returns-clause-did g c =
    here_parted (g.F.PageForm.node c.args.form.now) g.F.PageForm.scale g.met.F.PageForm.order c.args.x.now c.args.bytes.0 c.split-key.new.bytes c.split-key.new.right c.args.page c.in-Some.q c.split-key.result
    c.args.draft.now.pages.items c.put_two.new.draft.pages.items c.args.fresh.now.items c.pop.new.self.items c.split-key.ensures.parts c.in-Some.ensures.items c.in_ok-put_two.ensures.puts

pub returns-clause-below : goal.returns-clause-below
returns-clause-below g c = λ bound h. below_popped bound c.in-Some.q c.args.fresh.now.items c.pop.new.self.items c.in-Some.ensures.items h

pub returns-clause-keeps : goal.returns-clause-keeps
returns-clause-keeps g c =
    two_off c.args.draft.now.pages.items c.put_two.new.draft.pages.items c.args.page c.in-Some.q c.split-key.new.bytes c.split-key.new.right c.args.fresh.now.items c.pop.new.self.items c.in_ok-put_two.ensures.puts c.in-Some.ensures.items

pub returns-clause-filled : goal.returns-clause-filled
returns-clause-filled g c appends least fills =
    here_parts_filled appends least (g.F.PageForm.node c.args.form.now) g.F.PageForm.scale g.met.F.PageForm.order c.args.x.now c.args.bytes.0 c.split-key.new.bytes c.split-key.new.right c.args.page c.in-Some.q c.split-key.result c.args.last
    c.args.draft.now.pages.items c.put_two.new.draft.pages.items c.args.fresh.now.items c.pop.new.self.items c.split-key.ensures.parts (c.split-key.ensures.fills appends least fills) c.in-Some.ensures.items c.in_ok-put_two.ensures.puts

pub returns-clause-cut : goal.returns-clause-cut
returns-clause-cut g c = λ es is apart. let t = c.split-key.ensures.parts es is apart in (t.front, t.back, t.all, t.some, t.parts)

pub returns-clause-framed : goal.returns-clause-framed
returns-clause-framed g c =
    two_framed (g.F.PageForm.frame c.args.form.now) (g.F.PageForm.new_frame c.args.form.now) c.args.bytes.0 c.split-key.new.bytes c.split-key.new.right c.args.page c.in-Some.q c.args.draft.now.pages.items c.put_two.new.draft.pages.items c.args.fresh.now.items c.pop.new.self.items
    c.in_ok-put_two.ensures.puts c.in-Some.ensures.items c.split-key.ensures.frame
    (c.split-key.ensures.new c.requires.leaf.0 c.requires.leaf.1 (leaf_apart g.F.PageForm.scale c.args.x.now (g.F.PageForm.node c.args.form.now c.args.bytes.0) c.requires.leaf.0 c.requires.leaf.1 c.requires.apart))

pub returns-clause-drafted : goal.returns-clause-drafted
returns-clause-drafted g c =
    drafts_two c.args.draft.now.pages.items c.put_two.new.draft.pages.items c.args.page c.in-Some.q c.split-key.new.bytes c.split-key.new.right c.args.fresh.now.items c.pop.new.self.items c.in_ok-put_two.ensures.puts c.in-Some.ensures.items
