use Rattle.std.proofs.Common.{◌∙◌}
use Rattle.jfs_tree.proofs.Taking.{below_popped}
use Rattle.jfs_tree.proofs.Moving.{here_moved}
use Rattle.jfs_tree.proofs.BytesKept.{moved_keeps}
use Rattle.jfs_tree.proofs.Framing.{moved_names}
use Rattle.jfs_tree.proofs.Drafts.{drafts_moved}
use Rattle.jfs_tree.proofs.take_root.moves_with_entry.Goals as goal

pub move_down-requires-clause-within : goal.move_down-requires-clause-within
move_down-requires-clause-within g c = (below_popped (g.F.PageForm.blocks c.args.top.now) c.in-Some.q c.args.fresh.now.items c.pop.new.self.items c.in-Some.ensures.items c.requires.within).1

pub returns-in-Done-clause-did : goal.returns-in-Done-clause-did
returns-in-Done-clause-did g c =
    here_moved (g.F.PageForm.node c.args.form.now) g.F.PageForm.scale c.args.x.now (g.F.PageForm.node c.args.top.now c.args.root.now) (g.F.PageForm.node c.args.top.now c.move_down.new.root) c.move_down.new.page c.put.new.bytes c.in-Some.q
    c.args.draft.now.pages.items c.put_one.new.draft.pages.items c.args.fresh.now.items c.pop.new.self.items c.put_one.result
    c.move_down.ensures.entries c.in-Done.ensures.row c.move_down.ensures.root c.in-Some.ensures.items c.put_one.ensures.puts c.put_one.ensures.cause

pub returns-in-Done-clause-below : goal.returns-in-Done-clause-below
returns-in-Done-clause-below g c = (below_popped (g.F.PageForm.blocks c.args.top.now) c.in-Some.q c.args.fresh.now.items c.pop.new.self.items c.in-Some.ensures.items c.requires.within).0

pub returns-in-Clash-clause-below : goal.returns-in-Clash-clause-below
returns-in-Clash-clause-below g c = (below_popped (g.F.PageForm.blocks c.args.top.now) c.in-Some.q c.args.fresh.now.items c.pop.new.self.items c.in-Some.ensures.items c.requires.within).0

pub returns-in-Done-clause-keeps : goal.returns-in-Done-clause-keeps
returns-in-Done-clause-keeps g c =
    moved_keeps c.args.draft.now.pages.items c.put_one.new.draft.pages.items c.in-Some.q c.put.new.bytes c.args.fresh.now.items c.pop.new.self.items c.put_one.result c.put_one.ensures.puts c.in-Some.ensures.items

pub returns-in-Done-clause-names : goal.returns-in-Done-clause-names
returns-in-Done-clause-names g c =
    moved_names (g.F.PageForm.frame c.args.form.now) (g.F.PageForm.new_frame c.args.form.now) c.args.draft.now.pages.items c.put_one.new.draft.pages.items c.in-Some.q c.put.new.bytes c.args.fresh.now.items c.pop.new.self.items c.put_one.result c.put_one.ensures.puts c.in-Some.ensures.items
    (c.put.ensures.frame ∙ c.move_down.ensures.new)

pub returns-in-Done-clause-drafted : goal.returns-in-Done-clause-drafted
returns-in-Done-clause-drafted g c =
    drafts_moved c.args.draft.now.pages.items c.put_one.new.draft.pages.items c.in-Some.q c.put.new.bytes c.args.fresh.now.items c.pop.new.self.items c.put_one.result c.put_one.ensures.puts c.in-Some.ensures.items
