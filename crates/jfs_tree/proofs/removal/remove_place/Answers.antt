use Rattle.std.proofs.Common.{◌≡◌, ◌+◌, refl, sym, subst, not}
use Rattle.jfs_disk.specs.declared.page.Page.{Page}
use Rattle.jfs_tree.specs.Call.{nodes}
use Rattle.jfs_tree.specs.Removal.{TakesChild, TellsSingle}
use Rattle.jfs_tree.proofs.Losing.{others_at, below_kept, below_less, below_gone}
use Rattle.jfs_tree.proofs.LeastKept.{place_goes}
use Rattle.jfs_tree.proofs.removal.remove_place.Goals.{then-not-alone, else-not-alone}
use Rattle.jfs_tree.proofs.Framing.{settled_framed}
use Rattle.jfs_tree.proofs.removal.remove_place.Goals as goal

pub returns-then-kept-clause-did : goal.returns-then-kept-clause-did
returns-then-kept-clause-did g c x =
    below_kept (g.F.PageForm.node c.args.form.now) g.F.PageForm.scale g.met.F.PageForm.order x c.args.bytes.0 c.args.page c.args.place c.args.shrunk c.args.draft.now.pages.items c.args.freed.now.items (c.args.shrunk.levels + 1) c.if-kept.true

pub remove_child-requires-clause-others : goal.remove_child-requires-clause-others
remove_child-requires-clause-others g c =
    others_at c.args.place (g.F.PageForm.node c.args.form.now c.args.bytes.0) c.is_single-alone.result c.requires.there
    (subst (λ b. TellsSingle (g.F.PageForm.node c.args.form.now b) c.is_single-alone.result) c.bytes.ensures.value c.is_single-alone.ensures) c.if-not-alone.true

pub returns-clause-did : goal.returns-clause-did
returns-clause-did g c x =
    let tells = subst (λ b. TellsSingle (g.F.PageForm.node c.args.form.now b) c.is_single-alone.result) c.bytes.ensures.value c.is_single-alone.ensures in
    elim c.if-not-alone.branch [
      | then-not-alone w ↦ below_less (g.F.PageForm.node c.args.form.now) g.F.PageForm.scale g.met.F.PageForm.order g.met.F.PageLoss.loose x c.args.bytes.0 c.if-not-alone.bytes.0 c.args.page c.args.place c.args.shrunk
          c.args.draft.now.pages.items c.settle.new.draft.pages.items c.args.freed.now.items c.settle.new.freed.items c.is_single-alone.result (c.args.shrunk.levels + 1)
          c.if-kept.false w.if-not-alone.true (subst (λ (p : Page). TakesChild c.args.place (g.F.PageForm.node c.args.form.now c.args.bytes.0) (g.F.PageForm.node c.args.form.now p.0)) (sym w.bytes-is) w.remove_child.ensures.takes) tells c.in_ok-settle.ensures.settles
      | else-not-alone w ↦ below_gone (g.F.PageForm.node c.args.form.now) g.F.PageForm.scale g.met.F.PageForm.order x c.args.bytes.0 c.if-not-alone.bytes.0 c.args.page c.args.place c.args.shrunk
          c.args.draft.now.pages.items c.settle.new.draft.pages.items c.args.freed.now.items c.settle.new.freed.items c.is_single-alone.result (c.args.shrunk.levels + 1)
          c.if-kept.false w.if-not-alone.false tells c.in_ok-settle.ensures.settles
    ]

pub returns-clause-inner : goal.returns-clause-inner
returns-clause-inner g c image before below =
    let node = g.F.PageForm.node c.args.form.now in
    place_goes before (nodes node c.args.draft.now.pages.items image) (nodes node c.settle.new.draft.pages.items image) c.args.draft.now.pages.items c.settle.new.draft.pages.items c.args.page c.if-not-alone.bytes.0 (not c.is_single-alone.result) c.args.shrunk.kept
    c.args.freed.now.items c.settle.new.freed.items c.if-kept.false c.in_ok-settle.ensures.settles below

pub returns-clause-framed : goal.returns-clause-framed
returns-clause-framed g c =
    let frame = g.F.PageForm.frame c.args.form.now in
    settled_framed frame (not c.is_single-alone.result) c.args.page c.args.bytes.0 c.if-not-alone.bytes.0 c.args.draft.now.pages.items c.settle.new.draft.pages.items c.args.freed.now.items c.settle.new.freed.items c.in_ok-settle.ensures.settles
    (elim c.if-not-alone.branch [
      | then-not-alone w ↦ subst (λ (p : Page). frame p.0 ≡ frame c.args.bytes.0) (sym w.bytes-is) w.remove_child.ensures.frame
      | else-not-alone w ↦ subst (λ (p : Page). frame p.0 ≡ frame c.args.bytes.0) (sym w.bytes-is) refl
    ])
