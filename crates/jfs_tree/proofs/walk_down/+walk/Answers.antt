use Rattle.std.proofs.Common.{◌≡◌, ◌-◌, sym, ap, ◌∙◌, subst, arith, ℕ, List, Some, Ok, Err}
use Rattle.std.specs.Prelude.{slice_get}
use Rattle.jfs_disk.specs.Image.{Image}
use Rattle.jfs_tree.specs.Spells.{with_root}
use Rattle.jfs_tree.specs.Form.{as_child}
use Rattle.jfs_tree.specs.Call.{pages_of, CarriesFault}
use Rattle.jfs_tree.specs.Walking.{children_in, ended}
use Rattle.jfs_tree.proofs.WalkSteps.{PageMet, OthersMet, other_refused, other_stops, other_goes, reads, inner_stops, inner_goes}
use Rattle.jfs_tree.proofs.walk_down.+walk.Goals as goal

pub walk_others-returns-in-Err-clause-met : goal.walk_others-returns-in-Err-clause-met
walk_others-returns-in-Err-clause-met g t c tells root =
    other_refused g.F.PageForm.scale g.W.Visitor.sees_page g.W.Visitor.sees_entry (pages_of (g.F.PageForm.node c.args.form.now) (g.V.PageView.image c.args.view.now)) c.args.below (children_in (g.F.PageForm.node c.args.above.now c.args.bytes.now)) c.loop-i.i (as_child c.child-child.result)
    (g.F.PageRead.place c.args.low.now) (g.F.PageRead.place c.loop-i.low) c.args.visitor.now c.loop-i.visitor (c.loop-i.invariant.3 tells) c.child-child.ensures.is root c.in-Err.e c.in-Err.ensures.passes.0 c.in-Err.ensures.passes.1

pub walk_others-returns-in-Err-walk_page-clause-met : goal.walk_others-returns-in-Err-walk_page-clause-met
walk_others-returns-in-Err-walk_page-clause-met g t c tells root =
    other_stops g.F.PageForm.scale g.W.Visitor.sees_page g.W.Visitor.sees_entry (pages_of (g.F.PageForm.node c.args.form.now) (g.V.PageView.image c.args.view.now)) c.args.below (children_in (g.F.PageForm.node c.args.above.now c.args.bytes.now)) c.loop-i.i (as_child c.child-child.result)
    (g.F.PageRead.place c.args.low.now) (g.F.PageRead.place c.loop-i.low) c.args.visitor.now c.loop-i.visitor (c.loop-i.invariant.3 tells) c.child-child.ensures.is root c.in-Err-walk_page.e c.walk_page.new.visitor (g.F.PageRead.place c.walk_key.new.low) c.in-Ok.ensures.passes.0 c.in-Ok.ensures.passes.1
    (subst (λ (i : Image). PageMet g.F.PageForm.scale g.W.Visitor.sees_page g.W.Visitor.sees_entry (pages_of (g.F.PageForm.node c.args.form.now) i) root c.args.below c.child-child.result.page (g.F.PageRead.place c.walk_key.new.low) c.loop-i.visitor (Err c.in-Err-walk_page.e) c.walk_page.new.visitor)
    (c.loop-i.invariant.0 tells) (c.in-Err-walk_page.ensures.met tells root))

pub walk_others-loop-i-preserved : goal.walk_others-loop-i-preserved
walk_others-loop-i-preserved g t c =
    let inv = c.loop-i.invariant in (
      λ told. c.walk_page.ensures.image told ∙ inv.0 told,
      c.walk_page.ensures.count_of_blocks ∙ inv.1,
      c.in-Ok-walk_page.ensures.fault ∙ inv.2,
      λ told root. other_goes g.F.PageForm.scale g.W.Visitor.sees_page g.W.Visitor.sees_entry (pages_of (g.F.PageForm.node c.args.form.now) (g.V.PageView.image c.args.view.now)) c.args.below (children_in (g.F.PageForm.node c.args.above.now c.args.bytes.now)) c.loop-i.i (as_child c.child-child.result)
          (g.F.PageRead.place c.args.low.now) (g.F.PageRead.place c.loop-i.low) c.args.visitor.now c.loop-i.visitor (inv.3 told) c.child-child.ensures.is root (g.F.PageRead.place c.walk_page.new.low) c.walk_page.new.visitor (g.F.PageRead.place c.walk_key.new.low) c.in-Ok.ensures.passes.0 c.in-Ok.ensures.passes.1
          (subst (λ (i : Image). PageMet g.F.PageForm.scale g.W.Visitor.sees_page g.W.Visitor.sees_entry (pages_of (g.F.PageForm.node c.args.form.now) i) root c.args.below c.child-child.result.page (g.F.PageRead.place c.walk_key.new.low) c.loop-i.visitor (Ok (g.F.PageRead.place c.walk_page.new.low)) c.walk_page.new.visitor)
          (inv.0 told) (c.in-Ok-walk_page.ensures.met told root)),
      c.walk_page.ensures.device ∙ inv.4,
    )

pub walk_page-returns-in-Leaf-clause-fault : goal.walk_page-returns-in-Leaf-clause-fault
walk_page-returns-in-Leaf-clause-fault g t c =
    subst (λ n. CarriesFault (g.V.PageView.faults c.args.view.now) n c.walk_leaf.result) (sym c.in-Ok.ensures.fault) (c.walk_leaf.ensures.fault (g.V.PageView.faults c.args.view.now))

pub walk_page-returns-in-Ok-walk_page-clause-met : goal.walk_page-returns-in-Ok-walk_page-clause-met
walk_page-returns-in-Ok-walk_page-clause-met g t c tells root =
    let node = g.F.PageForm.node c.args.form.now in
    let image = g.V.PageView.image c.args.view.now in
    let key = g.F.PageRead.place c.args.low.now in
    inner_goes g.F.PageForm.scale g.W.Visitor.sees_page g.W.Visitor.sees_entry (with_root root (pages_of node image)) c.args.page (node c.in-Ok.opened.bytes.0)
    (reads root (pages_of node image) c.args.page (g.V.PageView.block_count c.args.view.now) c.requires.page c.requires.most ∙ ap node (sym (c.in-Ok.ensures.bytes tells))) key c.args.visitor.now c.open_page.new.visitor
    g.met.F.PageForm.order c.args.below (c.args.below - 1) (as_child c.child-first.result) (g.F.PageRead.place c.walk_page.new.low) c.walk_page.new.visitor (ended (g.F.PageRead.place c.walk_others.new.low) c.walk_others.result) c.walk_others.new.visitor
    (let h = c.if-below-eq0.false in omega (arith, h))
    (subst (λ (b : List ℕ). slice_get (children_in (node b)) 0 ≡ Some (as_child c.child-first.result)) c.bytes-in-Inner.ensures.value c.child-first.ensures.is) (c.in-Ok.ensures.opens tells).0
    (subst (λ (i : Image). PageMet g.F.PageForm.scale g.W.Visitor.sees_page g.W.Visitor.sees_entry (pages_of node i) root (c.args.below - 1) c.child-first.result.page key c.open_page.new.visitor (Ok (g.F.PageRead.place c.walk_page.new.low)) c.walk_page.new.visitor)
    (c.open_page.ensures.image tells) (c.in-Ok-walk_page.ensures.met tells root))
    (subst (λ (b : List ℕ). OthersMet g.F.PageForm.scale g.W.Visitor.sees_page g.W.Visitor.sees_entry (pages_of node image) root (c.args.below - 1) (children_in (node b)) (g.F.PageRead.place c.walk_page.new.low) c.walk_page.new.visitor (ended (g.F.PageRead.place c.walk_others.new.low) c.walk_others.result) c.walk_others.new.visitor) c.bytes-in-Ok-walk_page.ensures.value
    (subst (λ (i : Image). OthersMet g.F.PageForm.scale g.W.Visitor.sees_page g.W.Visitor.sees_entry (pages_of node i) root (c.args.below - 1) (children_in (node c.bytes-in-Ok-walk_page.result.now)) (g.F.PageRead.place c.walk_page.new.low) c.walk_page.new.visitor (ended (g.F.PageRead.place c.walk_others.new.low) c.walk_others.result) c.walk_others.new.visitor)
    (c.walk_page.ensures.image tells ∙ c.open_page.ensures.image tells) (c.walk_others.ensures.met tells root)))

pub walk_page-returns-clause-met : goal.walk_page-returns-clause-met
walk_page-returns-clause-met g t c tells root =
    let node = g.F.PageForm.node c.args.form.now in
    let image = g.V.PageView.image c.args.view.now in
    let key = g.F.PageRead.place c.args.low.now in
    inner_stops g.F.PageForm.scale g.W.Visitor.sees_page g.W.Visitor.sees_entry (with_root root (pages_of node image)) c.args.page (node c.in-Ok.opened.bytes.0)
    (reads root (pages_of node image) c.args.page (g.V.PageView.block_count c.args.view.now) c.requires.page c.requires.most ∙ ap node (sym (c.in-Ok.ensures.bytes tells))) key c.args.visitor.now c.open_page.new.visitor
    g.met.F.PageForm.order c.args.below (c.args.below - 1) (as_child c.child-first.result) c.in-Err-walk_page.e c.walk_page.new.visitor (let h = c.if-below-eq0.false in omega (arith, h))
    (subst (λ (b : List ℕ). slice_get (children_in (node b)) 0 ≡ Some (as_child c.child-first.result)) c.bytes-in-Inner.ensures.value c.child-first.ensures.is) (c.in-Ok.ensures.opens tells).0
    (subst (λ (i : Image). PageMet g.F.PageForm.scale g.W.Visitor.sees_page g.W.Visitor.sees_entry (pages_of node i) root (c.args.below - 1) c.child-first.result.page key c.open_page.new.visitor (Err c.in-Err-walk_page.e) c.walk_page.new.visitor)
    (c.open_page.ensures.image tells) (c.in-Err-walk_page.ensures.met tells root))
