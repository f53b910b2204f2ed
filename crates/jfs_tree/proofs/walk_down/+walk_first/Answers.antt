use Rattle.std.proofs.Common.{◌≡◌, ◌+◌, ◌-◌, sym, ap, ◌∙◌, subst, arith, ℕ, suc, List, Some, Ok, Err}
use Rattle.std.specs.Prelude.{slice_get}
use Rattle.jfs_disk.specs.Image.{Image}
use Rattle.jfs_tree.specs.Spells.{with_root, levels_of}
use Rattle.jfs_tree.specs.Form.{as_child}
use Rattle.jfs_tree.specs.Call.{pages_of, CarriesFault}
use Rattle.jfs_tree.specs.Walking.{Counts, Meets, rows_in, children_in, leaf_shown, first_shown}
use Rattle.jfs_tree.specs.declared.walk_read.Shape.{Shape}
use Rattle.jfs_tree.proofs.WalkSteps.{OthersMet, reads}
use Rattle.jfs_tree.proofs.WalkFirst.{past_last, first_fails, first_leaf, first_stops, first_goes, same_fault, leaf_levels, inner_levels}
use Rattle.jfs_tree.proofs.walk_down.+walk_first.Goals as goal

pub returns-then-most-eq0-clause-met : goal.returns-then-most-eq0-clause-met
returns-then-most-eq0-clause-met g t c tells root =
    past_last g.F.PageForm.scale g.W.Visitor.sees_page g.W.Visitor.sees_entry (with_root root (pages_of (g.F.PageForm.node c.args.form.now) (g.V.PageView.image c.args.view.now))) c.args.most c.args.page (g.F.PageRead.place c.args.low.now) c.args.visitor.now c.if-most-eq0.true

pub returns-in-Err-clause-met : goal.returns-in-Err-clause-met
returns-in-Err-clause-met g t c tells root =
    let node = g.F.PageForm.node c.args.form.now in
    let image = g.V.PageView.image c.args.view.now in
    first_fails g.F.PageForm.scale g.W.Visitor.sees_page g.W.Visitor.sees_entry (with_root root (pages_of node image)) c.args.page (pages_of node image c.args.page)
    (reads root (pages_of node image) c.args.page (g.V.PageView.block_count c.args.view.now) c.requires.page c.requires.most) (g.F.PageRead.place c.args.low.now) c.requires.least c.args.visitor.now c.open_page.new.visitor
    c.args.most (c.args.most - 1) c.in-Err.e (let h = c.if-most-eq0.false in omega (arith, h)) (c.in-Err.ensures.opens tells)

pub returns-in-Ok-walk_leaf-clause-levels : goal.returns-in-Ok-walk_leaf-clause-levels
returns-in-Ok-walk_leaf-clause-levels g t c tells root =
    let node = g.F.PageForm.node c.args.form.now in
    let image = g.V.PageView.image c.args.view.now in
    leaf_levels (with_root root (pages_of node image)) c.args.most (c.args.most - 1) c.args.page c.in-Leaf.count (node c.in-Ok.opened.bytes.0) (let h = c.if-most-eq0.false in omega (arith, h))
    (reads root (pages_of node image) c.args.page (g.V.PageView.block_count c.args.view.now) c.requires.page c.requires.most ∙ ap node (sym (c.in-Ok.ensures.bytes tells)))
    (subst (λ (s : Shape). Counts (node c.in-Ok.opened.bytes.0) s) c.in-Leaf.is c.in-Ok.ensures.counts)

pub returns-in-Ok-walk_leaf-clause-met : goal.returns-in-Ok-walk_leaf-clause-met
returns-in-Ok-walk_leaf-clause-met g t c tells root =
    let node = g.F.PageForm.node c.args.form.now in
    let image = g.V.PageView.image c.args.view.now in
    let key = g.F.PageRead.place c.args.low.now in
    first_leaf g.F.PageForm.scale g.W.Visitor.sees_page g.W.Visitor.sees_entry (with_root root (pages_of node image)) c.args.page (node c.in-Ok.opened.bytes.0)
    (reads root (pages_of node image) c.args.page (g.V.PageView.block_count c.args.view.now) c.requires.page c.requires.most ∙ ap node (sym (c.in-Ok.ensures.bytes tells))) key c.requires.least c.args.visitor.now c.open_page.new.visitor
    c.args.most (c.args.most - 1) c.in-Leaf.count (Ok (g.F.PageRead.place c.walk_leaf.new.low)) c.walk_leaf.new.visitor (let h = c.if-most-eq0.false in omega (arith, h))
    (subst (λ (s : Shape). Counts (node c.in-Ok.opened.bytes.0) s) c.in-Leaf.is c.in-Ok.ensures.counts) (c.in-Ok.ensures.opens tells).0
    (subst (λ (b : List ℕ). Meets g.F.PageForm.scale g.W.Visitor.sees_page g.W.Visitor.sees_entry key c.open_page.new.visitor (leaf_shown g.F.PageForm.scale c.args.page key (rows_in (node b))) (Ok (g.F.PageRead.place c.walk_leaf.new.low)) c.walk_leaf.new.visitor)
    c.bytes.ensures.value c.in-Ok-walk_leaf.ensures.met)

pub returns-in-Leaf-clause-fault : goal.returns-in-Leaf-clause-fault
returns-in-Leaf-clause-fault g t c =
    subst (λ n. CarriesFault {T = ℕ} (g.V.PageView.faults c.args.view.now) n (Err c.in-Err-walk_leaf.e)) (sym c.in-Ok.ensures.fault) (same_fault (Unit {0}) ℕ c.in-Err-walk_leaf.e (g.V.PageView.faults c.args.view.now) (c.in-Err-walk_leaf.ensures.fault (g.V.PageView.faults c.args.view.now)))

pub returns-in-Leaf-clause-met : goal.returns-in-Leaf-clause-met
returns-in-Leaf-clause-met g t c tells root =
    let node = g.F.PageForm.node c.args.form.now in
    let image = g.V.PageView.image c.args.view.now in
    let key = g.F.PageRead.place c.args.low.now in
    first_leaf g.F.PageForm.scale g.W.Visitor.sees_page g.W.Visitor.sees_entry (with_root root (pages_of node image)) c.args.page (node c.in-Ok.opened.bytes.0)
    (reads root (pages_of node image) c.args.page (g.V.PageView.block_count c.args.view.now) c.requires.page c.requires.most ∙ ap node (sym (c.in-Ok.ensures.bytes tells))) key c.requires.least c.args.visitor.now c.open_page.new.visitor
    c.args.most (c.args.most - 1) c.in-Leaf.count (Err c.in-Err-walk_leaf.e) c.walk_leaf.new.visitor (let h = c.if-most-eq0.false in omega (arith, h))
    (subst (λ (s : Shape). Counts (node c.in-Ok.opened.bytes.0) s) c.in-Leaf.is c.in-Ok.ensures.counts) (c.in-Ok.ensures.opens tells).0
    (subst (λ (b : List ℕ). Meets g.F.PageForm.scale g.W.Visitor.sees_page g.W.Visitor.sees_entry key c.open_page.new.visitor (leaf_shown g.F.PageForm.scale c.args.page key (rows_in (node b))) (Err c.in-Err-walk_leaf.e) c.walk_leaf.new.visitor)
    c.bytes.ensures.value c.in-Err-walk_leaf.ensures.met)

pub returns-in-Err-walk_first-clause-met : goal.returns-in-Err-walk_first-clause-met
returns-in-Err-walk_first-clause-met g t c tells root =
    let node = g.F.PageForm.node c.args.form.now in
    let image = g.V.PageView.image c.args.view.now in
    let key = g.F.PageRead.place c.args.low.now in
    first_stops g.F.PageForm.scale g.W.Visitor.sees_page g.W.Visitor.sees_entry (with_root root (pages_of node image)) c.args.page (node c.in-Ok.opened.bytes.0)
    (reads root (pages_of node image) c.args.page (g.V.PageView.block_count c.args.view.now) c.requires.page c.requires.most ∙ ap node (sym (c.in-Ok.ensures.bytes tells))) key c.requires.least c.args.visitor.now c.open_page.new.visitor
    c.args.most (c.args.most - 1) (as_child c.child-first.result) c.in-Err-walk_first.e c.walk_first.new.visitor g.met.F.PageForm.order (let h = c.if-most-eq0.false in omega (arith, h))
    (subst (λ (b : List ℕ). slice_get (children_in (node b)) 0 ≡ Some (as_child c.child-first.result)) c.bytes-in-Inner.ensures.value c.child-first.ensures.is) (c.in-Ok.ensures.opens tells).0
    (subst (λ (i : Image). Meets g.F.PageForm.scale g.W.Visitor.sees_page g.W.Visitor.sees_entry key c.open_page.new.visitor (first_shown g.F.PageForm.scale (with_root root (pages_of node i)) (c.args.most - 1) c.child-first.result.page) (Err c.in-Err-walk_first.e) c.walk_first.new.visitor)
    (c.open_page.ensures.image tells) (c.in-Err-walk_first.ensures.met tells root))

pub returns-in-Ok-walk_others-clause-levels : goal.returns-in-Ok-walk_others-clause-levels
returns-in-Ok-walk_others-clause-levels g t c tells root =
    let node = g.F.PageForm.node c.args.form.now in
    let image = g.V.PageView.image c.args.view.now in
    let one : suc c.in-Ok-walk_first.below ≡ c.in-Ok-walk_first.below + 1 = omega arith in
    inner_levels (with_root root (pages_of node image)) c.args.most (c.args.most - 1) c.args.page (node c.in-Ok.opened.bytes.0) (as_child c.child-first.result) (Some (suc c.in-Ok-walk_first.below)) (let h = c.if-most-eq0.false in omega (arith, h))
    (reads root (pages_of node image) c.args.page (g.V.PageView.block_count c.args.view.now) c.requires.page c.requires.most ∙ ap node (sym (c.in-Ok.ensures.bytes tells)))
    (subst (λ (b : List ℕ). slice_get (children_in (node b)) 0 ≡ Some (as_child c.child-first.result)) c.bytes-in-Inner.ensures.value c.child-first.ensures.is)
    (subst (λ (i : Image). levels_of (with_root root (pages_of node i)) (c.args.most - 1) c.child-first.result.page ≡ Some (suc c.in-Ok-walk_first.below)) (c.open_page.ensures.image tells) (c.in-Ok-walk_first.ensures.levels tells root))
    ∙ ap (λ n. Some (suc n)) one

pub returns-in-Ok-walk_others-clause-met : goal.returns-in-Ok-walk_others-clause-met
returns-in-Ok-walk_others-clause-met g t c tells root =
    let node = g.F.PageForm.node c.args.form.now in
    let image = g.V.PageView.image c.args.view.now in
    let key = g.F.PageRead.place c.args.low.now in
    first_goes g.F.PageForm.scale g.W.Visitor.sees_page g.W.Visitor.sees_entry (with_root root (pages_of node image)) c.args.page (node c.in-Ok.opened.bytes.0)
    (reads root (pages_of node image) c.args.page (g.V.PageView.block_count c.args.view.now) c.requires.page c.requires.most ∙ ap node (sym (c.in-Ok.ensures.bytes tells))) key c.requires.least c.args.visitor.now c.open_page.new.visitor
    c.args.most (c.args.most - 1) c.in-Ok-walk_first.below (as_child c.child-first.result) (g.F.PageRead.place c.walk_first.new.low) c.walk_first.new.visitor (Ok (g.F.PageRead.place c.walk_others.new.low)) c.walk_others.new.visitor g.met.F.PageForm.order (let h = c.if-most-eq0.false in omega (arith, h))
    (subst (λ (b : List ℕ). slice_get (children_in (node b)) 0 ≡ Some (as_child c.child-first.result)) c.bytes-in-Inner.ensures.value c.child-first.ensures.is) (c.in-Ok.ensures.opens tells).0
    (subst (λ (i : Image). levels_of (with_root root (pages_of node i)) (c.args.most - 1) c.child-first.result.page ≡ Some (suc c.in-Ok-walk_first.below)) (c.open_page.ensures.image tells) (c.in-Ok-walk_first.ensures.levels tells root))
    (subst (λ (i : Image). Meets g.F.PageForm.scale g.W.Visitor.sees_page g.W.Visitor.sees_entry key c.open_page.new.visitor (first_shown g.F.PageForm.scale (with_root root (pages_of node i)) (c.args.most - 1) c.child-first.result.page) (Ok (g.F.PageRead.place c.walk_first.new.low)) c.walk_first.new.visitor)
    (c.open_page.ensures.image tells) (c.in-Ok-walk_first.ensures.met tells root))
    (subst (λ (b : List ℕ). OthersMet g.F.PageForm.scale g.W.Visitor.sees_page g.W.Visitor.sees_entry (pages_of node image) root c.in-Ok-walk_first.below (children_in (node b)) (g.F.PageRead.place c.walk_first.new.low) c.walk_first.new.visitor (Ok (g.F.PageRead.place c.walk_others.new.low)) c.walk_others.new.visitor) c.bytes-in-Inner-2.ensures.value
    (subst (λ (i : Image). OthersMet g.F.PageForm.scale g.W.Visitor.sees_page g.W.Visitor.sees_entry (pages_of node i) root c.in-Ok-walk_first.below (children_in (node c.bytes-in-Inner-2.result.now)) (g.F.PageRead.place c.walk_first.new.low) c.walk_first.new.visitor (Ok (g.F.PageRead.place c.walk_others.new.low)) c.walk_others.new.visitor)
    (c.walk_first.ensures.image tells ∙ c.open_page.ensures.image tells) (c.in-Ok-walk_others.ensures.met tells root)))

pub returns-clause-met : goal.returns-clause-met
returns-clause-met g t c tells root =
    let node = g.F.PageForm.node c.args.form.now in
    let image = g.V.PageView.image c.args.view.now in
    let key = g.F.PageRead.place c.args.low.now in
    first_goes g.F.PageForm.scale g.W.Visitor.sees_page g.W.Visitor.sees_entry (with_root root (pages_of node image)) c.args.page (node c.in-Ok.opened.bytes.0)
    (reads root (pages_of node image) c.args.page (g.V.PageView.block_count c.args.view.now) c.requires.page c.requires.most ∙ ap node (sym (c.in-Ok.ensures.bytes tells))) key c.requires.least c.args.visitor.now c.open_page.new.visitor
    c.args.most (c.args.most - 1) c.in-Ok-walk_first.below (as_child c.child-first.result) (g.F.PageRead.place c.walk_first.new.low) c.walk_first.new.visitor (Err c.in-Err-walk_others.e) c.walk_others.new.visitor g.met.F.PageForm.order (let h = c.if-most-eq0.false in omega (arith, h))
    (subst (λ (b : List ℕ). slice_get (children_in (node b)) 0 ≡ Some (as_child c.child-first.result)) c.bytes-in-Inner.ensures.value c.child-first.ensures.is) (c.in-Ok.ensures.opens tells).0
    (subst (λ (i : Image). levels_of (with_root root (pages_of node i)) (c.args.most - 1) c.child-first.result.page ≡ Some (suc c.in-Ok-walk_first.below)) (c.open_page.ensures.image tells) (c.in-Ok-walk_first.ensures.levels tells root))
    (subst (λ (i : Image). Meets g.F.PageForm.scale g.W.Visitor.sees_page g.W.Visitor.sees_entry key c.open_page.new.visitor (first_shown g.F.PageForm.scale (with_root root (pages_of node i)) (c.args.most - 1) c.child-first.result.page) (Ok (g.F.PageRead.place c.walk_first.new.low)) c.walk_first.new.visitor)
    (c.open_page.ensures.image tells) (c.in-Ok-walk_first.ensures.met tells root))
    (subst (λ (b : List ℕ). OthersMet g.F.PageForm.scale g.W.Visitor.sees_page g.W.Visitor.sees_entry (pages_of node image) root c.in-Ok-walk_first.below (children_in (node b)) (g.F.PageRead.place c.walk_first.new.low) c.walk_first.new.visitor (Err c.in-Err-walk_others.e) c.walk_others.new.visitor) c.bytes-in-Inner-2.ensures.value
    (subst (λ (i : Image). OthersMet g.F.PageForm.scale g.W.Visitor.sees_page g.W.Visitor.sees_entry (pages_of node i) root c.in-Ok-walk_first.below (children_in (node c.bytes-in-Inner-2.result.now)) (g.F.PageRead.place c.walk_first.new.low) c.walk_first.new.visitor (Err c.in-Err-walk_others.e) c.walk_others.new.visitor)
    (c.walk_first.ensures.image tells ∙ c.open_page.ensures.image tells) (c.in-Err-walk_others.ensures.met tells root)))
