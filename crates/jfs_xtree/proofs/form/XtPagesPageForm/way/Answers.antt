use Rattle.std.proofs.Common.{◌≡◌, ap, sym, ◌∙◌, subst, arith, ◌+◌, ◌==◌, suc, length}
use Rattle.jfs_xtpage.specs.declared.head.XtHead.{XtHead}
use Rattle.jfs_xtpage.specs.Page.{entries_of, count_of}
use Rattle.jfs_xtpage.proofs.Entries.{length-entries}
use Rattle.jfs_tree.specs.Form.{LeadsDown}
use Rattle.jfs_xtree.specs.Node.{is_leaf, xt_scale, xt_node}
use Rattle.jfs_xtree.proofs.Reading.{sound_leaf, sound_inner, inner_is, is_rising}
use Rattle.jfs_xtree.proofs.Ways.{leads_down, tells_last}
use Rattle.jfs_xtree.proofs.Behind.{rising_keys}
use Rattle.jfs_xtree.proofs.form.XtPagesPageForm.way.Goals as goal

pub returns-then-is_leaf-clause-way : goal.returns-then-is_leaf-clause-way
returns-then-is_leaf-clause-way c = (
  entries_of c.args.bytes.now,
  sound_leaf c.args.self.now.form c.args.self.now.blocks c.args.bytes.now c.in_ok-head.ensures.sound.1
      (ap (λ (h : XtHead). is_leaf h.flag) (sym c.in_ok-head.ensures.sound.0) ∙ sym c.is_leaf.ensures ∙ c.if-is_leaf.true),
)

pub returns-clause-way : goal.returns-clause-way
returns-clause-way c =
    let kind = ap (λ (h : XtHead). is_leaf h.flag) (sym c.in_ok-head.ensures.sound.0) ∙ sym c.is_leaf.ensures ∙ c.if-is_leaf.false in
    let some = c.child_place-place.ensures.within in
    let size = length-entries c.args.bytes.now 0 (count_of c.args.bytes.now) in
    let sound = c.in_ok-head.ensures.sound.1 in
    subst (λ place. LeadsDown xt_scale c.args.x.now (xt_node c.args.self.now.form c.args.self.now.blocks c.args.bytes.now) place c.page_of.result) (sym c.from.ensures)
    (leads_down c.args.self.now.form c.args.self.now.blocks c.args.bytes.now c.args.x.now c.child_place-place.result c.page_of.result
    (sound_inner c.args.self.now.form c.args.self.now.blocks c.args.bytes.now sound kind (omega (arith, some, size))) (c.child_place-place.ensures.leads (is_rising c.args.bytes.now sound.order)) c.page_of.ensures.page)

pub returns-clause-last : goal.returns-clause-last
returns-clause-last c = λ cs is.
    let t = inner_is c.args.self.now.form c.args.self.now.blocks c.args.bytes.now cs is in
    let size = length-entries c.args.bytes.now 0 (count_of c.args.bytes.now) in
    let some = t.3 in
    subst (λ place. (c.child_place-place.result + 3 == c.in_ok-head.head.nextindex) ≡ (suc place == length cs)) (sym c.from.ensures)
    (tells_last c.args.bytes.now cs c.child_place-place.result c.in_ok-head.head.nextindex t.2 (ap (λ (h : XtHead). h.nextindex) c.in_ok-head.ensures.sound.0) (omega (arith, size, some)))

pub returns-then-is_leaf-clause-rise : goal.returns-then-is_leaf-clause-rise
returns-then-is_leaf-clause-rise c = rising_keys c.args.self.now.form c.args.self.now.blocks c.args.bytes.now

pub returns-clause-rise : goal.returns-clause-rise
returns-clause-rise c = rising_keys c.args.self.now.form c.args.self.now.blocks c.args.bytes.now
