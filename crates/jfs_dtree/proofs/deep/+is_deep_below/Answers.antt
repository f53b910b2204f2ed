use Rattle.std.proofs.Common.{◌-◌, sym, ap, ◌∙◌, subst, refl, arith, Ok}
use Rattle.jfs_disk.specs.Image.{page_of}
use Rattle.jfs_dtpage.specs.declared.head.DtForm.TheVariants.{Full}
use Rattle.jfs_tree.specs.Form.{Leads}
use Rattle.jfs_tree.specs.declared.form.Way.TheVariants.{Here, Down}
use Rattle.jfs_dtree.specs.Node.{name_scale, dt_node}
use Rattle.jfs_dtree.proofs.Tight.{tight_past, tight_roomy, tight_ends, tight_fails, tight_goes}
use Rattle.jfs_dtree.proofs.deep.+is_deep_below.Goals as goal

pub returns-then-left-eq0-clause-tight : goal.returns-then-left-eq0-clause-tight
returns-then-left-eq0-clause-tight g t c tells = tight_past c.args.blocks (page_of (g.V.PageView.image c.args.view.now)) c.args.x.now.name c.args.left c.args.page c.if-left-eq0.true

pub returns-then-free_of-ge-MOST_SLOTS-clause-tight : goal.returns-then-free_of-ge-MOST_SLOTS-clause-tight
returns-then-free_of-ge-MOST_SLOTS-clause-tight g t c tells =
    tight_roomy c.args.blocks (page_of (g.V.PageView.image c.args.view.now)) c.args.x.now.name c.args.left (c.args.left - 1) c.args.page c.bytes.result.now
    (let h = c.if-left-eq0.false in omega (arith, h)) (c.bytes.ensures.value ∙ c.in-Ok.ensures.bytes tells)
    (let h = c.if-free_of-ge-MOST_SLOTS.true in let f = c.free_of.ensures in omega (arith, h, f))

pub returns-in-Err-way_of-clause-tight : goal.returns-in-Err-way_of-clause-tight
returns-in-Err-way_of-clause-tight g t c tells =
    tight_fails c.args.blocks (page_of (g.V.PageView.image c.args.view.now)) c.args.x.now.name c.args.left (c.args.left - 1) c.args.page c.bytes.result.now
    (let h = c.if-left-eq0.false in omega (arith, h)) (c.bytes.ensures.value ∙ c.in-Ok.ensures.bytes tells)
    c.in-Err-way_of.field-0 (let h = c.if-free_of-ge-MOST_SLOTS.false in let f = c.free_of.ensures in omega (arith, h, f)) (ap (dt_node Full c.args.blocks) (sym (c.bytes-2.ensures.value ∙ sym c.bytes.ensures.value)) ∙ c.in-Err-way_of.ensures.way)

pub returns-in-Ok-Here-clause-tight : goal.returns-in-Ok-Here-clause-tight
returns-in-Ok-Here-clause-tight g t c tells =
    tight_ends c.args.blocks (page_of (g.V.PageView.image c.args.view.now)) c.args.x.now.name c.args.left (c.args.left - 1) c.args.page c.bytes.result.now
    (let h = c.if-left-eq0.false in omega (arith, h)) (c.bytes.ensures.value ∙ c.in-Ok.ensures.bytes tells)
    (let h = c.if-free_of-ge-MOST_SLOTS.false in let f = c.free_of.ensures in omega (arith, h, f)) (subst (λ bytes. Leads name_scale c.args.x.now (dt_node Full c.args.blocks bytes) (Ok Here)) (c.bytes-2.ensures.value ∙ sym c.bytes.ensures.value)
    (subst (λ w. Leads name_scale c.args.x.now (dt_node Full c.args.blocks c.bytes-2.result.now) (Ok w)) c.in-Ok-Here.field-0-is c.in-Ok-Here.ensures.way))

pub returns-in-Ok-Down-clause-tight : goal.returns-in-Ok-Down-clause-tight
returns-in-Ok-Down-clause-tight g t c tells =
    tight_goes c.args.blocks (page_of (g.V.PageView.image c.args.view.now)) c.args.x.now.name c.args.left (c.args.left - 1) c.args.page c.bytes.result.now
    (let h = c.if-left-eq0.false in omega (arith, h)) (c.bytes.ensures.value ∙ c.in-Ok.ensures.bytes tells)
    c.in-Ok-Down.field-0-0 c.in-Ok-Down.child c.args.x.now (page_of (g.V.PageView.image c.page.follows.lender-at-none)) c.is_deep_below.result (let h = c.if-free_of-ge-MOST_SLOTS.false in let f = c.free_of.ensures in omega (arith, h, f)) refl
    (subst (λ bytes. Leads name_scale c.args.x.now (dt_node Full c.args.blocks bytes) (Ok (Down c.in-Ok-Down.field-0-0 c.in-Ok-Down.child c.in-Ok-Down.field-0-2))) (c.bytes-2.ensures.value ∙ sym c.bytes.ensures.value)
    (subst (λ w. Leads name_scale c.args.x.now (dt_node Full c.args.blocks c.bytes-2.result.now) (Ok w)) c.in-Ok-Down.field-0-is c.in-Ok-Down.ensures.way))
    (ap page_of (c.page.follows.holds-at-none.same_image tells)) (c.is_deep_below.ensures.tight tells)
