use Rattle.std.proofs.Common.{◌-◌, ap, ◌∙◌, subst, refl, arith, Ok}
use Rattle.jfs_disk.specs.Image.{page_of}
use Rattle.jfs_dtpage.specs.declared.head.DtForm.TheVariants.{Full}
use Rattle.jfs_tree.specs.Form.{Leads}
use Rattle.jfs_dtree.specs.Node.{name_scale, dt_node}
use Rattle.jfs_dtree.specs.Spells.{page_nodes}
use Rattle.jfs_dtree.proofs.Ending.{end_past, end_breaks, end_here, end_goes}
use Rattle.jfs_dtree.proofs.replacing.+end_of_way.Goals as goal

pub returns-then-left-eq0-clause-ends : goal.returns-then-left-eq0-clause-ends
returns-then-left-eq0-clause-ends g t c tells = end_past name_scale (page_nodes c.args.blocks (page_of (g.V.PageView.image c.args.view.now))) c.args.x.now.name c.args.left c.args.page c.if-left-eq0.true

pub returns-in-Err-way_of-clause-ends : goal.returns-in-Err-way_of-clause-ends
returns-in-Err-way_of-clause-ends g t c tells =
    end_breaks c.args.blocks (page_of (g.V.PageView.image c.args.view.now)) c.args.x.now.name c.args.left (c.args.left - 1) c.args.page c.bytes.result.now
    (let h = c.if-left-eq0.false in omega (arith, h)) (c.bytes.ensures.value ∙ c.in-Ok.ensures.bytes tells) _ c.in-Err-way_of.ensures.way

pub returns-in-Ok-Here-clause-ends : goal.returns-in-Ok-Here-clause-ends
returns-in-Ok-Here-clause-ends g t c tells =
    end_here c.args.blocks (page_of (g.V.PageView.image c.args.view.now)) c.args.x.now.name c.args.left (c.args.left - 1) c.args.page c.bytes.result.now
    (let h = c.if-left-eq0.false in omega (arith, h)) (c.bytes.ensures.value ∙ c.in-Ok.ensures.bytes tells)
    (subst (λ w. Leads name_scale c.args.x.now (dt_node Full c.args.blocks c.bytes.result.now) (Ok w)) c.in-Ok-Here.field-0-is c.in-Ok-Here.ensures.way)

pub returns-in-Ok-Down-clause-ends : goal.returns-in-Ok-Down-clause-ends
returns-in-Ok-Down-clause-ends g t c tells =
    end_goes c.args.blocks (page_of (g.V.PageView.image c.args.view.now)) c.args.x.now.name c.args.left (c.args.left - 1) c.args.page c.bytes.result.now
    (let h = c.if-left-eq0.false in omega (arith, h)) (c.bytes.ensures.value ∙ c.in-Ok.ensures.bytes tells)
    c.args.x.now (page_of (g.V.PageView.image c.page.follows.lender-at-none)) c.in-Ok-Down.field-0-0 c.in-Ok-Down.child c.end_of_way.result refl
    (subst (λ w. Leads name_scale c.args.x.now (dt_node Full c.args.blocks c.bytes.result.now) (Ok w)) c.in-Ok-Down.field-0-is c.in-Ok-Down.ensures.way)
    (ap page_of (c.page.follows.holds-at-none.same_image tells)) (c.end_of_way.ensures.ends tells)
