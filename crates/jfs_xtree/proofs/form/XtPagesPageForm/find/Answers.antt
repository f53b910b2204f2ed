use Rattle.std.proofs.Common.{◌∙◌, ap}
use Rattle.jfs_xtpage.specs.Page.{head_of, entries_of}
use Rattle.jfs_tree.specs.Edit.{found_in}
use Rattle.jfs_xtree.specs.Node.{xt_scale}
use Rattle.jfs_xtree.proofs.Reading.{leaf_is, is_rising}
use Rattle.jfs_xtree.proofs.Forms.{not_laid}
use Rattle.jfs_xtree.proofs.form.XtPagesPageForm.find.Goals as goal

pub returns-then-not-is_laid_out : goal.returns-then-not-is_laid_out
returns-then-not-is_laid_out c = λ es leaf.
    absurd (not_laid c.args.self.now.form c.args.self.now.blocks (head_of c.args.bytes.now) (entries_of c.args.bytes.now) c.is_laid_out.result c.is_laid_out.ensures.is c.if-not-is_laid_out.true
    (leaf_is c.args.self.now.form c.args.self.now.blocks c.args.bytes.now es leaf).0)

pub returns : goal.returns
returns c = λ es leaf.
    let t = leaf_is c.args.self.now.form c.args.self.now.blocks c.args.bytes.now es leaf in
    c.find_at.ensures t.0.order (c.place_of.ensures.place (is_rising c.args.bytes.now t.0.order)) ∙ ap (found_in xt_scale c.args.x.now) t.2
