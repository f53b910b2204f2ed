use Rattle.jfs_xtpage.specs.Page.{head_of, entries_of}
use Rattle.jfs_xtree.proofs.Reading.{leaf_is}
use Rattle.jfs_xtree.proofs.Forms.{not_laid, clash_refuted, leaf_put, same_kind}
use Rattle.jfs_xtree.proofs.Frames.{frame_kept}
use Rattle.jfs_xtree.proofs.Apart.{put_apart}
use Rattle.jfs_xtree.proofs.form.XtPagesPageForm.put.Goals as goal

pub returns-then-not-is_laid_out-clause-row : goal.returns-then-not-is_laid_out-clause-row
returns-then-not-is_laid_out-clause-row c = λ es leaf apart.
    not_laid c.args.self.now.form c.args.self.now.blocks (head_of c.args.bytes.now) (entries_of c.args.bytes.now) c.is_laid_out.result c.is_laid_out.ensures.is c.if-not-is_laid_out.true
    (leaf_is c.args.self.now.form c.args.self.now.blocks c.args.bytes.now es leaf).0

pub returns-then-not-goes_between-clause-row : goal.returns-then-not-goes_between-clause-row
returns-then-not-goes_between-clause-row c = λ es leaf apart.
    clash_refuted c.args.self.now.form c.args.self.now.blocks c.args.bytes.now c.place_of-place.result c.args.x.now es (c.goes_between.ensures.clashes c.if-not-goes_between.true) c.place_of-place.ensures.place leaf apart

pub returns-in-Ok-clause-row : goal.returns-in-Ok-clause-row
returns-in-Ok-clause-row c = λ es leaf apart.
    leaf_put c.args.self.now.form c.args.self.now.blocks c.args.bytes.now c.xt_insert.new.bytes c.place_of-place.result c.args.x.now es leaf apart c.requires.good c.place_of-place.ensures.place
    (same_kind c.args.bytes.now c.xt_insert.new.bytes c.in-Ok.ensures.head (c.is_laid_out.ensures.laid c.if-not-is_laid_out.false).least c.in-Ok.ensures.room) c.in-Ok.ensures.entries

pub returns-in-Ok-clause-apart : goal.returns-in-Ok-clause-apart
returns-in-Ok-clause-apart c = put_apart c.args.self.now.form c.args.self.now.blocks c.args.bytes.now c.place_of-place.result c.args.x.now (c.goes_between.ensures.goes c.if-not-goes_between.false) c.place_of-place.ensures.place

pub returns-in-Err-clause-apart : goal.returns-in-Err-clause-apart
returns-in-Err-clause-apart c = put_apart c.args.self.now.form c.args.self.now.blocks c.args.bytes.now c.place_of-place.result c.args.x.now (c.goes_between.ensures.goes c.if-not-goes_between.false) c.place_of-place.ensures.place

pub returns-in-Ok-clause-frame : goal.returns-in-Ok-clause-frame
returns-in-Ok-clause-frame c = frame_kept c.args.self.now.form c.args.bytes.now c.xt_insert.new.bytes _ _ c.in-Ok.ensures.head c.xt_insert.ensures.tail
