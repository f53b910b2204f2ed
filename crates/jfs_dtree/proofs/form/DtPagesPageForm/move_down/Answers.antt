use Rattle.std.proofs.Common.{◌≡◌, ap, subst}
use Rattle.jfs_dtree.specs.Frame.{frame_in, frame_of, new_frame}
use Rattle.jfs_dtree.specs.declared.form.DtPages.{DtPages}
use Rattle.jfs_dtree.proofs.Frames.{root_frame}
use Rattle.jfs_dtree.proofs.form.DtPagesPageForm.move_down.Goals as goal

pub returns-clause-frame : goal.returns-clause-frame
returns-clause-frame c = root_frame c.args.self.now.form c.args.root.now c.move_down.new.root c.requires.top c.move_down.ensures.parent

pub returns-clause-new : goal.returns-clause-new
returns-clause-new c = subst (λ (p : DtPages). frame_of p.form c.move_down.new.page ≡ new_frame c.args.q) c.requires.pages (ap frame_in c.move_down.ensures.place)
