use Rattle.std.proofs.Common.{◌∙◌, sym, subst, Bool}
use Rattle.jfs_disk.specs.Image.{page_of}
use Rattle.jfs_lead_steps.specs.meaning.specs.Readers.{root_of}
use Rattle.jfs_loss.specs.Frees.{CutsIf}
use Rattle.jfs_loss.proofs.free.cut_all.Goals as goal

pub returns-in-Ok-clause-cuts : goal.returns-in-Ok-clause-cuts
returns-in-Ok-clause-cuts g c tells =
    subst (λ (x : Bool). CutsIf x (g.V.PageView.block_count c.args.view.now) (page_of (g.V.PageView.image c.args.view.now)) (root_of c.args.at.now.inode) c.cut_to.new.tx) (sym (sym c.has_extents.ensures ∙ c.if-not-has_extents.false)) (
      (c.cut_to.new.root, rw (c.get_array-root.ensures, c.requires.empty) at (c.in-Ok.ensures.cuts tells)),
      rw c.requires.empty at (c.in-Ok.ensures.edits tells),
      rw (c.get_array-root.ensures, c.requires.empty) at (c.in-Ok.ensures.once tells),
    )
