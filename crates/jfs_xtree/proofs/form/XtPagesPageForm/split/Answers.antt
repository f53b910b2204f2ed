use Rattle.jfs_xtree.specs.Node.{xt_scale}
use Rattle.jfs_tree.specs.Edit.{with_entry}
use Rattle.jfs_xtpage.specs.Page.{count_of}
use Rattle.jfs_xtree.proofs.Forms.{leaf_split}
use Rattle.jfs_xtree.proofs.Halves.{full_count, both_counts, leaf_appends, leaf_fills}
use Rattle.jfs_xtree.proofs.Frames.{page_kept, page_new}
use Rattle.jfs_xtree.proofs.form.XtPagesPageForm.split.Goals as goal

pub returns-clause-parts : goal.returns-clause-parts
returns-clause-parts c = λ es leaf apart.
    leaf_split c.args.self.now.form c.args.self.now.blocks c.args.bytes.now c.part.new.bytes c.part.new.right c.place_of-place.result c.part.result c.args.x.now es leaf apart c.requires.good c.place_of-place.ensures.place
    c.part.ensures.rows c.part.ensures.some c.part.ensures.begins c.part.ensures.left c.part.ensures.right

pub returns-clause-fills : goal.returns-clause-fills
returns-clause-fills c = λ appends least fills es leaf apart past.
    leaf_fills least c.args.self.now.form c.args.self.now.blocks c.part.new.bytes c.part.new.right c.args.last (with_entry xt_scale c.args.x.now es) c.part.result (returns-clause-parts c es leaf apart)
    (both_counts appends least fills c.args.last c.place_of-place.result (count_of c.args.bytes.now) (count_of c.part.new.bytes) (count_of c.part.new.right) (full_count c.args.self.now.form c.args.bytes.now c.requires.below c.requires.full) c.place_of-place.ensures.most
    c.part.ensures.last c.part.ensures.halves (λ e. let q = past e in (q.0, leaf_appends c.args.self.now.form c.args.self.now.blocks c.args.bytes.now c.place_of-place.result c.args.x.now es leaf c.place_of-place.ensures.place q.1)))

pub returns-clause-frame : goal.returns-clause-frame
returns-clause-frame c = page_kept c.args.self.now.form c.args.bytes.now c.part.new.bytes c.requires.below c.part.ensures.left.max c.part.ensures.own.0

pub returns-clause-new : goal.returns-clause-new
returns-clause-new c = λ es leaf apart. page_new c.args.self.now.form c.part.new.right c.args.q c.requires.below c.part.ensures.right.1 c.part.ensures.own.1
